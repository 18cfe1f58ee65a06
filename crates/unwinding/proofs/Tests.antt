-- On tests: what an `or` of `not home` and `touched` says.
use Rattle.std.proofs.Common.{◌≡◌, Bool, true, false, not, ◌||◌, refl}

pub home_of : (b t : Bool) → (not b || t) ≡ false → b ≡ true
home_of true t h = refl
home_of false t h = cc

pub touched_of : (b t : Bool) → b ≡ true → (not b || t) ≡ true → t ≡ true
touched_of true t e h = h
touched_of false t e h = cc

pub or_true : (t d : Bool) → t ≡ false → (t || d) ≡ true → d ≡ true
or_true true d e h = cc
or_true false d e h = h

pub held_before : (b t u : Bool) → (not b || (t || u)) ≡ false → (not b || t) ≡ false
held_before true true u h = cc
held_before true false u h = refl
held_before false t u h = cc

pub added_before : (b t u : Bool) → (not b || (t || u)) ≡ false → u ≡ false
added_before true true u h = cc
added_before true false u h = h
added_before false t u h = cc

pub held_was : (b t u : Bool) → (u ≡ false → t ≡ false) → (not b || u) ≡ false → (not b || t) ≡ false
held_was true t u g e = g e
held_was false t u g e = e

pub not_touched : (b t : Bool) → b ≡ true → (not b || t) ≡ false → t ≡ false
not_touched true t e g = g
not_touched false t e g = cc

pub held_of : (b t : Bool) → b ≡ true → t ≡ false → (not b || t) ≡ false
held_of true t e g = g
held_of false t e g = cc
