-- Members that are written one after another, and that their numbers have 64 bits.
use Rattle.std.proofs.Common.{◌≡◌, ℕ, ℤ, pos, negsuc, List, [], ◌∷◌, ◌++◌, OnOk, Ok, Err, Result, ◌<◌, ◌^◌, arith, subst, refl, true}
use Rattle.std.specs.Prelude.{⊤}
use lib.Signed.{mag}
use Rattle.json.specs.Token.{Token}
use Rattle.json.specs.Written.{Written, Writes}
use Rattle.row_lines.specs.Row.{moment_data}
use Rattle.row_lines.specs.Tokens.{Puts}
use Rattle.row_lines.proofs.TokenLemmas.{joined}
use Rattle.item_lines.specs.Numbers.{HasShortNumbers}
use Rattle.item_lines.specs.Item.{event_members}
use Rattle.item_lines.specs.Parts.{addressed}
use Rattle.item_lines.specs.Members.{PutsWith, act_members, address_in, line_in}
use Rattle.serde_json.specs.Data.{Data}
use Rattle.script_actions.specs.Action.{PlainAction, Tick, Open, Close, Go, Evict, Act}
use Rattle.local_scripts.specs.Items.{acted}
use Rattle.local_scripts.specs.Lines.{is_of_document}
use Rattle.std.proofs.lemmas.Bool.{false≢true}

-- what holds anyway holds of a success
pub on_ok : {T E : Type 0} (result : Result T E) {A : Type 0} → A → OnOk result A
on_ok (Ok x) a = a
on_ok (Err e) a = tt

both_ok : {T E : Type 0} (result : Result T E) (A B : Type 0) → A → OnOk result B → OnOk result (A × B)
both_ok (Ok x) A B a b = (a, b)
both_ok (Err e) A B a b = tt

-- what is written, whatever holds besides
pub puts : {T E : Type 0} {result : Result T E} {a b : Written} {ts : List Token} {A : Type 0} → PutsWith result a b ts A → Puts result a b ts
puts one = record { tokens = one.tokens; before = one.before }

-- this is written, and this holds
holding : {T E : Type 0} {result : Result T E} {a b : Written} {ts : List Token} {A : Type 0} → Puts result a b ts → OnOk result A → PutsWith result a b ts A
holding one holds = record { tokens = one.tokens; before = one.before; holds = holds }

-- a member was written, and then what stands behind it
pub after : {T E S F : Type 0} {x : S} {result : Result T E} {a b c : Written} {ts us : List Token} {A B : Type 0}
    → PutsWith {T = S} {E = F} (Ok x) a b ts A → PutsWith result b c us B → PutsWith result a c (ts ++ us) (A × B)
after {result} {A} {B} one two = holding (joined (puts one) (puts two)) (both_ok result A B one.holds two.holds)

-- the same of a member that has no number
pub after_plain : {T E S F : Type 0} {x : S} {result : Result T E} {a b c : Written} {ts us : List Token} {B : Type 0}
    → Puts {T = S} {E = F} (Ok x) a b ts → PutsWith result b c us B → PutsWith result a c (ts ++ us) (⊤ × B)
after_plain {result} {B} one two = holding (joined one (puts two)) (both_ok result ⊤ B tt two.holds)

-- an object was begun, and then its members were written
pub begun : {T E S F : Type 0} {x : S} {result : Result T E} {a b c : Written} {ts us : List Token} {B : Type 0}
    → Puts {T = S} {E = F} (Ok x) a b ts → PutsWith result b c us B → PutsWith result a c (ts ++ us) B
begun one two = holding (joined one (puts two)) two.holds

written : {F : Type 0} {x : Unit {0}} {a b : Written} {t : Token} → Writes {E = F} (Ok x) a b t → Puts {T = Unit {0}} {E = F} (Ok x) a b (t ∷ [])
written one = record { tokens = one.ok; before = one.room.0 }

-- the same of a name, and then its value
pub named : {T E F : Type 0} {x : Unit {0}} {result : Result T E} {a b c : Written} {t : Token} {us : List Token} {B : Type 0}
    → Writes {E = F} (Ok x) a b t → PutsWith result b c us B → PutsWith result a c (t ∷ us) B
named one two = begun (written one) two

-- what has no number
pub only : {T E : Type 0} {result : Result T E} {a b : Written} {ts : List Token} {A : Type 0} → Puts result a b ts → A → PutsWith result a b ts A
only {result} one holds = holding one (on_ok result holds)

-- a moment has 64 bits
pub short_moment : (z : ℤ) → mag z < 2 ^ 63 → HasShortNumbers (moment_data z)
short_moment (pos n) fits = omega (arith, fits)
short_moment (negsuc n) fits = fits

-- what holds where the call succeeds, where it did
pub known : {T E : Type 0} {result : Result T E} {x : T} {A : Type 0} → result ≡ Ok x → OnOk result A → A
known {A} was holds = subst (λ r. OnOk r A) was holds

-- the entry of an action of a document, by its address and its line
pub acts_are : (entry moment : ℕ) (held : Data) (p : PlainAction) → is_of_document p ≡ true
    → addressed (address_in p) (act_members entry moment held (line_in p)) ≡ event_members entry moment held (acted p)
acts_are entry moment held (Tick s) named = absurd (false≢true named)
acts_are entry moment held (Open tab url opener noopener method head) named = absurd (false≢true named)
acts_are entry moment held (Close tab) named = absurd (false≢true named)
acts_are entry moment held (Go tab url by_page method head) named = absurd (false≢true named)
acts_are entry moment held (Evict site) named = absurd (false≢true named)
acts_are entry moment held (Act at action) named = refl
