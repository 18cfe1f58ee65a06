-- Values worked out by hand, so that a wrong rule in the specs does not check.
use Rattle.std.proofs.Common.{◌≡◌, refl, ap, ◌∙◌, ℕ, ◌^◌, ◌-◌, List, [], ◌∷◌, arith, string_bytes}
use Rattle.std.specs.Prelude.{Some, None, String, codes}
use Rattle.std.specs.declared.alloc.Global.{Global}
use Rattle.hosts.specs.Hosts.{raised}
use Rattle.hosts.specs.Entries.{found_at, without_first}
use Rattle.hosts.specs.MemoryStores.{images_at}
use Rattle.hosts.proofs.EntryLemmas.{found_front, without_front}

-- a count rises by all that there are, up to its last value, and no further
rises : raised 3 5 ≡ 8
rises = refl

reaches_the_last : raised 2 (2 ^ 64 - 3) ≡ 2 ^ 64 - 1
reaches_the_last = refl

stays_there : raised 3 (2 ^ 64 - 3) ≡ 2 ^ 64 - 1
stays_there = refl

none_more : raised 0 7 ≡ 7
none_more = refl

-- nothing is found where nothing stands, and of two of one path the first
nothing_found : found_at {T = ℕ} [] (codes "a") ≡ None
nothing_found = refl

first_found : (name : String Global) → found_at {T = ℕ} ((name, 1) ∷ (name, 2) ∷ []) (string_bytes name) ≡ Some 1
first_found name = found_front (name, 1) ((name, 2) ∷ [])

-- without the first the second is found
second_found : (name : String Global) → found_at {T = ℕ} (without_first ((name, 1) ∷ (name, 2) ∷ []) (string_bytes name)) (string_bytes name) ≡ Some 2
second_found name = ap (λ entries. found_at entries (string_bytes name)) (without_front (name, 1) ((name, 2) ∷ [])) ∙ found_front (name, 2) []

-- a store that is not there may be the empty file, and no other
may_be_empty : (path : List ℕ) → images_at [] path []
may_be_empty path = record {
  no_shorter = omega arith;
  no_longer = omega arith;
  outside = λ i within out. refl;
}

no_other : (path file : List ℕ) → images_at [] path file → file ≡ []
no_other path [] image = refl
no_other path (byte ∷ file) image = absurd (omega (arith, image.no_longer))
