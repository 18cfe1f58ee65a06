-- The numbers of rows are noted anew, in a map that had them all.
use Rattle.std.proofs.Common.{◌≡◌, ◌≤◌, ◌<◌, ◌+◌, ℕ, Bool, true, false, cond, ◌||◌, List, [], ◌∷◌, ◌++◌, map, take, drop, Option, Some, None, IsSome, is_some, refl, sym, ap, subst, ◌∙◌, arith, nat_eq}
use Rattle.std.specs.HashMap.{HashMap, IsUnique, get, hash_map_len, keys, spare}
use Rattle.std.specs.List.{AllByRecursion, IsDistinct, list_any, position, position_or_len}
use Rattle.std.proofs.lemmas.Bool.{or_left, or_parts}
use Rattle.std.proofs.lemmas.Bool.Decides.{Decides-eqb}
use Rattle.std.proofs.lemmas.Cmp.{nat_eq_equiv}
use Rattle.std.proofs.lemmas.List.{map-append, take-append-drop}
use Rattle.std.proofs.lemmas.List.Folds.{list_any-append}
use Rattle.std.proofs.lemmas.Map.Entries.{length-keys_of}
use Rattle.std.proofs.lemmas.Map.Made.{is_some-lookup}
use Rattle.std.proofs.lemmas.Map.Steps.{length-le_from_keys}
use Rattle.access_grants.specs.declared.permission.GrantRow.{GrantRow}
use Rattle.access_grants.specs.Grant.{PlainGrant}
use Rattle.access_grants.specs.Index.{codes_of}
use Rattle.access_grants.specs.Plain.{plain_grant}
use Rattle.access_grants.proofs.IndexLemmas.{code_of}
use Rattle.access_grants.proofs.RowsLemmas.{position_by}

none_is : {X : Type 0} (o : Option X) → o ≡ None → is_some o ≡ false
none_is o none = ap is_some none

-- a number that is none of others is apart from each
apart : (code : ℕ) (codes : List ℕ) → list_any (nat_eq code) codes ≡ false → AllByRecursion (λ other. nat_eq code other ≡ false) codes
apart code [] none = tt
apart code (other ∷ codes) none = ((or_parts _ _ none).0, apart code codes (or_parts _ _ none).1)

module _ {S : Type 0} (old new : HashMap ℕ ℕ S) (unique : IsUnique nat_eq new) (known : (code : ℕ) → is_some (get nat_eq new code) ≡ true → IsSome (get nat_eq old code)) where
  -- a map whose numbers are those of another has no more
  pub fewer : hash_map_len new ≤ hash_map_len old
  fewer =
      let most = length-le_from_keys nat_eq_equiv (keys new) old.entries unique (λ q there. known q (is_some-lookup (nat_eq q) new.entries ∙ there)) in
      omega (arith, most, length-keys_of new.entries)

  -- it has fewer, where the other has a number more
  pub fewer_new : (code : ℕ) → get nat_eq new code ≡ None → IsSome (get nat_eq old code) → hash_map_len new < hash_map_len old
  unfolding IsDistinct
  fewer_new code none there =
      let away : list_any (nat_eq code) (keys new) ≡ false = sym (is_some-lookup (nat_eq code) new.entries) ∙ none_is (get nat_eq new code) none in
      let most = length-le_from_keys nat_eq_equiv (code ∷ keys new) old.entries (apart code (keys new) away, unique) (λ q is. by q (nat_eq q code) refl is) in
      omega (arith, most, length-keys_of new.entries)
    where
      by : (q : ℕ) (same : Bool) → nat_eq q code ≡ same → (same || list_any (nat_eq q) (keys new)) ≡ true → IsSome (get nat_eq old q)
      by q true same is = subst (λ n. IsSome (get nat_eq old n)) (sym ((Decides-eqb q code).0 same)) there
      by q false same is = known q (is_some-lookup (nat_eq q) new.entries ∙ is)

-- rows are noted in a map, which has as much room as another with its numbers
pub record AreNoted {S : Type 0} (old new : HashMap ℕ ℕ S) (rows : List PlainGrant) : Type 0 where
  pub noted : (code : ℕ) → get nat_eq new code ≡ position (nat_eq code) (codes_of rows)
  pub whole : hash_map_len old + spare old ≤ hash_map_len new + spare new
  pub unique : IsUnique nat_eq new

-- each number of rows has a place in a map
abbrev pub AreKnown : {S : Type 0} → HashMap ℕ ℕ S → List PlainGrant → Type 0
AreKnown old rows = (code : ℕ) → list_any (nat_eq code) (codes_of rows) ≡ true → IsSome (get nat_eq old code)

there_by : (there : Bool) (place : ℕ) → is_some (cond there (Some place) None) ≡ there
there_by true place = refl
there_by false place = refl

-- a number has a place exactly where a row has it
pub placed : (test : ℕ → Bool) (codes : List ℕ) → is_some (position test codes) ≡ list_any test codes
placed test codes = ap is_some (position_by test codes) ∙ there_by (list_any test codes) (position_or_len test codes)

codes-append : (rows more : List PlainGrant) → codes_of (rows ++ more) ≡ codes_of rows ++ codes_of more
codes-append [] more = refl
codes-append (row ∷ rows) more = ap (λ codes. code_of row ∷ codes) (codes-append rows more)

module _ {S : Type 0} (old new : HashMap ℕ ℕ S) (rows more : List PlainGrant) (known : AreKnown old (rows ++ more)) (is : AreNoted old new rows) where
  front_known : (code : ℕ) → is_some (get nat_eq new code) ≡ true → IsSome (get nat_eq old code)
  front_known code there =
      let here : list_any (nat_eq code) (codes_of rows) ≡ true = sym (ap is_some (is.noted code) ∙ placed (nat_eq code) (codes_of rows)) ∙ there in
      known code (ap (list_any (nat_eq code)) (codes-append rows more) ∙ list_any-append (nat_eq code) (codes_of rows) (codes_of more) ∙ or_left (list_any (nat_eq code) (codes_of rows)) (list_any (nat_eq code) (codes_of more)) here)

  -- the map with the numbers of the first rows has no less room
  pub noted_room : spare old ≤ spare new
  noted_room = let few = fewer old new is.unique front_known in omega (arith, few, is.whole)

  -- there is room for a number of the rows that is not yet noted
  pub noted_more : (code : ℕ) → list_any (nat_eq code) (codes_of (rows ++ more)) ≡ true → get nat_eq new code ≡ None → 0 < spare new
  noted_more code there none = let few = fewer_new old new is.unique front_known code none (known code there) in omega (arith, few, is.whole)

-- rows are those before a place and those from it on
pub split_rows : (rows : List GrantRow) (place : ℕ) → map plain_grant rows ≡ map plain_grant (take place rows) ++ map plain_grant (drop place rows)
split_rows rows place = ap (map plain_grant) (sym (take-append-drop place rows)) ∙ map-append plain_grant (take place rows) (drop place rows)
