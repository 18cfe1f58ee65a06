-- Rows that stay, of those that there are.
use Rattle.std.proofs.Common.{◌≡◌, ℕ, Bool, true, false, cond, ◌||◌, List, [], ◌∷◌, map, filter, refl, ap, nat_eq}
use Rattle.std.specs.List.{AllByRecursion, IsDistinct, list_all, list_any}
use Rattle.std.proofs.lemmas.Bool.{and_parts, or_right}
use Rattle.access_grants.specs.Grant.{PlainGrant, HasDistinctPairs, same_pair}
use Rattle.access_grants.specs.Index.{codes_of}
use Rattle.access_grants.proofs.GrantLemmas.{pair_of}
use Rattle.access_grants.proofs.IndexLemmas.{code_of}

-- where all pass, all stay
pub filter_whole : {X : Type 0} (test : X → Bool) (xs : List X) → list_all test xs ≡ true → filter test xs ≡ xs
filter_whole test [] all = refl
filter_whole test (x ∷ xs) all =
    let parts = and_parts (test x) (list_all test xs) all in
    (λ i. cond (parts.0 i) (x ∷ filter_whole test xs parts.1 i) (filter_whole test xs parts.1 i))

-- what stays of the rows is seen as what stays of what they are seen as
pub filter_seen : {X Y : Type 0} (see : X → Y) (test : Y → Bool) (xs : List X) → map see (filter (λ x. test (see x)) xs) ≡ filter test (map see xs)
filter_seen see test [] = refl
filter_seen see test (x ∷ xs) = by (test (see x)) (filter_seen see test xs)
  where
    by : (here : Bool) → map see (filter (λ y. test (see y)) xs) ≡ filter test (map see xs)
        → map see (cond here (x ∷ filter (λ y. test (see y)) xs) (filter (λ y. test (see y)) xs)) ≡ cond here (see x ∷ filter test (map see xs)) (filter test (map see xs))
    by true later = ap (λ ys. see x ∷ ys) later
    by false later = later

apart_filter : (pair : _) (test : PlainGrant → Bool) (rows : List PlainGrant) → AllByRecursion (λ other. same_pair pair other ≡ false) (map pair_of rows)
    → AllByRecursion (λ other. same_pair pair other ≡ false) (map pair_of (filter test rows))
apart_filter pair test [] apart = tt
apart_filter pair test (row ∷ rows) apart = by (test row) (apart_filter pair test rows apart.1)
  where
    by : (here : Bool) → AllByRecursion (λ other. same_pair pair other ≡ false) (map pair_of (filter test rows))
        → AllByRecursion (λ other. same_pair pair other ≡ false) (map pair_of (cond here (row ∷ filter test rows) (filter test rows)))
    by true later = (apart.0, later)
    by false later = later

-- the pairs of the rows that stay are told apart
pub distinct_filter : (test : PlainGrant → Bool) (rows : List PlainGrant) → HasDistinctPairs rows → HasDistinctPairs (filter test rows)
unfolding IsDistinct
distinct_filter test [] apart = tt
distinct_filter test (row ∷ rows) apart = by (test row) (distinct_filter test rows apart.1)
  where
    by : (here : Bool) → HasDistinctPairs (filter test rows) → HasDistinctPairs (cond here (row ∷ filter test rows) (filter test rows))
    by true later = (apart_filter (pair_of row) test rows apart.0, later)
    by false later = later

-- a number of the rows that stay is one of the rows
pub codes_filter : (code : ℕ) (test : PlainGrant → Bool) (rows : List PlainGrant) → list_any (nat_eq code) (codes_of (filter test rows)) ≡ true → list_any (nat_eq code) (codes_of rows) ≡ true
codes_filter code test [] there = there
codes_filter code test (row ∷ rows) there = by (test row) (codes_filter code test rows) there
  where
    or_later : (here : Bool) {some more : Bool} → (some ≡ true → more ≡ true) → (here || some) ≡ true → (here || more) ≡ true
    or_later true later is = refl
    or_later false later is = later is

    by : (here : Bool) → (list_any (nat_eq code) (codes_of (filter test rows)) ≡ true → list_any (nat_eq code) (codes_of rows) ≡ true)
        → list_any (nat_eq code) (codes_of (cond here (row ∷ filter test rows) (filter test rows))) ≡ true
        → (nat_eq code (code_of row) || list_any (nat_eq code) (codes_of rows)) ≡ true
    by true later is = or_later (nat_eq code (code_of row)) later is
    by false later is = or_right (nat_eq code (code_of row)) (list_any (nat_eq code) (codes_of rows)) (later is)
