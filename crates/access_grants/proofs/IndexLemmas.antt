-- Rows found by the numbers of their pairs.
use Rattle.std.proofs.Common.{◌≡◌, ℕ, ◌+◌, ◌<◌, Bool, true, false, cond, ◌||◌, List, [], ◌∷◌, ◌++◌, map, length, get_or, Option, Some, None, is_some, refl, sym, ap, ◌∙◌, arith, nat_eq, nat_lt, position, find, slice_get}
use Rattle.std.specs.List.{list_any, position_or_len, position_from}
use Rattle.std.specs.Option.{option_or}
use Rattle.std.proofs.lemmas.Bool.{lt-ltb, ltb-false}
use Rattle.std.proofs.lemmas.Bool.Decides.{Decides-eqb}
use Rattle.std.proofs.lemmas.Iterator.Adapters.{position_from-zero}
use Rattle.std.proofs.lemmas.List.{get_or-map, length-map}
use Rattle.std.proofs.lemmas.List.Folds.{find_at}
use Rattle.std.proofs.lemmas.List.Sums.{position_or_len_is}
use Rattle.std.proofs.lemmas.List.Quantifiers.{position-Some}
use Rattle.std.proofs.lemmas.Option.{get_or_from_slice_get, slice_get_past}
use Rattle.origin_site.specs.Site.{PlainSite}
use Rattle.access_grants.specs.declared.permission.GrantRow.{GrantRow}
use Rattle.access_grants.specs.Plain.{plain_grant}
use Rattle.access_grants.specs.Grant.{PlainGrant, is_of, has_row, with_row}
use Rattle.access_grants.specs.Index.{codes_of, pair_code}
use Rattle.access_grants.proofs.RowsLemmas.{position_by, replaced}
use Rattle.access_grants.proofs.GrantLemmas.{absent_by, pair_of, pairs_kept, same_pair-Decides}

-- a pair has the number of its row
code_of_row : (top site : PlainSite) (row : PlainGrant) → is_of top site row ≡ true → nat_eq (pair_code top site) (pair_code row.top row.site) ≡ true
code_of_row top site row is =
    (Decides-eqb (pair_code top site) (pair_code row.top row.site)).1
    (ap (λ pair. pair_code pair.0 pair.1) ((same_pair-Decides (top, site) (pair_of row)).0 is))

other_row : (top site : PlainSite) (row : PlainGrant) → nat_eq (pair_code top site) (pair_code row.top row.site) ≡ false → (here : Bool) → is_of top site row ≡ here → here ≡ false
other_row top site row differs true is = absurd (cc (sym differs ∙ code_of_row top site row is))
other_row top site row differs false is = refl

both_false : (a b : Bool) → a || b ≡ false → (a ≡ false) × (b ≡ false)
both_false true b none = absurd (cc none)
both_false false b none = (refl, none)

none_of : (top site : PlainSite) (rows : List PlainGrant) → list_any (nat_eq (pair_code top site)) (codes_of rows) ≡ false → list_any (is_of top site) rows ≡ false
none_of top site [] none = refl
none_of top site (row ∷ rows) none =
    let two = both_false _ _ none in
    rw (other_row top site row two.0 (is_of top site row) refl) (none_of top site rows two.1)

-- where no row has the number of a pair, none is of the pair
pub absent_place : (top site : PlainSite) (rows : List PlainGrant) → position (nat_eq (pair_code top site)) (codes_of rows) ≡ None → position (is_of top site) rows ≡ None
absent_place top site rows none =
    let test = nat_eq (pair_code top site) in
    let away = absent_by _ (list_any test (codes_of rows)) (sym (position_by test (codes_of rows)) ∙ none) in
    position_by (is_of top site) rows ∙ ap (λ b. cond b (Some (position_or_len (is_of top site) rows)) None) (none_of top site rows away)

abbrev pub code_of : PlainGrant → ℕ
code_of row = pair_code row.top row.site

-- where the first row that has the number of a pair is of the pair, its place is that of the pair's row
pub first_place : (top site : PlainSite) (rows : List PlainGrant) (i : ℕ) (row : PlainGrant) → position (nat_eq (pair_code top site)) (codes_of rows) ≡ Some i
    → slice_get rows i ≡ Some row → is_of top site row ≡ true → position (is_of top site) rows ≡ Some i
first_place top site rows i row at there is =
    let first = position-Some (nat_eq (pair_code top site)) (codes_of rows) i (code_of row) at in
    let inside : i < length rows = rw (length-map rows code_of) at first.0 in
    let here : is_of top site (get_or rows i row) ≡ true = rw (get_or_from_slice_get rows i row row there) is in
    let before : (k : ℕ) → k < i → is_of top site (get_or rows k row) ≡ false =
    λ k early. other_row top site (get_or rows k row) (rw (get_or-map code_of rows k row (code_of row) (omega (arith, early, inside))) at (first.2 k early)) _ refl in
    let place : position_or_len (is_of top site) rows ≡ i = position_or_len_is (is_of top site) rows i row (omega (arith, inside)) before (λ _. here) in
    rw (place, lt-ltb i (length rows) inside) refl

-- the first place that passes, or the last place of all
module _ {X : Type 0} (test : X → Bool) where
  from_push : (i : ℕ) (xs : List X) (y : X) → position_from test i (xs ++ y ∷ []) ≡ option_or (position_from test i xs) (cond (test y) (Some (i + length xs)) None)
  from_push i [] y = ap (λ n. cond (test y) (Some n) None) (omega arith)
  from_push i (x ∷ xs) y = from_step (test x) (from_push (i + 1) xs y ∙ ap (λ n. option_or (position_from test (i + 1) xs) (cond (test y) (Some n) None)) (omega arith))
    where
      from_step : (here : Bool) → position_from test (i + 1) (xs ++ y ∷ []) ≡ option_or (position_from test (i + 1) xs) (cond (test y) (Some (i + length (x ∷ xs))) None)
          → cond here (Some i) (position_from test (i + 1) (xs ++ y ∷ [])) ≡ option_or (cond here (Some i) (position_from test (i + 1) xs)) (cond (test y) (Some (i + length (x ∷ xs))) None)
      from_step true later = refl
      from_step false later = later

  zero_more : (n : ℕ) → 0 + n ≡ n
  zero_more n = omega arith

  position_push : (xs : List X) (y : X) → position test (xs ++ y ∷ []) ≡ option_or (position test xs) (cond (test y) (Some (length xs)) None)
  position_push xs y =
      position_from-zero test (xs ++ y ∷ [])
      ∙ from_push 0 xs y
      ∙ ap (λ n. option_or (position_from test 0 xs) (cond (test y) (Some n) None)) (zero_more (length xs))
      ∙ ap (λ found. option_or found (cond (test y) (Some (length xs)) None)) (sym (position_from-zero test xs))

or_none : {X : Type 0} (found : Option X) → option_or found None ≡ found
or_none None = refl
or_none (Some x) = refl

or_found : {X : Type 0} (found other : Option X) → is_some found ≡ true → option_or found other ≡ found
or_found None other there = absurd (cc there)
or_found (Some x) other there = refl

-- a number that has a place keeps it, and so does every other
pub noted_known : (code place : ℕ) (found : ℕ → Option ℕ) → is_some (found code) ≡ true → (other : ℕ) → found other ≡ option_or (found other) (cond (nat_eq other code) (Some place) None)
noted_known code place found there other = by_test (nat_eq other code) refl
  where
    by_test : (same : Bool) → nat_eq other code ≡ same → found other ≡ option_or (found other) (cond same (Some place) None)
    by_test true is = sym (or_found (found other) (Some place) (ap (λ n. is_some (found n)) ((Decides-eqb other code).0 is) ∙ there))
    by_test false is = sym (or_none (found other))

eq_flip : (a b : ℕ) (is other : Bool) → nat_eq a b ≡ is → nat_eq b a ≡ other → other ≡ is
eq_flip a b true other is flipped = sym flipped ∙ (Decides-eqb b a).1 (sym ((Decides-eqb a b).0 is))
eq_flip a b false true is flipped = sym ((Decides-eqb a b).1 (sym ((Decides-eqb b a).0 flipped))) ∙ is
eq_flip a b false false is flipped = refl

-- a number that has none has this one, and every other its own
pub noted_new : (code place : ℕ) (found new : ℕ → Option ℕ) → found code ≡ None → ((other : ℕ) → new other ≡ cond (nat_eq code other) (Some place) (found other))
    → (other : ℕ) → new other ≡ option_or (found other) (cond (nat_eq other code) (Some place) None)
noted_new code place found new none updated other =
    updated other ∙ ap (λ b. cond b (Some place) (found other)) (eq_flip other code (nat_eq other code) (nat_eq code other) refl refl) ∙ by_test (nat_eq other code) refl
  where
    by_test : (same : Bool) → nat_eq other code ≡ same → cond same (Some place) (found other) ≡ option_or (found other) (cond same (Some place) None)
    by_test true is = rw (ap found ((Decides-eqb other code).0 is) ∙ none) refl
    by_test false is = sym (or_none (found other))

-- the numbers of rows with one more
codes_pushed : (items : List GrantRow) (row : GrantRow) → codes_of (map plain_grant (items ++ row ∷ [])) ≡ codes_of (map plain_grant items) ++ code_of (plain_grant row) ∷ []
codes_pushed [] row = refl
codes_pushed (item ∷ items) row = ap (λ codes. code_of (plain_grant item) ∷ codes) (codes_pushed items row)

-- an index has the first row of each number when the number of one more is noted
pub pushed_first : (items : List GrantRow) (row : GrantRow) (found new : ℕ → Option ℕ) → ((code : ℕ) → found code ≡ position (nat_eq code) (codes_of (map plain_grant items)))
    → ((code : ℕ) → new code ≡ option_or (found code) (cond (nat_eq code (code_of (plain_grant row))) (Some (length items)) None))
    → (code : ℕ) → new code ≡ position (nat_eq code) (codes_of (map plain_grant (items ++ row ∷ [])))
pushed_first items row found new first noted code =
    let codes = codes_of (map plain_grant items) in
    let long : length items ≡ length codes = sym (length-map (map plain_grant items) code_of ∙ length-map items plain_grant) in
    noted code
    ∙ ap (λ f. option_or f (cond (nat_eq code (code_of (plain_grant row))) (Some (length items)) None)) (first code)
    ∙ ap (λ n. option_or (position (nat_eq code) codes) (cond (nat_eq code (code_of (plain_grant row))) (Some n) None)) long
    ∙ sym (position_push (nat_eq code) codes (code_of (plain_grant row)))
    ∙ ap (position (nat_eq code)) (sym (codes_pushed items row))

codes_by_pairs : (rows : List PlainGrant) → codes_of rows ≡ map (λ pair. pair_code pair.0 pair.1) (map pair_of rows)
codes_by_pairs [] = refl
codes_by_pairs (row ∷ rows) = ap (λ codes. code_of row ∷ codes) (codes_by_pairs rows)

-- a row in the place of its pair's row leaves the numbers
pub codes_kept : (row : PlainGrant) (rows : List PlainGrant) → has_row row rows ≡ true → codes_of (with_row row rows) ≡ codes_of rows
codes_kept row rows there =
    ap (λ b. codes_of (cond b (map (replaced (is_of row.top row.site) row) rows) (rows ++ row ∷ []))) there
    ∙ codes_by_pairs (map (replaced (is_of row.top row.site) row) rows)
    ∙ ap (map (λ pair. pair_code pair.0 pair.1)) (pairs_kept row rows)
    ∙ sym (codes_by_pairs rows)

-- ---- the row at the place of a pair's row

module _ {X : Type 0} (test : X → Bool) (xs : List X) where
  -- where there is no place, none is found
  pub find_none : position test xs ≡ None → find test xs ≡ None
  find_none at =
      let past = absent_by (position_or_len test xs) (nat_lt (position_or_len test xs) (length xs)) at in
      find_at test xs ∙ slice_get_past xs (position_or_len test xs) (ltb-false (position_or_len test xs) (length xs) past)

  some_is : (place i : ℕ) (there : Bool) → cond there (Some place) None ≡ Some i → place ≡ i
  some_is place i true at = cc at
  some_is place i false at = absurd (cc at)

  -- what is found stands at the place
  pub find_some : (i : ℕ) → position test xs ≡ Some i → find test xs ≡ slice_get xs i
  find_some i at = find_at test xs ∙ ap (slice_get xs) (some_is (position_or_len test xs) i (nat_lt (position_or_len test xs) (length xs)) at)
