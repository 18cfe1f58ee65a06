-- Rows whose pairs are told apart, and the rows after one is kept.
use Rattle.std.proofs.Common.{◌≡◌, ℕ, Bool, true, false, cond, ◌||◌, List, [], ◌∷◌, ◌++◌, map, set, Option, Some, None, refl, sym, ap, ◌∙◌, Decides}
use Rattle.std.specs.List.{list_any, position, position_or_len, IsDistinct, AllByRecursion}
use Rattle.std.specs.Cmp.{IsEquivalence}
use Rattle.std.proofs.lemmas.Bool.Decides.{Decides-and, Decides-like}
use Rattle.std.proofs.lemmas.Map.Keys.{IsDistinct-push}
use Rattle.origin_site.specs.Site.{PlainSite}
use Rattle.origin_site.proofs.SameLemmas.{same_plain_site-Decides}
use Rattle.access_grants.specs.Grant.{PlainGrant, HasDistinctPairs, has_row, is_of, with_row, same_pair}
use Rattle.access_grants.proofs.RowsLemmas.{AtMostOne, replaced, set_place, position_by}

abbrev pub pair_of : PlainGrant → PlainSite × PlainSite
pair_of row = (row.top, row.site)

-- two pairs pass the test exactly where they are equal
pub same_pair-Decides : (a b : PlainSite × PlainSite) → Decides (same_pair a b) (a ≡ b)
same_pair-Decides a b =
    Decides-like _ (λ e i. (e.0 i, e.1 i)) (λ e. (λ i. (e i).0, λ i. (e i).1))
    (Decides-and _ _ (same_plain_site-Decides a.0 b.0) (same_plain_site-Decides a.1 b.1))

bools : (a b : Bool) → (a ≡ true → b ≡ true) → (b ≡ true → a ≡ true) → a ≡ b
bools true b to from = sym (to refl)
bools false true to from = from refl
bools false false to from = refl

-- the test is an equivalence
pub same_pair-equiv : IsEquivalence same_pair
same_pair-equiv = record {
  refl = λ a. (same_pair-Decides a a).1 refl;
  symm = λ a b. bools _ _ (λ e. (same_pair-Decides b a).1 (sym ((same_pair-Decides a b).0 e)))
      (λ e. (same_pair-Decides a b).1 (sym ((same_pair-Decides b a).0 e)));
  congr = λ a b c e. ap (λ p. same_pair p c) ((same_pair-Decides a b).0 e);
}

-- the rows of a pair that is among them
pairs_any : (q : PlainSite × PlainSite) (rows : List PlainGrant) → list_any (is_of q.0 q.1) rows ≡ list_any (same_pair q) (map pair_of rows)
pairs_any q [] = refl
pairs_any q (row ∷ rows) = ap (λ rest. same_pair q (pair_of row) || rest) (pairs_any q rows)

apart_none : (q : PlainSite × PlainSite) (row : PlainGrant) (rows : List PlainGrant) → same_pair q (pair_of row) ≡ true
    → AllByRecursion (λ y. same_pair (pair_of row) y ≡ false) (map pair_of rows) → list_any (is_of q.0 q.1) rows ≡ false
apart_none q row [] is apart = refl
apart_none q row (other ∷ rows) is apart =
    rw (same_pair-equiv.congr q (pair_of row) (pair_of other) is, apart.0) (apart_none q row rows is apart.1)

-- where pairs are told apart, at most one row is of a pair
pub at_most_one : (q : PlainSite × PlainSite) (rows : List PlainGrant) → HasDistinctPairs rows → AtMostOne (is_of q.0 q.1) rows
unfolding AtMostOne IsDistinct
at_most_one q [] apart = tt
at_most_one q (row ∷ rows) apart = (λ is. apart_none q row rows is apart.0, at_most_one q rows apart.1)

pair_kept : (row other : PlainGrant) (here : Bool) → is_of row.top row.site other ≡ here → pair_of (cond here row other) ≡ pair_of other
pair_kept row other true is = (same_pair-Decides (pair_of row) (pair_of other)).0 is
pair_kept row other false is = refl

-- a row in the place of its pair's row leaves the pairs
pub pairs_kept : (row : PlainGrant) (rows : List PlainGrant) → map pair_of (map (replaced (is_of row.top row.site) row) rows) ≡ map pair_of rows
pairs_kept row [] = refl
pairs_kept row (other ∷ rows) = λ i. pair_kept row other (is_of row.top row.site other) refl i ∷ pairs_kept row rows i

pairs_pushed : (row : PlainGrant) (rows : List PlainGrant) → map pair_of (rows ++ row ∷ []) ≡ map pair_of rows ++ pair_of row ∷ []
pairs_pushed row [] = refl
pairs_pushed row (other ∷ rows) = ap (λ rest. pair_of other ∷ rest) (pairs_pushed row rows)

distinct_by : (row : PlainGrant) (rows : List PlainGrant) (there : Bool) → has_row row rows ≡ there → HasDistinctPairs rows
    → HasDistinctPairs (cond there (map (replaced (is_of row.top row.site) row) rows) (rows ++ row ∷ []))
distinct_by row rows true is apart = rw (pairs_kept row rows) apart
distinct_by row rows false is apart =
    rw (pairs_pushed row rows)
    (IsDistinct-push same_pair-equiv (map pair_of rows) (pair_of row) apart (sym (pairs_any (pair_of row) rows) ∙ is))

-- pairs stay told apart after a row is kept
pub kept_distinct : (row : PlainGrant) (rows : List PlainGrant) → HasDistinctPairs rows → HasDistinctPairs (with_row row rows)
kept_distinct row rows apart = distinct_by row rows (has_row row rows) refl apart

some_none : (n : ℕ) → ◌≡◌ {A = Option ℕ} None (Some n) → ⊥
some_none n e = cc e

there_by : (row : PlainGrant) (rows : List PlainGrant) (i : ℕ) (there : Bool) → cond there (Some (position_or_len (is_of row.top row.site) rows)) None ≡ Some i
    → (there ≡ true) × (position_or_len (is_of row.top row.site) rows ≡ i)
there_by row rows i true at = (refl, cc at)
there_by row rows i false at = absurd (some_none i at)

pub absent_by : (n : ℕ) (there : Bool) → cond there (Some n) None ≡ None → there ≡ false
absent_by n true at = absurd (some_none n (sym at))
absent_by n false at = refl

-- a place of the pair's row says that there is one
pub has_row-Some : (row : PlainGrant) (rows : List PlainGrant) (i : ℕ) → position (is_of row.top row.site) rows ≡ Some i → has_row row rows ≡ true
has_row-Some row rows i at = (there_by row rows i (has_row row rows) (sym (position_by (is_of row.top row.site) rows) ∙ at)).0

pub has_row-None : (row : PlainGrant) (rows : List PlainGrant) → position (is_of row.top row.site) rows ≡ None → has_row row rows ≡ false
has_row-None row rows at = absent_by (position_or_len (is_of row.top row.site) rows) (has_row row rows) (sym (position_by (is_of row.top row.site) rows) ∙ at)

-- a row that is put at the place of its pair's row is kept
pub kept-Some : (row : PlainGrant) (rows : List PlainGrant) (i : ℕ) → HasDistinctPairs rows → position (is_of row.top row.site) rows ≡ Some i
    → set rows i row ≡ with_row row rows
kept-Some row rows i apart at =
    let there = there_by row rows i (has_row row rows) (sym (position_by (is_of row.top row.site) rows) ∙ at) in
    ap (λ n. set rows n row) (sym there.1)
    ∙ set_place (is_of row.top row.site) row rows (at_most_one (pair_of row) rows apart)
    ∙ ap (λ b. cond b (map (replaced (is_of row.top row.site) row) rows) (rows ++ row ∷ [])) (sym there.0)

-- a row of a pair that has none is kept last
pub kept-None : (row : PlainGrant) (rows : List PlainGrant) → position (is_of row.top row.site) rows ≡ None → rows ++ row ∷ [] ≡ with_row row rows
kept-None row rows at =
    ap (λ b. cond b (map (replaced (is_of row.top row.site) row) rows) (rows ++ row ∷ [])) (sym (has_row-None row rows at))
