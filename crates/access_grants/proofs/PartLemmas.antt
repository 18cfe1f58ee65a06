-- The rows under one top-level site, in a look-up and after a row is kept.
use Rattle.std.proofs.Common.{◌≡◌, Bool, true, false, cond, ◌&&◌, ◌||◌, List, [], ◌∷◌, ◌++◌, map, filter, find, Option, Some, refl, sym, ap, subst, ◌∙◌}
use Rattle.std.specs.List.{list_any}
use Rattle.std.proofs.lemmas.List.Elements.{filter-append}
use Rattle.origin_site.specs.Site.{PlainSite, same_plain_site}
use Rattle.origin_site.proofs.SameLemmas.{same_plain_site-Decides}
use Rattle.access_grants.specs.Grant.{PlainGrant, has_row, is_of, with_row}
use Rattle.access_grants.specs.UnderSite.{grants_under, with_row_under}
use Rattle.access_grants.proofs.RowsLemmas.{replaced}

find_step : (here there : Bool) (row : PlainGrant) (rest : List PlainGrant) (test : PlainGrant → Bool) (whole : Option PlainGrant)
    → test row ≡ here && there → find test rest ≡ whole
    → find test (cond here (row ∷ rest) rest) ≡ cond (here && there) (Some row) whole
find_step true there row rest test whole is later = λ i. cond (is i) (Some row) (later i)
find_step false there row rest test whole is later = later

-- a look-up sees the rows under its top-level site alone
pub find_under : (top site : PlainSite) (rows : List PlainGrant) → find (is_of top site) (grants_under top rows) ≡ find (is_of top site) rows
find_under top site [] = refl
find_under top site (row ∷ rows) =
    find_step (same_plain_site top row.top) (same_plain_site site row.site) row (grants_under top rows) (is_of top site) _ refl (find_under top site rows)

any_step : (here there : Bool) (row : PlainGrant) (rest : List PlainGrant) (test : PlainGrant → Bool) (whole : Bool)
    → test row ≡ here && there → list_any test rest ≡ whole
    → list_any test (cond here (row ∷ rest) rest) ≡ (here && there) || whole
any_step true there row rest test whole is later = λ i. is i || later i
any_step false there row rest test whole is later = later

-- so does the test for a row of its pair
pub has_row_under : (row : PlainGrant) (rows : List PlainGrant) → has_row row (grants_under row.top rows) ≡ has_row row rows
has_row_under row [] = refl
has_row_under row (other ∷ rows) =
    any_step (same_plain_site row.top other.top) (same_plain_site row.site other.site) other (grants_under row.top rows) (is_of row.top row.site) _ refl (has_row_under row rows)

own : (site : PlainSite) → same_plain_site site site ≡ true
own site = (same_plain_site-Decides site site).1 refl

put_step : (row other : PlainGrant) (here there : Bool) (rest put : List PlainGrant)
    → same_plain_site row.top other.top ≡ here → same_plain_site row.site other.site ≡ there
    → filter (λ r. same_plain_site row.top r.top) rest ≡ put
    → filter (λ r. same_plain_site row.top r.top) (cond (here && there) row other ∷ rest)
    ≡ cond here (cond (here && there) row other ∷ put) put
put_step row other true true rest put is at later = rw (own row.top) (ap (λ l. row ∷ l) later)
put_step row other true false rest put is at later = rw is (ap (λ l. other ∷ l) later)
put_step row other false there rest put is at later = rw is later

map_step : (row other : PlainGrant) (here there : Bool) (rest : List PlainGrant)
    → same_plain_site row.top other.top ≡ here → same_plain_site row.site other.site ≡ there
    → map (replaced (is_of row.top row.site) row) (cond here (other ∷ rest) rest)
    ≡ cond here (cond (here && there) row other ∷ map (replaced (is_of row.top row.site) row) rest) (map (replaced (is_of row.top row.site) row) rest)
map_step row other true there rest is at = rw (is, at) refl
map_step row other false there rest is at = refl

-- a row is put among those under its own top-level site
put_under : (row : PlainGrant) (rows : List PlainGrant)
    → grants_under row.top (map (replaced (is_of row.top row.site) row) rows) ≡ map (replaced (is_of row.top row.site) row) (grants_under row.top rows)
put_under row [] = refl
put_under row (other ∷ rows) =
    put_step row other (same_plain_site row.top other.top) (same_plain_site row.site other.site) _ _ refl refl (put_under row rows)
    ∙ sym (map_step row other (same_plain_site row.top other.top) (same_plain_site row.site other.site) (grants_under row.top rows) refl refl)

own_by : (row : PlainGrant) (rows : List PlainGrant) (there : Bool)
    → grants_under row.top (cond there (map (replaced (is_of row.top row.site) row) rows) (rows ++ row ∷ []))
    ≡ cond there (map (replaced (is_of row.top row.site) row) (grants_under row.top rows)) (grants_under row.top rows ++ row ∷ [])
own_by row rows true = put_under row rows
own_by row rows false =
    filter-append (λ r. same_plain_site row.top r.top) rows (row ∷ [])
    ∙ ap (λ b. grants_under row.top rows ++ cond b (row ∷ []) []) (own row.top)

-- what is kept under the row's own top-level site
pub kept_own : (row : PlainGrant) (rows : List PlainGrant) → grants_under row.top (with_row row rows) ≡ with_row row (grants_under row.top rows)
kept_own row rows =
    own_by row rows (has_row row rows)
    ∙ ap (λ b. cond b (map (replaced (is_of row.top row.site) row) (grants_under row.top rows)) (grants_under row.top rows ++ row ∷ [])) (sym (has_row_under row rows))

far_step : (top : PlainSite) (row other : PlainGrant) (here there : Bool) (rest put : List PlainGrant)
    → same_plain_site row.top other.top ≡ here → same_plain_site top row.top ≡ false
    → filter (λ r. same_plain_site top r.top) rest ≡ put
    → filter (λ r. same_plain_site top r.top) (cond (here && there) row other ∷ rest)
    ≡ cond (same_plain_site top other.top) (other ∷ put) put
far_step top row other true true rest put is far later =
    let gone : same_plain_site top other.top ≡ false = ap (same_plain_site top) (sym ((same_plain_site-Decides row.top other.top).0 is)) ∙ far in
    rw (far, gone) later
far_step top row other true false rest put is far later = ap (λ l. cond (same_plain_site top other.top) (other ∷ l) l) later
far_step top row other false there rest put is far later = ap (λ l. cond (same_plain_site top other.top) (other ∷ l) l) later

put_far : (top : PlainSite) (row : PlainGrant) (rows : List PlainGrant) → same_plain_site top row.top ≡ false
    → grants_under top (map (replaced (is_of row.top row.site) row) rows) ≡ grants_under top rows
put_far top row [] far = refl
put_far top row (other ∷ rows) far =
    far_step top row other (same_plain_site row.top other.top) (same_plain_site row.site other.site) _ _ refl far (put_far top row rows far)

with_none : (rows : List PlainGrant) → rows ++ [] ≡ rows
with_none [] = refl
with_none (row ∷ rows) = ap (λ rest. row ∷ rest) (with_none rows)

far_by : (top : PlainSite) (row : PlainGrant) (rows : List PlainGrant) (there : Bool) → same_plain_site top row.top ≡ false
    → grants_under top (cond there (map (replaced (is_of row.top row.site) row) rows) (rows ++ row ∷ [])) ≡ grants_under top rows
far_by top row rows true far = put_far top row rows far
far_by top row rows false far =
    filter-append (λ r. same_plain_site top r.top) rows (row ∷ [])
    ∙ ap (λ b. grants_under top rows ++ cond b (row ∷ []) []) far
    ∙ with_none (grants_under top rows)

kept_by : (top : PlainSite) (row : PlainGrant) (rows : List PlainGrant) (here : Bool) → same_plain_site top row.top ≡ here
    → grants_under top (with_row row rows) ≡ cond here (with_row row (grants_under top rows)) (grants_under top rows)
kept_by top row rows true is =
    subst (λ t. grants_under t (with_row row rows) ≡ with_row row (grants_under t rows)) (sym ((same_plain_site-Decides top row.top).0 is)) (kept_own row rows)
kept_by top row rows false far = far_by top row rows (has_row row rows) far

-- what a kept row makes of the rows under a top-level site depends on these alone
pub kept_at : (top : PlainSite) (row : PlainGrant) (rows : List PlainGrant) → grants_under top (with_row row rows) ≡ with_row_under top row (grants_under top rows)
kept_at top row rows = kept_by top row rows (same_plain_site top row.top) refl
