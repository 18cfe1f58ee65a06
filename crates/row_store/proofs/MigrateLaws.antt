-- What stays of a state under a list is such a state again, and the states of which all stays are
-- those whose row changes have a spelling under the list.
use Rattle.std.proofs.Common.{◌≡◌, ◌≤◌, Bool, true, false, cond, ◌&&◌, List, [], ◌∷◌, length, ◌<◌, Option, Some, None, refl, sym, ap, subst, ◌∙◌, arith}
use Rattle.std.specs.Prelude.{FitsSigned, is_some}
use Rattle.std.specs.Int.{w64}
use Rattle.std.specs.FinMap as finite
use Rattle.std.specs.List.{All, list_all}
use Rattle.std.proofs.lemmas.Bool.{and_from, and_parts}
use Rattle.std.proofs.lemmas.List.Elements.{All-cons, All-filter, All-head, All-nil, All-tail, All-weaker}
use Rattle.suffix_list.specs.Suffix.{Rule}
use Rattle.storage_key.specs.Key.{PlainKey}
use Rattle.storage_key.specs.Stays.{key_stays}
use Rattle.local_area.specs.Area.{HasDistinctNames, Pair, area_weight, quota}
use Rattle.cookie_jar.specs.Cookie.{PlainCookie, keeps_limits}
use Rattle.cookie_jar.specs.Key.{PlainKey as PlainCell}
use Rattle.cookie_jar.specs.Stays.{cookie_stays, domain_of_cell, name_stays}
use Rattle.access_grants.specs.Grant.{PlainGrant, same_pair}
use Rattle.access_grants.specs.Stays.{grant_stays}
use Rattle.row_changes.specs.Change.{PlainChange, AreaPut, CookieInsert, Grant}
use Rattle.row_changes.specs.Spelled.{IsSpelled, IsSpelledUnder}
use Rattle.agent_model.specs.CookieCells.{Cookies}
use Rattle.durable_model.specs.Migrate.{IsUnder, partition_stays, stays_at, stays_whole}
use Rattle.durable_model.specs.Saved.{Saved, cookies_at, kind_of, pairs_at}
use Rattle.durable_model.proofs.MigrateLemmas.{cookies_migrate, modes_migrate, pairs_migrate, states_migrate, under_by}
use Rattle.spelled_model.specs.Rows.{IsReadCell}
use Rattle.row_store.specs.Laws.{IsMadeBy}
use Rattle.row_store.specs.MigrateLaws.{MigratedIsRead, MigratedIsSpelled, MigratedIsStorable, SpelledStays, StayingIsSpelled, UnderIsSpelled}
use Rattle.row_store.proofs.StorableLaws.{filter_apart, no_limit, none_apart}

-- what a pair, a cookie and a permission are made by
abbrev IsPairOf : (PlainChange → Type 0) → PlainKey → Pair → Type 0
IsPairOf IsOf key pair = IsOf (AreaPut key pair.name pair.value)

abbrev IsCookieOf : (PlainChange → Type 0) → PlainCell → PlainCookie → Type 0
IsCookieOf IsOf cell cookie = IsOf (CookieInsert cell 0 cookie)

abbrev IsRowOf : (PlainChange → Type 0) → PlainGrant → Type 0
IsRowOf IsOf row = IsOf (Grant row)

-- what holds of a list and of none holds of either
or_none : {X : Type 0} (P : List X → Type 0) (b : Bool) (xs : List X) → P [] → P xs → P (cond b xs [])
or_none P true xs none is = is
or_none P false xs none is = none

true_false : {A : Type 0} (b : Bool) → b ≡ true → b ≡ false → A
true_false b is isnt = let e : true ≡ false = sym is ∙ isnt in absurd (cc)

-- ---- what stays is such a state

pub migrated_is_storable : MigratedIsStorable
migrated_is_storable rules d storable = record {
  names = λ key. subst HasDistinctNames (sym (pairs_migrate rules d key))
      (or_none HasDistinctNames (key_stays rules key) (pairs_at key d) none_apart (storable.names key));
  weights = λ key. subst (λ pairs. area_weight pairs ≤ quota) (sym (pairs_migrate rules d key))
      (or_none (λ pairs. area_weight pairs ≤ quota) (key_stays rules key) (pairs_at key d) (omega arith) (storable.weights key));
  cells = (states_migrate rules d).valid storable.cells;
  limits = λ cell. subst (λ cookies. keeps_limits (kind_of cell) cookies ≡ true) (sym (cookies_migrate rules d cell))
      (or_none (λ cookies. keeps_limits (kind_of cell) cookies ≡ true) (stays_at rules d cell) (cookies_at cell d)
      (no_limit (kind_of cell)) (storable.limits cell));
  grants = filter_apart same_pair (λ (row : PlainGrant). (row.top, row.site)) (grant_stays rules) d.under.grants storable.grants;
}

pub migrated_is_spelled : MigratedIsSpelled
migrated_is_spelled rules d made = record {
  pairs = λ key. subst (All (IsPairOf IsSpelled key)) (sym (pairs_migrate rules d key))
      (or_none (All (IsPairOf IsSpelled key)) (key_stays rules key) (pairs_at key d) (All-nil (IsPairOf IsSpelled key)) (made.pairs key));
  modes = λ key is. made.modes key (and_parts _ _ (sym (modes_migrate rules d key) ∙ is)).0;
  cookies = λ cell. subst (All (IsCookieOf IsSpelled cell)) (sym (cookies_migrate rules d cell))
      (or_none (All (IsCookieOf IsSpelled cell)) (stays_at rules d cell) (cookies_at cell d) (All-nil (IsCookieOf IsSpelled cell)) (made.cookies cell));
  grants = All-filter (grant_stays rules) (IsRowOf IsSpelled) d.under.grants made.grants;
}

no_cell : IsReadCell []
no_cell = record { few = omega arith; times = All-nil (λ (c : PlainCookie). FitsSigned w64 c.creation) }

pub migrated_is_read : MigratedIsRead
migrated_is_read rules d read = record {
  keys = λ key some. read.keys key (at key (key_stays rules key) (subst (λ pairs. 0 < length pairs) (pairs_migrate rules d key) some));
  cells = λ cell. subst IsReadCell (sym (cookies_migrate rules d cell))
      (or_none IsReadCell (stays_at rules d cell) (cookies_at cell d) no_cell (read.cells cell));
}
  where
    at : (key : PlainKey) (b : Bool) → 0 < length (cond b (pairs_at key d) []) → 0 < length (pairs_at key d)
    at key true some = some
    at key false some = omega (arith, some)

-- ---- under a list

module _ (rules : List Rule) where
  abbrev Under : PlainChange → Type 0
  Under change = IsSpelledUnder rules change

  -- what all have, each has
  each_stays : (cell : PlainCell) (cookies : Cookies) → name_stays rules cell ≡ true
      → list_all (cookie_stays rules (domain_of_cell cell)) cookies ≡ true
      → All (IsCookieOf IsSpelled cell) cookies → All (IsCookieOf Under cell) cookies
  each_stays cell [] name all made = All-nil (IsCookieOf Under cell)
  each_stays cell (c ∷ cs) name all made =
      let both = and_parts (cookie_stays rules (domain_of_cell cell) c) _ all in
      All-cons (IsCookieOf Under cell) c cs
      (All-head (IsCookieOf IsSpelled cell) c cs made, and_from (name_stays rules cell) _ name both.0)
      (each_stays cell cs name both.1 (All-tail (IsCookieOf IsSpelled cell) c cs made))

  each_granted : (rows : List PlainGrant) → list_all (grant_stays rules) rows ≡ true
      → All (IsRowOf IsSpelled) rows → All (IsRowOf Under) rows
  each_granted [] all made = All-nil (IsRowOf Under)
  each_granted (row ∷ rows) all made =
      let both = and_parts (grant_stays rules row) _ all in
      All-cons (IsRowOf Under) row rows (All-head (IsRowOf IsSpelled) row rows made, both.0)
      (each_granted rows both.1 (All-tail (IsRowOf IsSpelled) row rows made))

  -- what each has, all have
  cookies_stay : (cell : PlainCell) (cookies : Cookies) → All (IsCookieOf Under cell) cookies
      → list_all (cookie_stays rules (domain_of_cell cell)) cookies ≡ true
  cookies_stay cell [] made = refl
  cookies_stay cell (c ∷ cs) made =
      let first = All-head (IsCookieOf Under cell) c cs made in
      and_from (cookie_stays rules (domain_of_cell cell) c) _ (and_parts (name_stays rules cell) _ first.1).1
      (cookies_stay cell cs (All-tail (IsCookieOf Under cell) c cs made))

  grants_stay : (rows : List PlainGrant) → All (IsRowOf Under) rows → list_all (grant_stays rules) rows ≡ true
  grants_stay [] made = refl
  grants_stay (row ∷ rows) made =
      let first = All-head (IsRowOf Under) row rows made in
      and_from (grant_stays rules row) _ first.1 (grants_stay rows (All-tail (IsRowOf Under) row rows made))

  module _ (d : Saved) where
    -- where all stays, what fails has nothing
    pairs_left : IsUnder rules d → (key : PlainKey) → pairs_at key d ≡ cond (key_stays rules key) (pairs_at key d) []
    pairs_left under key = sym (ap (pairs_at key) under) ∙ pairs_migrate rules d key

    cookies_left : IsUnder rules d → (cell : PlainCell) → cookies_at cell d ≡ cond (stays_at rules d cell) (cookies_at cell d) []
    cookies_left under cell = sym (ap (cookies_at cell) under) ∙ cookies_migrate rules d cell

    mode_left : IsUnder rules d → (key : PlainKey) → finite.contains_key d.under.persistent key ≡ true → key_stays rules key ≡ true
    mode_left under key is =
        (and_parts (finite.contains_key d.under.persistent key) _
        (sym (modes_migrate rules d key) ∙ ap (λ e. finite.contains_key e.under.persistent key) under ∙ is)).1

    grants_of : stays_whole rules d ≡ true → list_all (grant_stays rules) d.under.grants ≡ true
    grants_of all =
        let areas = and_parts (list_all (key_stays rules) (finite.keys d.under.areas)) _ all in
        let modes = and_parts (list_all (key_stays rules) (finite.keys d.under.persistent)) _ areas.1 in
        let cookies = and_parts (list_all (partition_stays rules d) (finite.keys d.under.cookies)) _ modes.1 in
        (and_parts (list_all (grant_stays rules) d.under.grants) _ cookies.1).0

    staying : IsMadeBy IsSpelled d → IsUnder rules d → IsMadeBy (IsSpelledUnder rules) d
    staying made under = record {
      pairs = λ key. at_key key (key_stays rules key) refl;
      modes = λ key is. (made.modes key is, mode_left under key is);
      cookies = λ cell. at_cell cell (stays_at rules d cell) refl;
      grants = each_granted d.under.grants
          (grants_of ((states_migrate rules d).only under)) made.grants;
    }
      where
        at_key : (key : PlainKey) (b : Bool) → key_stays rules key ≡ b → All (IsPairOf (IsSpelledUnder rules) key) (pairs_at key d)
        at_key key true is =
            All-weaker (IsPairOf IsSpelled key) (IsPairOf (IsSpelledUnder rules) key) (λ pair spelled. (spelled, is))
            (pairs_at key d) (made.pairs key)
        at_key key false is = subst (All (IsPairOf (IsSpelledUnder rules) key))
            (sym (pairs_left under key ∙ ap (λ b. cond b (pairs_at key d) []) is)) (All-nil (IsPairOf (IsSpelledUnder rules) key))

        at_cell : (cell : PlainCell) (b : Bool) → stays_at rules d cell ≡ b → All (IsCookieOf (IsSpelledUnder rules) cell) (cookies_at cell d)
        at_cell cell true is =
            let both = and_parts (name_stays rules cell) _ is in
            each_stays cell (cookies_at cell d) both.0 both.1 (made.cookies cell)
        at_cell cell false is = subst (All (IsCookieOf (IsSpelledUnder rules) cell))
            (sym (cookies_left under cell ∙ ap (λ b. cond b (cookies_at cell d) []) is)) (All-nil (IsCookieOf (IsSpelledUnder rules) cell))

    -- and what has a spelling under the list stays
    stays : IsMadeBy (IsSpelledUnder rules) d → IsUnder rules d
    stays made =
        under_by rules d (λ key isnt. no_pair key isnt (pairs_at key d) (made.pairs key))
        (λ key isnt. no_mode key isnt (finite.get d.under.persistent key) refl)
        (λ cell isnt. no_cookie cell (cookies_at cell d) isnt (made.cookies cell))
        (grants_stay d.under.grants made.grants)
      where
        no_pair : (key : PlainKey) → key_stays rules key ≡ false → (pairs : List Pair)
            → All (IsPairOf Under key) pairs → pairs ≡ []
        no_pair key isnt [] all = refl
        no_pair key isnt (p ∷ ps) all =
            let first = All-head (IsPairOf Under key) p ps all in true_false (key_stays rules key) first.1 isnt

        no_mode : (key : PlainKey) → key_stays rules key ≡ false → (found : Option (Unit {0}))
            → finite.get d.under.persistent key ≡ found → finite.get d.under.persistent key ≡ None
        no_mode key isnt None is = is
        no_mode key isnt (Some one) is =
            let spelled = made.modes key (ap is_some is) in true_false (key_stays rules key) spelled.1 isnt

        no_cookie : (cell : PlainCell) (cookies : Cookies)
            → (name_stays rules cell && list_all (cookie_stays rules (domain_of_cell cell)) cookies) ≡ false
            → All (IsCookieOf Under cell) cookies → cookies ≡ []
        no_cookie cell [] isnt all = refl
        no_cookie cell (c ∷ cs) isnt all =
            let first = All-head (IsCookieOf Under cell) c cs all in
            let name = (and_parts (name_stays rules cell) _ first.1).0 in
            true_false (name_stays rules cell && list_all (cookie_stays rules (domain_of_cell cell)) (c ∷ cs))
            (and_from (name_stays rules cell) _ name (cookies_stay cell (c ∷ cs) all)) isnt

pub staying_is_spelled : StayingIsSpelled
staying_is_spelled rules d made under = staying rules d made under

pub spelled_stays : SpelledStays
spelled_stays rules d made = stays rules d made

pub under_is_spelled : UnderIsSpelled
under_is_spelled rules d made = record {
  pairs = λ key. All-weaker (IsPairOf (IsSpelledUnder rules) key) (IsPairOf IsSpelled key)
      (λ pair (is : IsPairOf (IsSpelledUnder rules) key pair). is.0) (pairs_at key d) (made.pairs key);
  modes = λ key is. (made.modes key is).0;
  cookies = λ cell. All-weaker (IsCookieOf (IsSpelledUnder rules) cell) (IsCookieOf IsSpelled cell)
      (λ cookie (is : IsCookieOf (IsSpelledUnder rules) cell cookie). is.0) (cookies_at cell d) (made.cookies cell);
  grants = All-weaker (IsRowOf (IsSpelledUnder rules)) (IsRowOf IsSpelled)
      (λ row (is : IsRowOf (IsSpelledUnder rules) row). is.0) d.under.grants made.grants;
}
