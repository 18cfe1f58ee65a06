-- What of a durable state stays under another list: seen at each key and cell.
use Rattle.std.proofs.Common.{◌≡◌, Bool, true, false, cond, not, ◌&&◌, ◌||◌, List, [], ◌∷◌, Option, Some, None, refl, sym, ap, subst, ◌∙◌}
use Rattle.std.specs.Prelude.{filter, is_some}
use Rattle.std.specs.Cmp.{IsTotalOrder}
use Rattle.std.specs.List.{list_all, list_any}
use Rattle.std.specs.declared.cmp.Ordering.{Ordering}
use Rattle.std.specs.FinMap.{FinMap, IsAntisymmetric, contains_key, empty, get, keys, retain_keys}
use Rattle.std.proofs.lemmas.Bool.{and_from, and_parts}
use Rattle.unwinding.specs.FiniteCells.{Full, get_cell, restrict_cells}
use Rattle.unwinding.proofs.FiniteCellsLemmas.{get_kept, get_restrict, same_cells}
use Rattle.suffix_list.specs.Suffix.{Rule}
use Rattle.storage_key.specs.Key.{PlainKey, key_order}
use Rattle.storage_key.specs.Stays.{key_stays}
use Rattle.storage_key.proofs.OrderLemmas.{key_order_total, key_order_same}
use Rattle.local_area.specs.Area.{Pair}
use Rattle.cookie_jar.specs.Cookie.{PlainCookie}
use Rattle.cookie_jar.specs.Key.{PlainKey as PlainCell, OwnCell, PartitionCell}
use Rattle.cookie_jar.specs.Stays.{cell_stays}
use Rattle.access_grants.specs.Stays.{grant_stays}
use Rattle.live_state.proofs.ListLemmas.{all_weaker, filter_all}
use Rattle.agent_model.specs.CookieCells.{Cookies, domain_order, no_cookies}
use Rattle.agent_model.specs.PartitionedCells.{no_partitioned_cells, partitioned_order}
use Rattle.agent_model.proofs.CookieCellsLemmas.{domain_order_total, domain_order_same}
use Rattle.agent_model.proofs.KeptLemmas.{all_kept, kept_nothing, kept_pass, none_passes}
use Rattle.agent_model.proofs.PartitionedLemmas.{partitioned_order_total, partitioned_order_same}
use Rattle.durable_model.specs.Saved.{IsKeptCell, IsValid, Saved, cookies_at, no_rows, nothing_saved, pairs_at}
use Rattle.durable_model.specs.Migrate.{IsUnder, StatesMigrate, migrate, own_stays, partition_stays, stays_at, stays_whole}
use Rattle.durable_model.proofs.NothingLemmas.{none_kept}

-- ---- lists and maps

-- each of what a filter keeps passes
filter_passes : {X : Type 0} (p : X → Bool) (xs : List X) → list_all p (filter p xs) ≡ true
filter_passes p [] = refl
filter_passes p (x ∷ xs) = at (p x) refl (filter_passes p xs)
  where
    at : (b : Bool) → p x ≡ b → list_all p (filter p xs) ≡ true → list_all p (cond b (x ∷ filter p xs) (filter p xs)) ≡ true
    at true is rest = and_from (p x) _ is rest
    at false is rest = rest

-- where all pass, none fails
none_fails : {X : Type 0} (p : X → Bool) (xs : List X) → list_all p xs ≡ true → list_any (λ x. not (p x)) xs ≡ false
none_fails p [] all = refl
none_fails p (x ∷ xs) all =
    let both = and_parts (p x) (list_all p xs) all in
    ap (λ b. not b || list_any (λ x. not (p x)) xs) both.0 ∙ none_fails p xs both.1

some_kept : {X : Type 0} (b : Bool) (x : Option X) → is_some (cond b x None) ≡ (is_some x && b)
some_kept true None = refl
some_kept true (Some x) = refl
some_kept false None = refl
some_kept false (Some x) = refl

module _ {K X : Type 0} (R : K → K → Ordering) (o : IsTotalOrder R) (same : IsAntisymmetric R) where
  -- a test that each key passes keeps all
  whole_kept : (m : FinMap R X) (test : K → Bool) → list_all test (keys m) ≡ true → retain_keys m test ≡ m
  whole_kept m test all =
      all_kept R o same m test
      (λ k isnt. none_passes R o same m (λ q. not (test q)) (none_fails test (keys m) all) k (ap not isnt))

  -- where all is kept, each key passes
  passed_whole : (m : FinMap R X) (test : K → Bool) → retain_keys m test ≡ m → list_all test (keys m) ≡ true
  passed_whole m test is = subst (λ n. list_all test (keys n) ≡ true) is (kept_pass R o same m test)

-- no key is none that fails
no_keys : {K : Type 0} (X : Type 0) (R : K → K → Ordering) (o : IsTotalOrder R) (same : IsAntisymmetric R)
    (test : K → Bool) → list_all test (keys (empty {X = X} {R = R})) ≡ true
no_keys X R o same test = passed_whole R o same (empty {X = X}) test (kept_nothing R o same test)

-- all is kept of cells where each that fails is empty
cells_whole : {K A : Type 0} (R : K → K → Ordering) (o : IsTotalOrder R) (same : IsAntisymmetric R) (test : K → Bool)
    (m : FinMap R (Full A)) → ((c : K) → test c ≡ false → get_cell R m c ≡ []) → retain_keys m test ≡ m
unfolding restrict_cells
cells_whole R o same test m empty_else =
    same_cells R o same (restrict_cells R test m) m (λ c. get_restrict R o same test m c ∙ at c (test c) refl)
  where
    at : (c : _) (b : Bool) → test c ≡ b → cond b (get_cell R m c) [] ≡ get_cell R m c
    at c true is = refl
    at c false is = sym (empty_else c is)

kept_by : (b : Bool) (cookies : Cookies) → IsKeptCell cookies → IsKeptCell (cond b cookies [])
kept_by true cookies is = is
kept_by false cookies is = none_kept

module _ (rules : List Rule) (d : Saved) where
  -- ---- each key and cell

  pub pairs_migrate : (key : PlainKey) → pairs_at key (migrate rules d) ≡ cond (key_stays rules key) (pairs_at key d) []
  unfolding restrict_cells
  pairs_migrate key = get_restrict key_order key_order_total key_order_same (key_stays rules) d.under.areas key

  pub modes_migrate : (key : PlainKey)
      → contains_key (migrate rules d).under.persistent key ≡ (contains_key d.under.persistent key && key_stays rules key)
  modes_migrate key =
      ap is_some (get_kept key_order key_order_same (key_stays rules) d.under.persistent key)
      ∙ some_kept (key_stays rules key) (get d.under.persistent key)

  pub cookies_migrate : (cell : PlainCell) → cookies_at cell (migrate rules d) ≡ cond (stays_at rules d cell) (cookies_at cell d) []
  unfolding restrict_cells
  cookies_migrate (OwnCell domain) =
      get_restrict domain_order domain_order_total domain_order_same (own_stays rules d) d.cells domain
  cookies_migrate (PartitionCell top bit domain) =
      get_restrict partitioned_order partitioned_order_total partitioned_order_same (partition_stays rules d) d.under.cookies
      (record { top = top; bit = bit; domain = domain })

  -- a cell that stays has its cookies, and stays again
  stays_again : (cell : PlainCell) → stays_at rules d cell ≡ true → stays_at rules (migrate rules d) cell ≡ true
  stays_again cell is =
      ap (cell_stays rules cell) (cookies_migrate cell ∙ ap (λ b. cond b (cookies_at cell d) []) is) ∙ is

  -- ---- all of it

  pub whole_stays : stays_whole rules d ≡ true → IsUnder rules d
  whole_stays all =
      let areas = and_parts _ _ all in
      let modes = and_parts _ _ areas.1 in
      let cookies = and_parts _ _ modes.1 in
      let grants = and_parts _ _ cookies.1 in
      λ i.
      record {
        under = record {
          areas = whole_kept key_order key_order_total key_order_same d.under.areas (key_stays rules) areas.0 i;
          persistent = whole_kept key_order key_order_total key_order_same d.under.persistent (key_stays rules) modes.0 i;
          cookies = whole_kept partitioned_order partitioned_order_total partitioned_order_same d.under.cookies (partition_stays rules d) cookies.0 i;
          grants = filter_all (grant_stays rules) d.under.grants grants.0 i;
        };
        cells = whole_kept domain_order domain_order_total domain_order_same d.cells (own_stays rules d) grants.1 i;
      }

  -- nothing goes where what fails has nothing
  pub under_by : ((key : PlainKey) → key_stays rules key ≡ false → pairs_at key d ≡ [])
      → ((key : PlainKey) → key_stays rules key ≡ false → get d.under.persistent key ≡ None)
      → ((cell : PlainCell) → stays_at rules d cell ≡ false → cookies_at cell d ≡ [])
      → list_all (grant_stays rules) d.under.grants ≡ true → IsUnder rules d
  under_by pairs modes cookies grants = λ i.
      record {
        under = record {
          areas = cells_whole key_order key_order_total key_order_same (key_stays rules) d.under.areas pairs i;
          persistent = kept_modes i;
          cookies =
              cells_whole partitioned_order partitioned_order_total partitioned_order_same (partition_stays rules d)
              d.under.cookies (λ key. cookies (PartitionCell key.top key.bit key.domain)) i;
          grants = filter_all (grant_stays rules) d.under.grants grants i;
        };
        cells = cells_whole domain_order domain_order_total domain_order_same (own_stays rules d) d.cells (λ domain. cookies (OwnCell domain)) i;
      }
    where
      kept_modes : retain_keys d.under.persistent (key_stays rules) ≡ d.under.persistent
      kept_modes = all_kept key_order key_order_total key_order_same d.under.persistent (key_stays rules) modes

  under_whole : IsUnder rules d → stays_whole rules d ≡ true
  under_whole is =
      and_from _ _ (passed_whole key_order key_order_total key_order_same d.under.areas (key_stays rules) (ap (λ e. e.under.areas) is))
      (and_from _ _ (passed_whole key_order key_order_total key_order_same d.under.persistent (key_stays rules) (ap (λ e. e.under.persistent) is))
      (and_from _ _ (passed_whole partitioned_order partitioned_order_total partitioned_order_same d.under.cookies (partition_stays rules d) (ap (λ e. e.under.cookies) is))
      (and_from _ _ (subst (λ rows. list_all (grant_stays rules) rows ≡ true) (ap (λ e. e.under.grants) is) (filter_passes (grant_stays rules) d.under.grants))
      (passed_whole domain_order domain_order_total domain_order_same d.cells (own_stays rules d) (ap (λ e. e.cells) is)))))

  -- all of what stays stays
  migrated_whole : stays_whole rules (migrate rules d) ≡ true
  migrated_whole =
      and_from _ _ (kept_pass key_order key_order_total key_order_same d.under.areas (key_stays rules))
      (and_from _ _ (kept_pass key_order key_order_total key_order_same d.under.persistent (key_stays rules))
      (and_from _ _ (all_weaker (partition_stays rules d) (partition_stays rules (migrate rules d))
      (λ key. stays_again (PartitionCell key.top key.bit key.domain)) (keys (migrate rules d).under.cookies)
      (kept_pass partitioned_order partitioned_order_total partitioned_order_same d.under.cookies (partition_stays rules d)))
      (and_from _ _ (filter_passes (grant_stays rules) d.under.grants)
      (all_weaker (own_stays rules d) (own_stays rules (migrate rules d)) (λ domain. stays_again (OwnCell domain)) (keys (migrate rules d).cells)
      (kept_pass domain_order domain_order_total domain_order_same d.cells (own_stays rules d))))))

  migrated_valid : IsValid d → IsValid (migrate rules d)
  migrated_valid valid cell = subst IsKeptCell (sym (cookies_migrate cell)) (kept_by (stays_at rules d cell) (cookies_at cell d) (valid cell))

nothing_stays : (rules : List Rule) → stays_whole rules nothing_saved ≡ true
unfolding nothing_saved no_rows no_cookies no_partitioned_cells
nothing_stays rules =
    and_from _ _ (no_keys (Full Pair) key_order key_order_total key_order_same (key_stays rules))
    (and_from _ _ (no_keys (Unit {0}) key_order key_order_total key_order_same (key_stays rules))
    (and_from _ _ (no_keys (Full PlainCookie) partitioned_order partitioned_order_total partitioned_order_same (partition_stays rules nothing_saved))
    (no_keys (Full PlainCookie) domain_order domain_order_total domain_order_same (own_stays rules nothing_saved))))

pub states_migrate : (rules : List Rule) (d : Saved) → StatesMigrate rules d
states_migrate rules d = record {
  pairs = pairs_migrate rules d;
  modes = modes_migrate rules d;
  cookies = cookies_migrate rules d;
  whole = whole_stays rules d;
  only = under_whole rules d;
  once = whole_stays rules (migrate rules d) (migrated_whole rules d);
  valid = migrated_valid rules d;
  nothing = nothing_stays rules;
}
