-- What outlives a restart of what is in memory, and what the store of an agent with nothing held
-- stands for: they are the same at each site and in each cell, but for the order of permissions of
-- different sites.
use Rattle.std.proofs.Common.{◌≡◌, ℕ, ◌≤◌, Bool, true, false, cond, List, [], ◌∷◌, Some, None, refl, sym, ap, subst, ◌∙◌}
use Rattle.std.specs.Prelude.{is_some}
use Rattle.std.specs.List.{All}
use Rattle.std.specs.FinMap as finite
use Rattle.std.specs.FinMap.{find, get-entries}
use Rattle.std.specs.Ordering.{eq_by_cmp}
use Rattle.std.proofs.lemmas.List.Elements.{All-cons, All-filter, All-head, All-nil, All-tail}
use Rattle.unwinding.specs.FiniteCells.{Full, get_cell, list_of, restrict_cells}
use Rattle.unwinding.proofs.FiniteCellsLemmas as cells_of
use Rattle.suffix_list.specs.Suffix.{Rule}
use Rattle.origin_site.specs.Site.{PlainSite, same_plain_site}
use Rattle.origin_site.proofs.SameLemmas.{same_plain_site-Decides}
use Rattle.storage_key.specs.Key.{PlainKey, key_order}
use Rattle.storage_key.proofs.OrderLemmas.{key_order_same}
use Rattle.cookie_jar.specs.Cookie.{PlainCookie, keeps_limits}
use Rattle.cookie_jar.specs.Key.{PlainKey as PlainCell, OwnCell, PartitionCell}
use Rattle.cookie_jar.specs.Persistent.{persistent_part}
use Rattle.local_area.specs.Area.{HasDistinctNames, Pair, area_weight, quota}
use Rattle.access_grants.specs.Grant.{HasDistinctPairs, PlainGrant}
use Rattle.access_grants.specs.UnderSite.{grants_under}
use Rattle.row_changes.specs.Body.{rows_bytes}
use Rattle.row_changes.specs.Change.{AreaPut, CookieInsert, Grant, PlainChange}
use Rattle.web_storage.specs.Stored as storage
use Rattle.web_cookies.specs.Stored as cookies
use Rattle.agent_model.specs.CookieCells.{CookieCells, Cookies, Domain, domain_order}
use Rattle.agent_model.specs.Lines.{AgentWorld}
use Rattle.agent_model.specs.Partition.{is_cell_under, is_under, no_holdings}
use Rattle.agent_model.specs.PartitionedCells.{PartitionedCells, PartitionedKey, partitioned_order}
use Rattle.agent_model.specs.TheMachine.{machine}
use Rattle.agent_model.proofs.CookieCellsLemmas.{domain_order_total, domain_order_same, get_none}
use Rattle.agent_model.proofs.PartitionedLemmas.{partitioned_order_total, partitioned_order_same}
use Rattle.durable_model.specs.Keeping.{AgentDurable, durable_of, kept_cells, keeping, rows_alone, rows_kept, rows_under}
use Rattle.durable_model.specs.Saved.{IsKeptCell, IsValid, Saved, SiteRows, cookies_at, kind_of, nothing_saved, pairs_at}
use Rattle.durable_model.specs.Sound.{IsSavedOf}
use Rattle.durable_model.proofs.CellsLemmas.{get_kept}
use Rattle.durable_model.proofs.ProjectLemmas.{cookies_here, pairs_here}
use Rattle.one_store.specs.WholeWorld.{whole_world}
use Rattle.row_store.specs.Bodies.{Takes}
use Rattle.row_store.specs.Kept.{kept_own_cells, kept_own_entries}
use Rattle.row_store.specs.Laws.{IsMadeBy, IsSpelledState, IsStorable, SnapshotsAreSpelled, SnapshotsMean}
use Rattle.row_store.specs.Listing.{listed}
use Rattle.agent_memory.specs.AgentState.{AgentState, world_of}
use Rattle.agent_core.specs.Standing.{kept_in}

-- ---- what is kept of cells

own_found : (es : List (Domain × Full PlainCookie)) (domain : Domain)
    → get_cell domain_order (kept_own_entries es) domain
    ≡ persistent_part (list_of (find domain_order domain es))
own_found [] domain = get_none domain
own_found (e ∷ es) domain =
    cells_of.get_set domain_order domain_order_total domain_order_same domain e.0
    (persistent_part (e.1.first ∷ e.1.rest)) (kept_own_entries es)
    ∙ at (eq_by_cmp domain_order domain e.0) (own_found es domain)
  where
    at : (b : Bool)
        → get_cell domain_order (kept_own_entries es) domain
        ≡ persistent_part (list_of (find domain_order domain es))
        → cond b (persistent_part (e.1.first ∷ e.1.rest)) (get_cell domain_order (kept_own_entries es) domain)
        ≡ persistent_part (list_of (cond b (Some e.1) (find domain_order domain es)))
    at true later = refl
    at false later = later

-- an unpartitioned cell has what is kept of it
own_kept : (cells : CookieCells) (domain : Domain)
    → get_cell domain_order (kept_own_cells cells) domain ≡ persistent_part (get_cell domain_order cells domain)
unfolding get_cell
own_kept cells domain =
    own_found (finite.entries cells) domain
    ∙ ap (λ found. persistent_part (list_of found)) (sym (get-entries cells domain))

-- what is kept of the cells under a site is what is kept of all, under the site
kept_under_site : (site : PlainSite) (cells : PartitionedCells)
    → restrict_cells partitioned_order (is_cell_under site) (kept_cells cells)
    ≡ kept_cells (restrict_cells partitioned_order (is_cell_under site) cells)
kept_under_site site cells =
    cells_of.same_cells partitioned_order partitioned_order_total partitioned_order_same _ _
    (λ key. cells_of.get_restrict partitioned_order partitioned_order_total
    partitioned_order_same (is_cell_under site) (kept_cells cells) key
    ∙ ap (λ cookies. cond (is_cell_under site key) cookies []) (get_kept cells key)
    ∙ at (is_cell_under site key) (get_cell partitioned_order cells key)
    ∙ ap persistent_part (sym (cells_of.get_restrict partitioned_order partitioned_order_total
    partitioned_order_same (is_cell_under site) cells key))
    ∙ sym (get_kept (restrict_cells partitioned_order (is_cell_under site) cells) key))
  where
    at : (b : Bool) (cookies : Cookies) → cond b (persistent_part cookies) [] ≡ persistent_part (cond b cookies [])
    at true cookies = refl
    at false cookies = refl

-- ---- a state that is the same at each site

site_itself : (site : PlainSite) → same_plain_site site site ≡ true
site_itself site = (same_plain_site-Decides site site).1 refl

-- what holds of the permissions under each site holds of all
all_granted : (P : PlainGrant → Type 0) (rows : List PlainGrant)
    → ((site : PlainSite) → All P (grants_under site rows)) → All P rows
all_granted P [] each = All-nil P
all_granted P (row ∷ rows) each =
    All-cons P row rows
    (first (same_plain_site row.top row.top) (site_itself row.top) (each row.top))
    (all_granted P rows (λ site. rest site (same_plain_site site row.top) (each site)))
  where
    first : (b : Bool) → b ≡ true
        → All P (cond b (row ∷ grants_under row.top rows) (grants_under row.top rows)) → P row
    first true is all = All-head P row (grants_under row.top rows) all
    first false is all = cc

    rest : (site : PlainSite) (b : Bool)
        → All P (cond b (row ∷ grants_under site rows) (grants_under site rows))
        → All P (grants_under site rows)
    rest site true all = All-tail P row (grants_under site rows) all
    rest site false all = all

under_each : (P : PlainGrant → Type 0) (site : PlainSite) (rows : List PlainGrant) → All P rows
    → All P (grants_under site rows)
under_each P site rows all =
    All-filter (λ (row : PlainGrant). same_plain_site site row.top) P rows all

module _ (base next : Saved) (same : durable_of next ≡ durable_of base) where
  rows_same : (site : PlainSite) → rows_under site next.under ≡ rows_under site base.under
  rows_same site = ap (λ (d : AgentDurable). d.partition site) same

  pairs_same : (key : PlainKey) → pairs_at key next ≡ pairs_at key base
  pairs_same key =
      let is = site_itself key.top in
      sym (pairs_here key.top next key is)
      ∙ ap (λ (rows : SiteRows). pairs_at key (rows_alone rows)) (rows_same key.top)
      ∙ pairs_here key.top base key is

  mode_here : (d : Saved) (key : PlainKey)
      → finite.contains_key (rows_under key.top d.under).persistent key
      ≡ finite.contains_key d.under.persistent key
  mode_here d key =
      ap is_some (cells_of.get_kept key_order key_order_same (is_under key.top)
      d.under.persistent key)
      ∙ ap (λ b. is_some (cond b (finite.get d.under.persistent key) None))
      (site_itself key.top)

  modes_same : (key : PlainKey)
      → finite.contains_key next.under.persistent key
      ≡ finite.contains_key base.under.persistent key
  modes_same key =
      sym (mode_here next key)
      ∙ ap (λ (rows : SiteRows). finite.contains_key rows.persistent key) (rows_same key.top)
      ∙ mode_here base key

  cookies_same : (cell : PlainCell) → cookies_at cell next ≡ cookies_at cell base
  cookies_same (OwnCell domain) =
      ap (λ (d : AgentDurable). get_cell domain_order d.cells domain) same
  cookies_same (PartitionCell top bit domain) =
      let key : PartitionedKey = record { top = top; bit = bit; domain = domain } in
      sym (cookies_here top next key (site_itself top))
      ∙ ap (λ (rows : SiteRows). get_cell partitioned_order rows.cookies key) (rows_same top)
      ∙ cookies_here top base key (site_itself top)

  pub valid_same : IsValid base → IsValid next
  valid_same valid cell = subst IsKeptCell (sym (cookies_same cell)) (valid cell)

  pub storable_same : HasDistinctPairs next.under.grants → IsStorable base → IsStorable next
  storable_same distinct storable = record {
    names = λ key. subst HasDistinctNames (sym (pairs_same key)) (storable.names key);
    weights = λ key.
        subst (λ pairs. area_weight pairs ≤ quota) (sym (pairs_same key)) (storable.weights key);
    cells = valid_same storable.cells;
    limits = λ cell.
        ap (keeps_limits (kind_of cell)) (cookies_same cell) ∙ storable.limits cell;
    grants = distinct;
  }

  pub spelled_same : (IsOf : PlainChange → Type 0) → IsMadeBy IsOf base → IsMadeBy IsOf next
  spelled_same IsOf spelled = record {
    pairs = λ key.
        subst
        (All (λ (pair : Pair). IsOf (AreaPut key pair.name pair.value)))
        (sym (pairs_same key)) (spelled.pairs key);
    modes = λ key is. spelled.modes key (sym (modes_same key) ∙ is);
    cookies = λ cell.
        subst (All (λ (cookie : PlainCookie). IsOf (CookieInsert cell 0 cookie)))
        (sym (cookies_same cell)) (spelled.cookies cell);
    grants =
        all_granted (λ row. IsOf (Grant row)) next.under.grants
        (λ site. subst (λ (rows : SiteRows). All (λ row. IsOf (Grant row)) rows.grants)
        (sym (rows_same site))
        (under_each (λ row. IsOf (Grant row)) site base.under.grants spelled.grants));
  }

-- ---- what is in memory

module _ (m : AgentState) where
  -- what outlives a restart of it is what is kept of each site's partition
  kept_at : (site : PlainSite)
      → rows_under site (kept_in m).under ≡ rows_kept ((world_of m).partition site)
  unfolding world_of whole_world storage.held_with no_holdings restrict_cells
  kept_at site = λ i.
      record {
        areas = finite.retain_keys (storage.areas_in m.entries.local) (is_under site);
        persistent = finite.retain_keys (storage.keys_in m.entries.local) (is_under site);
        cookies = kept_under_site site (cookies.partitioned_in m.cookies) i;
        grants = grants_under site m.grants;
      }

  kept_cell : (domain : Domain)
      → get_cell domain_order (kept_in m).cells domain
      ≡ persistent_part (get_cell domain_order (world_of m).cells domain)
  unfolding world_of whole_world
  kept_cell domain = own_kept (cookies.shared_in m.cookies) domain

  module _ (rules : List Rule) (world : AgentWorld) (base : Saved) (is : world ≡ world_of m)
      (saved : IsSavedOf rules world base) where
    at_site : (site : PlainSite)
        → rows_under site (kept_in m).under ≡ rows_under site base.under
    unfolding keeping
    at_site site =
        kept_at site
        ∙ ap (λ (w : AgentWorld). rows_kept (w.partition site)) (sym is)
        ∙ sym (saved.partition site)

    in_cells : (kept_in m).cells ≡ base.cells
    unfolding keeping machine
    in_cells =
        cells_of.same_cells domain_order domain_order_total domain_order_same _ _
        (λ domain. kept_cell domain
        ∙ ap (λ (w : AgentWorld). persistent_part (get_cell domain_order w.cells domain)) (sym is)
        ∙ sym (saved.cell domain))

    -- it is what the store stands for, at each site and in each cell
    pub kept_durable : durable_of (kept_in m) ≡ durable_of base
    kept_durable = λ i. record { partition = λ site. at_site site i; cells = in_cells i }

-- ---- a snapshot

-- the body of a snapshot of a state that can be written means this state
pub snapshot_takes : SnapshotsMean → SnapshotsAreSpelled → (d : Saved)
    (body : List ℕ) → body ≡ rows_bytes (listed d) → IsStorable d → IsSpelledState d
    → Takes nothing_saved true body d 0
snapshot_takes means spells d body is storable spelled =
    subst (λ bytes. Takes nothing_saved true bytes d 0) (sym is)
    (means nothing_saved d storable (spells d storable spelled))
