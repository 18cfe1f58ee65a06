-- What a snapshot means: the state whose row changes it lists.
use Rattle.std.proofs.Common.{◌≡◌, ℕ, ◌≤◌, Bool, true, false, cond, ◌||◌, [], ◌++◌, map, Option, Some, None, refl, sym, ap, ◌∙◌, arith, append-nil}
use Rattle.std.specs.Prelude.{Ok, fold, is_some}
use Rattle.std.specs.List.{flat_map, list_any}
use Rattle.std.specs.Ordering.{eq_by_cmp}
use Rattle.std.specs.FinMap as finite
use Rattle.std.specs.FinMap.{get-empty}
use Rattle.unwinding.specs.FiniteCells.{Full, get_cell, list_of}
use Rattle.unwinding.proofs.FiniteCellsLemmas.{same_cells}
use Rattle.storage_key.specs.Key.{PlainKey, key_order}
use Rattle.storage_key.proofs.OrderLemmas.{key_order_total, key_order_same}
use Rattle.cookie_jar.specs.Key.{PlainKey as PlainCell, OwnCell, PartitionCell}
use Rattle.row_changes.specs.Change.{Grant}
use Rattle.row_changes.specs.Laws.{row_pieces}
use Rattle.row_changes.proofs.PieceLaws.{snapshot_again}
use Rattle.agent_model.specs.CookieCells.{Domain, domain_order}
use Rattle.agent_model.specs.PartitionedCells.{PartitionedKey, partitioned_order}
use Rattle.agent_model.proofs.CookieCellsLemmas as own_cells
use Rattle.agent_model.proofs.CookieCellsLemmas.{domain_order_total, domain_order_same}
use Rattle.agent_model.proofs.PartitionedLemmas.{partitioned_order_total, partitioned_order_same}
use Rattle.web_storage.proofs.WriteLemmas.{same_keys}
use Rattle.web_cookies.specs.Cells.{cell_order}
use Rattle.web_cookies.proofs.OrderOfCells.{cell_order_total, cell_order_same}
use Rattle.durable_model.specs.Saved.{Saved, cookies_at, no_rows, nothing_saved, pairs_at, with_pairs}
use Rattle.durable_model.proofs.CellsLemmas.{get_none}
use Rattle.row_store.specs.Bodies.{after_pieces, body_means}
use Rattle.row_store.specs.Listing.{cell_rows, cells_by_text, key_rows, listed, stored_cells, stored_keys}
use Rattle.row_store.specs.Laws.{IsStorable, SnapshotsMean}
use Rattle.row_store.proofs.BodyLaws.{rows_taken}
use Rattle.row_store.proofs.LeadLemmas.{AreFree, Leads, all_keep, all_lead, all_seen, then, times, to}
use Rattle.row_store.proofs.TimesLemmas.{any_number, as_number, times-append, times-map, times-none, times_cells_by_text, times_keys, times_stored}
use Rattle.row_store.proofs.AreaRowLemmas.{IsFreeKey, free_other, key_leads, keyed, keyed_mode, keyed_pairs, with_mode}
use Rattle.row_store.proofs.CookieRowLemmas.{IsFreeCell, cell_leads, celled, celled_cookies, free_cell, grants_lead, with_grants}

-- ---- nothing is stored

pub none_stored : (key : PlainKey) → pairs_at key nothing_saved ≡ []
unfolding nothing_saved no_rows get_cell
none_stored key = ap list_of (get-empty key_order key)

pub no_mode : (key : PlainKey) → finite.contains_key nothing_saved.under.persistent key ≡ false
unfolding nothing_saved no_rows
no_mode key = ap is_some (get-empty key_order key)

pub no_cookie : (cell : PlainCell) → cookies_at cell nothing_saved ≡ []
unfolding nothing_saved no_rows
no_cookie (OwnCell domain) = own_cells.get_none domain
no_cookie (PartitionCell top bit domain) = get_none (record { top = top; bit = bit; domain = domain })

no_grants : nothing_saved.under.grants ≡ []
unfolding nothing_saved no_rows
no_grants = refl

at_most_one : (n : ℕ) (b : Bool) → n ≡ as_number b → n ≤ 1
at_most_one n true is = omega (arith, is)
at_most_one n false is = omega (arith, is)

-- a cell that is absent is empty
absent_cell : {A : Type 0} (found : Option (Full A)) → is_some found ≡ false → list_of found ≡ []
absent_cell None is = refl
absent_cell (Some f) is = cc

-- ---- which cells have cookies

abbrev has_cookies : Saved → PlainCell → Bool
has_cookies d (OwnCell domain) = finite.contains_key d.cells domain
has_cookies d (PartitionCell top bit domain) = finite.contains_key d.under.cookies
    (record { top = top; bit = bit; domain = domain })

abbrev own : Domain → PlainCell
own domain = OwnCell domain

abbrev partition : PartitionedKey → PlainCell
partition key = PartitionCell key.top key.bit key.domain

-- a cell stands once where it has cookies, and nowhere else
times_cells : (d : Saved) (q : PlainCell) → times (eq_by_cmp cell_order q) (stored_cells d) ≡ as_number (has_cookies d q)
times_cells d (OwnCell domain) =
    let test = eq_by_cmp cell_order (OwnCell domain) in
    let keys = cells_by_text (finite.keys d.under.cookies) in
    let here : times test (map own (finite.keys d.cells)) ≡ as_number (finite.contains_key d.cells domain) =
    times-map test own (finite.keys d.cells) ∙ times_keys domain_order domain_order_total domain_order_same domain d.cells in
    let there : times test (map partition keys) ≡ 0 = times-map test partition keys ∙ times-none keys in
    times-append test (map own (finite.keys d.cells)) (map partition keys) ∙ omega (arith, here, there)
times_cells d (PartitionCell top bit domain) =
    let key : PartitionedKey = record { top = top; bit = bit; domain = domain } in
    let test = eq_by_cmp cell_order (PartitionCell top bit domain) in
    let keys = cells_by_text (finite.keys d.under.cookies) in
    let here : times test (map own (finite.keys d.cells)) ≡ 0 =
    times-map test own (finite.keys d.cells) ∙ times-none (finite.keys d.cells) in
    let there : times test (map partition keys) ≡ as_number (finite.contains_key d.under.cookies key) =
    times-map test partition keys ∙ times_cells_by_text (eq_by_cmp partitioned_order key) (finite.keys d.under.cookies)
    ∙ times_keys partitioned_order partitioned_order_total partitioned_order_same key d.under.cookies in
    times-append test (map own (finite.keys d.cells)) (map partition keys) ∙ omega (arith, here, there)

absent_cookies : (d : Saved) (q : PlainCell) → has_cookies d q ≡ false → cookies_at q d ≡ []
unfolding get_cell
absent_cookies d (OwnCell domain) is = absent_cell (finite.get d.cells domain) is
absent_cookies d (PartitionCell top bit domain) is =
    absent_cell (finite.get d.under.cookies (record { top = top; bit = bit; domain = domain })) is

absent_pairs : (d : Saved) (q : PlainKey) → finite.contains_key d.under.areas q ≡ false → pairs_at q d ≡ []
unfolding get_cell
absent_pairs d q is = absent_cell (finite.get d.under.areas q) is

-- ---- what keys and cells leave

mode_leaves : (q : PlainCell) (key : PlainKey) (b : Bool) (e : Saved) → cookies_at q (with_mode key b e) ≡ cookies_at q e
mode_leaves (OwnCell domain) key true e = refl
mode_leaves (OwnCell domain) key false e = refl
mode_leaves (PartitionCell top bit domain) key true e = refl
mode_leaves (PartitionCell top bit domain) key false e = refl

pairs_leave : (q : PlainCell) (d : Saved) (key : PlainKey) (e : Saved)
    → cookies_at q (with_pairs key (pairs_at key d) e) ≡ cookies_at q e
pairs_leave (OwnCell domain) d key e = refl
pairs_leave (PartitionCell top bit domain) d key e = refl

key_leaves : (d : Saved) (q : PlainCell) (key : PlainKey) (e : Saved) → cookies_at q (keyed d key e) ≡ cookies_at q e
key_leaves d q key e = mode_leaves q key (finite.contains_key d.under.persistent key)
    (with_pairs key (pairs_at key d) e) ∙ pairs_leave q d key e

key_grants : (d : Saved) (key : PlainKey) (e : Saved) → (keyed d key e).under.grants ≡ e.under.grants
key_grants d key e = at (finite.contains_key d.under.persistent key)
  where
    at : (b : Bool) → (with_mode key b (with_pairs key (pairs_at key d) e)).under.grants ≡ e.under.grants
    at true = refl
    at false = refl

cell_areas : (d : Saved) (cell : PlainCell) (e : Saved) → (celled d cell e).under.areas ≡ e.under.areas
cell_areas d (OwnCell domain) e = refl
cell_areas d (PartitionCell top bit domain) e = refl

cell_modes : (d : Saved) (cell : PlainCell) (e : Saved) → (celled d cell e).under.persistent ≡ e.under.persistent
cell_modes d (OwnCell domain) e = refl
cell_modes d (PartitionCell top bit domain) e = refl

cell_grants : (d : Saved) (cell : PlainCell) (e : Saved) → (celled d cell e).under.grants ≡ e.under.grants
cell_grants d (OwnCell domain) e = refl
cell_grants d (PartitionCell top bit domain) e = refl

-- ---- all of it

module _ (d : Saved) (storable : IsStorable d) where
  key_one : (key : PlainKey) (e : Saved) → IsFreeKey key e → Leads e (key_rows d key) (keyed d key e)
  key_one key e free = key_leads d key e (storable.names key) (storable.weights key) free

  cell_one : (cell : PlainCell) (e : Saved) → IsFreeCell cell e → Leads e (cell_rows d cell) (celled d cell e)
  cell_one cell e free = cell_leads d cell e (storable.cells cell) (storable.limits cell) free

  -- the state after the keys, and that after the cells
  abbrev with_keys : Saved
  with_keys = fold (λ f key. keyed d key f) nothing_saved (stored_keys d)

  abbrev with_cells : Saved
  with_cells = fold (λ f cell. celled d cell f) with_keys (stored_cells d)

  keys_free : AreFree key_order key_order_total key_order_same (key_rows d) (keyed d) IsFreeKey key_one
      (free_other d) (stored_keys d) nothing_saved
  keys_free = record {
    once = λ q. at_most_one _ _ (times_stored d q);
    free = λ q any. record { pairs = none_stored q; mode = no_mode q };
  }

  keys_lead : Leads nothing_saved (flat_map (key_rows d) (stored_keys d)) with_keys
  keys_lead = all_lead key_order key_order_total key_order_same (key_rows d) (keyed d) IsFreeKey key_one
      (free_other d) (stored_keys d) nothing_saved keys_free

  is_stored : (q : PlainKey) → list_any (eq_by_cmp key_order q) (stored_keys d)
      ≡ (finite.contains_key d.under.areas q || finite.contains_key d.under.persistent q)
  is_stored q = any_number (eq_by_cmp key_order q) (stored_keys d) _ (times_stored d q)

  key_pairs : (q : PlainKey) → pairs_at q with_keys ≡ pairs_at q d
  key_pairs q =
      all_seen key_order key_order_total key_order_same (key_rows d) (keyed d) IsFreeKey key_one (free_other d)
      pairs_at (λ key. pairs_at key d) (λ p key e free. keyed_pairs d p key e) q (stored_keys d) nothing_saved keys_free
      ∙ ap (λ b. cond b (pairs_at q d) (pairs_at q nothing_saved)) (is_stored q)
      ∙ at (finite.contains_key d.under.areas q) refl (finite.contains_key d.under.persistent q)
    where
      at : (a : Bool) → finite.contains_key d.under.areas q ≡ a → (b : Bool)
          → cond (a || b) (pairs_at q d) (pairs_at q nothing_saved) ≡ pairs_at q d
      at true is b = refl
      at false is true = refl
      at false is false = none_stored q ∙ sym (absent_pairs d q is)

  key_modes : (q : PlainKey) → finite.contains_key with_keys.under.persistent q ≡ finite.contains_key d.under.persistent q
  key_modes q =
      all_seen key_order key_order_total key_order_same (key_rows d) (keyed d) IsFreeKey key_one (free_other d)
      (λ key e. finite.contains_key e.under.persistent key)
      (λ key. finite.contains_key d.under.persistent key) (keyed_mode d) q (stored_keys d) nothing_saved keys_free
      ∙ ap (λ b. cond b (finite.contains_key d.under.persistent q)
      (finite.contains_key nothing_saved.under.persistent q)) (is_stored q)
      ∙ at (finite.contains_key d.under.areas q) (finite.contains_key d.under.persistent q)
    where
      at : (a b : Bool) → cond (a || b) b (finite.contains_key nothing_saved.under.persistent q) ≡ b
      at true b = refl
      at false true = refl
      at false false = no_mode q

  keys_leave : (q : PlainCell) → cookies_at q with_keys ≡ []
  keys_leave q = all_keep (keyed d) (cookies_at q) (key_leaves d q) (stored_keys d) nothing_saved ∙ no_cookie q

  cells_free : AreFree cell_order cell_order_total cell_order_same (cell_rows d) (celled d)
      IsFreeCell cell_one (free_cell d) (stored_cells d) with_keys
  cells_free = record {
    once = λ q. at_most_one _ _ (times_cells d q);
    free = λ q any. keys_leave q;
  }

  cells_lead : Leads with_keys (flat_map (cell_rows d) (stored_cells d)) with_cells
  cells_lead = all_lead cell_order cell_order_total cell_order_same (cell_rows d) (celled d)
      IsFreeCell cell_one (free_cell d) (stored_cells d) with_keys cells_free

  cell_cookies : (q : PlainCell) → cookies_at q with_cells ≡ cookies_at q d
  cell_cookies q =
      all_seen cell_order cell_order_total cell_order_same (cell_rows d) (celled d) IsFreeCell cell_one (free_cell d)
      cookies_at (λ cell. cookies_at cell d) (λ p cell e free. celled_cookies d p cell e) q (stored_cells d) with_keys cells_free
      ∙ ap (λ b. cond b (cookies_at q d) (cookies_at q with_keys))
      (any_number (eq_by_cmp cell_order q) (stored_cells d) _ (times_cells d q))
      ∙ at (has_cookies d q) refl
    where
      at : (b : Bool) → has_cookies d q ≡ b → cond b (cookies_at q d) (cookies_at q with_keys) ≡ cookies_at q d
      at true is = refl
      at false is = keys_leave q ∙ sym (absent_cookies d q is)

  -- each part is that of the state
  areas_again : with_cells.under.areas ≡ d.under.areas
  areas_again =
      all_keep (celled d) (λ e. e.under.areas) (cell_areas d) (stored_cells d) with_keys
      ∙ same_cells key_order key_order_total key_order_same _ _ key_pairs

  modes_again : with_cells.under.persistent ≡ d.under.persistent
  modes_again =
      all_keep (celled d) (λ e. e.under.persistent) (cell_modes d) (stored_cells d) with_keys
      ∙ same_keys _ _ key_modes

  partitions_again : with_cells.under.cookies ≡ d.under.cookies
  partitions_again = same_cells partitioned_order partitioned_order_total partitioned_order_same _ _
      (λ key. cell_cookies (partition key))

  cells_again : with_cells.cells ≡ d.cells
  cells_again = same_cells domain_order domain_order_total domain_order_same _ _ (λ domain. cell_cookies (OwnCell domain))

  none_granted : with_cells.under.grants ≡ []
  none_granted =
      all_keep (celled d) (λ e. e.under.grants) (cell_grants d) (stored_cells d) with_keys
      ∙ all_keep (keyed d) (λ e. e.under.grants) (key_grants d) (stored_keys d) nothing_saved ∙ no_grants

  again : with_grants d.under.grants with_cells ≡ d
  again = λ i. record {
    under = record {
      areas = areas_again i;
      persistent = modes_again i;
      cookies = partitions_again i;
      grants = d.under.grants;
    };
    cells = cells_again i;
  }

  -- what is listed of a state leads to it
  pub listed_leads : Leads nothing_saved (listed d) d
  listed_leads =
      let keys = flat_map (key_rows d) (stored_keys d) in
      let cells = flat_map (cell_rows d) (stored_cells d) in
      let grants = map (λ row. Grant row) d.under.grants in
      then nothing_saved (keys ++ cells) with_cells grants d
      (then nothing_saved keys with_keys cells with_cells keys_lead cells_lead)
      (to with_cells grants (with_grants d.under.grants with_cells) d
      (grants_lead [] d.under.grants with_cells none_granted storable.grants) again)

pub snapshots_mean : SnapshotsMean
unfolding body_means
snapshots_mean e d storable spelled =
    let leads = listed_leads d storable in
    ap (after_pieces nothing_saved 0) (snapshot_again (listed d) spelled ∙ sym (append-nil (row_pieces 0 (listed d))))
    ∙ rows_taken 0 (listed d) nothing_saved 0 [] leads.valid ∙ ap (λ state. Ok (state, 0)) leads.after
