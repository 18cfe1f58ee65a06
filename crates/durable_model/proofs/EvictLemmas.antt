-- What an eviction changes of what is kept. The areas that it takes may be cleared in any order.
use Rattle.std.proofs.Common.{◌≡◌, Bool, true, false, cond, not, ◌||◌, List, [], ◌∷◌, map, Option, Some, None, refl, sym, ap, arith, ◌∙◌}
use Rattle.std.specs.Prelude.{is_some, length, nat_lt}
use Rattle.std.specs.Cmp.{eq_by_cmp_equiv}
use Rattle.std.specs.List.{IsDistinct, list_all, list_any}
use Rattle.std.specs.Ordering.{eq_by_cmp}
use Rattle.std.specs.FinMap.{contains_key-keys, get, keys}
use Rattle.std.proofs.Math.Bool.{or-true}
use Rattle.std.proofs.lemmas.Bool.{and_from, and_parts, false≢true, lt-ltb, true≢false}
use Rattle.std.proofs.lemmas.List.Elements.{All-from_recursion}
use Rattle.std.proofs.lemmas.List.Folds.{list_any_none}
use Rattle.std.proofs.lemmas.Map.Keys.{IsDistinct-head, IsDistinct-tail}
use Rattle.unwinding.specs.FiniteCells.{Full, get_cell, list_of, set_cell}
use Rattle.unwinding.proofs.FiniteCellsLemmas.{get_kept, get_set, same_cells}
use Rattle.origin_site.specs.Site.{PlainSite}
use Rattle.origin_site.proofs.SameLemmas.{same_plain_site-Decides}
use Rattle.storage_key.specs.Key.{PlainKey, key_order}
use Rattle.storage_key.proofs.OrderLemmas.{key_order_total, key_order_same}
use Rattle.local_area.specs.Area.{Pair}
use Rattle.row_changes.specs.Change.{PlainChange, AreaClear}
use Rattle.agent_model.specs.Partition.{Areas, Holdings, is_under}
use Rattle.agent_model.specs.Effects.{SharedCells}
use Rattle.agent_model.specs.Changes.{by_text}
use Rattle.agent_model.specs.Buckets.{areas_left, areas_taken, evict, is_evicted, is_persistent}
use Rattle.agent_model.proofs.KeptLemmas.{kept_cell, kept_pass, tied}
use Rattle.durable_model.specs.Saved.{Saved, SiteRows, pairs_at}
use Rattle.durable_model.specs.RowEdits.{AreValid, after_change, edited}
use Rattle.durable_model.specs.Keeping.{rows_alone, rows_changed, rows_under}
use Rattle.durable_model.proofs.CellsLemmas.{set_known}
use Rattle.durable_model.proofs.RowLemmas.{AreAmong, AreUnder, rows_after}
use Rattle.durable_model.proofs.KeyOrderLemmas.{all_ordered, any_ordered, ordered_apart}
use Rattle.durable_model.proofs.ProjectLemmas.{pairs_here}
use Rattle.durable_model.proofs.FollowsLemmas.{DoneFollows, IsOnce, rows_of}

-- ---- clears

-- areas without those of some keys
abbrev cleared : List PlainKey → Areas → Areas
cleared [] areas = areas
cleared (key ∷ keys) areas = cleared keys (set_cell key_order key [] areas)

get_cleared : (keys : List PlainKey) (areas : Areas) (q : PlainKey) → get_cell key_order (cleared keys areas) q ≡ cond (list_any (eq_by_cmp key_order q) keys) [] (get_cell key_order areas q)
get_cleared [] areas q = refl
get_cleared (key ∷ keys) areas q =
    get_cleared keys (set_cell key_order key [] areas) q
    ∙ ap (cond (list_any (eq_by_cmp key_order q) keys) []) (get_set key_order key_order_total key_order_same q key [] areas)
    ∙ at (list_any (eq_by_cmp key_order q) keys) (eq_by_cmp key_order q key)
  where
    at : (later here : Bool) → cond later [] (cond here [] (get_cell key_order areas q)) ≡ cond (here || later) [] (get_cell key_order areas q)
    at true true = refl
    at true false = refl
    at false true = refl
    at false false = refl

-- the row changes that clear these areas
abbrev clear_each : List PlainKey → List PlainChange
clear_each keys = map (λ key. AreaClear key) keys

no_pairs : (pairs : List Pair) → nat_lt 0 (length pairs) ≡ false → pairs ≡ []
no_pairs [] none = refl
no_pairs (pair ∷ pairs) none = absurd (true≢false (sym (lt-ltb 0 (length (pair ∷ pairs)) (omega arith)) ∙ none))

-- an area that is cleared is empty, also where it was so before
clear_changed : (site : PlainSite) (key : PlainKey) (rows : SiteRows) → is_under site key ≡ true → rows_changed site (AreaClear key) rows ≡ record rows { areas = set_cell key_order key [] rows.areas }
clear_changed site key rows here =
    ap (λ b. cond b (after_change (rows_alone rows) (AreaClear key)).under rows) here ∙ at (nat_lt 0 (length (get_cell key_order rows.areas key))) refl
  where
    gone : SiteRows
    gone = record rows { areas = set_cell key_order key [] rows.areas }

    at : (b : Bool) → nat_lt 0 (length (get_cell key_order rows.areas key)) ≡ b → (cond b (edited (AreaClear key) (rows_alone rows)) (rows_alone rows)).under ≡ gone
    at true is = refl
    at false is =
        let empty = no_pairs (get_cell key_order rows.areas key) is in
        ap (λ areas. record rows { areas = areas }) (sym (set_known key_order key_order_total key_order_same key [] rows.areas empty))

rows_cleared : (site : PlainSite) (keys : List PlainKey) (rows : SiteRows) → list_all (is_under site) keys ≡ true → rows_after site (clear_each keys) rows ≡ record rows { areas = cleared keys rows.areas }
rows_cleared site [] rows all = refl
rows_cleared site (key ∷ keys) rows all =
    let both = and_parts (is_under site key) (list_all (is_under site) keys) all in
    ap (rows_after site (clear_each keys)) (clear_changed site key rows both.0)
    ∙ rows_cleared site keys (record rows { areas = set_cell key_order key [] rows.areas }) both.1

clears_under : (site : PlainSite) (keys : List PlainKey) → list_all (is_under site) keys ≡ true → AreUnder site (clear_each keys)
clears_under site [] all = tt
clears_under site (key ∷ keys) all =
    let both = and_parts (is_under site key) (list_all (is_under site) keys) all in
    (sym ((same_plain_site-Decides site key.top).0 both.0), clears_under site keys both.1)

clears_none : (keys : List PlainKey) → AreAmong [] (clear_each keys)
clears_none [] = tt
clears_none (key ∷ keys) = (tt, clears_none keys)

-- each area is cleared once, so that each has pairs then which had them before
clears_valid : (keys : List PlainKey) (d : Saved) → IsDistinct (eq_by_cmp key_order) keys → ((q : PlainKey) → list_any (eq_by_cmp key_order q) keys ≡ true → nat_lt 0 (length (pairs_at q d)) ≡ true)
    → AreValid d (clear_each keys)
clears_valid [] d apart full = tt
clears_valid (key ∷ keys) d apart full =
    (full key (ap (λ b. b || list_any (eq_by_cmp key_order key) keys) itself), clears_valid keys (edited (AreaClear key) d) (IsDistinct-tail (eq_by_cmp key_order) key keys apart) later)
  where
    itself : eq_by_cmp key_order key key ≡ true
    itself = (eq_by_cmp_equiv key_order_total).refl key

    none : list_any (eq_by_cmp key_order key) keys ≡ false
    none = list_any_none (eq_by_cmp key_order key) keys (All-from_recursion (λ q. eq_by_cmp key_order key q ≡ false) keys (IsDistinct-head (eq_by_cmp key_order) key keys apart))

    other : (q : PlainKey) → list_any (eq_by_cmp key_order q) keys ≡ true → (b : Bool) → eq_by_cmp key_order q key ≡ b → b ≡ false
    other q there true tie = absurd (true≢false (sym there ∙ ap (λ k. list_any (eq_by_cmp key_order k) keys) (tied key_order key_order_total key_order_same q key tie) ∙ none))
    other q there false tie = refl

    later : (q : PlainKey) → list_any (eq_by_cmp key_order q) keys ≡ true → nat_lt 0 (length (pairs_at q (edited (AreaClear key) d))) ≡ true
    later q there =
        ap (λ pairs. nat_lt 0 (length pairs))
        (get_set key_order key_order_total key_order_same q key [] d.under.areas ∙ ap (λ b. cond b [] (pairs_at q d)) (other q there (eq_by_cmp key_order q key) refl))
        ∙ full q (ap (λ b. eq_by_cmp key_order q key || b) there ∙ or-true (eq_by_cmp key_order q key))

-- ---- eviction

module _ (site : PlainSite) (held : Holdings) where
  -- the keys of the areas that are taken, in order
  abbrev taken : List PlainKey
  taken = by_text (keys (areas_taken site held))

  under_only : (keys : List PlainKey) → list_all (is_evicted site held) keys ≡ true → list_all (is_under site) keys ≡ true
  under_only [] all = refl
  under_only (key ∷ keys) all =
      let both = and_parts (is_evicted site held key) (list_all (is_evicted site held) keys) all in
      and_from (is_under site key) _ (and_parts (is_under site key) (not (is_persistent key held)) both.0).0 (under_only keys both.1)

  taken_under : list_all (is_under site) taken ≡ true
  taken_under =
      under_only taken
      (all_ordered (is_evicted site held) (keys (areas_taken site held))
      (kept_pass key_order key_order_total key_order_same held.areas (is_evicted site held)))

  -- a key is among them where it is evicted and its area has pairs
  is_taken : (q : PlainKey) → list_any (eq_by_cmp key_order q) taken ≡ is_some (cond (is_evicted site held q) (get held.areas q) None)
  is_taken q =
      any_ordered (eq_by_cmp key_order q) (keys (areas_taken site held)) ∙ sym (contains_key-keys (areas_taken site held) q)
      ∙ ap is_some (get_kept key_order key_order_same (is_evicted site held) held.areas q)

  -- without them the areas are those that are left
  areas_cleared : cleared taken held.areas ≡ areas_left site held
  unfolding get_cell
  areas_cleared =
      same_cells key_order key_order_total key_order_same _ _
      (λ q.
      get_cleared taken held.areas q ∙ ap (λ b. cond b [] (list_of (get held.areas q))) (is_taken q)
      ∙ at (is_evicted site held q) (get held.areas q)
      ∙ sym (kept_cell key_order key_order_total key_order_same held.areas (λ key. not (is_evicted site held key)) q))
    where
      at : (b : Bool) (found : Option (Full Pair)) → cond (is_some (cond b found None)) [] (list_of found) ≡ cond (not b) (list_of found) []
      at true None = refl
      at true (Some pairs) = refl
      at false None = refl
      at false (Some pairs) = refl

  -- each of these areas has pairs, in every state that has what was kept
  taken_full : (d : Saved) → rows_under site d.under ≡ rows_of held → (q : PlainKey) → list_any (eq_by_cmp key_order q) taken ≡ true → nat_lt 0 (length (pairs_at q d)) ≡ true
  unfolding get_cell
  taken_full d has q there = by (is_evicted site held q) (get held.areas q) refl refl (sym (is_taken q) ∙ there)
    where
      by : (evicted : Bool) (found : Option (Full Pair)) → is_evicted site held q ≡ evicted → get held.areas q ≡ found → is_some (cond evicted found None) ≡ true → nat_lt 0 (length (pairs_at q d)) ≡ true
      by true (Some pairs) evicted found some =
          let under = (and_parts (is_under site q) (not (is_persistent q held)) evicted).0 in
          ap (λ ps. nat_lt 0 (length ps)) (sym (pairs_here site d q under) ∙ ap (λ rows. get_cell key_order rows.areas q) has ∙ ap list_of found)
          ∙ lt-ltb 0 (length (pairs.first ∷ pairs.rest)) (omega arith)
      by true None evicted found some = absurd (false≢true some)
      by false found evicted is some = absurd (false≢true some)

  pub evict_follows : (cells : SharedCells) → IsOnce cells held.cookies → DoneFollows site [] cells (rows_of held) (evict site cells held)
  evict_follows cells once =
      record {
        under = clears_under site taken taken_under;
        among = clears_none taken;
        valid = λ d has. clears_valid taken d (ordered_apart (areas_taken site held)) (taken_full d has.0);
        cell = λ domain is. cc;
        rows = rows_cleared site taken (rows_of held) taken_under ∙ ap (λ areas. record (rows_of held) { areas = areas }) areas_cleared;
        once = once;
      }
