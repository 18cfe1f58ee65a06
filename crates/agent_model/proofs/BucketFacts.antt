-- Buckets, worked out by hand from the rules.
use Rattle.std.proofs.Common.{◌≡◌, Bool, true, false, cond, not, refl, ap, sym, ◌∙◌, [], ◌∷◌, Option, Some, None}
use Rattle.std.proofs.lemmas.List.{nil_from_length}
use Rattle.std.specs.Prelude.{◌+◌, ◌-◌, ◌^◌, ◌&&◌, min, codes, is_some, map}
use Rattle.std.specs.Ordering.{eq_by_cmp}
use Rattle.std.specs.FinMap as finite
use Rattle.std.specs.FinMap.{entries-insert, get-empty, get-insert, len-empty, len-entries, len-insert, put}
use Rattle.unwinding.specs.FiniteCells.{Full, get_cell, set_cell}
use Rattle.origin_site.specs.Address.{PlainAddress}
use Rattle.origin_site.specs.Origin.{origin_of_address}
use Rattle.origin_site.specs.Site.{same_plain_site}
use Rattle.storage_key.specs.Key.{PlainKey, key_order}
use Rattle.storage_key.proofs.OrderLemmas.{key_order_total, key_order_same}
use Rattle.frame_tree.specs.Calls.{opened}
use Rattle.local_area.specs.Area.{Pair}
use Rattle.storage_events.specs.declared.event.AreaKind.TheVariants.{Local}
use Rattle.live_state.specs.Tabs.{made_tab}
use Rattle.script_actions.specs.declared.words.Prompt.TheVariants.{Grant, Deny, Dismiss}
use Rattle.reply_lines.specs.Reply.{Plain, Truth, Cleared}
use Rattle.agent_model.specs.Partition.{Areas, Holdings, no_holdings, area_of}
use Rattle.row_changes.specs.Change.{AreaClear, SetMode}
use Rattle.agent_model.specs.Effects.{SharedCells, no_shared_cells, answers, changes_to}
use Rattle.agent_model.specs.Changes.{clears}
use Rattle.agent_model.specs.Documents.{in_secure}
use Rattle.agent_model.specs.Buckets.{is_persistent, made_persistent, persist_by, persist, is_evicted, areas_taken, evict}
use Rattle.agent_model.proofs.KeptLemmas as kept
use Rattle.agent_model.proofs.StandardFacts.{address, site, a, b, widget, widget_key}
use Rattle.agent_model.proofs.StorageFacts.{shows_a, key_a, writer, pairs}

-- ---- persist

-- a page that is not https may not ask
abbrev plain_http : PlainAddress
plain_http = record { text = codes "http://a.test/"; https = false; ip = false; host = a; port = 80; path = codes "/" }

insecure : (cells : SharedCells) (held : Holdings) → in_secure (made_tab 1 (opened [] plain_http) None None) (persist Grant) writer cells held ≡ answers (Plain (codes "insecure")) cells held
insecure cells held = refl

-- a grant makes a bucket persistent, which is a row change; without one it stays as it is
best_effort : is_persistent key_a no_holdings ≡ false
unfolding no_holdings
best_effort = ap is_some (get-empty key_order key_a)

granted : in_secure (shows_a 1) (persist Grant) writer no_shared_cells no_holdings ≡ changes_to (SetMode key_a ∷ []) (Truth true) no_shared_cells (made_persistent key_a no_holdings)
granted = ap (λ before. persist_by before true writer no_shared_cells no_holdings) best_effort

denied : in_secure (shows_a 1) (persist Deny) writer no_shared_cells no_holdings ≡ answers (Truth false) no_shared_cells no_holdings
denied = ap (λ before. persist_by before false writer no_shared_cells no_holdings) best_effort

dismissed : in_secure (shows_a 1) (persist Dismiss) writer no_shared_cells no_holdings ≡ answers (Truth false) no_shared_cells no_holdings
dismissed = ap (λ before. persist_by before false writer no_shared_cells no_holdings) best_effort

-- a persistent one stays persistent whatever the answer
abbrev kept_a : Holdings
kept_a = made_persistent key_a no_holdings

persistent : is_persistent key_a kept_a ≡ true
persistent = ap is_some (get-insert key_order_total no_holdings.persistent key_a tt key_a)

denied_late : in_secure (shows_a 1) (persist Deny) writer no_shared_cells kept_a ≡ answers (Truth true) no_shared_cells kept_a
denied_late = ap (λ before. persist_by before false writer no_shared_cells kept_a) persistent

-- ---- evict

-- the widget's bucket under `https://a.test` is persistent. The page's own and that under
-- `https://b.test` are best-effort. Each has pairs.
abbrev filled : Areas
filled = set_cell key_order key_a pairs (set_cell key_order (widget_key a true) pairs (set_cell key_order (widget_key b true) pairs no_holdings.areas))

abbrev before : Holdings
before = made_persistent (widget_key a true) (record no_holdings { areas = filled })

mode : (key : PlainKey) → is_persistent key before ≡ eq_by_cmp key_order key (widget_key a true)
unfolding no_holdings
mode key =
    ap is_some
    (get-insert key_order_total no_holdings.persistent (widget_key a true) tt key
    ∙ ap (cond (eq_by_cmp key_order key (widget_key a true)) marked) (get-empty key_order key))
    ∙ at (eq_by_cmp key_order key (widget_key a true))
  where
    marked : Option (Unit {0})
    marked = Some tt

    at : (is : Bool) → is_some (cond is marked None) ≡ is
    at true = refl
    at false = refl

-- what is left of an area of a key under `https://a.test`
left : (key : PlainKey) → area_of Local 1 key (evict (site a) no_shared_cells before).held ≡ cond (not (same_plain_site (site a) key.top && not (is_persistent key before))) (get_cell key_order filled key) []
left key = kept.kept_cell key_order key_order_total key_order_same filled (λ k. not (is_evicted (site a) before k)) key

own_is_taken : area_of Local 1 key_a (evict (site a) no_shared_cells before).held ≡ []
own_is_taken = left key_a ∙ ap (λ is. cond (not (not is)) (get_cell key_order filled key_a) []) (mode key_a)

persistent_stays : area_of Local 1 (widget_key a true) (evict (site a) no_shared_cells before).held ≡ get_cell key_order filled (widget_key a true)
persistent_stays = left (widget_key a true) ∙ ap (λ is. cond (not (not is)) (get_cell key_order filled (widget_key a true)) []) (mode (widget_key a true))

other_stays : area_of Local 1 (widget_key b true) (evict (site a) no_shared_cells before).held ≡ get_cell key_order filled (widget_key b true)
other_stays = left (widget_key b true)

-- one area is counted
abbrev pub full : Full Pair
full = record { first = record { name = codes "k"; value = codes "v" }; rest = [] }

one_taken : areas_taken (site a) before ≡ finite.insert finite.empty key_a full
unfolding set_cell no_holdings
one_taken =
    kept.change_seen key_order key_order_total key_order_same _ taken taken key_a (Some full) (ap not (mode key_a)) (λ q apart. refl)
    ∙ ap (λ m. finite.insert m key_a full)
    (kept.change_unseen key_order key_order_total key_order_same _ taken (widget_key a true) (Some full) (ap not (mode (widget_key a true)))
    ∙ kept.change_unseen key_order key_order_total key_order_same _ taken (widget_key b true) (Some full) refl
    ∙ kept.kept_nothing key_order key_order_total key_order_same taken)
  where
    taken : PlainKey → Bool
    taken = is_evicted (site a) before

counted : (evict (site a) no_shared_cells before).body ≡ Cleared 1
counted =
    ap (λ n. Cleared (min n (2 ^ 32 - 1)))
    (ap finite.len one_taken ∙ len-insert key_order_total nothing key_a full
    ∙ ap (λ there. cond (is_some there) (finite.len nothing) (finite.len nothing + 1)) (get-empty key_order key_a)
    ∙ ap (λ n. n + 1) (len-empty key_order (Full Pair)))
  where
    nothing : Areas
    nothing = finite.empty

-- ---- the row changes of an eviction

-- the widget's key under `https://a.test`, with port 80: it stands before that of port 443 as a key,
-- and behind it as a text
abbrev key_80 : PlainKey
key_80 = record (widget_key a true) { origin = record (origin_of_address (address widget)) { port = 80 } }

abbrev two_full : Holdings
two_full = record no_holdings { areas = set_cell key_order (widget_key a true) pairs (set_cell key_order key_80 pairs no_holdings.areas) }

two_taken : areas_taken (site a) two_full ≡ finite.insert (finite.insert finite.empty key_80 full) (widget_key a true) full
unfolding set_cell no_holdings
two_taken =
    kept.change_seen key_order key_order_total key_order_same _ taken taken (widget_key a true) (Some full) (best (widget_key a true)) (λ q apart. refl)
    ∙ ap (λ m. finite.insert m (widget_key a true) full)
    (kept.change_seen key_order key_order_total key_order_same _ taken taken key_80 (Some full) (best key_80) (λ q apart. refl)
    ∙ ap (λ m. finite.insert m key_80 full) (kept.kept_nothing key_order key_order_total key_order_same taken))
  where
    taken : PlainKey → Bool
    taken = is_evicted (site a) two_full

    -- each bucket is best-effort
    best : (key : PlainKey) → (same_plain_site (site a) key.top && not (is_persistent key two_full)) ≡ same_plain_site (site a) key.top
    best key = at (same_plain_site (site a) key.top) (is_persistent key two_full) (ap is_some (get-empty key_order key))
      where
        at : (under is : Bool) → is ≡ false → (under && not is) ≡ under
        at true is none = ap not none
        at false is none = refl

-- each area is cleared, in the order of the texts
cleared : (evict (site a) no_shared_cells two_full).changes ≡ AreaClear (widget_key a true) ∷ AreaClear key_80 ∷ []
cleared =
    ap (λ m. clears (finite.keys m)) two_taken
    ∙ ap (λ entries. clears (map (λ e. e.0) entries))
    (entries-insert key_order_total (finite.insert nothing key_80 full) (widget_key a true) full
    ∙ ap (put key_order (widget_key a true) full) (entries-insert key_order_total nothing key_80 full ∙ ap (put key_order key_80 full) none))
  where
    nothing : Areas
    nothing = finite.empty

    none : finite.entries nothing ≡ []
    none = nil_from_length (finite.entries nothing) (sym (len-entries nothing) ∙ len-empty key_order (Full Pair))
