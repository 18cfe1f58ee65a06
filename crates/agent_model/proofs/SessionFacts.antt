-- Session areas, worked out by hand from the rules.
use Rattle.std.proofs.Common.{◌≡◌, ℕ, Bool, true, false, cond, not, refl, ap, sym, ◌∙◌, [], Some, None}
use Rattle.std.specs.Prelude.{◌==◌, is_some}
use Rattle.std.specs.Option.{option_or}
use Rattle.std.specs.Ordering.{nat_cmp, eq_by_cmp}
use Rattle.std.specs.FinMap as finite
use Rattle.std.specs.FinMap.{get-empty, get-insert}
use Rattle.unwinding.specs.FiniteCells.{list_of, get_cell, set_cell}
use Rattle.storage_key.specs.Key.{PlainKey}
use Rattle.storage_events.specs.declared.event.AreaKind.TheVariants.{Session}
use Rattle.agent_model.specs.Partition.{Holdings, no_holdings, is_under, session_order, tab_named, area_of, with_area}
use Rattle.agent_model.specs.Effects.{no_shared_cells}
use Rattle.agent_model.specs.SiteEvent.{Closes}
use Rattle.agent_model.specs.Sessions.{is_of_tab, has_session, close, copy_sessions}
use Rattle.agent_model.specs.Lines.{AgentWorld, no_places, timed}
use Rattle.agent_model.specs.SideEvents.{closes, where_so}
use Rattle.agent_model.proofs.KeptLemmas as kept
use Rattle.agent_model.proofs.HoldingsLemmas.{session_order_total, session_order_same}
use Rattle.agent_model.proofs.SessionLemmas.{get_copied}
use Rattle.agent_model.proofs.StandardFacts.{site, a, b, widget_key}
use Rattle.agent_model.proofs.StorageFacts.{key_a, pairs}
use Rattle.agent_model.proofs.BucketFacts.{full}

-- tab 1 has one under `https://a.test`, and one of an embedded widget under `https://b.test`
abbrev sessions_one : Holdings
sessions_one = with_area Session 1 key_a pairs (with_area Session 1 (widget_key b true) pairs no_holdings)

session : (number : ℕ) (key : PlainKey) → finite.get sessions_one.sessions (number, key)
    ≡ cond (eq_by_cmp session_order (number, key) (1, key_a)) (Some full) (cond (eq_by_cmp session_order (number, key) (1, widget_key b true)) (Some full) None)
unfolding set_cell no_holdings
session number key =
    get-insert session_order_total (finite.insert finite.empty (1, widget_key b true) full) (1, key_a) full (number, key)
    ∙ ap (cond (eq_by_cmp session_order (number, key) (1, key_a)) (Some full))
    (get-insert session_order_total finite.empty (1, widget_key b true) full (number, key)
    ∙ ap (cond (eq_by_cmp session_order (number, key) (1, widget_key b true)) (Some full)) (get-empty session_order (number, key)))

-- a tab that its page at `https://a.test` opens gets a copy of the first, and no other
copied : (key : PlainKey) → finite.get (copy_sessions (site a) 1 2 sessions_one).sessions (2, key)
    ≡ option_or (cond (is_under (site a) key) (finite.get sessions_one.sessions (1, key)) None) (finite.get sessions_one.sessions (2, key))
copied key = get_copied (site a) 1 2 sessions_one (2, key)

copied_a : area_of Session 2 key_a (copy_sessions (site a) 1 2 sessions_one) ≡ pairs
unfolding get_cell
copied_a = ap list_of (copied key_a ∙ λ i. option_or (session 1 key_a i) (session 2 key_a i))

copied_b : area_of Session 2 (widget_key b true) (copy_sessions (site a) 1 2 sessions_one) ≡ []
unfolding get_cell
copied_b = ap list_of (copied (widget_key b true) ∙ session 2 (widget_key b true))

-- a tab that is closed has none under any site, and every other tab keeps its own
left_in : (number : ℕ) (key : PlainKey) (held : Holdings) → area_of Session number key (close 1 held) ≡ cond (not (number == 1)) (area_of Session number key held) []
left_in number key held = kept.kept_cell session_order session_order_total session_order_same held.sessions (λ k. not (is_of_tab 1 k)) (number, key)

closed : (key : PlainKey) (held : Holdings) → area_of Session 1 key (close 1 held) ≡ []
closed key held = left_in 1 key held

others_keep : (key : PlainKey) (held : Holdings) → area_of Session 2 key (close 1 held) ≡ area_of Session 2 key held
others_keep key held = left_in 2 key held

-- a site that the tab is not at hears of the closing where it has a session area of the tab
abbrev world_of : Holdings → AgentWorld
world_of held = record { partition = λ s. record { site = s; held = held }; cells = no_shared_cells; rest = record { now = 7; places = no_places } }

has_one : has_session 1 sessions_one ≡ true
has_one = at (has_session 1 sessions_one) refl
  where
    at : (is : Bool) → has_session 1 sessions_one ≡ is → is ≡ true
    at true is = refl
    at false none =
        let nothing = kept.none_passes session_order session_order_total session_order_same sessions_one.sessions (is_of_tab 1) none (1, key_a) refl in
        cc (sym nothing ∙ session 1 key_a)

no_tab : tab_named 1 sessions_one ≡ None
unfolding no_holdings
no_tab = get-empty nat_cmp 1

closes_there : closes (world_of sessions_one) 1 (Some (site a)) (site b) ≡ Some (timed (world_of sessions_one) (Closes 1))
closes_there =
    ap (λ tab. where_so (cond (is_some tab) false (has_session 1 sessions_one)) (timed (world_of sessions_one) (Closes 1))) no_tab
    ∙ ap (λ has. where_so has (timed (world_of sessions_one) (Closes 1))) has_one
