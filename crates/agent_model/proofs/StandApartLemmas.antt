-- Where no line of a run asks for storage access, each event consults the cell of its site's domain
-- at most.
use Rattle.std.proofs.Common.{◌≡◌, ℕ, Bool, true, false, cond, List, [], ◌∷◌, Option, Some, None, refl, sym, ap, subst, ◌∙◌}
use Rattle.std.specs.Prelude.{option_map}
use Rattle.std.specs.Ordering.{nat_cmp}
use Rattle.std.specs.FinMap.{get-empty}
use Rattle.unwinding.specs.World.{after_main, after_side, after_sides, outcome, world_step}
use Rattle.unwinding.specs.LeftOut.{ConsultsWithin, IsGroup}
use Rattle.suffix_list.specs.Suffix.{Rule}
use Rattle.origin_site.specs.Address.{PlainAddress}
use Rattle.origin_site.specs.Site.{PlainSite, same_plain_site, site_of_address}
use Rattle.origin_site.proofs.SameLemmas.{same_plain_site-Decides}
use Rattle.frame_tree.specs.Calls.{opened}
use Rattle.frame_tree.specs.Sandbox.{unrestricted}
use Rattle.live_state.specs.Tabs.{PlainTab, made_tab}
use Rattle.agent_base.specs.declared.refusals.Label.{Label}
use Rattle.script_actions.specs.declared.words.Method.{Method}
use Rattle.script_actions.specs.Action.{DocumentAction, HeadField, PlainAction, Tick, Open, Close, Go, Evict, Act}
use Rattle.agent_model.specs.CookieCells.{Domain}
use Rattle.agent_model.specs.Partition.{Partition, empty_partition, no_holdings, tab_named}
use Rattle.agent_model.specs.Effects.{SharedCells}
use Rattle.agent_model.specs.SiteEvent.{SiteEvent, Acts, Arrives, Leaves, Copies, Closes, Evicts, TimedEvent}
use Rattle.agent_model.specs.SiteStep.{act, close_at, site_step}
use Rattle.agent_model.specs.Consults.{names_at}
use Rattle.agent_model.specs.Lines.{AgentWorld, SiteOccurrence, Starter, going, main_event, occurs, opener_of, opening, site_at, timed}
use Rattle.agent_model.specs.SideEvents.{closes, copies, side_event, where_so}
use Rattle.agent_model.specs.TheMachine.{machine, beginning}
use Rattle.script_actions.specs.ActionFacts.{facts_of}
use Rattle.agent_model.specs.Groups.{AskNone, EachStandsApart, asks_access, group_of}
use Rattle.agent_model.proofs.EachTabLemmas.{OfEachTab, act_each, each_changed}
use Rattle.agent_model.proofs.OwnLemmas.{AreOf, none_of, others_own, within_at, within_own}
use Rattle.agent_model.proofs.TopKeptLemmas.{opened_top}
use Rattle.agent_model.proofs.UnaskedLemmas.{IsUnaskedTab, actions_own, loaded_unasked, of_frames, unasked_keeps}

module _ (rules : List Rule) where
  -- no document of any tab has storage access
  abbrev IsUnaskedWorld : AgentWorld → Type 0
  IsUnaskedWorld w = (s : PlainSite) → OfEachTab (IsUnaskedTab rules s) (w.partition s).held

  -- ---- events

  -- an event of a site that leaves it so: it is no request for storage access, and what arrives is
  -- of the site
  abbrev AsksNone : PlainSite → SiteEvent → Type 0
  AsksNone s (Acts at action) = (facts_of action).requests ≡ false
  AsksNone s (Arrives load tab url method same_site head) = site_of_address rules url ≡ s
  AsksNone s (Leaves tab) = Unit {0}
  AsksNone s (Copies from to) = Unit {0}
  AsksNone s (Closes tab) = Unit {0}
  AsksNone s Evicts = Unit {0}

  step_unasked : (s : PlainSite) (p : Partition) (cells : SharedCells) (e : TimedEvent) → AsksNone s e.event → OfEachTab (IsUnaskedTab rules s) p.held
      → OfEachTab (IsUnaskedTab rules s) (site_step rules p cells e).partition.held
  unfolding site_step
  step_unasked s p cells e none all = by e.event none
    where
      by_act : (at : Label) (action : DocumentAction) → (facts_of action).requests ≡ false → (tab : Option PlainTab) → tab_named at.tab p.held ≡ tab
          → OfEachTab (IsUnaskedTab rules s) (act rules e.moment at action tab cells p).partition.held
      by_act at action asks None found = all
      by_act at action asks (Some tab) found =
          let own : IsUnaskedTab rules s at.tab (Some tab) = subst (IsUnaskedTab rules s at.tab) found (all at.tab) in
          act_each (IsUnaskedTab rules s) (of_frames rules s) cells p.held all at tab found rules e.moment p.site action
          (unasked_keeps rules s at tab own.0 own.1 own.2 e.moment ((facts_of action).requests) asks)

      by_close : (number : ℕ) (tab : Option PlainTab) → OfEachTab (IsUnaskedTab rules s) (close_at number tab cells p).partition.held
      by_close number None = each_changed (IsUnaskedTab rules s) p.held number None tt all
      by_close number (Some tab) = each_changed (IsUnaskedTab rules s) p.held number None tt all

      by : (event : SiteEvent) → AsksNone s event → OfEachTab (IsUnaskedTab rules s) (site_step rules p cells (record { moment = e.moment; event = event })).partition.held
      by (Acts at action) asks = by_act at action asks (tab_named at.tab p.held) refl
      by (Arrives load tab url method same_site head) own =
          let top = opened_top rules url in
          each_changed (IsUnaskedTab rules s) p.held tab (Some (made_tab tab (opened rules url) None None)) (top.0, top.1 ∙ ap Some own, (loaded_unasked rules unrestricted false url, tt)) all
      by (Leaves tab) asks = each_changed (IsUnaskedTab rules s) p.held tab None tt all
      by (Copies from to) asks = all
      by (Closes tab) asks = by_close tab (tab_named tab p.held)
      by Evicts asks = all

  module _ (w : AgentWorld) where
    -- ---- events beside the main one

    so_none : (s : PlainSite) (so : Bool) (d e : TimedEvent) → AsksNone s d.event → where_so so d ≡ Some e → AsksNone s e.event
    so_none s true d e none is =
        let same : d ≡ e = cc in
        subst (λ (t : TimedEvent). AsksNone s t.event) same none
    so_none s false d e none is = absurd (cc is)

    copies_none : (s : PlainSite) (tab : ℕ) (opener : Option ℕ) (noopener : Bool) (here : Option PlainSite) (e : TimedEvent) → copies w tab opener noopener here s ≡ Some e → AsksNone s e.event
    copies_none s tab (Some opener) noopener here e is = so_none s _ (timed w (Copies opener tab)) e tt is
    copies_none s tab None noopener here e is = absurd (cc is)

    closes_none : (s : PlainSite) (tab : ℕ) (here : Option PlainSite) (e : TimedEvent) → closes w tab here s ≡ Some e → AsksNone s e.event
    closes_none s tab (Some here) e is = so_none s _ (timed w (Closes tab)) e tt is
    closes_none s tab None e is = absurd (cc is)

    side_none : (l : PlainAction) (s : PlainSite) (e : TimedEvent) → side_event rules w l s ≡ Some e → AsksNone s e.event
    unfolding side_event
    side_none (Open tab url opener noopener method head) s e is = copies_none s tab opener noopener (site_at tab w.rest.places) e is
    side_none (Go tab url by_page method head) s e is = so_none s _ (timed w (Leaves tab)) e tt is
    side_none (Close tab) s e is = closes_none s tab (site_at tab w.rest.places) e is
    side_none (Tick seconds) s e is = absurd (cc is)
    side_none (Evict named) s e is = absurd (cc is)
    side_none (Act at action) s e is = absurd (cc is)

    sides_unasked : (l : PlainAction) → IsUnaskedWorld w → IsUnaskedWorld (after_sides (machine rules) w l)
    unfolding machine
    sides_unasked l all s = by (side_event rules w l s) refl
      where
        by : (o : Option TimedEvent) → side_event rules w l s ≡ o → OfEachTab (IsUnaskedTab rules s) (after_side (machine rules) w.cells o (w.partition s)).held
        by None is = all s
        by (Some e) is = step_unasked s (w.partition s) _ e (side_none l s e is) (all s)

    -- ---- the main one

    abbrev MainAsksNone : Option SiteOccurrence → Type 0
    MainAsksNone None = Unit {0}
    MainAsksNone (Some a) = AsksNone a.site a.event.event

    open_asks : (tab : ℕ) (url : PlainAddress) (method : Method) (head : List HeadField) (starter : Option Starter) (here : Option PlainSite) → MainAsksNone (opening rules w tab url method head starter here)
    open_asks tab url method head None here = tt
    open_asks tab url method head (Some starter) None = refl
    open_asks tab url method head (Some starter) (Some here) = tt

    go_asks : (tab : ℕ) (url : PlainAddress) (by_page : Bool) (method : Method) (head : List HeadField) (here : Option PlainSite) → MainAsksNone (going rules w tab url by_page method head here)
    go_asks tab url by_page method head None = tt
    go_asks tab url by_page method head (Some here) = refl

    close_asks : (tab : ℕ) (here : Option PlainSite) → MainAsksNone (option_map (occurs w (Closes tab)) here)
    close_asks tab None = tt
    close_asks tab (Some here) = tt

    act_asks : (at : Label) (action : DocumentAction) → (facts_of action).requests ≡ false → (here : Option PlainSite) → MainAsksNone (option_map (occurs w (Acts at action)) here)
    act_asks at action none None = tt
    act_asks at action none (Some here) = none

    main_asks : (l : PlainAction) → asks_access l ≡ false → MainAsksNone (main_event rules w l)
    unfolding main_event
    main_asks (Tick seconds) none = tt
    main_asks (Open tab url opener noopener method head) none = open_asks tab url method head (opener_of opener w.rest.places) (site_at tab w.rest.places)
    main_asks (Go tab url by_page method head) none = go_asks tab url by_page method head (site_at tab w.rest.places)
    main_asks (Close tab) none = close_asks tab (site_at tab w.rest.places)
    main_asks (Evict named) none = tt
    main_asks (Act at action) none = act_asks at action none (site_at at.tab w.rest.places)

    main_unasked : (o : Option SiteOccurrence) → MainAsksNone o → IsUnaskedWorld w → IsUnaskedWorld (after_main (machine rules) w o)
    unfolding machine
    main_unasked None none all s = all s
    main_unasked (Some a) none all s = at (same_plain_site s a.site) refl
      where
        done : Partition
        done = (outcome (machine rules) a.site (w.partition a.site) w.cells a.event).partition

        own : OfEachTab (IsUnaskedTab rules a.site) done.held
        own = step_unasked a.site (w.partition a.site) _ a.event none (all a.site)

        at : (b : Bool) → same_plain_site s a.site ≡ b → OfEachTab (IsUnaskedTab rules s) (cond b done (w.partition s)).held
        at true same = subst (λ t. OfEachTab (IsUnaskedTab rules t) done.held) (sym ((same_plain_site-Decides s a.site).0 same)) own
        at false other = all s

  -- ---- lines

  step_asks_none : (w : AgentWorld) (l : PlainAction) → asks_access l ≡ false → IsUnaskedWorld w → IsUnaskedWorld (world_step (machine rules) w l)
  unfolding world_step machine
  step_asks_none w l none all s = main_unasked (after_sides (machine rules) w l) (main_event rules w l) (main_asks w l none) (sides_unasked w l all) s

  acts_own : (own : Partition) (s : PlainSite) → OfEachTab (IsUnaskedTab rules s) own.held → (at : Label) (action : DocumentAction) → AreOf s.host (names_at rules own.site at action (tab_named at.tab own.held))
  acts_own own s all at action = by (tab_named at.tab own.held) (all at.tab)
    where
      by : (tab : Option PlainTab) → IsUnaskedTab rules s at.tab tab → AreOf s.host (names_at rules own.site at action tab)
      by None is = none_of s.host
      by (Some tab) is = actions_own rules s at tab is.0 is.1 is.2 own.site action

  module _ (domains : List Domain) where
    act_within : (w : AgentWorld) (l : PlainAction) → IsUnaskedWorld w → (at : Label) (action : DocumentAction) (here : Option PlainSite)
        → ConsultsWithin (machine rules) (group_of domains) w l (option_map (occurs w (Acts at action)) here)
    act_within w l all at action None = tt
    act_within w l all at action (Some here) =
        within_at rules domains w l (occurs w (Acts at action) here) (acts_own ((after_sides (machine rules) w l).partition here) here (sides_unasked w l all here) at action)

    line_within : (w : AgentWorld) (l : PlainAction) → IsUnaskedWorld w → ConsultsWithin (machine rules) (group_of domains) w l (main_event rules w l)
    unfolding main_event
    line_within w (Act at action) all = act_within w (Act at action) all at action (site_at at.tab w.rest.places)
    line_within w (Tick seconds) all = within_own rules domains w (Tick seconds) (main_event rules w (Tick seconds)) (others_own rules w (Tick seconds) tt)
    line_within w (Open tab url opener noopener method head) all =
        let l = Open tab url opener noopener method head in
        within_own rules domains w l (main_event rules w l) (others_own rules w l tt)
    line_within w (Go tab url by_page method head) all =
        let l = Go tab url by_page method head in
        within_own rules domains w l (main_event rules w l) (others_own rules w l tt)
    line_within w (Close tab) all = within_own rules domains w (Close tab) (main_event rules w (Close tab)) (others_own rules w (Close tab) tt)
    line_within w (Evict named) all = within_own rules domains w (Evict named) (main_event rules w (Evict named)) (others_own rules w (Evict named) tt)

    lines_within : (w : AgentWorld) (lines : List PlainAction) → IsUnaskedWorld w → AskNone lines → IsGroup (machine rules) (group_of domains) w lines
    unfolding machine
    lines_within w [] all none = tt
    lines_within w (l ∷ ls) all none = (line_within w l all, lines_within (world_step (machine rules) w l) ls (step_asks_none w l none.0 all) none.1)

begins_unasked : (rules : List Rule) (start : ℕ) → IsUnaskedWorld rules (beginning start)
unfolding beginning empty_partition no_holdings
begins_unasked rules start s number = subst (IsUnaskedTab rules s number) (sym (get-empty nat_cmp number)) tt

pub each_stands_apart : EachStandsApart
each_stands_apart rules domain start lines none = lines_within rules (domain ∷ []) (beginning start) lines (begins_unasked rules start) none
