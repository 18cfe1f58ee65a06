-- What a line does in a world that was read.
use Rattle.std.proofs.Common.{◌≤◌, ℕ, Bool, true, false, cond, List, [], ◌∷◌, Option, Some, None, refl, sym, arith, subst}
use Rattle.std.specs.Prelude.{option_map}
use Rattle.std.specs.List.{All}
use Rattle.std.proofs.lemmas.List.Elements.{All-cons, All-head, All-nil}
use Rattle.unwinding.specs.FiniteCells.{get_cell, restrict_cells}
use Rattle.unwinding.specs.Durable.{DurableChange, durable_change, line_changes, main_changes}
use Rattle.unwinding.specs.World.{after_main, after_side, after_sides, consulted, world_step}
use Rattle.suffix_list.specs.Suffix.{Rule}
use Rattle.origin_site.specs.Site.{PlainSite, same_plain_site}
use Rattle.row_changes.specs.Change.{PlainChange}
use Rattle.row_changes.specs.Spelled.{IsSpelledUnder}
use Rattle.script_actions.specs.Action.{PlainAction, Tick, Open, Close, Go, Evict, Act}
use Rattle.agent_model.specs.CookieCells.{Domain, domain_order}
use Rattle.agent_model.specs.Partition.{Partition}
use Rattle.agent_model.specs.Effects.{SharedCells}
use Rattle.agent_model.specs.SiteEvent.{Acts, Closes, Copies, Leaves, TimedEvent}
use Rattle.agent_model.specs.Lines.{AgentWorld, SiteOccurrence, Starter, going, main_event, occurs, opener_of, opening, site_at, timed}
use Rattle.agent_base.specs.Seconds.{last_moment}
use Rattle.agent_model.specs.Rest.{rest_after}
use Rattle.agent_model.specs.SideEvents.{closes, copies as copied, side_event, where_so}
use Rattle.agent_model.specs.SiteStep.{site_step}
use Rattle.agent_model.specs.TheMachine.{machine}
use Rattle.agent_model.proofs.CookieCellsLemmas.{get_merge, get_restrict}
use Rattle.agent_model.proofs.EachTabLemmas.{OfEachTab}
use Rattle.durable_model.specs.Sound.{IsSoundWorld, IsTabOf}
use Rattle.durable_model.proofs.StepLemmas.{IsSoundAt}
use Rattle.durable_model.proofs.WorldLemmas.{beside_sound, sound_at}
use Rattle.spelled_model.specs.Addresses.{IsReadAction}
use Rattle.row_changes.specs.Appended.{HasTexts}
use Rattle.spelled_model.specs.Laws.{LinesAreSpelled, LinesStayRead}
use Rattle.spelled_model.specs.Rows.{IsReadCell}
use Rattle.spelled_model.specs.Worlds.{IsReadWorld}
use Rattle.spelled_model.proofs.CellLemmas.{either_read, none_read}
use Rattle.spelled_model.proofs.DoneLemmas.{AreReadShared, IsReadHeld}
use Rattle.spelled_model.proofs.SpellsLemmas.{Spells}
use Rattle.spelled_model.proofs.StepLemmas.{IsReadEvent, IsReadOutcome, step_read}

module _ (rules : List Rule) (w : AgentWorld) (ok : IsSoundWorld w) (read : IsReadWorld rules w) where
  -- ---- events that lines have

  -- an event that occurs at a site is one that was read, at a moment that the clock can have
  abbrev IsReadTimed : PlainSite → TimedEvent → Type 0
  IsReadTimed s e = (e.moment ≤ last_moment) × IsReadEvent rules s e.event

  abbrev IsMain : Option SiteOccurrence → Type 0
  IsMain None = Unit {0}
  IsMain (Some a) = IsReadTimed a.site a.event

  main_read : (l : PlainAction) → IsReadAction l → IsMain (main_event rules w l)
  unfolding main_event
  main_read (Tick s) is = tt
  main_read (Open tab url opener noopener method head) is = by (opener_of opener w.rest.places) (site_at tab w.rest.places)
    where
      by : (starter : Option Starter) (here : Option PlainSite) → IsMain (opening rules w tab url method head starter here)
      by None here = tt
      by (Some starter) None = (read.clock, (refl, is))
      by (Some starter) (Some here) = tt
  main_read (Close tab) is = by (site_at tab w.rest.places)
    where
      by : (here : Option PlainSite) → IsMain (option_map (occurs w (Closes tab)) here)
      by None = tt
      by (Some here) = (read.clock, tt)
  main_read (Go tab url by_page method head) is = by (site_at tab w.rest.places)
    where
      by : (here : Option PlainSite) → IsMain (going rules w tab url by_page method head here)
      by None = tt
      by (Some here) = (read.clock, (refl, is))
  main_read (Evict site) is = (read.clock, tt)
  main_read (Act at action) is = by (site_at at.tab w.rest.places)
    where
      by : (here : Option PlainSite) → IsMain (option_map (occurs w (Acts at action)) here)
      by None = tt
      by (Some here) = (read.clock, is)

  abbrev IsSide : PlainSite → Option TimedEvent → Type 0
  IsSide s None = Unit {0}
  IsSide s (Some e) = IsReadTimed s e

  where_read : (s : PlainSite) (so : Bool) (e : TimedEvent) → IsReadTimed s e → IsSide s (where_so so e)
  where_read s true e is = is
  where_read s false e is = tt

  side_read : (l : PlainAction) (s : PlainSite) → IsSide s (side_event rules w l s)
  unfolding side_event
  side_read (Tick seconds) s = tt
  side_read (Open tab url opener noopener method head) s = by opener
    where
      by : (opener : Option ℕ) → IsSide s (copied w tab opener noopener (site_at tab w.rest.places) s)
      by None = tt
      by (Some opener) = where_read s _ (timed w (Copies opener tab)) (read.clock, tt)
  side_read (Close tab) s = by (site_at tab w.rest.places)
    where
      by : (here : Option PlainSite) → IsSide s (closes w tab here s)
      by None = tt
      by (Some here) = where_read s _ (timed w (Closes tab)) (read.clock, tt)
  side_read (Go tab url by_page method head) s = where_read s _ (timed w (Leaves tab)) (read.clock, tt)
  side_read (Evict site) s = tt
  side_read (Act at action) s = tt

  -- ---- at a site

  held_read : (s : PlainSite) → IsReadHeld rules (w.partition s).held
  held_read s = record { tabs = read.tabs s; areas = read.areas s; partitioned = read.partitioned s }

  own_tabs : (s : PlainSite) (p : Partition) → IsSoundAt s p → OfEachTab (λ number. IsTabOf p.site) p.held
  own_tabs s p sound = subst (λ t. OfEachTab (λ number. IsTabOf t) p.held) (sym sound.own) sound.tabs

  -- of some cells each was read
  seen_read : (test : Domain → Bool) → AreReadShared (restrict_cells domain_order test w.cells)
  seen_read test domain = subst IsReadCell (sym (get_restrict test w.cells domain)) (either_read (test domain) (get_cell domain_order w.cells domain) [] (read.shared domain) none_read)

  beside_read : (l : PlainAction) (s : PlainSite) → IsReadHeld rules ((after_sides (machine rules) w l).partition s).held
  unfolding machine
  beside_read l s = by (side_event rules w l s) (side_read l s)
    where
      here : IsSoundAt s (w.partition s)
      here = sound_at rules w ok s

      by : (o : Option TimedEvent) → IsSide s o → IsReadHeld rules (after_side (machine rules) w.cells o (w.partition s)).held
      by None is = held_read s
      by (Some e) is =
          (step_read rules (restrict_cells domain_order (λ c. false) w.cells) (w.partition s) (seen_read (λ c. false)) (held_read s) (own_tabs s (w.partition s) here) e is.0
          (subst (λ t. IsReadEvent rules t e.event) (sym here.own) is.1)).held

  -- ---- after a line

  module _ (l : PlainAction) where
    abbrev beside : AgentWorld
    beside = after_sides (machine rules) w l

    -- the shared cells that an event sees
    abbrev seen : SiteOccurrence → SharedCells
    seen a = restrict_cells domain_order (consulted (machine rules) a.site (beside.partition a.site) a.event) w.cells

    outcome_read : (a : SiteOccurrence) → IsReadTimed a.site a.event → IsReadOutcome rules (site_step rules (beside.partition a.site) (seen a) a.event)
    outcome_read a is =
        let sound = beside_sound rules w ok l a.site in
        step_read rules (seen a) (beside.partition a.site) (seen_read _) (beside_read l a.site) (own_tabs a.site (beside.partition a.site) sound) a.event is.0
        (subst (λ t. IsReadEvent rules t a.event.event) (sym sound.own) is.1)

    clock_short : (rest_after rules w l).now ≤ last_moment
    unfolding rest_after
    clock_short = by l
      where
        by : (line : PlainAction) → (rest_after rules w line).now ≤ last_moment
        by (Tick s) = omega arith
        by (Open tab url opener noopener method head) = read.clock
        by (Close tab) = read.clock
        by (Go tab url by_page method head) = read.clock
        by (Evict site) = read.clock
        by (Act at action) = read.clock

    all_read : (v : AgentWorld) → ((s : PlainSite) → IsReadHeld rules (v.partition s).held) → AreReadShared v.cells
        → IsReadWorld rules (record { partition = v.partition; cells = v.cells; rest = rest_after rules w l })
    all_read v each shared = record { clock = clock_short; tabs = λ s. (each s).tabs; areas = λ s. (each s).areas; shared = shared; partitioned = λ s. (each s).partitioned }

    line_read : IsReadAction l → IsReadWorld rules (world_step (machine rules) w l)
    unfolding world_step machine
    line_read is_read = by (main_event rules w l) (main_read l is_read)
      where
        by : (o : Option SiteOccurrence) → IsMain o
            → (let v = after_main (machine rules) beside o in IsReadWorld rules (record { partition = v.partition; cells = v.cells; rest = rest_after rules w l }))
        by None is = all_read beside (beside_read l) read.shared
        by (Some a) is = all_read (after_main (machine rules) beside (Some a)) each shared
          where
            test : Domain → Bool
            test = consulted (machine rules) a.site (beside.partition a.site) a.event

            at : (s : PlainSite) (b : Bool) → IsReadHeld rules (cond b (site_step rules (beside.partition a.site) (seen a) a.event).partition (beside.partition s)).held
            at s true = (outcome_read a is).held
            at s false = beside_read l s

            each : (s : PlainSite) → IsReadHeld rules ((after_main (machine rules) beside (Some a)).partition s).held
            each s = at s (same_plain_site s a.site)

            shared : AreReadShared (after_main (machine rules) beside (Some a)).cells
            shared domain =
                subst IsReadCell (sym (get_merge test (site_step rules (beside.partition a.site) (seen a) a.event).cells w.cells domain))
                (either_read (test domain) (get_cell domain_order (site_step rules (beside.partition a.site) (seen a) a.event).cells domain) (get_cell domain_order w.cells domain)
                ((outcome_read a is).shared domain) (read.shared domain))

    -- ---- row changes

    one_spelled : (s : PlainSite) (changes : List PlainChange) → All (Spells rules) changes → All (λ one. All HasTexts one.changes) (durable_change (machine rules) s changes)
        → All (λ one. All (IsSpelledUnder rules) one.changes) (durable_change (machine rules) s changes)
    one_spelled s [] spells texts = All-nil (λ one. All (IsSpelledUnder rules) one.changes)
    one_spelled s (c ∷ cs) spells texts =
        let one : DurableChange PlainSite PlainChange = record { site = s; changes = c ∷ cs } in
        let are : All HasTexts (c ∷ cs) = All-head (λ (o : DurableChange PlainSite PlainChange). All HasTexts o.changes) one [] texts in
        All-cons (λ (o : DurableChange PlainSite PlainChange). All (IsSpelledUnder rules) o.changes) one [] (λ k d low. spells k d low (are k d low)) (All-nil (λ (o : DurableChange PlainSite PlainChange). All (IsSpelledUnder rules) o.changes))

    line_spelled : IsReadAction l → All (λ one. All HasTexts one.changes) (line_changes (machine rules) w l) → All (λ one. All (IsSpelledUnder rules) one.changes) (line_changes (machine rules) w l)
    unfolding line_changes machine
    line_spelled is_read texts = by (main_event rules w l) (main_read l is_read) texts
      where
        by : (o : Option SiteOccurrence) → IsMain o → All (λ one. All HasTexts one.changes) (main_changes (machine rules) beside o)
            → All (λ one. All (IsSpelledUnder rules) one.changes) (main_changes (machine rules) beside o)
        by None is texts = All-nil (λ one. All (IsSpelledUnder rules) one.changes)
        by (Some a) is texts = one_spelled a.site _ (outcome_read a is).spells texts

pub lines_are_spelled : LinesAreSpelled
lines_are_spelled rules world line ok read is texts = line_spelled rules world ok read line is texts

pub lines_stay_read : LinesStayRead
lines_stay_read rules world line ok read is = line_read rules world ok read line is
