-- What a line makes of a world as runs reach it, and of what is kept of it.
use Rattle.std.proofs.Common.{◌≡◌, ◌≤◌, ℕ, Bool, true, false, cond, List, [], Option, Some, None, refl, sym, arith, subst}
use Rattle.std.specs.Prelude.{option_map}
use Rattle.unwinding.specs.FiniteCells.{get_cell, restrict_cells}
use Rattle.unwinding.specs.World.{after_main, after_side, after_sides, consulted, world_step}
use Rattle.suffix_list.specs.Suffix.{Rule}
use Rattle.origin_site.specs.Site.{PlainSite, same_plain_site}
use Rattle.origin_site.proofs.SameLemmas.{same_plain_site-Decides}
use Rattle.stored_cookie.specs.StoredCookie.{PlainCookie}
use Rattle.cookie_jar.specs.Cookie.{copies}
use Rattle.script_actions.specs.Action.{PlainAction, Tick, Open, Close, Go, Evict, Act}
use Rattle.agent_model.specs.CookieCells.{Domain, domain_order}
use Rattle.agent_model.specs.Partition.{Partition}
use Rattle.agent_model.specs.Effects.{SharedCells}
use Rattle.agent_model.specs.SiteEvent.{Acts, Closes, Copies, Leaves, TimedEvent}
use Rattle.agent_model.specs.Lines.{AgentWorld, SiteOccurrence, Starter, going, main_event, occurs, opener_of, opening, site_at, timed}
use Rattle.agent_model.specs.Rest.{rest_after}
use Rattle.agent_model.specs.SideEvents.{closes, copies as copied, side_event, where_so}
use Rattle.agent_model.specs.SiteStep.{site_step}
use Rattle.agent_model.specs.TheMachine.{machine}
use Rattle.agent_model.proofs.CookieCellsLemmas.{get_merge, get_restrict}
use Rattle.durable_model.specs.Sound.{IsSoundWorld}
use Rattle.durable_model.proofs.StepLemmas.{IsFor, IsSoundAt, OutcomeFollows, step_follows, step_sound}

-- ---- events that lines have

module _ (rules : List Rule) (w : AgentWorld) where
  -- a main event, if there is one, is one that its site can have
  abbrev IsMain : Option SiteOccurrence → Type 0
  IsMain None = Unit {0}
  IsMain (Some a) = IsFor rules a.site a.event.event

  main_for : (l : PlainAction) → IsMain (main_event rules w l)
  unfolding main_event
  main_for (Tick s) = tt
  main_for (Open tab url opener noopener method head) = by (opener_of opener w.rest.places) (site_at tab w.rest.places)
    where
      by : (starter : Option Starter) (here : Option PlainSite) → IsMain (opening rules w tab url method head starter here)
      by None here = tt
      by (Some starter) None = refl
      by (Some starter) (Some here) = tt
  main_for (Close tab) = by (site_at tab w.rest.places)
    where
      by : (here : Option PlainSite) → IsMain (option_map (occurs w (Closes tab)) here)
      by None = tt
      by (Some here) = tt
  main_for (Go tab url by_page method head) = by (site_at tab w.rest.places)
    where
      by : (here : Option PlainSite) → IsMain (going rules w tab url by_page method head here)
      by None = tt
      by (Some here) = refl
  main_for (Evict site) = tt
  main_for (Act at action) = by (site_at at.tab w.rest.places)
    where
      by : (here : Option PlainSite) → IsMain (option_map (occurs w (Acts at action)) here)
      by None = tt
      by (Some here) = tt

  -- and so is an event beside it
  abbrev IsSide : PlainSite → Option TimedEvent → Type 0
  IsSide s None = Unit {0}
  IsSide s (Some e) = IsFor rules s e.event

  where_for : (s : PlainSite) (so : Bool) (e : TimedEvent) → IsFor rules s e.event → IsSide s (where_so so e)
  where_for s true e for = for
  where_for s false e for = tt

  side_for : (l : PlainAction) (s : PlainSite) → IsSide s (side_event rules w l s)
  unfolding side_event
  side_for (Tick seconds) s = tt
  side_for (Open tab url opener noopener method head) s = by opener
    where
      by : (opener : Option ℕ) → IsSide s (copied w tab opener noopener (site_at tab w.rest.places) s)
      by None = tt
      by (Some opener) = where_for s _ (timed w (Copies opener tab)) tt
  side_for (Close tab) s = by (site_at tab w.rest.places)
    where
      by : (here : Option PlainSite) → IsSide s (closes w tab here s)
      by None = tt
      by (Some here) = where_for s _ (timed w (Closes tab)) tt
  side_for (Go tab url by_page method head) s = where_for s _ (timed w (Leaves tab)) tt
  side_for (Evict site) s = tt
  side_for (Act at action) s = tt

-- ---- after the events beside the main one

module _ (rules : List Rule) (w : AgentWorld) (ok : IsSoundWorld w) where
  pub sound_at : (s : PlainSite) → IsSoundAt s (w.partition s)
  sound_at s = record { own = ok.own s; tabs = ok.tabs s; partitioned = ok.partitioned s }

  -- of some cells none has two cookies that are the same
  pub seen_once : (test : Domain → Bool) (domain : Domain) (c : PlainCookie) → copies c (get_cell domain_order (restrict_cells domain_order test w.cells) domain) ≤ 1
  seen_once test domain c = subst (λ cookies. copies c cookies ≤ 1) (sym (get_restrict test w.cells domain)) (at (test domain))
    where
      at : (b : Bool) → copies c (cond b (get_cell domain_order w.cells domain) []) ≤ 1
      at true = ok.shared domain c
      at false = omega arith

  pub beside_sound : (l : PlainAction) (s : PlainSite) → IsSoundAt s ((after_sides (machine rules) w l).partition s)
  unfolding machine
  beside_sound l s = by (side_event rules w l s) (side_for rules w l s)
    where
      by : (o : Option TimedEvent) → IsSide rules w s o → IsSoundAt s (after_side (machine rules) w.cells o (w.partition s))
      by None for = sound_at s
      by (Some e) for = step_sound rules s (restrict_cells domain_order (λ c. false) w.cells) (w.partition s) e (seen_once (λ c. false)) (sound_at s) for

  -- what the main event leads to
  pub main_follows : (l : PlainAction) (a : SiteOccurrence)
      → let q = (after_sides (machine rules) w l).partition a.site in
      OutcomeFollows rules a.site (restrict_cells domain_order (consulted (machine rules) a.site q a.event) w.cells) q a.event
  main_follows l a =
      let q = (after_sides (machine rules) w l).partition a.site in
      let test = consulted (machine rules) a.site q a.event in
      step_follows rules a.site (restrict_cells domain_order test w.cells) q a.event (seen_once test) (beside_sound l a.site)

  -- ---- after a line

  pub line_sound : (l : PlainAction) → IsSoundWorld (world_step (machine rules) w l)
  unfolding world_step machine
  line_sound l = by (main_event rules w l) (main_for rules w l)
    where
      beside : AgentWorld
      beside = after_sides (machine rules) w l

      all_sound : (v : AgentWorld) → ((s : PlainSite) → IsSoundAt s (v.partition s)) → ((domain : Domain) (c : PlainCookie) → copies c (get_cell domain_order v.cells domain) ≤ 1)
          → IsSoundWorld (record { partition = v.partition; cells = v.cells; rest = rest_after rules w l })
      all_sound v each once = record { own = λ s. (each s).own; tabs = λ s. (each s).tabs; shared = once; partitioned = λ s. (each s).partitioned }

      by : (o : Option SiteOccurrence) → IsMain rules w o
          → (let v = after_main (machine rules) beside o in IsSoundWorld (record { partition = v.partition; cells = v.cells; rest = rest_after rules w l }))
      by None for = all_sound beside (beside_sound l) ok.shared
      by (Some a) for = all_sound (after_main (machine rules) beside (Some a)) each once
        where
          q : Partition
          q = beside.partition a.site

          test : Domain → Bool
          test = consulted (machine rules) a.site q a.event

          seen : SharedCells
          seen = restrict_cells domain_order test w.cells

          at : (s : PlainSite) (b : Bool) → same_plain_site s a.site ≡ b → IsSoundAt s (cond b (site_step rules q seen a.event).partition (beside.partition s))
          at s true is =
              subst (λ t. IsSoundAt t (site_step rules q seen a.event).partition) (sym ((same_plain_site-Decides s a.site).0 is))
              (step_sound rules a.site seen q a.event (seen_once test) (beside_sound l a.site) for)
          at s false is = beside_sound l s

          each : (s : PlainSite) → IsSoundAt s ((after_main (machine rules) beside (Some a)).partition s)
          each s = at s (same_plain_site s a.site) refl

          either : (domain : Domain) (b : Bool) (c : PlainCookie) → copies c (cond b (get_cell domain_order (site_step rules q seen a.event).cells domain) (get_cell domain_order w.cells domain)) ≤ 1
          either domain true c = (main_follows l a).once.own domain c
          either domain false c = ok.shared domain c

          once : (domain : Domain) (c : PlainCookie) → copies c (get_cell domain_order (after_main (machine rules) beside (Some a)).cells domain) ≤ 1
          once domain c =
              subst (λ cookies. copies c cookies ≤ 1) (sym (get_merge test (site_step rules q seen a.event).cells w.cells domain)) (either domain (test domain) c)
