-- What a load in a new tab that the user opens makes of the world, and what it gives a site.
use Rattle.std.proofs.Common.{◌≡◌, ℕ, Bool, true, false, cond, List, [], Some, None, ap, ◌∙◌}
use Rattle.std.specs.Prelude.{bytes_eq, map}
use Rattle.std.specs.FinMap.{get-empty}
use Rattle.unwinding.specs.FiniteCells.{list_of, get_cell, set_cell, restrict_cells, merge_cells}
use Rattle.unwinding.specs.Machine.{OutcomeOf}
use Rattle.unwinding.specs.World.{after_main, after_sides, consulted, outcome, with_partition, world_step}
use Rattle.unwinding.specs.LocalEntries.{line_entries, line_touched, main_touched}
use Rattle.origin_site.specs.Address.{PlainAddress}
use Rattle.origin_site.specs.Site.{PlainSite, site_of_address}
use Rattle.script_actions.specs.declared.words.Method.TheVariants as method
use Rattle.script_actions.specs.Action.{HeadField, PlainAction, Open}
use Rattle.agent_model.specs.CookieCells.{Domain, Cookies, domain_order}
use Rattle.agent_model.specs.PartitionedCells.{PartitionedKey, partitioned_order, no_partitioned_cells}
use Rattle.agent_model.specs.Partition.{empty_partition, no_holdings}
use Rattle.agent_model.specs.Effects.{SharedCells}
use Rattle.agent_model.specs.SiteEvent.{SiteEvent, Arrives, Opens}
use Rattle.agent_model.specs.CookieUses.{top_use}
use Rattle.agent_model.specs.CookieStore.{both_marked, cookie_texts, store_texts}
use Rattle.agent_model.specs.Lines.{AgentWorld, User, main_event, occurs, opening, placed, site_at, timed}
use Rattle.agent_model.specs.SideEvents.{side_event}
use Rattle.agent_model.specs.Rest.{places_after, rest_after}
use Rattle.agent_model.specs.TheMachine.{machine}
use Rattle.agent_model.specs.Given.{entry_given, events_given, given_reaching, where_free}
use Rattle.agent_model.proofs.CookieCellsLemmas.{get_merge, get_restrict, get_set}
use Rattle.agent_model.proofs.GivenLemmas.{gives}
use Rattle.agent_model.proofs.StandardFacts.{at_seven}

-- ---- the line

abbrev pub comes : ℕ → PlainAddress → List HeadField → SiteEvent
comes tab url head = Arrives Opens tab url method.Get true head

abbrev pub opens : ℕ → PlainAddress → List HeadField → PlainAction
opens tab url head = Open tab url None false method.Get head

module _ (w : AgentWorld) (tab : ℕ) (url : PlainAddress) (head : List HeadField) where
  abbrev target : PlainSite
  target = site_of_address [] url

  abbrev happened : OutcomeOf (machine [])
  happened = outcome (machine []) target (w.partition target) w.cells (timed w (comes tab url head))

  -- the world after it
  abbrev pub after_open : AgentWorld
  after_open =
      record {
        partition = with_partition (machine []) target happened.partition w.partition;
        cells = merge_cells domain_order (consulted (machine []) target (w.partition target) (timed w (comes tab url head))) happened.cells w.cells;
        rest = record { now = w.rest.now; places = placed tab target w.rest.places };
      }

  module _ (free : site_at tab w.rest.places ≡ None) where
    pub reaches : main_event [] w (opens tab url head) ≡ Some (occurs w (comes tab url head) target)
    unfolding main_event
    reaches = ap (λ here. opening [] w tab url method.Get head (Some User) here) free

    pub open_stepped : world_step (machine []) w (opens tab url head) ≡ after_open
    unfolding world_step machine side_event rest_after
    open_stepped =
        ap
        (λ main.
        record {
          partition = (after_main (machine []) (after_sides (machine []) w (opens tab url head)) main).partition;
          cells = (after_main (machine []) (after_sides (machine []) w (opens tab url head)) main).cells;
          rest = record { now = w.rest.now; places = places_after main tab w.rest.places };
        })
        reaches

    -- what it gives a site, and which cells it leaves different for it
    module _ (s : PlainSite) (touched : List Domain) where
      pub open_gives : line_entries (machine []) s touched w (opens tab url head)
          ≡ map (entry_given [] s (w.partition s) touched w.cells) (given_reaching [] s w.rest.now Opens tab url method.Get true head)
      unfolding events_given
      open_gives =
          gives [] s touched w (opens tab url head)
          ∙ (λ i. map (entry_given [] s (w.partition s) touched w.cells) (where_free (free i) (given_reaching [] s w.rest.now Opens tab url method.Get true head)))

      pub open_touches : line_touched (machine []) s touched w (opens tab url head)
          ≡ main_touched (machine []) s touched (after_sides (machine []) w (opens tab url head)) (Some (occurs w (comes tab url head) target))
      unfolding line_touched machine
      open_touches = ap (main_touched (machine []) s touched (after_sides (machine []) w (opens tab url head))) reaches

-- ---- the cookies that it leaves

-- what a load makes of the cookies of the domain, from what both cells have
abbrev pub cookies_after : PlainSite → PlainAddress → List HeadField → Cookies → Cookies → Cookies
cookies_after s url head own partition =
    let how = top_use s url method.Get true in
    (store_texts [] 7 how (both_marked 7 how (record { own = own; partition = partition })) (cookie_texts head)).both.own

pub nothing_partitioned : (key : PartitionedKey) → get_cell partitioned_order no_holdings.cookies key ≡ []
unfolding get_cell no_holdings no_partitioned_cells
nothing_partitioned key = ap list_of (get-empty partitioned_order key)

module _ (s : PlainSite) (tab : ℕ) (url : PlainAddress) (head : List HeadField) (key : PartitionedKey) (d : Domain) (before : SharedCells) where
  -- which cells it consults where the site has nothing, and what it sees of some shared cells
  abbrev asked : Domain → Bool
  asked = consulted (machine []) s (empty_partition s) (at_seven (comes tab url head))

  abbrev seen : SharedCells
  seen = restrict_cells domain_order asked before

  -- the cookies of a domain afterwards, from those that it finds
  abbrev left : Cookies
  left = cookies_after s url head (get_cell domain_order seen d) (get_cell partitioned_order no_holdings.cookies key)

  pub left_in : bytes_eq d d ≡ true → asked d ≡ true → get_cell domain_order (merge_cells domain_order asked (set_cell domain_order d left seen) before) d ≡ cookies_after s url head (get_cell domain_order before d) []
  left_in itself asks =
      get_merge asked (set_cell domain_order d left seen) before d
      ∙ ap (λ b. cond b (get_cell domain_order (set_cell domain_order d left seen) d) (get_cell domain_order before d)) asks
      ∙ get_set d d left seen
      ∙ ap (λ b. cond b left (get_cell domain_order seen d)) itself
      ∙ λ i. cookies_after s url head ((get_restrict asked before d ∙ ap (λ b. cond b (get_cell domain_order before d) []) asks) i) (nothing_partitioned key i)
