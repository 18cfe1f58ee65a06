-- What an action of a widget makes of the world, and what it gives two sites, whatever the other sites
-- have. The widget, of `https://w.test`, is in frame 1 of tab 1 at `https://a.test`. Tab 9 is at
-- `https://w.test`.
use Rattle.std.proofs.Common.{◌≡◌, Bool, true, false, cond, ◌||◌, List, [], ◌∷◌, Option, Some, refl, ap, ◌∙◌}
use Rattle.std.specs.Cmp.{nat_cmp_total}
use Rattle.std.specs.FinMap.{get-insert}
use Rattle.std.specs.Prelude.{bytes_eq, filter, map, option_map}
use Rattle.unwinding.specs.FiniteCells.{get_cell, merge_cells, restrict_cells}
use Rattle.unwinding.specs.World.{after_main, after_sides, is_in, world_step}
use Rattle.unwinding.specs.LocalEntries.{HeldCell, changed_cells, line_entries, line_touched, main_touched}
use Rattle.origin_site.specs.Site.{PlainSite, same_plain_site}
use Rattle.storage_key.specs.Context.{is_of}
use Rattle.live_state.specs.Tabs.{PlainTab}
use Rattle.script_actions.specs.Action.{DocumentAction, PlainAction, Act}
use Rattle.agent_model.specs.CookieCells.{Domain, Cookies, domain_order}
use Rattle.agent_model.specs.Partition.{Holdings, Partition, tab_named}
use Rattle.agent_model.specs.Effects.{SharedCells}
use Rattle.agent_model.specs.SiteEvent.{SiteEvent, Acts, SiteOutcome}
use Rattle.agent_model.specs.SiteStep.{act, site_step}
use Rattle.agent_model.specs.Consults.{names_at}
use Rattle.agent_model.specs.Lines.{AgentWorld, Places, main_event, no_places, occurs, placed, site_at}
use Rattle.agent_model.specs.SideEvents.{side_event}
use Rattle.agent_model.specs.Rest.{rest_after}
use Rattle.agent_model.specs.TheMachine.{machine}
use Rattle.agent_model.specs.Given.{SiteEntry, entry_given, events_given, given, is_unknown}
use Rattle.agent_model.proofs.GivenLemmas.{gives}
use Rattle.agent_model.proofs.StandardFacts.{at_frame, at_seven, site, widget, a}

-- ---- the world

abbrev pub places : Places
places = placed 1 (site a) (placed 9 (site widget) no_places)

one_is_at_a : site_at 1 places ≡ Some (site a)
one_is_at_a = get-insert nat_cmp_total (placed 9 (site widget) no_places) 1 (site a) 1

pub nine_is_at_w : site_at 9 places ≡ Some (site widget)
nine_is_at_w = get-insert nat_cmp_total (placed 9 (site widget) no_places) 1 (site a) 9 ∙ get-insert nat_cmp_total no_places 9 (site widget) 9

-- ---- entries

abbrev pub entry : SiteEvent → List (HeldCell Domain Cookies) → SiteEntry
entry event held = record { event = at_seven event; held = held }

-- an entry with the cells that are consulted and unknown
abbrev pub entry_of : PlainSite → List Domain → SharedCells → SiteEvent → List Domain → SiteEntry
entry_of s touched cells event names = entry event (map (λ domain. record { cell = domain; content = get_cell domain_order cells domain }) (filter (is_unknown s touched) names))

-- ---- an action of the widget

abbrev pub acts : DocumentAction → SiteEvent
acts action = Acts (at_frame 1 1) action

abbrev pub line : DocumentAction → PlainAction
line action = Act (at_frame 1 1) action

-- the cells that it consults, by the tab that is there
abbrev pub names_by : DocumentAction → Option PlainTab → List Domain
names_by action tab = names_at [] (site a) (at_frame 1 1) action tab

abbrev pub asks : DocumentAction → Option PlainTab → Domain → Bool
asks action tab c = is_in bytes_eq c (names_by action tab) || false

module _ (others : PlainSite → Partition) where
  -- the world where `https://a.test` has this
  abbrev pub world : SharedCells → Holdings → AgentWorld
  world cells held =
      record {
        partition = λ s. cond (same_plain_site s (site a)) (record { site = site a; held = held }) (others s);
        cells = cells;
        rest = record { now = 7; places = places };
      }

  module _ (cells : SharedCells) (held : Holdings) (action : DocumentAction) where
    abbrev before : AgentWorld
    before = world cells held

    -- what is done, and the shared cells afterwards, by the tab that is there
    abbrev pub done_by : Option PlainTab → SiteOutcome
    done_by tab = act [] 7 (at_frame 1 1) action tab (restrict_cells domain_order (asks action tab) cells) (record { site = site a; held = held })

    abbrev pub cells_by : Option PlainTab → SharedCells
    cells_by tab = merge_cells domain_order (asks action tab) (done_by tab).cells cells

    -- it happens at `https://a.test`
    pub happens : main_event [] before (line action) ≡ Some (occurs before (acts action) (site a))
    unfolding main_event
    happens = ap (option_map (occurs before (acts action))) one_is_at_a

    module _ (tab : PlainTab) (found : tab_named 1 held ≡ Some tab) where
      pub stepped : world_step (machine []) before (line action) ≡ world (cells_by (Some tab)) (done_by (Some tab)).partition.held
      unfolding world_step machine site_step side_event rest_after
      stepped =
          ap
          (λ main.
          record {
            partition = (after_main (machine []) (after_sides (machine []) before (line action)) main).partition;
            cells = (after_main (machine []) (after_sides (machine []) before (line action)) main).cells;
            rest = before.rest;
          })
          happens
          ∙ (λ i. record { partition = λ s. cond (same_plain_site s (site a)) (done_by (found i)).partition (before.partition s); cells = cells_by (found i); rest = before.rest })
          ∙ (λ i. record { partition = λ s. twice (same_plain_site s (site a)) s i; cells = cells_by (Some tab); rest = before.rest })
        where
          twice : (b : Bool) (s : PlainSite)
              → cond b (done_by (Some tab)).partition (cond b (record { site = site a; held = held }) (others s))
              ≡ cond b (record { site = site a; held = (done_by (Some tab)).partition.held }) (others s)
          twice true s = refl
          twice false s = refl

      -- what it gives `https://a.test`, and that it gives `https://w.test` nothing
      pub gives_a : (touched : List Domain) → line_entries (machine []) (site a) touched before (line action) ≡ entry_of (site a) touched cells (acts action) (names_by action (Some tab)) ∷ []
      unfolding events_given machine
      gives_a touched =
          gives [] (site a) touched before (line action)
          ∙ (λ i. map (entry_given [] (site a) (before.partition (site a)) touched cells) (given (is_of (site a) (one_is_at_a i)) 7 (acts action)))
          ∙ ap (λ t. entry_of (site a) touched cells (acts action) (names_by action t) ∷ []) found

      pub gives_w : (touched : List Domain) → line_entries (machine []) (site widget) touched before (line action) ≡ []
      unfolding events_given machine
      gives_w touched =
          gives [] (site widget) touched before (line action)
          ∙ (λ i. map (entry_given [] (site widget) (before.partition (site widget)) touched cells) (given (is_of (site widget) (one_is_at_a i)) 7 (acts action)))

      -- what it leaves different for either
      pub touched_a : (touched : List Domain) → line_touched (machine []) (site a) touched before (line action) ≡ touched
      unfolding machine line_touched
      touched_a touched = ap (main_touched (machine []) (site a) touched (after_sides (machine []) before (line action))) happens

      pub touched_w : line_touched (machine []) (site widget) [] before (line action) ≡ changed_cells (machine []) cells (cells_by (Some tab)) (names_by action (Some tab))
      unfolding machine line_touched site_step side_event
      touched_w =
          ap (main_touched (machine []) (site widget) [] (after_sides (machine []) before (line action))) happens
          ∙ ap (λ t. changed_cells (machine []) cells (cells_by t) (names_by action t)) found
