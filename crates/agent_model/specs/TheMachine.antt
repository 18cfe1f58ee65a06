-- The machine of one site as the general law takes it, and the world in which a run begins.
-- Source: none; it fills in the general machine.
-- Our own choice: no event consults cells besides those that it names.
use Rattle.std.specs.Prelude.{◌≡◌, ℕ, false, List, [], bytes_eq}
use Rattle.unwinding.specs.Machine.{Machine}
use Rattle.unwinding.specs.FiniteCells.{get_cell, set_cell, restrict_cells, merge_cells}
use Rattle.suffix_list.specs.Suffix.{Rule}
use Rattle.origin_site.specs.Site.{PlainSite, same_plain_site}
use Rattle.row_changes.specs.Change.{PlainChange}
use Rattle.script_actions.specs.Action.{PlainAction}
use Rattle.agent_model.specs.CookieCells.{Domain, Cookies, domain_order, is_home, is_own}
use Rattle.agent_model.specs.CookieCells.{equal_cookies}
use Rattle.agent_model.specs.Partition.{Partition, empty_partition}
use Rattle.agent_model.specs.Effects.{SharedCells, no_shared_cells}
use Rattle.agent_model.specs.SiteEvent.{TimedEvent, Answer}
use Rattle.agent_model.specs.SiteStep.{site_step}
use Rattle.agent_model.specs.Consults.{event_names}
use Rattle.agent_model.specs.Lines.{Rest, AgentWorld, no_places, main_event}
use Rattle.agent_model.specs.SideEvents.{side_event}
use Rattle.agent_model.specs.Rest.{refusal, rest_after}

-- the machine under a list of rules
unfoldable pub machine : List Rule
    → Machine PlainSite Domain SharedCells Partition Cookies Rest PlainAction TimedEvent Answer
    PlainChange
machine rules =
    record {
      same_site = same_plain_site;
      same_cell = bytes_eq;
      same_content = equal_cookies;
      is_home = is_home;
      is_own = is_own;
      blank = [];
      get = get_cell domain_order;
      set = set_cell domain_order;
      restrict = restrict_cells domain_order;
      merge = merge_cells domain_order;
      listed = λ domains. domains;
      names = λ partition timed. event_names rules partition timed.event;
      sweeps = λ partition event. false;
      step = site_step rules;
      side = side_event rules;
      main = main_event rules;
      refusal = refusal;
      later = rest_after rules;
      moment = λ rest. rest.now;
    }

-- the world in which a run begins: no tab is open, and nothing is stored
unfoldable pub beginning : ℕ → AgentWorld
beginning start =
    record {
      partition = empty_partition;
      cells = no_shared_cells;
      rest = record { now = start; places = no_places };
    }

-- the partition of each site is its own, as it is from the beginning of a run on
abbrev pub IsSound : AgentWorld → Type 0
IsSound world = (site : PlainSite) → (world.partition site).site ≡ site
