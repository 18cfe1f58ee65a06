-- What the two truth values of a line tell its caller.
-- Source: none; these are the words of the general local script.
use Rattle.std.specs.Prelude.{◌≡◌, Bool, not, ◌&&◌, ◌||◌, List, [], bytes_eq, if◌then◌else◌}
use Rattle.unwinding.specs.Durable.{changes_of_site, line_changes}
use Rattle.unwinding.specs.FiniteCells.{get_cell}
use Rattle.unwinding.specs.LocalEntries.{line_touched}
use Rattle.unwinding.specs.World.{is_in, world_step}
use Rattle.suffix_list.specs.Suffix.{Rule}
use Rattle.origin_site.specs.Site.{PlainSite}
use Rattle.script_actions.specs.Action.{PlainAction}
use Rattle.agent_model.specs.CookieCells.{Domain, domain_order, equal_cookies}
use Rattle.agent_model.specs.Lines.{AgentWorld}
use Rattle.agent_model.specs.TheMachine.{machine}
use Rattle.local_scripts.specs.Seen.{IsGivenIn}
use Rattle.local_scripts.specs.declared.seen_line.SeenLine.{SeenLine}

-- the cookies of the site's domain are the same in both worlds
abbrev pub are_same : PlainSite → (before after : AgentWorld) → Bool
are_same site before after =
    equal_cookies (get_cell domain_order before.cells site.host)
    (get_cell domain_order after.cells site.host)

-- After a line, events of other sites have left the cookies of the site's domain different where
-- they had before, or where the line asks for these cookies at another site and changes them.
abbrev pub Touches : Type 0
Touches = (rules : List Rule) (site : PlainSite) (others : List Domain) (world : AgentWorld)
    (action : PlainAction) (seen : SeenLine) → IsGivenIn rules site others world action seen
    → is_in bytes_eq site.host (line_touched (machine rules) site others world action)
    ≡ (is_in bytes_eq site.host others
    || (seen.asks && not (are_same site world (world_step (machine rules) world action))))

-- The durable change of a line, if it has one, is the site's where the main event is of the site.
abbrev pub Changes : Type 0
Changes = (rules : List Rule) (site : PlainSite) (others : List Domain) (world : AgentWorld)
    (action : PlainAction) (seen : SeenLine) → IsGivenIn rules site others world action seen
    → let made = line_changes (machine rules) world action in
    changes_of_site (machine rules) site made ≡ (if seen.of_site then made else [])
