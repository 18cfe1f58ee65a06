-- What a line gives a site, from what an agent has at present.
-- Source: none; the entries are those of the general local script.
-- Our own choice: of the domains whose cookies events of other sites have left different a site is
-- asked for its own alone, since the cookies of no other are home to it. So one truth value tells
-- of them.
use Rattle.std.specs.Prelude.{◌≡◌, Bool, false, not, ◌&&◌, List, map, bytes_eq, Option, Some, None}
use Rattle.unwinding.specs.LocalEntries.{line_entries}
use Rattle.unwinding.specs.World.{after_sides, is_in}
use Rattle.suffix_list.specs.Suffix.{Rule}
use Rattle.origin_site.specs.Site.{PlainSite, same_plain_site}
use Rattle.script_actions.specs.Action.{PlainAction}
use Rattle.agent_model.specs.Consults.{event_names}
use Rattle.agent_model.specs.CookieCells.{Domain}
use Rattle.agent_model.specs.Lines.{AgentWorld, SiteOccurrence, main_event}
use Rattle.agent_model.specs.TheMachine.{machine}
use Rattle.local_scripts.specs.Items.{entry_of}
use Rattle.local_scripts.specs.Events.{HasAreas}
use Rattle.local_scripts.specs.Present.{PlainPresent, StandsForWorld}
use Rattle.local_scripts.specs.declared.seen_line.SeenLine.{SeenLine}

-- whether events of other sites have left the cookies of the site's domain different
abbrev pub IsTouched : PlainSite → List Domain → Bool → Type 0
IsTouched site others touched = is_in bytes_eq site.host others ≡ touched

-- a main event is of the site
abbrev pub is_of_site : PlainSite → Option SiteOccurrence → Bool
is_of_site site None = false
is_of_site site (Some main) = same_plain_site site main.site

-- a main event is of another site, and consults the unpartitioned cookies of the site's domain
abbrev pub is_asking : List Rule → PlainSite → AgentWorld → Option SiteOccurrence → Bool
is_asking rules site world None = false
is_asking rules site world (Some main) =
    let named = event_names rules (world.partition main.site) main.event.event in
    not (same_plain_site site main.site) && is_in bytes_eq site.host named

-- what a line gives a site in a world, where events of other sites have left the cookies of these
-- domains different
pub record IsGivenIn (rules : List Rule) (site : PlainSite) (others : List Domain)
    (world : AgentWorld) (action : PlainAction) (seen : SeenLine) : Type 0 where
  pub entries : map entry_of seen.entries.items
      ≡ line_entries (machine rules) site others world action
  pub asks : seen.asks
      ≡ is_asking rules site (after_sides (machine rules) world action)
      (main_event rules world action)
  pub of_site : seen.of_site ≡ is_of_site site (main_event rules world action)

-- the same, by whether events of other sites have left the cookies of the site's domain different
abbrev pub IsGivenAt : List Rule → PlainSite → (touched : Bool) → AgentWorld → PlainAction
    → SeenLine → Type 0
IsGivenAt rules site touched world action seen =
    (others : List Domain) → IsTouched site others touched
    → IsGivenIn rules site others world action seen

-- what it gives the site in each world that an agent may stand for
abbrev pub IsGiven : PlainPresent → PlainAction → PlainSite → (touched areas : Bool) → SeenLine
    → Type 0
IsGiven present action site touched areas seen =
    (world : AgentWorld) → StandsForWorld present world → HasAreas action site world areas
    → IsGivenAt present.rules site touched world action seen
