-- What a line makes of the clock and of where each tab is, and the answer to a line without event.
-- Source: none.
-- Our own choice: the clock stands still at the last second of the year 9999.
use Rattle.std.specs.Prelude.{ℕ, ◌+◌, min, pos, List, Option, Some, None, codes}
use Rattle.std.specs.FinMap as map
use Rattle.agent_base.specs.Seconds.{last_moment}
use Rattle.suffix_list.specs.Suffix.{Rule}
use Rattle.script_actions.specs.Action.{PlainAction, Tick, Open, Close, Go, Evict, Act}
use Rattle.reply_lines.specs.Reply.{PlainBody, Plain, Now}
use Rattle.agent_model.specs.SiteEvent.{Answer}
use Rattle.script_actions.specs.ActionNames.{action_name}
use Rattle.agent_model.specs.Lines.{AgentWorld, Places, Rest, Starter, SiteOccurrence}
use Rattle.agent_model.specs.Lines.{main_event, opener_of, placed}

-- the clock after so many seconds
abbrev pub clock_after : ℕ → ℕ → ℕ
clock_after now s = min (now + s) last_moment

-- why an `open` is refused: its opener is not open, or its number is taken
abbrev pub open_refusal : Option Starter → PlainBody
open_refusal None = Plain (codes "no-tab")
open_refusal (Some starter) = Plain (codes "tab-exists")

-- the answer to a line that has no event. An eviction has one, so that its answer is never given.
unfoldable pub refusal : AgentWorld → PlainAction → Answer
refusal world action = record { name = action_name action; body = of action }
  where
    of : PlainAction → PlainBody
    of (Tick s) = Now (pos (clock_after world.rest.now s))
    of (Open tab url opener noopener method head) =
        open_refusal (opener_of opener world.rest.places)
    of (Close tab) = Plain (codes "no-tab")
    of (Go tab url by_page method head) = Plain (codes "no-tab")
    of (Evict site) = Plain (codes "no-tab")
    of (Act at acted) = Plain (codes "no-tab")

-- the places after a load of a top document, where it happens
abbrev pub places_after : Option SiteOccurrence → ℕ → Places → Places
places_after None tab places = places
places_after (Some arrival) tab places = placed tab arrival.site places

-- the clock and the places after a line
unfoldable pub rest_after : List Rule → AgentWorld → PlainAction → Rest
rest_after rules world action = of action
  where
    places : Places
    places = world.rest.places

    at : Places → Rest
    at after = record { now = world.rest.now; places = after }

    of : PlainAction → Rest
    of (Tick s) = record { now = clock_after world.rest.now s; places = places }
    of (Open tab url opener noopener method head) =
        at (places_after (main_event rules world action) tab places)
    of (Go tab url by_page method head) =
        at (places_after (main_event rules world action) tab places)
    of (Close tab) = at (map.remove places tab)
    of (Evict site) = world.rest
    of (Act at acted) = world.rest
