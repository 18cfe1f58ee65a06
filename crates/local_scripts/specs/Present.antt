-- What an agent has at present, as contracts see it, and the worlds that it stands for.
-- Source: none; it says how contracts see a type of this crate.
-- Our own choice: of a world it tells what the events of a line and the cookies that they consult
-- are read off. Storage and permissions are left out.
use Rattle.std.specs.Prelude.{◌≡◌, ℕ, List}
use Rattle.suffix_list.specs.Suffix.{Rule}
use Rattle.live_state.specs.Tabs.{PlainTab}
use Rattle.agent_model.specs.Lines.{AgentWorld}
use Rattle.web_cookies.specs.Stored.{Entries, shared_in}
use Rattle.local_scripts.specs.Events.{ShowsTabs}
use Rattle.local_scripts.specs.declared.present.Present.{Present}

-- the rules of the list, the clock, the open tabs, and the cookies of all sites
pub record PlainPresent : Type 0 where
  pub rules : List Rule
  pub now : ℕ
  pub tabs : List PlainTab
  pub cookies : Entries

-- what is borrowed
abbrev pub plain_present : Present → PlainPresent
plain_present present =
    record {
      rules = present.list.now.rules;
      now = present.now;
      tabs = present.live.now.tabs;
      cookies = present.cookies.now;
    }

-- the clock, the open tabs and the unpartitioned cookies are those of this world
pub record StandsForWorld (present : PlainPresent) (world : AgentWorld) : Type 0 where
  pub moment : world.rest.now ≡ present.now
  pub tabs_shown : ShowsTabs present.tabs world
  pub cells : world.cells ≡ shared_in present.cookies
