-- The promise over a store: runs with restarts and lost changes.
-- Source: none; these are the words of the promise.
-- Our own choice: the replies to a restart and to a line that met a device fault are of no site.
use Rattle.std.specs.Prelude.{◌≡◌, ℕ, List, None}
use Rattle.unwinding.specs.World.{SiteReply}
use Rattle.unwinding.specs.Durable.{restarted}
use Rattle.unwinding.specs.Epochs.{Opening}
use Rattle.unwinding.specs.LocalScript.{LocalScript}
use Rattle.unwinding.specs.LocalScript as general
use Rattle.unwinding.specs.SiteRun as general_run
use Rattle.unwinding.specs.Transcript as general_text
use Rattle.unwinding.specs.Admissible.{Step, History, history_epochs}
use Rattle.suffix_list.specs.Suffix.{Rule}
use Rattle.origin_site.specs.Site.{PlainSite}
use Rattle.script_actions.specs.Action.{PlainAction}
use Rattle.agent_model.specs.CookieCells.{CookieCells, Cookies, Domain}
use Rattle.agent_model.specs.SiteEvent.{Answer, TimedEvent}
use Rattle.agent_model.specs.Lines.{AgentWorld, Rest, no_places}
use Rattle.agent_model.specs.TheMachine.{machine}
use Rattle.agent_model.specs.Isolation.{lines_alone, lines_of_site}
use Rattle.durable_model.specs.Saved.{IsValid, Saved, SiteRows}
use Rattle.durable_model.specs.Keeping.{AgentDurable, durable_of, keeping}

-- a reply, and the site that it belongs to
abbrev pub AgentReply : Type 0
AgentReply = SiteReply PlainSite Answer

-- where an epoch begins: the clock and the places of tabs before it, and a durable state
abbrev pub AgentOpening : Type 0
AgentOpening = Opening Rest AgentDurable

-- a run begins at this moment with a durable state
abbrev pub opened_at : ℕ → Saved → AgentOpening
opened_at start d =
    record { rest = record { now = start; places = no_places }; state = durable_of d }

-- the world that a restart opens at this moment with a durable state
abbrev pub reopened_world : ℕ → Saved → AgentWorld
reopened_world now d = restarted keeping (record { now = now; places = no_places }) (durable_of d)

-- what a history gives a site: the list of rules, what is kept of the site at the opening, its
-- events with their moments, and its restarts with its own counts; and no more
pub record SiteHistory : Type 0 where
  pub rules : List Rule
  pub script : LocalScript Domain Cookies TimedEvent SiteRows CookieCells

-- the local script of a site
unfoldable pub history_script : List Rule → PlainSite → AgentOpening → History PlainAction
    → SiteHistory
history_script rules site opening history =
    record {
      rules = rules;
      script = general.local_script (machine rules) keeping site opening (history_epochs history);
    }

-- the answers of the site's own machine, which is given a local script
unfoldable pub history_run : PlainSite → SiteHistory → List Answer
history_run site given = general_run.site_run (machine given.rules) keeping site given.script

-- the replies that are printed of a history, each with its site
unfoldable pub history_replies : List Rule → (restart : ℕ → AgentReply)
    → (down : Step PlainAction → AgentReply) → AgentOpening → History PlainAction
    → List AgentReply
history_replies rules restart down opening history =
    general_text.transcript (machine rules) keeping restart down opening history

-- the printed lines of each site are the text of what its own machine answers
abbrev pub HasIsolatedHistories : Type 0
HasIsolatedHistories =
    (rules : List Rule) (restart : ℕ → AgentReply) (down : Step PlainAction → AgentReply)
    → ((kept : ℕ) → (restart kept).site ≡ None)
    → ((step : Step PlainAction) → (down step).site ≡ None)
    → (site : PlainSite) (start : ℕ) (d : Saved) → IsValid d → (history : History PlainAction)
    → lines_of_site site (history_replies rules restart down (opened_at start d) history)
    ≡ lines_alone site
    (history_run site (history_script rules site (opened_at start d) history))
