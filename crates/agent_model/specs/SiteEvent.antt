-- What happens at a site, and what the machine of a site gives for it.
-- Source: none; these are the words of the machine.
-- Our own choice: an event carries its moment, and a reply has no site: the site of the machine is
-- its site.
use Rattle.std.specs.Prelude.{ℕ, Bool, List, [], Some, None}
use Rattle.agent_base.specs.declared.refusals.Label.{Label}
use Rattle.unwinding.specs.Machine.{Outcome}
use Rattle.origin_site.specs.Address.{PlainAddress}
use Rattle.script_actions.specs.declared.words.Method.{Method}
use Rattle.script_actions.specs.Action.{DocumentAction, HeadField}
use Rattle.row_changes.specs.Change.{PlainChange}
use Rattle.reply_lines.specs.Reply.{PlainBody}
use Rattle.agent_model.specs.Partition.{Holdings, Partition}
use Rattle.agent_model.specs.Effects.{SharedCells, Done}

-- a load of a top document: a tab that is opened, or one that goes to an address
pub data TopLoad : Type 0 where
  Opens : TopLoad
  Goes : TopLoad

-- what happens at a site: a document of one of its tabs acts, a tab reaches it, leaves it for
-- another site, gets copies of another tab's session areas, or is closed; or its storage is evicted
pub data SiteEvent : Type 0 where
  Acts : (at : Label) (action : DocumentAction) → SiteEvent
  Arrives : (load : TopLoad) (tab : ℕ) (url : PlainAddress) (method : Method) (same_site : Bool)
      (head : List HeadField) → SiteEvent
  Leaves : (tab : ℕ) → SiteEvent
  Copies : (from to : ℕ) → SiteEvent
  Closes : (tab : ℕ) → SiteEvent
  Evicts : SiteEvent

-- an event and its moment: the clock before its line, in seconds since 1970
pub record TimedEvent : Type 0 where
  pub moment : ℕ
  pub event : SiteEvent

-- a reply without its site: the action's name, and what is answered
pub record Answer : Type 0 where
  pub name : List ℕ
  pub body : PlainBody

-- what an event gives
abbrev pub SiteOutcome : Type 0
SiteOutcome = Outcome SharedCells Partition Answer PlainChange

-- what an action did at a site, and the reply to a line of this name
abbrev pub replied : Partition → List ℕ → Done → SiteOutcome
replied partition name done =
    record {
      partition = record partition { held = done.held };
      cells = done.cells;
      reply = Some (record { name = name; body = done.body });
      changes = done.changes;
    }

-- a site with other holdings. There is no reply, and no change of durable state.
abbrev pub silent : Partition → SharedCells → Holdings → SiteOutcome
silent partition cells held =
    record {
      partition = record partition { held = held };
      cells = cells;
      reply = None;
      changes = [];
    }
