-- An agent over a disk, as contracts see it, and what a restart of it may find.
-- Source: none.
-- Our own choice: the agent keeps no durable state beside what it has in memory. What its store
-- stands for is what memory had before the lines of the open batch.
use Rattle.std.specs.Prelude.{◌≡◌, ℕ, ◌+◌, ◌-◌, ◌%◌, ◌^◌, ◌==◌, nat_le, Bool, true, false, not}
use Rattle.std.specs.Prelude.{◌&&◌, List, length}
use Rattle.disk_model.specs.Disk.{View}
use Rattle.journal.specs.Journal.{JournalView, since_of}
use Rattle.journal.specs.Region.{StandsForState}
use Rattle.suffix_list.specs.ListText.{RuleList}
use Rattle.reply_lines.specs.Reply.{PlainReply}
use Rattle.durable_model.specs.Keeping.{AgentDurable, durable_of}
use Rattle.durable_model.specs.Saved.{Saved, nothing_saved}
use Rattle.row_store.specs.Bodies.{Takes}
use Rattle.agent_memory.specs.AgentState.{AgentState}
use Rattle.agent_core.specs.declared.agent.Power.{Power}
use Rattle.agent_core.specs.declared.agent.Power.TheVariants.{Up, Down, Spoilt}

-- the most lines that are committed together
abbrev pub longest_batch : ℕ
longest_batch = 256

-- an agent: what it has in memory, the clock that it last told, how many lines a batch has, the
-- bytes, the number and the replies of the open batch, its store, the number of the store's
-- changes when it was opened, after how many changes a checkpoint is due, whether it is up, and its
-- disk
pub record AgentView (D : Type 0) : Type 0 where
  pub memory : AgentState
  pub now : ℕ
  pub batch : ℕ
  pub body : List ℕ
  pub changes : ℕ
  pub held : List PlainReply
  pub journal : JournalView
  pub opened : ℕ
  pub checkpoint : ℕ
  pub power : Power
  pub disk : D

-- the list that an agent is under
abbrev pub list_of : {D : Type 0} → AgentView D → RuleList
list_of v = record { rules = v.memory.rules; digest = v.journal.digest }

-- how many durable changes were made since an opening, by the numbers of changes of the store
abbrev pub since_opening : (last opened : ℕ) → ℕ
since_opening last opened = (last + (2 ^ 64 - opened)) % 2 ^ 64

-- which durable state a restart may find, after how many changes since the last opening: a cut may
-- leave a store that stands for it
unfoldable pub may_find : (digest : List ℕ) → (opened : ℕ) → View → AgentDurable → ℕ → Type 0
may_find digest opened view d n =
    (file : List ℕ) × view.may_leave file × (base : Saved) × (last : ℕ)
    × StandsForState Takes nothing_saved digest file base last
    × (d ≡ durable_of base) × (n ≡ since_opening last opened)

-- the same of an agent whose disk tells this
abbrev pub may_of : {D : Type 0} → AgentView D → View → AgentDurable → ℕ → Type 0
may_of v view = may_find v.journal.digest v.opened view

-- a call of the disk failed since the last good opening
abbrev pub is_down : Power → Bool
is_down Up = false
is_down Down = true
is_down Spoilt = false

-- no call failed, memory was not wanting, and what was found was a store
abbrev pub is_up : Power → Bool
is_up Up = true
is_up Down = false
is_up Spoilt = false

-- a checkpoint is due: at least so many durable changes were made since the last snapshot, or since
-- the store was made. 0 is never.
abbrev pub is_due : (checkpoint : ℕ) → JournalView → Bool
is_due checkpoint journal = not (checkpoint == 0) && nat_le checkpoint (since_of journal)

-- the next flush makes a checkpoint: the agent is up, it holds no line, and a checkpoint is due
abbrev pub owes : {D : Type 0} → AgentView D → Bool
owes v = is_up v.power && length v.held == 0 && is_due v.checkpoint v.journal
