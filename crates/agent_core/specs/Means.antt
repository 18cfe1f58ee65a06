-- What each call of an agent makes of what it stands for, in the words of the general law.
-- Source: none.
-- Our own choice: a batch is committed whole when its last line has run, or at a flush, and its
-- replies are given out after that. A line whose commit meets a device fault is answered `Down`. A
-- checkpoint is made at a flush with nothing held, and an agent stands for the same afterwards.
use Rattle.std.specs.Prelude.{◌≡◌, ◌⊎◌, ℕ, ◌+◌, ◌<◌, ◌^◌, true, List, map, length, Result}
use Rattle.std.specs.Prelude.{Ok, Err}
use Rattle.unwinding.specs.Course.{AtBase, IsAt}
use Rattle.unwinding.specs.CourseSteps.{GoesDown, committed, holding, reopened}
use Rattle.disk_model.specs.Disk.{View}
use Rattle.journal.specs.Region.{StandsForState}
use Rattle.journal.specs.declared.open_fault.OpenFault.{OpenFault}
use Rattle.journal.specs.declared.open_fault.OpenFault.TheVariants as fault
use Rattle.suffix_list.specs.Suffix.{Rule}
use Rattle.script_actions.specs.Action.{PlainAction}
use Rattle.reply_lines.specs.Plain.{reply_of}
use Rattle.agent_model.specs.Isolation.{printed}
use Rattle.agent_model.specs.TheMachine.{machine}
use Rattle.durable_model.specs.Keeping.{AgentDurable, durable_of, keeping}
use Rattle.durable_model.specs.Migrate.{IsUnder}
use Rattle.durable_model.specs.Saved.{Saved, nothing_saved}
use Rattle.row_store.specs.Bodies.{Takes}
use Rattle.agent_core.specs.AgentView.{AgentView, may_of, since_opening}
use Rattle.agent_core.specs.Seen.{AgentSeen}
use Rattle.agent_core.specs.declared.outcome.Outcome.{Outcome}
use Rattle.agent_core.specs.declared.outcome.Outcome.TheVariants.{Replies, Held, Down, NoMemory}

-- which durable states a restart may find, after how many changes
abbrev pub AgentMay : Type 1
AgentMay = AgentDurable → ℕ → Type 0

-- the number of changes since the opening does not wrap; a run has fewer than 2^32 lines
abbrev pub Fits : AgentSeen → Type 0
Fits a = a.up ≡ true → a.base.count + length a.pending + 1 < 2 ^ 64

-- want of memory leaves all as it was
abbrev pub Same : AgentSeen → AgentMay → AgentSeen → AgentMay → Type 0
Same a may b may' = (b ≡ a) × ((d : AgentDurable) (n : ℕ) → may' d n → may d n)

-- what follows a line that ran
abbrev pub after_line : List Rule → AgentSeen → PlainAction → AgentSeen
after_line rules a line = holding (machine rules) keeping a line

-- what follows the commit of the lines that ran
abbrev pub after_commit : List Rule → AgentSeen → AgentSeen
after_commit rules a = committed (machine rules) keeping a

-- these replies are given out, and the store has what they tell
abbrev pub GivesOut : List Rule → AgentSeen → AgentSeen → AgentMay → Outcome → Type 0
GivesOut rules ran b may' (Replies given) =
    (map reply_of given.items ≡ map printed ran.held) × (b ≡ after_commit rules ran)
    × AtBase b.base may'
GivesOut rules ran b may' other = ⊥

-- the device fails, and the store has the batch whole or not at all
abbrev pub Fails : List Rule → (a ran b : AgentSeen) → (may may' : AgentMay) → Type 0 → Type 0
Fails rules a ran b may may' tried =
    GoesDown (machine rules) keeping a b may may'
    (λ d n. tried × IsAt (after_commit rules ran).base d n)

-- a line, in batches of so many
abbrev pub LineMeans : List Rule → ℕ → PlainAction → AgentSeen → AgentMay → AgentSeen → AgentMay
    → Outcome → Type 0
LineMeans rules batch line a may b may' (Replies given) =
    (a.up ≡ true) × (length a.held + 1 ≡ batch)
    × GivesOut rules (after_line rules a line) b may' (Replies given)
LineMeans rules batch line a may b may' Held =
    (a.up ≡ true) × (length a.held + 1 < batch) × (b ≡ after_line rules a line) × AtBase b.base may'
LineMeans rules batch line a may b may' Down =
    Fails rules a (after_line rules a line) b may may'
    ((a.up ≡ true) × (length a.held + 1 ≡ batch))
LineMeans rules batch line a may b may' NoMemory = Same a may b may'

-- a flush commits what is held; with nothing held, what an agent stands for stays
abbrev pub FlushMeans : List Rule → AgentSeen → AgentMay → AgentSeen → AgentMay → Outcome → Type 0
FlushMeans rules a may b may' (Replies given) =
    (a.up ≡ true) × GivesOut rules a b may' (Replies given)
FlushMeans rules a may b may' Held = ⊥
FlushMeans rules a may b may' Down = Fails rules a a b may may' (a.up ≡ true)
FlushMeans rules a may b may' NoMemory = Same a may b may'

-- a restart opens one of the states that it may find; where a call of the disk fails, or memory is
-- wanting, the agent is not up. What an agent opened once is never refused as a store.
abbrev pub RestartMeans : List Rule → AgentSeen → AgentMay → AgentSeen → AgentMay
    → Result ℕ OpenFault → Type 0
RestartMeans rules a may b may' (Ok kept) =
    (d : AgentDurable) × may d kept × (b ≡ reopened (machine rules) keeping a.world.rest d)
    × AtBase b.base may'
RestartMeans rules a may b may' (Err fault.DeviceFault) =
    GoesDown (machine rules) keeping a b may may' (λ d n. ⊥)
RestartMeans rules a may b may' (Err fault.NoMemory) =
    GoesDown (machine rules) keeping a b may may' (λ d n. ⊥)
RestartMeans rules a may b may' (Err (fault.NotAStore offset)) = ⊥
RestartMeans rules a may b may' (Err (fault.TooLarge len)) = ⊥

-- ---- moments within a call

-- a file stands for what the store stood for when the batch began, or for what follows the batch:
-- for a state under the agent's list
abbrev pub IsBeforeOrAfter : List Rule → (digest : List ℕ) → (a ran : AgentSeen) → List ℕ → Type 0
IsBeforeOrAfter rules digest a ran file =
    (base : Saved) × (last : ℕ) × StandsForState Takes nothing_saved digest file base last
    × IsUnder rules base
    × ((durable_of base ≡ a.base.state) ⊎ (durable_of base ≡ (after_commit rules ran).base.state))

-- a file that a cut might have left: it stands for a state that a restart might have found, under
-- the agent's list
abbrev pub IsOneFound : {D : Type 0} → AgentView D → View → List ℕ → Type 0
IsOneFound v view file =
    view.may_leave file × (base : Saved) × (last : ℕ)
    × StandsForState Takes nothing_saved v.journal.digest file base last
    × IsUnder v.memory.rules base
    × may_of v view (durable_of base) (since_opening last v.opened)
