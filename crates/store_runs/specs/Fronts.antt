-- What a run writes whether or not its disk tells its contents. Up to the first line that opens the
-- store again it goes on from what its opening gave. What a restart finds is said of a disk that
-- tells its contents alone.
-- Source: none; these are the words of the promise.
use Rattle.std.specs.Prelude.{◌≡◌, ◌⊎◌, ℕ, false, List, [], ◌∷◌, ◌++◌, Option}
use Rattle.unwinding.specs.Admissible.{Acts, History, Reopens}
use Rattle.agent_base.specs.Streams.{Takes, TakesPrefix}
use Rattle.disk_model.specs.Disk.{View}
use Rattle.suffix_list.specs.ListText.{RuleList}
use Rattle.suffix_list.specs.Suffix.{Rule}
use Rattle.script_actions.specs.Action.{PlainAction, PlainStep}
use Rattle.durable_model.specs.Histories.{AgentOpening, opened_at}
use Rattle.durable_model.specs.Saved.{IsValid, Saved}
use Rattle.journal.specs.declared.open_fault.OpenFault.{OpenFault}
use Rattle.printed_model.specs.Histories.{IsHistoryOf, history_text}
use Rattle.store_runs.specs.Endings.{ending_of}
use Rattle.store_runs.specs.Faults.{RoseBy, faults_of}
use Rattle.store_runs.specs.Runs.{HasNoCuts, Stopped, WritesLines}
use Rattle.store_runs.specs.declared.ending.Ending.{Ending}
use Rattle.store_runs.specs.declared.ending.Ending.TheVariants.{Done, Device, Store, Write, Memory}

-- no line opens the store again
abbrev pub HasNoRestart : List PlainStep → Type 0
HasNoRestart [] = Unit {0}
HasNoRestart (Acts l ∷ more) = HasNoRestart more
HasNoRestart (Reopens ∷ more) = ⊥

-- There is a history of these lines, in which what waits for its batch is lost. This holds of its
-- text, with something behind it that is free.
pub record Began (rules : List Rule) (batch : ℕ) (opening : AgentOpening) (NoCuts : Type 0)
    (steps : List PlainStep) (Holds : List ℕ → Type 0) : Type 0 where
  pub history : History PlainAction
  pub is : IsHistoryOf rules batch opening NoCuts steps history
  pub lost : history.committed ≡ false
  pub more : List ℕ
  pub text : Holds (history_text rules opening history ++ more)

-- what the sink took of a text, by how a run ended: all of it, or where it was stopped a part of it
-- from its start
abbrev pub TakesBy : Ending → (before after : Option (List ℕ)) → List ℕ → Type 0
TakesBy Done before after text = Takes before after text
TakesBy Device before after text = Takes before after text
TakesBy (Store why) before after text = TakesPrefix before after text
TakesBy Write before after text = TakesPrefix before after text
TakesBy Memory before after text = TakesPrefix before after text

-- What the sink took of the lines in front of a restart, of a run that ended so: what is printed of
-- a history of them, and then what the rest printed. A run may have been stopped in these lines.
abbrev pub WritesFront : Ending → List Rule → (batch : ℕ) → AgentOpening → Type 0
    → (front : List PlainStep) → (before after : Option (List ℕ)) → Type 0
WritesFront Write rules batch opening NoCuts front before after =
    Stopped rules batch opening NoCuts front before after (λ rest history. Unit {0})
    ⊎ Began rules batch opening NoCuts front (TakesBy Write before after)
WritesFront Memory rules batch opening NoCuts front before after =
    Stopped rules batch opening NoCuts front before after (λ rest history. Unit {0})
    ⊎ Began rules batch opening NoCuts front (TakesBy Memory before after)
WritesFront ending rules batch opening NoCuts front before after =
    Began rules batch opening NoCuts front (TakesBy ending before after)

-- What the sink took of lines whose run over an opened agent ended so. Where none opens the store
-- again it is said of all lines, with this of what their history leaves; else of those in front of
-- the first that does.
abbrev pub WritesFirst : Ending → List Rule → (batch checkpoint : ℕ) → AgentOpening → Type 0
    → List PlainStep → (before after : Option (List ℕ))
    → (Left : (rest : List PlainStep) → History PlainAction → Type 0) → Type 0
WritesFirst ending rules batch checkpoint opening NoCuts steps before after Left =
    (HasNoRestart steps
    → WritesLines ending rules batch checkpoint opening NoCuts steps before after Left)
    × ((front rest : List PlainStep) → HasNoRestart front → steps ≡ front ++ Reopens ∷ rest
    → WritesFront ending rules batch opening NoCuts front before after)

-- the disk's count of faults rose by those that a history shows of a run that ended so
abbrev pub LeavesCount : Ending → (old new : View) → (rest : List PlainStep) → History PlainAction
    → Type 0
LeavesCount ending old new rest history = RoseBy (faults_of ending history) old.faults new.faults

-- A run over a disk ended so. The first opening was refused, and the sink took nothing; or the
-- lines ran from a durable state, which the opening gave.
abbrev pub WritesFromOpening : Ending → RuleList → (start batch checkpoint : ℕ) → View
    → List PlainStep → (before after : Option (List ℕ)) → View → Type 0
WritesFromOpening ending list start batch checkpoint old steps before after new =
    ((why : OpenFault) × (ending ≡ ending_of why) × Takes before after [])
    ⊎ ((base : Saved) × IsValid base
    × WritesFirst ending list.rules batch checkpoint (opened_at start base) (HasNoCuts old) steps
    before after (LeavesCount ending old new))
