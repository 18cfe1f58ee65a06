-- Where the faults of a run show, and how many calls of the disk were made until then.
-- Source: none; these are the words of the promise.
-- Our own choice: a fault shows at the first line of its epoch that was answered `down`, each
-- restart that was answered `down` shows its own, and one that no line shows, behind the last line.
-- The lines up to there make at most eleven changing calls for each batch that has a durable change
-- and eight for each restart: four commit a batch, one opens a store again, and behind both a
-- checkpoint of seven may be due.
use Rattle.std.specs.Prelude.{◌≡◌, ℕ, zero, suc, ◌+◌, ◌-◌, ◌*◌, ◌≤◌, min, Bool, false, List, []}
use Rattle.std.specs.Prelude.{◌∷◌, ◌++◌, length, Option, Some}
use Rattle.unwinding.specs.World.{world_step}
use Rattle.unwinding.specs.Durable.{line_changes, restarted}
use Rattle.unwinding.specs.Epochs.{Epoch, tried}
use Rattle.unwinding.specs.Admissible.{Acts, History, Reopens, Stretch, next_opening}
use Rattle.suffix_list.specs.Suffix.{Rule}
use Rattle.script_actions.specs.Action.{PlainAction, PlainStep}
use Rattle.agent_model.specs.Lines.{AgentWorld}
use Rattle.agent_model.specs.TheMachine.{machine}
use Rattle.durable_model.specs.Histories.{AgentOpening}
use Rattle.durable_model.specs.Keeping.{keeping}
use Rattle.printed_model.specs.Left.{end_opening}
use Rattle.store_runs.specs.Faults.{restart_faults}
use Rattle.store_runs.specs.declared.ending.Ending.{Ending}
use Rattle.store_runs.specs.declared.ending.Ending.TheVariants.{Device}

-- ---- batches

module _ (rules : List Rule) (batch : ℕ) where
  -- How many batches have a durable change, of lines that run from a world. The batch of the next
  -- line is to have so many lines more behind it, and so many durable changes already. The last
  -- batch counts too where it is not full.
  abbrev pub busy_from : (more made : ℕ) → AgentWorld → List PlainAction → ℕ
  busy_from more made w [] = min 1 made
  busy_from zero made w (l ∷ ls) =
      min 1 (made + length (line_changes (machine rules) w l))
      + busy_from (batch - 1) 0 (world_step (machine rules) w l) ls
  busy_from (suc more) made w (l ∷ ls) =
      busy_from more (made + length (line_changes (machine rules) w l))
      (world_step (machine rules) w l) ls

  -- the same of lines that an epoch begins with
  abbrev pub busy_lines : AgentOpening → List PlainAction → ℕ
  busy_lines opening lines =
      busy_from (batch - 1) 0 (restarted keeping opening.rest opening.state) lines

  -- of an epoch: the line that met the fault was tried, too
  abbrev pub busy_epoch : AgentOpening → Epoch PlainAction → ℕ
  busy_epoch opening epoch = busy_lines opening (tried epoch)

  -- of the epochs that a restart closed
  abbrev pub busy_closed : AgentOpening → List (Stretch PlainAction) → ℕ
  busy_closed opening [] = 0
  busy_closed opening (s ∷ ss) =
      busy_epoch opening s.epoch + busy_closed (next_opening (machine rules) keeping opening s) ss

-- how many restarts there are in epochs that a restart closed: those that were answered `down`, and
-- the one that closed each
abbrev pub restarts_closed : List (Stretch PlainAction) → ℕ
restarts_closed [] = 0
restarts_closed (s ∷ ss) = (restart_faults s.downs + 1) + restarts_closed ss

-- ---- places

-- a place in a run: how many batches with a durable change there are up to there, and how many
-- restarts
pub record Place : Type 0 where
  pub batches : ℕ
  pub restarts : ℕ

abbrev pub place : (batches restarts : ℕ) → Place
place batches restarts = record { batches = batches; restarts = restarts }

-- by the lines that were answered `down`, in their order, behind so many batches and restarts: the
-- places of the restarts
abbrev pub restart_places : (batches restarts : ℕ) → List PlainStep → List Place
restart_places batches restarts [] = []
restart_places batches restarts (Acts l ∷ more) = restart_places batches restarts more
restart_places batches restarts (Reopens ∷ more) =
    place batches (restarts + 1) ∷ restart_places batches (restarts + 1) more

-- where the faults of an epoch show, of which such lines were answered `down`
abbrev pub epoch_places : (batches restarts : ℕ) → List PlainStep → List Place
epoch_places batches restarts [] = []
epoch_places batches restarts (Acts l ∷ more) =
    place batches restarts ∷ restart_places batches restarts more
epoch_places batches restarts (Reopens ∷ more) =
    restart_places batches restarts (Reopens ∷ more)

-- the same of the last epoch. Where the agent is down at the end and no line was answered `down`,
-- its fault shows behind the last line.
abbrev pub last_places : Ending → (batches restarts : ℕ) → List PlainStep → List Place
last_places Device batches restarts [] = place batches restarts ∷ []
last_places ending batches restarts downs = epoch_places batches restarts downs

module _ (rules : List Rule) (batch : ℕ) where
  -- of the epochs that a restart closed, behind so many batches and restarts
  abbrev pub closed_places : (batches restarts : ℕ) → AgentOpening → List (Stretch PlainAction)
      → List Place
  closed_places batches restarts opening [] = []
  closed_places batches restarts opening (s ∷ ss) =
      let here = batches + busy_epoch rules batch opening s.epoch in
      epoch_places here restarts s.downs
      ++ closed_places here (restarts + (restart_faults s.downs + 1))
      (next_opening (machine rules) keeping opening s) ss

  -- where each fault of a run shows that ended so, and had this history, in their order
  abbrev pub fault_places : Ending → AgentOpening → History PlainAction → List Place
  fault_places ending opening history =
      closed_places 0 0 opening history.closed
      ++ last_places ending
      (busy_closed rules batch opening history.closed
      + busy_epoch rules batch (end_opening rules opening history) history.open_end.epoch)
      (restarts_closed history.closed) history.open_end.downs

-- ---- cuts

-- how many changing calls are made up to a place at most, where so many were made, or are due,
-- before the first line
abbrev pub calls_until : (before : ℕ) → Place → ℕ
calls_until before at = before + 11 * at.batches + 8 * at.restarts

-- The faults that show at these places are at most as many as the cuts of these numbers, and the
-- j-th cut is one of the calls that were made until the j-th fault shows.
abbrev pub MeetsCuts : (before : ℕ) → (cuts : List ℕ) → List Place → Type 0
MeetsCuts before cuts [] = Unit {0}
MeetsCuts before [] (at ∷ places) = ⊥
MeetsCuts before (cut ∷ cuts) (at ∷ places) =
    (cut ≤ calls_until before at) × MeetsCuts before cuts places

-- the same of a disk whose cuts are told, and whose power was on
abbrev pub MeetsToldCuts : (before : ℕ) → (told : Option (List ℕ)) → (off : Bool) → List Place
    → Type 0
MeetsToldCuts before told off places =
    (cuts : List ℕ) → told ≡ Some cuts → off ≡ false → MeetsCuts before cuts places
