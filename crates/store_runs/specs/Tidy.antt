-- What a run that is done leaves of its store, by when a checkpoint is due.
-- Source: none.
-- Our own choice: a checkpoint is due after so many durable changes since the last snapshot, or
-- since the store was made.
use Rattle.std.specs.Prelude.{◌≡◌, ◌⊎◌, ℕ, ◌+◌, ◌-◌, ◌%◌, ◌^◌, ◌<◌, false, List}
use Rattle.disk_model.specs.Disk.{View}
use Rattle.journal.specs.Frame.{Frame, base_of, last_of}
use Rattle.journal.specs.Store.{IsStore}
use Rattle.agent_core.specs.AgentView.{AgentView, is_due}

-- how many durable changes the frames behind a store's snapshot have, modulo 2^64
abbrev pub changes_since : List Frame → ℕ
changes_since frames = (last_of 0 frames + (2 ^ 64 - base_of frames)) % 2 ^ 64

-- a file is a store under a list, and no checkpoint is due for it; after 0 changes is never
abbrev pub IsTidyFile : (checkpoint : ℕ) → (digest file : List ℕ) → Type 0
IsTidyFile checkpoint digest file =
    (frames : List Frame) × IsStore digest file frames
    × ((checkpoint ≡ 0) ⊎ (changes_since frames < checkpoint))

-- each of these images is such a file
abbrev pub LeavesTidy : (checkpoint : ℕ) → (digest : List ℕ) → (images : List ℕ → Type 0) → Type 0
LeavesTidy checkpoint digest images =
    (file : List ℕ) → images file → IsTidyFile checkpoint digest file

-- no checkpoint is due for the store of an agent, nor for what a cut may leave of it
abbrev pub IsTidyAt : {D : Type 0} → AgentView D → View → Type 0
IsTidyAt v view =
    (is_due v.checkpoint v.journal ≡ false)
    × LeavesTidy v.checkpoint v.journal.digest view.may_leave
