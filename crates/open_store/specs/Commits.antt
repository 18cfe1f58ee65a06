-- What a commit, and a checkpoint, make of a store.
-- Source: none.
-- Our own choice: an empty body is not committed. A store has the state before it already.
use Rattle.std.specs.Prelude.{◌≡◌, ◌⊎◌, ℕ, ◌+◌, ◌<◌, ◌≤◌, false, List, [], length}
use Rattle.std.specs.Prelude.{OnErr, OnOk, Result}
use Rattle.agent_base.specs.Counts.{Rose}
use Rattle.disk_model.specs.Disk.{HasFailed, View}
use Rattle.journal.specs.Journal.{HasRoom, JournalView}
use Rattle.journal.specs.Opening.{HasNoFault}
use Rattle.journal.specs.Region.{StandsForState, TakesOf}
use Rattle.journal.specs.Frame.{IsSecond}

-- the body of a batch leads from a state to another by so many changes, and by none to the same
-- where it is empty
abbrev pub BodyLeads : {S : Type 0} → TakesOf S → S → List ℕ → ℕ → S → Type 0
BodyLeads takes base body changes next =
    ((body ≡ []) × (changes ≡ 0) × (next ≡ base))
    ⊎ ((0 < length body) × takes base false body next changes)

-- a file of version 2 stands for one state and number of changes under one list's digest, or for
-- another under another
abbrev pub IsEither2 : {S : Type 0} → TakesOf S → S → (digest : List ℕ) → S → ℕ
    → (given : List ℕ) → S → ℕ → List ℕ → Type 0
IsEither2 takes empty digest base last given next later file =
    IsSecond file × (StandsForState takes empty digest file base last
    ⊎ StandsForState takes empty given file next later)

-- and under the same
abbrev pub IsEither : {S : Type 0} → TakesOf S → S → (digest : List ℕ) → S → ℕ → S → ℕ → List ℕ
    → Type 0
IsEither takes empty digest base last next later file =
    IsEither2 takes empty digest base last digest next later file

-- the commit of a body of so many bytes takes no memory
abbrev pub HasRoomFor : JournalView → View → ℕ → Type 0
HasRoomFor journal view body = 0 < body → HasRoom journal view body

-- a commit or a checkpoint meets a device fault exactly where a call of the disk failed; so many
-- changing calls are made at most
pub record CommitDevice {T E : Type 0} (most : ℕ) (result : Result T E) (old new : View)
    : Type 0 where
  pub tells : new.tells ≡ old.tells
  pub later : old.changing ≤ new.changing
  pub calls : new.changing ≤ old.changing + most
  pub failed : OnErr result (Rose old.faults new.faults × HasFailed old new)
  pub fine : OnOk result (HasNoFault old new)
