-- What private functions of the reader answer.
-- Source: none.
use Rattle.std.specs.Prelude.{◌≡◌, ◌⊎◌, ℕ, ◌+◌, ◌%◌, ◌^◌, ◌<◌, ◌≤◌, Bool, true, false, List}
use Rattle.std.specs.Prelude.{length, slice_index, replicate, nat_le, nat_eq, if◌then◌else◌}
use Rattle.disk_model.specs.Disk.{Holds}
use Rattle.journal.specs.Frame.{Frame}
use Rattle.journal.specs.Store.{IsOpen, IsClosed, IsStore, IsUnborn, Head, digest_offset}
use Rattle.journal.specs.Frame.{digest_len, version_offset}
use Rattle.journal.specs.Store.{zeros_offset, zeros_len, head_len}
use Rattle.journal.specs.Region.{TakesOf, RefusesOf, IsCut, IsWrongKind, IsShort, IsFrameAt, IsRightLast}
use Rattle.journal.specs.Region.{Runs}
use Rattle.journal.specs.Opening.{IsGrown, IsStoreFault, IsUpgrade, IsUpgraded}
use Rattle.journal.specs.Journal.{JournalView, StandsInFile}
use Rattle.journal.specs.HeadFault.{IsHeadFault, IsSlotFault, IsLive}
use Rattle.journal.specs.declared.fields.Read.{Read}
use Rattle.journal.specs.declared.fields.Read.TheVariants.{End, Cut, Kind, Short, Whole}
use Rattle.journal.specs.declared.head.HeadRead.{HeadRead}
use Rattle.journal.specs.declared.head.HeadRead.TheVariants.{Live, Bad}
use Rattle.journal.specs.declared.open_fault.OpenFault.{OpenFault}
use Rattle.journal.specs.declared.open_fault.OpenFault.TheVariants.{DeviceFault, NotAStore}
use Rattle.journal.specs.declared.open_fault.OpenFault.TheVariants.{NoMemory, TooLarge}
use Rattle.journal.specs.declared.region.Taken.{Taken}

-- what `frame_at` finds: of a frame whether it is a snapshot, its number, how many bytes name a
-- list, and how many are digest and body together
abbrev pub IsRead : List ℕ → ℕ → Bool → Read → Type 0
IsRead file at fresh End = IsClosed file at
IsRead file at fresh Cut = IsCut file at
IsRead file at fresh Kind = IsWrongKind file at fresh
IsRead file at fresh Short = IsShort file at fresh
IsRead file at fresh (Whole snapshot last list size) =
    (f : Frame) × IsFrameAt file at fresh f × (f.snapshot ≡ snapshot) × (f.last ≡ last)
    × (length f.list ≡ list) × (length f.list + length f.body ≡ size)

-- a frame was read whole, and led from a state to a state
abbrev pub IsTaken : {S : Type 0} → TakesOf S → List ℕ → ℕ → Bool → S → S → ℕ
    → Taken → Type 0
IsTaken takes file at fresh s t last taken =
    (f : Frame) × IsFrameAt file at fresh f × takes s f.snapshot f.body t taken.changes
    × IsRightLast f.snapshot last taken.changes f.last
    × (f.snapshot ≡ taken.snapshot) × (f.last ≡ taken.last)
    × (length f.list + length f.body ≡ taken.size)

-- of two slots, open or not, with their numbers: the live one
abbrev pub IsNext : Bool → ℕ → Bool → ℕ → Bool → Type 0
IsNext true a true b true = b ≡ (a + 1) % 2 ^ 64
IsNext true a true b false = a ≡ (b + 1) % 2 ^ 64
IsNext true a false b live = live ≡ false
IsNext false a true b live = live ≡ true
IsNext false a false b live = ⊥

-- what `read_slots` finds
abbrev pub IsSlotRead : List ℕ → HeadRead → Type 0
IsSlotRead file (Live live number begin) =
    IsLive file live number begin × Holds file zeros_offset (replicate zeros_len 0)
    × (head_len ≤ begin) × (begin < length file)
IsSlotRead file (Bad offset) = IsSlotFault file offset

-- what `read_head` finds
abbrev pub IsHeadRead : List ℕ → HeadRead → Type 0
IsHeadRead file (Live live number begin) =
    ((kept : List ℕ) → length kept ≡ digest_len → Holds file digest_offset kept
    → Head kept file live number begin) × (head_len ≤ begin) × (begin < length file)
IsHeadRead file (Bad offset) = IsHeadFault file offset

-- why a born file is not read
abbrev pub IsStoreRefusal : {S : Type 0} → TakesOf S → RefusesOf S → S → List ℕ → OpenFault → Type 0
IsStoreRefusal takes refuses empty file (NotAStore offset) =
    IsStoreFault takes refuses empty file offset
IsStoreRefusal takes refuses empty file (TooLarge len) = ⊥
IsStoreRefusal takes refuses empty file DeviceFault = ⊥
IsStoreRefusal takes refuses empty file NoMemory = Unit {0}

-- the file is the journal's store, and its frames lead from the empty state to this one
abbrev pub LeadsTo : {S : Type 0} → TakesOf S → (empty state : S) → JournalView → List ℕ → Type 0
LeadsTo takes empty state journal file =
    (frames : List Frame) × StandsInFile journal file frames
    × Runs takes true empty 0 frames state journal.changes

-- the file is a store, whose frames lead to this state, and what an opening makes of it is the
-- journal's store
abbrev pub ReadsAs : {S : Type 0} → TakesOf S → (empty state : S) → JournalView → List ℕ → Type 0
ReadsAs takes empty state journal file =
    (frames : List Frame) × IsStore journal.digest file frames
    × Runs takes true empty 0 frames state journal.changes
    × ((now : List ℕ) → IsUpgraded file now → StandsInFile journal now frames)

-- what is left of the changing calls of an opening, once a born file was read
abbrev pub upgrade_calls : List ℕ → ℕ
upgrade_calls file = if nat_eq (slice_index file version_offset) 1 then 2 else 0

-- and once the disk was synced
abbrev pub behind_sync : List ℕ → ℕ
behind_sync file =
    if nat_le (length file) 1 then 6 else if nat_eq (slice_index file 0) 0 then 4
    else upgrade_calls file

-- what an opening made of a file is the journal's store, whose frames lead to this state; the file
-- was such a store itself, or an unborn file, of which the state is the empty one, under the given
-- digest
abbrev pub OpensAs : {S : Type 0} → TakesOf S → (empty state : S) → (given : List ℕ) → JournalView
    → List ℕ → List ℕ → Type 0
OpensAs takes empty state given journal old new =
    (frames : List Frame) × StandsInFile journal new frames
    × Runs takes true empty 0 frames state journal.changes × IsGrown old new
    × ((IsOpen old 0 × (1 < length old) × IsStore journal.digest old frames × IsUpgraded old new)
    ⊎ (IsUnborn old × (state ≡ empty) × (journal.changes ≡ 0) × (journal.digest ≡ given)))

-- a file as it was, or one of version 1 but for the byte that says so
abbrev pub IsKept : List ℕ → List ℕ → Type 0
IsKept old new = (new ≡ old) ⊎ IsUpgrade old new
