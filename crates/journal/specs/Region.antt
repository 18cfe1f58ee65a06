-- What the frames of a region stand for, and the first fault of a region.
-- Source: none.
-- Our own choice: a snapshot stands only at the beginning of a region, and one that names a list
-- only in a file of version 2. Changes have a body that is
-- not empty, and their number is the one before them and their count, modulo 2^64. Faults come in
-- the order of `IsFaultAt`. What a body means is given by two relations, of the caller.
use Rattle.std.specs.Prelude.{◌≡◌, ◌≢◌, ◌⊎◌, ℕ, ◌+◌, ◌%◌, ◌^◌, ◌<◌, ◌≤◌, Bool, true, false, List}
use Rattle.std.specs.Prelude.{[], ◌∷◌, length, slice_index, if◌then◌else◌}
use Rattle.std.specs.Int.{w64, to_le_bytes}
use Rattle.disk_model.specs.Disk.{Holds}
use Rattle.journal.specs.Frame.{Frame, IsFirst, IsSecond, IsListed, AreSound}
use Rattle.journal.specs.Store.{IsOpen, IsStore}
use Rattle.journal.specs.Frame.{encoded, frame_len, frames_len, digest_len}

-- from a state a body, of a snapshot or of changes, leads to a state, by so many changes
abbrev pub TakesOf : Type 0 → Type 1
TakesOf S = S → Bool → List ℕ → S → ℕ → Type 0

-- from a state a body, of a snapshot or of changes, has its first fault at this offset in it
abbrev pub RefusesOf : Type 0 → Type 1
RefusesOf S = S → Bool → List ℕ → ℕ → Type 0

-- a snapshot stands only at the beginning, and changes are some
abbrev pub IsRightKind : Bool → Bool → List ℕ → Type 0
IsRightKind fresh true body = fresh ≡ true
IsRightKind fresh false body = 0 < length body

-- the number after a frame of so many changes; that of a snapshot is free
abbrev pub IsRightLast : Bool → ℕ → ℕ → ℕ → Type 0
IsRightLast true before changes last = Unit {0}
IsRightLast false before changes last = last ≡ (before + changes) % 2 ^ 64

-- frames one after another, from a state and a number to a state and a number; `takes s kind body
-- t n` says that from s a body of that kind, of n changes, leads to t
abbrev pub Runs : {S : Type 0} → TakesOf S → Bool → S → ℕ → List Frame → S → ℕ → Type 0
Runs takes fresh s last [] t end = (s ≡ t) × (last ≡ end)
Runs {S} takes fresh s last (f ∷ frames) t end =
    (m : S) × (n : ℕ) × IsRightKind fresh f.snapshot f.body × takes s f.snapshot f.body m n
    × IsRightLast f.snapshot last n f.last × Runs takes false m f.last frames t end

-- from a state, the frames that are no snapshot have so many changes together
abbrev pub HasChanges : {S : Type 0} → TakesOf S → S → List Frame → ℕ → Type 0
HasChanges takes s [] total = total ≡ 0
HasChanges {S} takes s (f ∷ frames) total =
    (m : S) × (n : ℕ) × (rest : ℕ) × takes s f.snapshot f.body m n × HasChanges takes m frames rest
    × (total ≡ (if f.snapshot then 0 else n) + rest)

-- the file is a store that stands for this state and this number of changes
abbrev pub StandsForState : {S : Type 0} → TakesOf S → S → List ℕ → List ℕ → S → ℕ → Type 0
StandsForState takes empty digest file s n = (frames : List Frame) × IsStore digest file frames
    × Runs takes true empty 0 frames s n

-- these frames stand behind open gates, whatever follows
abbrev pub OpensAt : List ℕ → ℕ → List Frame → Type 0
OpensAt file at [] = Unit {0}
OpensAt file at (f ∷ frames) = IsOpen file at × Holds file (at + 1) (encoded f)
    × OpensAt file (at + frame_len f) frames

-- no gate, or a frame that passes the file's end
abbrev pub IsCut : List ℕ → ℕ → Type 0
IsCut file at =
    (length file ≤ at)
    ⊎ (IsOpen file at × ((length file < at + 18)
    ⊎ ((n : ℕ) × (n < 2 ^ 64) × Holds file (at + 10) (to_le_bytes w64 n)
    × (length file < at + 18 + n))))

-- a frame with a body of that size lies within the file
abbrev pub IsSized : List ℕ → ℕ → ℕ → Type 0
IsSized file at size = IsOpen file at × Holds file (at + 10) (to_le_bytes w64 size)
    × (at + 18 + size ≤ length file)

-- a wrong kind: neither changes nor a snapshot, a snapshot behind another frame, or one that names
-- a list in a file of version 1
abbrev pub IsWrongKind : List ℕ → ℕ → Bool → Type 0
IsWrongKind file at fresh = (size : ℕ) × IsSized file at size × (slice_index file (at + 1) ≢ 1)
    × ((slice_index file (at + 1) ≡ 2) → fresh ≡ false)
    × ((slice_index file (at + 1) ≡ 3) → (fresh ≡ false) ⊎ IsFirst file)

-- changes with an empty body, or a snapshot of kind 3 that is shorter than a digest
abbrev pub IsShort : List ℕ → ℕ → Bool → Type 0
IsShort file at fresh =
    (IsSized file at 0 × (slice_index file (at + 1) ≡ 1))
    ⊎ ((size : ℕ) × IsSized file at size × (slice_index file (at + 1) ≡ 3) × (fresh ≡ true)
    × IsSecond file × (size < digest_len))

-- a frame that lies whole within the file, of a right kind
abbrev pub IsFrameAt : List ℕ → ℕ → Bool → Frame → Type 0
IsFrameAt file at fresh f =
    IsOpen file at × Holds file (at + 1) (encoded f) × IsRightKind fresh f.snapshot f.body
    × (at + frame_len f ≤ length file) × (f.last < 2 ^ 64)
    × (length f.list + length f.body < 2 ^ 64) × IsListed file f

-- The first fault of what stands at an offset, from a state and a number. First a frame that is cut
-- off, second its kind, third a body that is too short, fourth the body's first fault, which is
-- looked for behind the digest that a snapshot begins with, fifth its number.
-- `refuses s kind body o` says that the body has its first fault at o.
abbrev pub IsFaultAt : {S : Type 0} → TakesOf S → RefusesOf S → List ℕ → ℕ → Bool → S → ℕ → ℕ
    → Type 0
IsFaultAt {S} takes refuses file at fresh s last offset =
    (IsCut file at × (offset ≡ at))
    ⊎ ((IsWrongKind file at fresh × (offset ≡ at + 1))
    ⊎ ((IsShort file at fresh × (offset ≡ at + 10))
    ⊎ (((f : Frame) × IsFrameAt file at fresh f
    × ((o : ℕ) × refuses s f.snapshot f.body o × (offset ≡ at + 18 + length f.list + o)))
    ⊎ ((f : Frame) × IsFrameAt file at fresh f × ((t : S) × (n : ℕ) × takes s f.snapshot f.body t n
    × (IsRightLast f.snapshot last n f.last → ⊥) × (offset ≡ at + 2))))))

-- whether a frame behind these is the first of its region
abbrev pub is_first : List Frame → Bool
is_first [] = true
is_first (f ∷ frames) = false

-- the first fault of a region: some frames are right, and then it stands
abbrev pub IsFault : {S : Type 0} → TakesOf S → RefusesOf S → List ℕ → ℕ → S → ℕ → Type 0
IsFault {S} takes refuses file begin empty offset =
    (frames : List Frame) × (s : S) × (last : ℕ) × OpensAt file begin frames × AreSound file frames
    × Runs takes true empty 0 frames s last
    × IsFaultAt takes refuses file (begin + frames_len frames) (is_first frames) s last offset
