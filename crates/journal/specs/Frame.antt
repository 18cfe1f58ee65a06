-- A frame of the journal, and the list that it names.
-- Source: none. Our own choice: the kinds of a frame are 1 changes, 2 a snapshot, and 3 a snapshot
-- whose body begins with the SHA-256 of the list under which it was written, which stands only in a
-- file of version 2. Numbers are little-endian.
use Rattle.std.specs.Prelude.{◌≡◌, ◌≢◌, ◌⊎◌, ℕ, ◌+◌, ◌^◌, ◌<◌, Bool, true, List, [], ◌∷◌, ◌++◌}
use Rattle.std.specs.Prelude.{length, slice_index, if◌then◌else◌}
use Rattle.std.specs.Int.{w64, to_le_bytes}

-- where the version stands
abbrev pub version_offset : ℕ
version_offset = 8

-- how many bytes the SHA-256 of a list has
abbrev pub digest_len : ℕ
digest_len = 32

-- how many bytes of a frame stand before its body: gate, kind, last and size
abbrev pub front_len : ℕ
front_len = 18

-- the file has version 1
abbrev pub IsFirst : List ℕ → Type 0
IsFirst file = slice_index file version_offset ≡ 1

-- the file has version 2
abbrev pub IsSecond : List ℕ → Type 0
IsSecond file = slice_index file version_offset ≢ 1

-- a frame of the journal: whether it is a snapshot, the number of changes up to it, the digest of
-- the list that a snapshot of kind 3 names (nothing for the other kinds), and its body
pub record Frame : Type 0 where
  pub snapshot : Bool
  pub last : ℕ
  pub list : List ℕ
  pub body : List ℕ

-- the kind of a snapshot, by the digest that it names
abbrev pub snapshot_kind : List ℕ → ℕ
snapshot_kind [] = 2
snapshot_kind (byte ∷ rest) = 3

-- the kind of a frame
abbrev pub frame_kind : Frame → ℕ
frame_kind f = if f.snapshot then snapshot_kind f.list else 1

-- what stands behind a frame's gate: kind, last, size, and digest and body
unfoldable pub encoded : Frame → List ℕ
encoded f = frame_kind f ∷ [] ++ to_le_bytes w64 f.last ++ to_le_bytes w64
    (length f.list + length f.body) ++ (f.list ++ f.body)

-- how many bytes a frame has, with its gate
abbrev pub frame_len : Frame → ℕ
frame_len f = front_len + (length f.list + length f.body)

-- how many bytes these frames have
abbrev pub frames_len : List Frame → ℕ
frames_len [] = 0
frames_len (f ∷ frames) = frame_len f + frames_len frames

-- a frame names no list; or it is a snapshot that names one, in a file of version 2
abbrev pub IsListed : List ℕ → Frame → Type 0
IsListed file f =
    (f.list ≡ []) ⊎ ((f.snapshot ≡ true) × (length f.list ≡ digest_len) × IsSecond file)

-- the numbers of these frames fit their places of eight bytes, and each names a list only where it
-- may
abbrev pub AreSound : List ℕ → List Frame → Type 0
AreSound file [] = Unit {0}
AreSound file (f ∷ frames) = (f.last < 2 ^ 64) × (length f.list + length f.body < 2 ^ 64)
    × IsListed file f × AreSound file frames

-- the number that the last frame gives
abbrev pub last_of : ℕ → List Frame → ℕ
last_of before [] = before
last_of before (f ∷ frames) = last_of f.last frames

-- the number of changes when the region began: that of its snapshot, and 0 without one
abbrev pub base_of : List Frame → ℕ
base_of [] = 0
base_of (f ∷ frames) = if f.snapshot then f.last else 0

-- the digest of a snapshot's list, and else another one
abbrev pub list_or : List ℕ → List ℕ → List ℕ
list_or kept [] = kept
list_or kept (byte ∷ rest) = byte ∷ rest

-- the digest of the list under which a region stands: that which its snapshot names, and else that
-- of the head
abbrev pub region_digest : List ℕ → List Frame → List ℕ
region_digest kept [] = kept
region_digest kept (f ∷ frames) = list_or kept f.list
