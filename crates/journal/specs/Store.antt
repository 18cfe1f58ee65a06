-- The store file, as a relation of its bytes and the frames of its live region.
-- Source: none. Our own choice: the whole format. Numbers are little-endian. Offsets of the head:
--   0 gate; 1 `PBSTORE`; 8 version (one byte); 9 three zeros; 12 SHA-256 of a list (32 bytes);
--   44 and 61 two slots of a gate, a number and a begin (1, 8 and 8 bytes); 78 fifty zeros;
--   128 the first region. A gate is closed where its byte is 0, and open at every other value.
-- The version is 1 where its byte is 1, and 2 at every other value: a cut while 2 is written over 1
-- may leave any byte.
use Rattle.std.specs.Prelude.{◌≡◌, ◌≢◌, ◌⊎◌, ℕ, ◌+◌, ◌%◌, ◌^◌, ◌<◌, ◌≤◌, Bool, List, []}
use Rattle.std.specs.Prelude.{◌∷◌, ◌++◌, length, replicate, slice_index, if◌then◌else◌}
use Rattle.std.specs.Int.{w64, to_le_bytes}
use Rattle.disk_model.specs.Disk.{Holds}
use Rattle.journal.specs.Frame.{digest_len, Frame, encoded, frame_len, AreSound, region_digest}

-- where the zeros behind the version begin
abbrev pub padding_offset : ℕ
padding_offset = 9

-- how many they are
abbrev pub padding_len : ℕ
padding_len = 3

-- where the SHA-256 of the suffix list stands
abbrev pub digest_offset : ℕ
digest_offset = 12

-- where the first slot stands
abbrev pub first_slot : ℕ
first_slot = 44

-- where the second slot stands
abbrev pub second_slot : ℕ
second_slot = 61

-- where the zeros begin
abbrev pub zeros_offset : ℕ
zeros_offset = 78

-- how many zeros there are
abbrev pub zeros_len : ℕ
zeros_len = 50

-- where the first region begins, which is how many bytes the head has
abbrev pub head_len : ℕ
head_len = 128

-- the gate at this offset is closed
abbrev pub IsClosed : List ℕ → ℕ → Type 0
IsClosed file at = (at < length file) × (slice_index file at ≡ 0)

-- the gate at this offset is open, at whatever value but 0
abbrev pub IsOpen : List ℕ → ℕ → Type 0
IsOpen file at = (at < length file) × (slice_index file at ≢ 0)

-- from that offset on stand these frames behind open gates, and then a closed gate; what follows
-- is not looked at
abbrev pub FramesAt : List ℕ → ℕ → List Frame → Type 0
FramesAt file at [] = IsClosed file at
FramesAt file at (f ∷ frames) = IsOpen file at × Holds file (at + 1) (encoded f)
    × FramesAt file (at + frame_len f) frames

-- where the first or the second slot stands
abbrev pub slot_at : Bool → ℕ
slot_at live = if live then second_slot else first_slot

-- and the other one
abbrev pub other_at : Bool → ℕ
other_at live = if live then first_slot else second_slot

-- what stands behind a slot's gate
abbrev pub slot_bytes : ℕ → ℕ → List ℕ
slot_bytes number begin = to_le_bytes w64 number ++ to_le_bytes w64 begin

-- the slot there is closed, or open with the number before, modulo 2^64
abbrev pub IsOlder : List ℕ → ℕ → ℕ → Type 0
IsOlder file at number =
    IsClosed file at
    ⊎ ((older : ℕ) × (begin : ℕ) × IsOpen file at × (number ≡ (older + 1) % 2 ^ 64)
    × Holds file (at + 1) (slot_bytes older begin))

-- the name at offset 1
abbrev pub magic : List ℕ
magic = 80 ∷ 66 ∷ 83 ∷ 84 ∷ 79 ∷ 82 ∷ 69 ∷ []

-- the version that the program writes, and the zeros behind it
abbrev pub version_bytes : List ℕ
version_bytes = 2 ∷ replicate padding_len 0

-- the head of a born file, with the digest in it and its live slot: the second one or the first
pub record Head (kept file : List ℕ) (live : Bool) (number begin : ℕ) : Type 0 where
  pub gate : IsOpen file 0
  pub name : Holds file 1 magic
  pub padding : Holds file padding_offset (replicate padding_len 0)
  pub kept_size : length kept ≡ digest_len
  pub kept_at : Holds file digest_offset kept
  pub slot : IsOpen file (slot_at live)
  pub slot_says : Holds file (slot_at live + 1) (slot_bytes number begin)
  pub older : IsOlder file (other_at live) number
  pub zero : Holds file zeros_offset (replicate zeros_len 0)

-- a store under a list's digest, with these frames in its live region
pub record IsStore (digest file : List ℕ) (frames : List Frame) : Type 0 where
  pub kept : List ℕ
  pub live : Bool
  pub number : ℕ
  pub begin : ℕ
  pub head : Head kept file live number begin
  pub from : head_len ≤ begin
  pub fits : begin < 2 ^ 64
  pub frames_at : FramesAt file begin frames
  pub sound : AreSound file frames
  pub under : digest ≡ region_digest kept frames

-- a file that is no store yet, and is made one
abbrev pub IsUnborn : List ℕ → Type 0
IsUnborn file = (length file ≤ 1) ⊎ (slice_index file 0 ≡ 0)

-- what stands behind the gate of a new store's head, and the closed gate of its region
abbrev pub new_head : List ℕ → List ℕ
new_head digest = magic ++ version_bytes ++ digest ++
    (1 ∷ slot_bytes 1 head_len) ++ replicate 17 0 ++ replicate zeros_len 0 ++ 0 ∷ []
