-- What the words for a store, its frames and its faults say at the offsets of the page of the format, and
-- what they leave out, so that a word that says another thing does not check.
use Rattle.std.proofs.Common.{◌≡◌, refl, ℕ, ◌+◌, ◌<◌, ◌≤◌, ◌∷◌, [], ◌++◌, List, length, ◌⊎◌, inl, inr, arith}
use Rattle.std.specs.Prelude.{codes, true, false, Bool, replicate, slice_index, ◌^◌, ◌-◌, Some, Ok, Err, Result}
use Rattle.std.specs.Prelude.{IsErrOf}
use Rattle.std.specs.Int.{w64, to_le_bytes}
use Rattle.disk_model.specs.Disk.{HasFailed, Holds, IsPowered, IsSettled, Torn, View, Written}
use Rattle.journal.specs.Frame.{Frame, AreSound, IsFirst, IsListed, IsSecond, digest_len, encoded, frames_len, last_of}
use Rattle.journal.specs.Frame.{list_or, region_digest, version_offset}
use Rattle.journal.specs.Store.{FramesAt, Head, IsClosed, IsOlder, IsOpen, IsStore, IsUnborn, slot_bytes}
use Rattle.journal.specs.Region.{HasChanges, IsCut, IsFault, IsFaultAt, IsFrameAt, IsRightKind, IsRightLast, IsShort}
use Rattle.journal.specs.Region.{IsSized, IsWrongKind, OpensAt, RefusesOf, Runs, StandsForState, TakesOf, is_first}
use Rattle.journal.specs.HeadFault.{IsFront, IsHeadFault, IsLive, IsSlotFault}
use Rattle.journal.specs.Journal.{HasRoom, IsAtRest, IsBeforeOrAfter, IsBeforeOrSnapshot, JournalView, StandsInFile}
use Rattle.journal.specs.Journal.{next_frame, snapshot_frame}
use Rattle.journal.specs.Opening.{AnswersByCuts, FileMeans, HasNoFault, IsExcused, IsOfFile}
use Rattle.journal.specs.Opening.{IsOpening, IsOver, IsRefusal, OpensUnder}
use Rattle.journal.specs.Opening.{IsStoreFault, IsUpgrade, IsUpgraded, IsWithin, LeavesAlone, LeavesNoMore, Opens, limit}
use Rattle.journal.specs.declared.open_fault.OpenFault.{OpenFault}
use Rattle.journal.specs.declared.open_fault.OpenFault.TheVariants.{DeviceFault, NotAStore, TooLarge, NoMemory}

one_is_not_zero : ◌≡◌ {A = ℕ} 1 0 → ⊥
one_is_not_zero is = cc

false_is_not_true : false ≡ true → ⊥
false_is_not_true is = cc

-- ---- frames

abbrev changes : Frame
changes = record { snapshot = false; last = 1; list = []; body = replicate 52 7 }

abbrev digest : List ℕ
digest = replicate 32 165

-- a snapshot that names a list, and one that names none
abbrev listed : Frame
listed = record { snapshot = true; last = 9; list = digest; body = replicate 48 7 }

abbrev plain : Frame
plain = record { snapshot = true; last = 9; list = []; body = replicate 48 7 }

-- files of versions 1 and 2 up to the byte of the version
abbrev first : List ℕ
first = 1 ∷ codes "PBSTORE" ++ 1 ∷ []

abbrev second : List ℕ
second = 1 ∷ codes "PBSTORE" ++ 2 ∷ []

bytes_of_a_digest : digest_len ≡ 32
bytes_of_a_digest = refl

place_of_the_version : version_offset ≡ 8
place_of_the_version = refl

-- 70 bytes, and 98 of a digest and a body of 48
bytes_of_two_frames : frames_len (changes ∷ listed ∷ []) ≡ 168
bytes_of_two_frames = refl

second_is_not_first : IsSecond second
second_is_not_first e = cc

plain_in_version_1 : IsListed first plain
plain_in_version_1 = inl refl

listed_in_version_2 : IsListed second listed
listed_in_version_2 = inr (refl, refl, λ e. cc)

listed_in_version_1 : IsListed first listed → ⊥
listed_in_version_1 is = elim is [ inl e ↦ cc | inr e ↦ e.2 refl ]

shorter_than_a_digest : IsListed second (record listed { list = replicate 31 165 }) → ⊥
shorter_than_a_digest is = elim is [ inl e ↦ cc | inr e ↦ absurd (omega (arith, e.1)) ]

changes_that_name_a_list : IsListed second (record changes { list = digest }) → ⊥
changes_that_name_a_list is = elim is [ inl e ↦ cc | inr e ↦ false_is_not_true e.0 ]

number_has_eight_bytes : (file : List ℕ) (f : Frame) (frames : List Frame) → AreSound file (f ∷ frames) → f.last < 2 ^ 64
number_has_eight_bytes file f frames are = are.0

size_has_eight_bytes : (file : List ℕ) (f : Frame) (frames : List Frame) → AreSound file (f ∷ frames)
    → length f.list + length f.body < 2 ^ 64
size_has_eight_bytes file f frames are = are.1

each_may_name_its_list : (file : List ℕ) (f g : Frame) → AreSound file (f ∷ g ∷ []) → IsListed file g
each_may_name_its_list file f g are = are.3.2

number_of_none : last_of 5 [] ≡ 5
number_of_none = refl

number_of_the_last : last_of 5 (listed ∷ changes ∷ []) ≡ 1
number_of_the_last = refl

names_none : list_or digest [] ≡ digest
names_none = refl

names_another : list_or digest (7 ∷ []) ≡ 7 ∷ []
names_another = refl

-- ---- gates and the head

closed_gate : IsClosed (7 ∷ 0 ∷ []) 1
closed_gate = (omega arith, refl)

open_gate_is_not_closed : IsClosed (1 ∷ []) 0 → ⊥
open_gate_is_not_closed is = one_is_not_zero is.1

no_gate_is_closed : IsClosed [] 0 → ⊥
no_gate_is_closed is = absurd (omega (arith, is.0))

-- every value but 0 is open
torn_gate : IsOpen (165 ∷ []) 0
torn_gate = (omega arith, λ e. cc)

closed_gate_is_not_open : IsOpen (0 ∷ []) 0 → ⊥
closed_gate_is_not_open is = is.1 refl

no_gate_is_open : IsOpen [] 0 → ⊥
no_gate_is_open is = absurd (omega (arith, is.0))

-- a frame of 70 bytes at 128, and the closed gate behind it
frame_begins : (file : List ℕ) → FramesAt file 128 (changes ∷ []) → IsOpen file 128
frame_begins file at = at.0

frame_stands : (file : List ℕ) → FramesAt file 128 (changes ∷ []) → Holds file 129 (encoded changes)
frame_stands file at = at.1

frame_ends : (file : List ℕ) → FramesAt file 128 (changes ∷ []) → IsClosed file 198
frame_ends file at = at.2

-- the slot before, also where numbers go on behind the last one of eight bytes
closed_slot : (file : List ℕ) → IsClosed file 61 → IsOlder file 61 7
closed_slot file closed = inl closed

slot_before : (file : List ℕ) → IsOpen file 61 → Holds file 62 (slot_bytes 6 128) → IsOlder file 61 7
slot_before file gate says = inr (6, 128, gate, refl, says)

slot_before_zero : (file : List ℕ) → IsOpen file 61 → Holds file 62 (slot_bytes (2 ^ 64 - 1) 128) → IsOlder file 61 0
slot_before_zero file gate says = inr (2 ^ 64 - 1, 128, gate, refl, says)

number_of_a_slot : slot_bytes 258 128 ≡ 2 ∷ 1 ∷ 0 ∷ 0 ∷ 0 ∷ 0 ∷ 0 ∷ 0 ∷ 128 ∷ 0 ∷ 0 ∷ 0 ∷ 0 ∷ 0 ∷ 0 ∷ 0 ∷ []
number_of_a_slot = refl

-- the head: gate 0, name 1, zeros 9 to 11, digest 12 to 43, slots 44 and 61, zeros 78 to 127
head_has_a_gate : (kept file : List ℕ) (n begin : ℕ) → Head kept file false n begin → IsOpen file 0
head_has_a_gate kept file n begin head = head.gate

head_has_a_name : (kept file : List ℕ) (n begin : ℕ) → Head kept file false n begin → Holds file 1 (codes "PBSTORE")
head_has_a_name kept file n begin head = head.name

head_has_zeros : (kept file : List ℕ) (n begin : ℕ) → Head kept file false n begin → Holds file 9 (0 ∷ 0 ∷ 0 ∷ [])
head_has_zeros kept file n begin head = head.padding

head_has_a_digest : (kept file : List ℕ) (n begin : ℕ) → Head kept file false n begin → (length kept ≡ 32) × Holds file 12 kept
head_has_a_digest kept file n begin head = (head.kept_size, head.kept_at)

head_has_a_slot : (kept file : List ℕ) (n begin : ℕ) → Head kept file false n begin
    → IsOpen file 44 × Holds file 45 (slot_bytes n begin) × IsOlder file 61 n
head_has_a_slot kept file n begin head = (head.slot, head.slot_says, head.older)

head_has_the_other_slot : (kept file : List ℕ) (n begin : ℕ) → Head kept file true n begin
    → IsOpen file 61 × Holds file 62 (slot_bytes n begin) × IsOlder file 44 n
head_has_the_other_slot kept file n begin head = (head.slot, head.slot_says, head.older)

head_has_fifty_zeros : (kept file : List ℕ) (n begin : ℕ) → Head kept file false n begin → Holds file 78 (replicate 50 0)
head_has_fifty_zeros kept file n begin head = head.zero

region_is_behind_the_head : (d file : List ℕ) (frames : List Frame) (is : IsStore d file frames) → 128 ≤ is.begin
region_is_behind_the_head d file frames is = is.from

begin_has_eight_bytes : (d file : List ℕ) (frames : List Frame) (is : IsStore d file frames) → is.begin < 2 ^ 64
begin_has_eight_bytes d file frames is = is.fits

store_has_sound_frames : (d file : List ℕ) (frames : List Frame) → IsStore d file frames → AreSound file frames
store_has_sound_frames d file frames is = is.sound

store_has_its_frames : (d file : List ℕ) (frames : List Frame) (is : IsStore d file frames) → FramesAt file is.begin frames
store_has_its_frames d file frames is = is.frames_at

store_is_under_its_list : (d file : List ℕ) (frames : List Frame) (is : IsStore d file frames) → d ≡ region_digest is.kept frames
store_is_under_its_list d file frames is = is.under

empty_is_unborn : IsUnborn []
empty_is_unborn = inl (omega arith)

one_byte_is_unborn : IsUnborn (1 ∷ [])
one_byte_is_unborn = inl (omega arith)

closed_head_is_unborn : IsUnborn (0 ∷ 7 ∷ [])
closed_head_is_unborn = inr refl

two_bytes_are_born : IsUnborn (1 ∷ 0 ∷ []) → ⊥
two_bytes_are_born is = elim is [ inl e ↦ absurd (omega (arith, e)) | inr e ↦ one_is_not_zero e ]

-- ---- regions

snapshot_first : IsRightKind true true []
snapshot_first = refl

snapshot_later : IsRightKind false true (7 ∷ []) → ⊥
snapshot_later is = false_is_not_true is

no_changes : IsRightKind true false [] → ⊥
no_changes is = absurd (omega (arith, is))

some_changes : IsRightKind false false (7 ∷ [])
some_changes = omega arith

number_goes_on : IsRightLast false 5 3 8
number_goes_on = refl

number_goes_round : IsRightLast false (2 ^ 64 - 1) 3 2
number_goes_round = refl

number_of_a_snapshot : IsRightLast true 5 3 100
number_of_a_snapshot = tt

no_frames_lead_nowhere : {S : Type 0} (takes : TakesOf S) (s t : S) (last end : ℕ) → Runs takes true s last [] t end → s ≡ t
no_frames_lead_nowhere takes s t last end runs = runs.0

no_frames_keep_the_number : {S : Type 0} (takes : TakesOf S) (s t : S) (last end : ℕ) → Runs takes true s last [] t end → last
    ≡ end
no_frames_keep_the_number takes s t last end runs = runs.1

-- a snapshot stands at the beginning alone
snapshot_behind_changes : {S : Type 0} (takes : TakesOf S) (s t : S) (end : ℕ)
    → Runs takes true s 0 (changes ∷ plain ∷ []) t end → ⊥
snapshot_behind_changes takes s t end runs = false_is_not_true runs.5.2

number_behind_a_frame : {S : Type 0} (takes : TakesOf S) (s t : S) (end : ℕ) → Runs takes true s 0 (plain ∷ []) t end → 9 ≡ end
number_behind_a_frame takes s t end runs = runs.5.1

number_of_changes : {S : Type 0} (takes : TakesOf S) (s t : S) (end : ℕ) (runs : Runs takes true s 0 (changes ∷ []) t end)
    → IsRightLast false 0 runs.1 1
number_of_changes takes s t end runs = runs.4

body_of_a_frame : {S : Type 0} (takes : TakesOf S) (s t : S) (end : ℕ) (runs : Runs takes true s 0 (changes ∷ []) t end)
    → takes s false (replicate 52 7) runs.0 runs.1
body_of_a_frame takes s t end runs = runs.3

snapshot_has_no_changes : {S : Type 0} (takes : TakesOf S) (s : S) (total : ℕ) → HasChanges takes s (plain ∷ []) total → total ≡ 0
snapshot_has_no_changes takes s total has = omega (arith, has.4, has.5)

changes_from_state_to_state : {S : Type 0} (takes : TakesOf S) (s : S) (total : ℕ)
    (has : HasChanges takes s (plain ∷ changes ∷ []) total) → HasChanges takes has.0 (changes ∷ []) has.2
changes_from_state_to_state takes s total has = has.4

frame_has_its_changes : {S : Type 0} (takes : TakesOf S) (s : S) (total : ℕ) (has : HasChanges takes s (changes ∷ []) total)
    → total ≡ has.1 + has.2
frame_has_its_changes takes s total has = has.5

stands_from_the_empty_state : {S : Type 0} (takes : TakesOf S) (empty s : S) (d file : List ℕ) (n : ℕ)
    (stands : StandsForState takes empty d file s n) → Runs takes true empty 0 stands.0 s n
stands_from_the_empty_state takes empty s d file n stands = stands.2

-- a frame with no gate behind it
opens_without_end : (file : List ℕ) → IsOpen file 128 → Holds file 129 (encoded changes) → OpensAt file 128 (changes ∷ [])
opens_without_end file gate holds = (gate, holds, tt)

opens_one_behind_another : (file : List ℕ) → OpensAt file 128 (changes ∷ plain ∷ []) → IsOpen file 198
opens_one_behind_another file opens = opens.2.0

-- a frame passes the end where its front does, or its body
no_gate_is_cut : IsCut [] 0
no_gate_is_cut = inl (omega arith)

front_is_cut : IsCut (replicate 17 1) 0
front_is_cut = inr ((omega arith, λ e. cc), inl (omega arith))

body_is_cut : (file : List ℕ) → IsOpen file 128 → Holds file 138 (to_le_bytes w64 52) → length file < 198 → IsCut file 128
body_is_cut file gate size less = inr (gate, inr (52, omega arith, size, less))

closed_is_not_cut : IsCut (0 ∷ []) 0 → ⊥
closed_is_not_cut is = elim is [ inl e ↦ absurd (omega (arith, e)) | inr e ↦ e.0.1 refl ]

size_of_a_frame : (file : List ℕ) → IsSized file 128 52 → Holds file 138 (to_le_bytes w64 52)
size_of_a_frame file is = is.1

frame_lies_in_the_file : (file : List ℕ) → IsSized file 128 52 → 198 ≤ length file
frame_lies_in_the_file file is = is.2

changes_are_a_right_kind : (file : List ℕ) → IsWrongKind file 128 true → slice_index file 129 ≡ 1 → ⊥
changes_are_a_right_kind file is kind = is.2 kind

first_snapshot_is_right : (file : List ℕ) → IsWrongKind file 128 true → slice_index file 129 ≡ 2 → true ≡ false
first_snapshot_is_right file is kind = is.3 kind

-- a snapshot that names a list is wrong behind another frame, and in version 1
listed_snapshot_is_wrong : (file : List ℕ) → IsWrongKind file 128 true → slice_index file 129 ≡ 3 → (true ≡ false) ⊎ IsFirst file
listed_snapshot_is_wrong file is kind = is.4 kind

empty_changes_are_short : (file : List ℕ) → IsSized file 128 0 → slice_index file 129 ≡ 1 → IsShort file 128 false
empty_changes_are_short file sized kind = inl (sized, kind)

digest_is_short : (file : List ℕ) → IsSized file 128 31 → slice_index file 129 ≡ 3 → IsSecond file → IsShort file 128 true
digest_is_short file sized kind is = inr (31, sized, kind, refl, is, omega arith)

three_is_not_one : ◌≡◌ {A = ℕ} 3 1 → ⊥
three_is_not_one is = cc

short_by_a_digest : IsShort (1 ∷ 3 ∷ []) 0 true → (size : ℕ) × (size < 32)
short_by_a_digest is = elim is [ inl e ↦ absurd (three_is_not_one e.1) | inr e ↦ (e.0, e.5) ]

frame_lies_there : (file : List ℕ) → IsFrameAt file 128 true changes → Holds file 129 (encoded changes)
frame_lies_there file is = is.1

frame_is_of_a_right_kind : (file : List ℕ) (f : Frame) → IsFrameAt file 128 false f → IsRightKind false f.snapshot f.body
frame_is_of_a_right_kind file f is = is.2

frame_lies_whole : (file : List ℕ) → IsFrameAt file 128 true changes → 198 ≤ length file
frame_lies_whole file is = is.3

frame_has_a_number : (file : List ℕ) (f : Frame) → IsFrameAt file 128 true f → f.last < 2 ^ 64
frame_has_a_number file f is = is.4

frame_may_name_its_list : (file : List ℕ) (f : Frame) → IsFrameAt file 128 true f → IsListed file f
frame_may_name_its_list file f is = is.6

-- where each fault of a frame at 128 is told: of a body, behind the digest of its list
fault_of_a_cut : {S : Type 0} (takes : TakesOf S) (refuses : RefusesOf S) (file : List ℕ) (s : S)
    → IsCut file 128 → IsFaultAt takes refuses file 128 true s 0 128
fault_of_a_cut takes refuses file s is = inl (is, refl)

fault_of_a_kind : {S : Type 0} (takes : TakesOf S) (refuses : RefusesOf S) (file : List ℕ) (s : S)
    → IsWrongKind file 128 true → IsFaultAt takes refuses file 128 true s 0 129
fault_of_a_kind takes refuses file s is = inr (inl (is, refl))

fault_of_a_size : {S : Type 0} (takes : TakesOf S) (refuses : RefusesOf S) (file : List ℕ) (s : S)
    → IsShort file 128 true → IsFaultAt takes refuses file 128 true s 0 138
fault_of_a_size takes refuses file s is = inr (inr (inl (is, refl)))

fault_of_a_body : {S : Type 0} (takes : TakesOf S) (refuses : RefusesOf S) (file : List ℕ) (s : S)
    → IsFrameAt file 128 true changes → refuses s false (replicate 52 7) 4 → IsFaultAt takes refuses file 128 true s 0 150
fault_of_a_body takes refuses file s is at = inr (inr (inr (inl (changes, is, (4, at, refl)))))

fault_of_a_listed_body : {S : Type 0} (takes : TakesOf S) (refuses : RefusesOf S) (file : List ℕ) (s : S)
    → IsFrameAt file 128 true listed → refuses s true (replicate 48 7) 4 → IsFaultAt takes refuses file 128 true s 0 182
fault_of_a_listed_body takes refuses file s is at = inr (inr (inr (inl (listed, is, (4, at, refl)))))

five_is_not_one : ◌≡◌ {A = ℕ} 1 5 → ⊥
five_is_not_one is = cc

fault_of_a_number : {S : Type 0} (takes : TakesOf S) (refuses : RefusesOf S) (file : List ℕ) (s t : S)
    → IsFrameAt file 128 true changes → takes s false (replicate 52 7) t 5 → IsFaultAt takes refuses file 128 true s 0 130
fault_of_a_number takes refuses file s t is at = inr (inr (inr (inr (changes, is, (t, 5, at, five_is_not_one, refl)))))

nothing_before : is_first [] ≡ true
nothing_before = refl

something_before : is_first (changes ∷ []) ≡ false
something_before = refl

-- a region is right up to its fault
right_up_to_a_fault : {S : Type 0} (takes : TakesOf S) (refuses : RefusesOf S) (file : List ℕ) (empty : S) (offset : ℕ)
    (is : IsFault takes refuses file 128 empty offset) → Runs takes true empty 0 is.0 is.1 is.2
right_up_to_a_fault takes refuses file empty offset is = is.5

sound_up_to_a_fault : {S : Type 0} (takes : TakesOf S) (refuses : RefusesOf S) (file : List ℕ) (empty : S) (offset : ℕ)
    (is : IsFault takes refuses file 128 empty offset) → OpensAt file 128 is.0 × AreSound file is.0
sound_up_to_a_fault takes refuses file empty offset is = (is.3, is.4)

fault_behind_the_frames : {S : Type 0} (takes : TakesOf S) (refuses : RefusesOf S) (file : List ℕ) (empty : S) (offset : ℕ)
    (is : IsFault takes refuses file 128 empty offset)
    → IsFaultAt takes refuses file (128 + frames_len is.0) (is_first is.0) is.1 is.2 offset
fault_behind_the_frames takes refuses file empty offset is = is.6

-- ---- faults of the head, at the offsets where they are told

front_is_long : (file : List ℕ) → IsFront file → 129 ≤ length file
front_is_long file is = is.long

front_has_a_name : (file : List ℕ) → IsFront file → Holds file 1 (codes "PBSTORE")
front_has_a_name file is = is.name

front_has_zeros : (file : List ℕ) → IsFront file → Holds file 9 (0 ∷ 0 ∷ 0 ∷ [])
front_has_zeros file is = is.padding

live_slot_is_open : (file : List ℕ) (n begin : ℕ) → IsLive file false n begin
    → IsOpen file 44 × Holds file 45 (slot_bytes n begin)
live_slot_is_open file n begin is = (is.slot, is.says)

other_slot_is_older : (file : List ℕ) (n begin : ℕ) → IsLive file false n begin → IsOlder file 61 n
other_slot_is_older file n begin is = is.older

no_slot_is_open : (file : List ℕ) → IsClosed file 44 → IsClosed file 61 → IsSlotFault file 44
no_slot_is_open file one two = inl (one, two, refl)

neither_slot_is_live : (file : List ℕ) → IsOpen file 44 → IsOpen file 61
    → ((live : Bool) (n begin : ℕ) → IsLive file live n begin → ⊥)
    → IsSlotFault file 61
neither_slot_is_live file one two none = inr (inl (one, two, none, refl))

zeros_are_not : (file : List ℕ) (n begin : ℕ) → IsLive file true n begin → (Holds file 78 (replicate 50 0) → ⊥)
    → IsSlotFault file 78
zeros_are_not file n begin is none = inr (inr (inl (true, n, begin, is, none, refl)))

begins_in_the_head : (file : List ℕ) (n : ℕ) → IsLive file false n 127 → Holds file 78 (replicate 50 0) → IsSlotFault file 53
begins_in_the_head file n is zeros = inr (inr (inr (false, n, 127, is, zeros, omega arith, inl (omega arith), refl)))

begins_past_the_end : (file : List ℕ) (n : ℕ) → IsLive file true n 200 → Holds file 78 (replicate 50 0) → length file ≤ 200
    → IsSlotFault file 70
begins_past_the_end file n is zeros less = inr (inr (inr (true, n, 200, is, zeros, omega arith, inr less, refl)))

-- a fault at the begin of the first slot is that of a begin in the head or past the end
begin_that_is_told : (file : List ℕ) → IsSlotFault file 53 → (begin : ℕ) × ((begin < 128) ⊎ (length file ≤ begin))
begin_that_is_told file is = elim is [
  | inl e ↦ absurd (omega (arith, e.2))
  | inr e ↦ elim e [
    | inl f ↦ absurd (omega (arith, f.3))
    | inr f ↦ elim f [ inl g ↦ absurd (omega (arith, g.5)) | inr g ↦ (g.2, g.6) ]
  ]
]

shorter_than_a_head : (file : List ℕ) → length file < 129 → IsHeadFault file 0
shorter_than_a_head file less = inl (less, refl)

another_name : (file : List ℕ) → 129 ≤ length file → (Holds file 1 (codes "PBSTORE") → ⊥) → IsHeadFault file 1
another_name file long none = inr (inl (long, none, refl))

another_version : (file : List ℕ) → 129 ≤ length file → Holds file 1 (codes "PBSTORE") → (Holds file 9 (0 ∷ 0 ∷ 0 ∷ []) → ⊥)
    → IsHeadFault file 8
another_version file long name none = inr (inr (inl (long, name, none, refl)))

empty_is_told_at_its_front : (offset : ℕ) → IsHeadFault [] offset → offset ≡ 0
empty_is_told_at_its_front offset is = elim is [
  | inl e ↦ e.1
  | inr e ↦ elim e [
    | inl f ↦ absurd (omega (arith, f.0))
    | inr f ↦ elim f [ inl g ↦ absurd (omega (arith, g.0)) | inr g ↦ absurd (omega (arith, g.0.long)) ]
  ]
]

-- ---- openings

most_bytes : limit ≡ 1073741824
most_bytes = refl

within_where_it_is_asked : (file : List ℕ) → IsWithin true file → length file ≤ 1073741824
within_where_it_is_asked file is = is refl

within_where_it_is_not : (file : List ℕ) → IsWithin false file
within_where_it_is_not file e = absurd (false_is_not_true e)

over_where_it_is_asked : (file : List ℕ) → IsOver true file → 1073741824 < length file
over_where_it_is_asked file is = is.1

not_over_where_it_is_not : (file : List ℕ) → IsOver false file → ⊥
not_over_where_it_is_not file is = false_is_not_true is.0

fault_of_the_head : {S : Type 0} (takes : TakesOf S) (refuses : RefusesOf S) (empty : S) (file : List ℕ) (offset : ℕ)
    → IsHeadFault file offset → IsStoreFault takes refuses empty file offset
fault_of_the_head takes refuses empty file offset is = inl is

fault_of_the_region : {S : Type 0} (takes : TakesOf S) (refuses : RefusesOf S) (empty : S) (kept file : List ℕ) (n offset : ℕ)
    → Head kept file false n 128 → 129 ≤ length file → IsFault takes refuses file 128 empty offset
    → IsStoreFault takes refuses empty file offset
fault_of_the_region takes refuses empty kept file n offset head long is =
    inr (kept, false, n, 128, head, omega arith, omega (arith, long), omega arith, is)

memory_is_excused : IsExcused NoMemory
memory_is_excused = tt

length_is_not_excused : IsExcused (TooLarge 2) → ⊥
length_is_not_excused is = is

memory_is_not_of_the_file : IsOfFile NoMemory → ⊥
memory_is_not_of_the_file is = is

fault_is_of_the_file : IsOfFile (NotAStore 1)
fault_is_of_the_file = tt

fault_leaves_alone : LeavesAlone (NotAStore 1)
fault_leaves_alone = tt

length_leaves_alone : LeavesAlone (TooLarge 2)
length_leaves_alone = tt

contents_stay : (old new : View) → LeavesNoMore old new → new.contents ≡ old.contents
contents_stay old new is = is.contents

images_are_no_more : (old new : View) → LeavesNoMore old new → (file : List ℕ) → new.may_leave file → old.may_leave file
images_are_no_more old new is = is.images

-- too large is told where it is asked alone, with the length
asked_where_it_is_too_large : {S : Type 0} (takes : TakesOf S) (refuses : RefusesOf S) (empty : S) (file : List ℕ) (len : ℕ)
    → IsRefusal takes refuses empty false file (TooLarge len) → ⊥
asked_where_it_is_too_large takes refuses empty file len is = false_is_not_true is.0

length_of_what_is_too_large : {S : Type 0} (takes : TakesOf S) (refuses : RefusesOf S) (empty : S) (file : List ℕ) (len : ℕ)
    → IsRefusal takes refuses empty true file (TooLarge len) → (len ≡ length file) × (1073741824 < len)
length_of_what_is_too_large takes refuses empty file len is = (is.1, is.2)

-- no store is told of a file within the limit that was born
no_store_is_born : {S : Type 0} (takes : TakesOf S) (refuses : RefusesOf S) (empty : S) (file : List ℕ) (offset : ℕ)
    → IsRefusal takes refuses empty true file (NotAStore offset) → (length file ≤ 1073741824) × IsOpen file 0 × (1 < length file)
no_store_is_born takes refuses empty file offset is = (is.0 refl, is.1, is.2)

no_store_has_its_fault : {S : Type 0} (takes : TakesOf S) (refuses : RefusesOf S) (empty : S) (file : List ℕ) (offset : ℕ)
    → IsRefusal takes refuses empty true file (NotAStore offset) → IsStoreFault takes refuses empty file offset
no_store_has_its_fault takes refuses empty file offset is = is.3

-- at most the byte of the version changes, and of version 1 alone
upgrade_of_version_1 : (old new : List ℕ) → IsUpgrade old new → IsFirst old × Torn 8 1 old new
upgrade_of_version_1 old new is = (is.first, is.torn)

two_in_its_place : (old new : List ℕ) → IsFirst old → Written 8 (2 ∷ []) old new → IsUpgraded old new
two_in_its_place old new is written = inl (is, written)

second_stays : (new : List ℕ) → IsUpgraded second new → new ≡ second
second_stays new is = elim is [ inl e ↦ absurd (two_is_not_one e.0) | inr e ↦ e.1 ]
  where
    two_is_not_one : ◌≡◌ {A = ℕ} 2 1 → ⊥
    two_is_not_one e = cc

-- a cut during an opening leaves a store of version 2 as it was
second_is_left : (given new : List ℕ) → IsOpening given second new → new ≡ second
second_is_left given new is = elim is [
  | inl e ↦ e
  | inr e ↦ elim e [
    | inl up ↦ absurd (two_is_not_one up.first)
    | inr unborn ↦ absurd (born unborn.0)
  ]
]
  where
    two_is_not_one : ◌≡◌ {A = ℕ} 2 1 → ⊥
    two_is_not_one e = cc

    born : IsUnborn second → ⊥
    born u = elim u [ inl e ↦ absurd (omega (arith, e)) | inr e ↦ one_is_not_zero e ]

unborn_may_become_a_store : (given new : List ℕ) → IsStore given new [] → IsOpening given [] new
unborn_may_become_a_store given new is = inr (inr (inl (omega arith), inr is))

unborn_may_stay_unborn : (given new : List ℕ) → IsUnborn new → IsOpening given [] new
unborn_may_stay_unborn given new is = inr (inr (inl (omega arith), inl is))

-- a store opens under its own list, whichever is given
store_opens_under_its_own : (given d file : List ℕ) (frames : List Frame) → IsStore d file frames → OpensUnder given file d
store_opens_under_its_own given d file frames is = inl (frames, is)

-- an empty file stands for the empty state, with no changes
empty_stands_for_nothing : {S : Type 0} (takes : TakesOf S) (empty s : S) (d : List ℕ) (n : ℕ) → FileMeans takes empty d [] s n
    → (s ≡ empty) × (n ≡ 0)
empty_stands_for_nothing takes empty s d n means = elim means [
  | inl stands ↦ absurd (omega (arith, stands.1.head.gate.0))
  | inr unborn ↦ (unborn.1, unborn.2)
]

no_call_failed : (old new : View) → HasNoFault old new
    → (new.faults ≡ old.faults) × (new.off ≡ old.off) × (new.failures ≡ old.failures)
no_call_failed old new is = (is.faults, is.off, is.failures)

no_cut_came : (old new : View) → HasNoFault old new → new.cuts ≡ old.cuts
no_cut_came old new is = is.cuts

failed_where_it_is_told : {T : Type 0} (result : Result T OpenFault) (old new : View) → Opens result old new
    → IsErrOf result DeviceFault → HasFailed old new
failed_where_it_is_told result old new opens = opens.failed

told_where_it_failed : {T : Type 0} (result : Result T OpenFault) (old new : View) → Opens result old new
    → IsErrOf result DeviceFault ⊎ HasNoFault old new
told_where_it_failed result old new opens = opens.only

faults_do_not_go_back : {T : Type 0} (result : Result T OpenFault) (old new : View) → Opens result old new
    → (new.tells ≡ old.tells) × (old.faults ≤ new.faults)
faults_do_not_go_back result old new opens = (opens.tells, opens.later)

powered_where_it_is_done : (old new : View) → Opens {T = ℕ} (Ok 7) old new → IsPowered old new
powered_where_it_is_done old new opens = opens.ok

-- an opening of five calls behind three: done before the cut in the ninth, and cut off by one up to it
done_before_the_cut : (cut : ℕ) (cuts : List ℕ) → AnswersByCuts {T = ℕ} (Ok 7) 3 5 (cut ∷ cuts) → 8 < cut
done_before_the_cut cut cuts answers = answers.0

cut_within_its_calls : (cut : ℕ) (cuts : List ℕ) → AnswersByCuts {T = ℕ} (Err DeviceFault) 3 5 (cut ∷ cuts)
    → (3 < cut) × (cut ≤ 8)
cut_within_its_calls cut cuts answers = answers.1 refl

no_cut_no_fault : AnswersByCuts {T = ℕ} (Err DeviceFault) 3 5 [] → ⊥
no_cut_no_fault answers = answers refl

-- ---- a journal

region_of_a_journal : (j : JournalView) (file : List ℕ) (frames : List Frame) → StandsInFile j file frames → 128 ≤ j.begin
region_of_a_journal j file frames is = is.from

end_of_a_journal : (j : JournalView) (file : List ℕ) (frames : List Frame) → StandsInFile j file frames → j.end
    ≡ j.begin + frames_len frames
end_of_a_journal j file frames is = is.end

changes_of_a_journal : (j : JournalView) (file : List ℕ) → StandsInFile j file (listed ∷ changes ∷ [])
    → (j.changes ≡ 1) × (j.base ≡ 9)
changes_of_a_journal j file is = (is.last, is.base)

list_of_a_journal : (j : JournalView) (file : List ℕ) → StandsInFile j file (listed ∷ changes ∷ []) → j.digest ≡ digest
list_of_a_journal j file is = is.under

head_of_a_journal : (j : JournalView) (file : List ℕ) (frames : List Frame) (is : StandsInFile j file frames)
    → Head is.kept file j.live j.number j.begin × FramesAt file j.begin frames
head_of_a_journal j file frames is = (is.head, is.frames_at)

sound_frames_of_a_journal : (j : JournalView) (file : List ℕ) (frames : List Frame) → StandsInFile j file frames
    → AreSound file frames
sound_frames_of_a_journal j file frames is = is.sound

version_of_a_journal : (j : JournalView) (file : List ℕ) (frames : List Frame) → StandsInFile j file frames → IsSecond file
version_of_a_journal j file frames is = is.second

nothing_is_pending : (j : JournalView) (view : View) → IsAtRest j view → IsSettled view
nothing_is_pending j view rest = rest.settled

file_is_the_store : (j : JournalView) (view : View) → IsAtRest j view → (c : List ℕ) → view.contents ≡ Some c
    → (frames : List Frame) × StandsInFile j c frames
file_is_the_store j view rest = rest.stands

-- the front of a frame and a digest have 50 bytes; a gate stands at either side
room_for_a_block : (j : JournalView) (view : View) (body : ℕ) → HasRoom j view body → body + 51 ≤ j.room
room_for_a_block j view body has = has.block

room_for_the_file : (j : JournalView) (view : View) (body : ℕ) → HasRoom j view body → j.end + body + 52 ≤ view.room_end
room_for_the_file j view body has = has.end

room_for_the_head : (j : JournalView) (view : View) (body : ℕ) → HasRoom j view body → 129 ≤ view.room_end
room_for_the_head j view body has = has.head

room_for_numbers : (j : JournalView) (view : View) (body : ℕ) → HasRoom j view body → j.end + body + 180 < 2 ^ 64
room_for_numbers j view body has = has.fits

room_for_four_writes : (j : JournalView) (view : View) (body : ℕ) → HasRoom j view body → 4 ≤ view.room_writes
room_for_four_writes j view body has = has.writes

abbrev counting : ℕ → JournalView
counting n = record {
  digest = digest;
  live = false;
  number = 1;
  begin = 128;
  end = 198;
  changes = n;
  base = 0;
  shut = false;
  room = 0;
}

frame_of_a_commit : next_frame (counting 5) (7 ∷ []) 3 ≡ record { snapshot = false; last = 8; list = []; body = 7 ∷ [] }
frame_of_a_commit = refl

frame_of_a_checkpoint : snapshot_frame (counting 5) (8 ∷ []) (7 ∷ [])
    ≡ record { snapshot = true; last = 5; list = 8 ∷ []; body = 7 ∷ [] }
frame_of_a_checkpoint = refl

before_or_with_one_more : (d : List ℕ) (frames : List Frame) (f : Frame) (file : List ℕ) → IsBeforeOrAfter d frames f file
    → IsStore d file frames ⊎ IsStore d file (frames ++ f ∷ [])
before_or_with_one_more d frames f file is = is.1

before_or_the_snapshot : (d : List ℕ) (frames : List Frame) (file : List ℕ) → IsBeforeOrSnapshot d frames listed file
    → IsStore d file frames ⊎ IsStore digest file (listed ∷ [])
before_or_the_snapshot d frames file is = is.1
