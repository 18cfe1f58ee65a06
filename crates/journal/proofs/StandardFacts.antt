-- The worked store in bytes, in both versions, and values just past each limit, so that a wrong rule
-- in the specs does not check. The store has one commit of a body of 52 bytes, under the digest of
-- the empty list, and then a checkpoint with a body of 48 bytes.
use Rattle.std.proofs.Common.{◌≡◌, refl, ℕ, ◌+◌, ◌∷◌, [], ◌++◌, List, length}
use Rattle.std.specs.Prelude.{codes, true, false, replicate, ◌^◌, ◌-◌}
use Rattle.journal.specs.Frame.{Frame, IsFirst, IsSecond, encoded, frame_len, base_of, region_digest}
use Rattle.journal.specs.Store.{magic, slot_at, other_at, new_head}
use Rattle.journal.specs.HeadFault.{begin_at}
use Rattle.journal.specs.Journal.{JournalView, since_of, snapshot_at, next_frame}
use Rattle.journal.specs.Opening.{opening_calls}

-- e3b0c44298fc1c149afbf4c8996fb92427ae41e4649b934ca495991b7852b855
abbrev digest : List ℕ
digest =
    227 ∷ 176 ∷ 196 ∷ 66 ∷ 152 ∷ 252 ∷ 28 ∷ 20 ∷ 154 ∷ 251 ∷ 244 ∷ 200 ∷ 153 ∷ 111 ∷ 185 ∷ 36
    ∷ 39 ∷ 174 ∷ 65 ∷ 228 ∷ 100 ∷ 155 ∷ 147 ∷ 76 ∷ 164 ∷ 149 ∷ 153 ∷ 27 ∷ 120 ∷ 82 ∷ 184 ∷ 85 ∷ []

-- a frame of changes with a body of 52 bytes, the first of its store
abbrev frame : Frame
frame = record { snapshot = false; last = 1; list = []; body = replicate 52 7 }

name : magic ≡ codes "PBSTORE"
name = refl

-- 129 bytes with the gate at 0; slot 0 has number 1 and begin 128
head_is : new_head digest ≡ codes "PBSTORE" ++ (2 ∷ 0 ∷ 0 ∷ 0 ∷ []) ++ digest
    ++ (1 ∷ 1 ∷ 0 ∷ 0 ∷ 0 ∷ 0 ∷ 0 ∷ 0 ∷ 0 ∷ 128 ∷ 0 ∷ 0 ∷ 0 ∷ 0 ∷ 0 ∷ 0 ∷ 0 ∷ []) ++ replicate 68 0
head_is = refl

head_long : length (new_head digest) ≡ 128
head_long = refl

-- kind 01, last 0100000000000000, size 3400000000000000, and the body
encoded_is : encoded frame ≡ (1 ∷ 1 ∷ 0 ∷ 0 ∷ 0 ∷ 0 ∷ 0 ∷ 0 ∷ 0 ∷ 52 ∷ 0 ∷ 0 ∷ 0 ∷ 0 ∷ 0 ∷ 0 ∷ 0 ∷ []) ++ replicate 52 7
unfolding encoded
encoded_is = refl

-- the closed gate behind it stands at 198, so the file has 199 bytes
ends_at : 128 + frame_len frame ≡ 198
ends_at = refl

-- a snapshot under that list, with a body of 48 bytes, and one as version 1 has it
abbrev snapshot : Frame
snapshot = record { snapshot = true; last = 1; list = digest; body = replicate 48 7 }

abbrev plain_snapshot : Frame
plain_snapshot = record { snapshot = true; last = 1; list = []; body = replicate 48 7 }

-- kind 03, last 0100000000000000, size 5000000000000000, the digest and the body
snapshot_is : encoded snapshot ≡ (3 ∷ 1 ∷ 0 ∷ 0 ∷ 0 ∷ 0 ∷ 0 ∷ 0 ∷ 0 ∷ 80 ∷ 0 ∷ 0 ∷ 0 ∷ 0 ∷ 0 ∷ 0 ∷ 0 ∷ []) ++ digest ++ replicate 48 7
unfolding encoded
snapshot_is = refl

-- kind 02, last 0100000000000000, size 3000000000000000 and the body
plain_snapshot_is : encoded plain_snapshot ≡ (2 ∷ 1 ∷ 0 ∷ 0 ∷ 0 ∷ 0 ∷ 0 ∷ 0 ∷ 0 ∷ 48 ∷ 0 ∷ 0 ∷ 0 ∷ 0 ∷ 0 ∷ 0 ∷ 0 ∷ []) ++ replicate 48 7
unfolding encoded
plain_snapshot_is = refl

-- the snapshot stands behind the region, so the file then has 298 bytes
snapshot_ends : 199 + frame_len snapshot + 1 ≡ 298
snapshot_ends = refl

-- the digest under which a region stands
names_list : region_digest [] (snapshot ∷ frame ∷ []) ≡ digest
names_list = refl

names_none : region_digest digest (plain_snapshot ∷ frame ∷ []) ≡ digest
names_none = refl

changes_name_none : region_digest digest (frame ∷ []) ≡ digest
changes_name_none = refl

no_frames_name_none : region_digest digest [] ≡ digest
no_frames_name_none = refl

-- version 1 is the byte 1 alone
is_first : IsFirst (1 ∷ codes "PBSTORE" ++ 1 ∷ [])
is_first = refl

torn_is_second : IsSecond (1 ∷ codes "PBSTORE" ++ 165 ∷ [])
torn_is_second e = cc

zero_is_second : IsSecond (1 ∷ codes "PBSTORE" ++ 0 ∷ [])
zero_is_second e = cc

-- the slots and the places of their begins
second_slot : slot_at true ≡ 61
second_slot = refl

first_slot : other_at true ≡ 44
first_slot = refl

second_begin : begin_at true ≡ 70
second_begin = refl

first_begin : begin_at false ≡ 53
first_begin = refl

-- a journal with so many changes, and so many when its region began
abbrev counting : ℕ → ℕ → JournalView
counting changes base = record {
  digest = digest;
  live = false;
  number = 1;
  begin = 128;
  end = 198;
  changes = changes;
  base = base;
  shut = false;
  room = 0;
}

-- numbers go on behind the last one of eight bytes
wraps : (next_frame (counting (2 ^ 64 - 1) 0) (7 ∷ []) 3).last ≡ 2
wraps = refl

since_wraps : since_of (counting 2 (2 ^ 64 - 1)) ≡ 3
since_wraps = refl

since_snapshot : since_of (counting 5 5) ≡ 0
since_snapshot = refl

snapshot_begins : base_of (record { snapshot = true; last = 9; list = []; body = [] } ∷ frame ∷ []) ≡ 9
snapshot_begins = refl

changes_begin : base_of (frame ∷ []) ≡ 0
changes_begin = refl

-- the changing calls of an opening
makes_from_nothing : opening_calls [] ≡ 7
makes_from_nothing = refl

makes_from_one_byte : opening_calls (1 ∷ []) ≡ 7
makes_from_one_byte = refl

makes_from_zeros : opening_calls (0 ∷ 0 ∷ []) ≡ 5
makes_from_zeros = refl

opens_born : opening_calls (165 ∷ 0 ∷ []) ≡ 1
opens_born = refl

opens_first : opening_calls (165 ∷ codes "PBSTORE" ++ 1 ∷ []) ≡ 3
opens_first = refl

opens_second : opening_calls (165 ∷ codes "PBSTORE" ++ 2 ∷ []) ≡ 1
opens_second = refl

opens_torn : opening_calls (165 ∷ codes "PBSTORE" ++ 165 ∷ []) ≡ 1
opens_torn = refl

makes_from_first : opening_calls (0 ∷ codes "PBSTORE" ++ 1 ∷ []) ≡ 5
makes_from_first = refl

-- where a snapshot with a body of 48 bytes goes: its frame and both gates have 99 bytes
abbrev beginning : ℕ → JournalView
beginning at = record (counting 1 0) { begin = at; end = at + 70 }

goes_behind : snapshot_at (beginning 226) 48 ≡ 297
goes_behind = refl

goes_before : snapshot_at (beginning 227) 48 ≡ 128
goes_before = refl
