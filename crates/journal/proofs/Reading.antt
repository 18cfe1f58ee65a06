-- What the frames of a region say of the bytes where it begins.
use Rattle.std.proofs.Common.{◌≡◌, inl, inr, ℕ, ◌+◌, ◌-◌, ◌≤◌, ◌<◌, Bool, true, false, List, [], ◌∷◌, length, slice_index, take, drop, arith, refl, sym, ◌∙◌, ap, subst}
use Rattle.std.specs.Prelude.{◌⊎◌, if◌then◌else◌}
use Rattle.disk_model.specs.Disk.{Holds}
use Rattle.journal.specs.Frame.{Frame, IsSecond, snapshot_kind, AreSound, region_digest, list_or}
use Rattle.journal.specs.Store.{FramesAt}
use Rattle.journal.specs.Region.{IsFrameAt}
use Rattle.journal.proofs.Frames.{length-encoded, named}
use Rattle.journal.proofs.Unique.{fields, holds_unique}
use Rattle.journal.proofs.Whole.{slice_from_holds}

-- a frame of kind 3 names a list
three_names : (snapshot : Bool) (list : List ℕ) (k : ℕ) (P : Type 0) → (list ≡ []) ⊎ ((snapshot ≡ true) × (length list ≡ 32) × P) → k ≡ (if snapshot then snapshot_kind list else 1) → k ≡ 3 → length list ≡ 32
three_names false list k P listed is three = absurd (omega arith)
three_names true [] k P listed is three = absurd (omega arith)
three_names true (byte ∷ rest) k P (inl none) is three = absurd (cc)
three_names true (byte ∷ rest) k P (inr some) is three = some.1

-- and one of another kind does not
others_name_none : (snapshot : Bool) (list : List ℕ) (k : ℕ) (P : Type 0) → (list ≡ []) ⊎ ((snapshot ≡ true) × (length list ≡ 32) × P) → k ≡ (if snapshot then snapshot_kind list else 1) → (k ≡ 3 → ⊥) → list ≡ []
others_name_none snapshot list k P (inl none) is not_three = none
others_name_none false list k P (inr some) is not_three = absurd (let e = some.0 in cc)
others_name_none true [] k P (inr some) is not_three = refl
others_name_none true (byte ∷ rest) k P (inr some) is not_three = absurd (not_three is)

pub region_there : (file : List ℕ) (begin : ℕ) (frames : List Frame) → FramesAt file begin frames → begin < length file
region_there file begin [] here = here.0
region_there file begin (f ∷ frames) here = here.0.0

-- behind an open gate stands a frame's front
pub front_there : (file : List ℕ) (begin : ℕ) (frames : List Frame) → FramesAt file begin frames → (slice_index file begin ≡ 0 → ⊥) → begin + 18 ≤ length file
front_there file begin [] here gate = absurd (gate here.1)
front_there file begin (f ∷ frames) here gate = omega (arith, here.1.within, length-encoded f)

-- and the digest behind that of a frame of kind 3
pub digest_there : (file : List ℕ) (begin : ℕ) (frames : List Frame) → FramesAt file begin frames → AreSound file frames → (slice_index file begin ≡ 0 → ⊥) → slice_index file (begin + 1) ≡ 3 → begin + 18 + 32 ≤ length file
digest_there file begin [] here sound gate three = absurd (gate here.1)
digest_there file begin (f ∷ frames) here sound gate three =
    let long = three_names f.snapshot f.list (slice_index file (begin + 1)) (IsSecond file) sound.2 (fields file begin f here.1).kind three in
    omega (arith, here.1.within, length-encoded f, long)

pub digest_of_three : (file : List ℕ) (begin : ℕ) (kept digest : List ℕ) (frames : List Frame) → FramesAt file begin frames → AreSound file frames → (slice_index file begin ≡ 0 → ⊥) → slice_index file (begin + 1) ≡ 3
    → length digest ≡ 32 → Holds file (begin + 18) digest → digest ≡ region_digest kept frames
digest_of_three file begin kept digest [] here sound gate three size holds = absurd (gate here.1)
digest_of_three file begin kept digest (f ∷ frames) here sound gate three size holds =
    let at = fields file begin f here.1 in
    let long = three_names f.snapshot f.list (slice_index file (begin + 1)) (IsSecond file) sound.2 at.kind three in
    holds_unique file (begin + 18) digest f.list (size ∙ sym long) holds at.list ∙ named kept f.list long

pub digest_of_others : (file : List ℕ) (begin : ℕ) (kept : List ℕ) (frames : List Frame) → FramesAt file begin frames → AreSound file frames → (slice_index file begin ≡ 0) ⊎ (slice_index file (begin + 1) ≡ 3 → ⊥) → kept ≡ region_digest kept frames
digest_of_others file begin kept [] here sound other = refl
digest_of_others file begin kept (f ∷ frames) here sound (inl shut) = absurd (here.0.1 shut)
digest_of_others file begin kept (f ∷ frames) here sound (inr not_three) =
    ap (λ (l : List ℕ). list_or kept l) (sym (others_name_none f.snapshot f.list (slice_index file (begin + 1)) (IsSecond file) sound.2 (fields file begin f here.1).kind not_three))

-- the bytes behind a frame's digest are its body
pub body_is : (file : List ℕ) (at list size : ℕ) (fresh : Bool) (f : Frame) → IsFrameAt file at fresh f → length f.list ≡ list → length f.list + length f.body ≡ size
    → f.body ≡ take (at + 18 + size - (at + 18 + list)) (drop (at + 18 + list) file)
body_is file at list size fresh f is is_list is_size =
    let n = at + 18 + size - (at + 18 + list) in
    let long : n ≡ length f.body = omega (arith, is_list, is_size) in
    let there : Holds file (at + 18 + list) f.body = subst (λ (k : ℕ). Holds file (at + 18 + k) f.body) is_list (fields file at f is.1).body in
    sym (slice_from_holds file (at + 18 + list) n f.body (omega (arith, there.within, long)) long there)
