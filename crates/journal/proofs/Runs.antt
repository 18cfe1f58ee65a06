-- Frames one after another, and one more.
use Rattle.std.proofs.Common.{◌≡◌, ℕ, ◌+◌, Bool, true, false, List, [], ◌∷◌, ◌++◌, arith, refl, sym, subst}
use Rattle.std.specs.Prelude.{if◌then◌else◌}
use Rattle.disk_model.specs.Disk.{Holds}
use Rattle.journal.specs.Frame.{Frame, encoded, frame_len, frames_len, last_of, base_of}
use Rattle.journal.specs.Store.{IsOpen, IsClosed, FramesAt}
use Rattle.journal.specs.Region.{OpensAt, Runs, IsRightKind, IsRightLast, is_first}

pub opens_push : (file : List ℕ) (frames : List Frame) (f : Frame) (at end : ℕ) → end ≡ at + frames_len frames → OpensAt file at frames → IsOpen file end → Holds file (end + 1) (encoded f) → OpensAt file at (frames ++ f ∷ [])
opens_push file [] f at end is opens gate holds =
    let here : end ≡ at = omega arith in
    (subst (λ (k : ℕ). IsOpen file k) here gate, subst (λ (k : ℕ). Holds file (k + 1) (encoded f)) here holds, tt)
opens_push file (x ∷ frames) f at end is opens gate holds = (opens.0, opens.1, opens_push file frames f (at + frame_len x) end (omega arith) opens.2 gate holds)

pub opens_end : (file : List ℕ) (frames : List Frame) (at end : ℕ) → end ≡ at + frames_len frames → OpensAt file at frames → IsClosed file end → FramesAt file at frames
opens_end file [] at end is opens shut = let here : end ≡ at = omega arith in subst (λ (k : ℕ). IsClosed file k) here shut
opens_end file (x ∷ frames) at end is opens shut = (opens.0, opens.1, opens_end file frames (at + frame_len x) end (omega arith) opens.2 shut)

-- whether a frame is the first, behind these
abbrev fresh_behind : Bool → List Frame → Bool
fresh_behind fresh [] = fresh
fresh_behind fresh (f ∷ frames) = false

pub fresh_is : (frames : List Frame) → fresh_behind true frames ≡ is_first frames
fresh_is [] = refl
fresh_is (f ∷ frames) = refl

still_false : (frames : List Frame) → fresh_behind false frames ≡ false
still_false [] = refl
still_false (f ∷ frames) = refl

pub runs_push : {S : Type 0} (takes : S → Bool → List ℕ → S → ℕ → Type 0) (fresh : Bool) (s : S) (last : ℕ) (frames : List Frame) (m : S) (mid : ℕ) (f : Frame) (t : S) (n : ℕ)
    → Runs takes fresh s last frames m mid → IsRightKind (fresh_behind fresh frames) f.snapshot f.body → takes m f.snapshot f.body t n → IsRightLast f.snapshot mid n f.last → Runs takes fresh s last (frames ++ f ∷ []) t f.last
runs_push takes fresh s last [] m mid f t n runs kind took right =
    let T = λ (x : _). takes x f.snapshot f.body t n in
    (t, n, kind, subst T (sym runs.0) took, subst (λ (k : ℕ). IsRightLast f.snapshot k n f.last) (sym runs.1) right, (refl, refl))
runs_push takes fresh s last (x ∷ frames) m mid f t n runs kind took right =
    let still : IsRightKind (fresh_behind false frames) f.snapshot f.body = subst (λ (b : Bool). IsRightKind b f.snapshot f.body) (sym (still_false frames)) kind in
    (runs.0, runs.1, runs.2, runs.3, runs.4, runs_push takes false runs.0 x.last frames m mid f t n runs.5 still took right)

pub frames_len-push : (frames : List Frame) (f : Frame) → frames_len (frames ++ f ∷ []) ≡ frames_len frames + frame_len f
frames_len-push [] f = omega arith
frames_len-push (x ∷ frames) f = omega (arith, frames_len-push frames f)

pub is_first-push : (frames : List Frame) (f : Frame) → is_first (frames ++ f ∷ []) ≡ false
is_first-push [] f = refl
is_first-push (x ∷ frames) f = refl

-- the number that a run ends with is that of its last frame
pub runs_last : {S : Type 0} (takes : S → Bool → List ℕ → S → ℕ → Type 0) (fresh : Bool) (s t : S) (last end : ℕ) (frames : List Frame) → Runs takes fresh s last frames t end → end ≡ last_of last frames
runs_last takes fresh s t last end [] runs = sym runs.1
runs_last takes fresh s t last end (f ∷ frames) runs = runs_last takes false runs.0 t f.last end frames runs.5

-- the number of changes when a region began, after one frame more
pub base-push : (frames : List Frame) (f : Frame) → IsRightKind (is_first frames) f.snapshot f.body → base_of (frames ++ f ∷ []) ≡ (if f.snapshot then f.last else base_of frames)
base-push [] f kind = refl
base-push (x ∷ frames) f kind = behind f.snapshot f.body f.last (base_of (x ∷ frames)) kind
  where
    behind : (snapshot : Bool) (body : List ℕ) (last base : ℕ) → IsRightKind false snapshot body → base ≡ (if snapshot then last else base)
    behind true body last base kind = absurd (cc)
    behind false body last base kind = refl
