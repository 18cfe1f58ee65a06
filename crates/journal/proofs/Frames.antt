-- Frames and head of a file of which some bytes stay.
use Rattle.std.proofs.Common.{◌≡◌, inl, inr, ⊎_elim, ℕ, ◌+◌, ◌^◌, ◌≤◌, ◌<◌, Bool, true, false, List, [], ◌∷◌, ◌++◌, length, arith, refl, sym, ◌∙◌, ap, subst, length-append}
use Rattle.std.specs.Prelude.{replicate}
use Rattle.std.specs.Int.{w64, to_le_bytes}
use Rattle.journal.specs.Append.{Same}
use Rattle.journal.specs.Frame.{IsFirst, IsSecond, IsListed, Frame, encoded, frame_len, frames_len, AreSound, last_of, list_or, region_digest}
use Rattle.journal.specs.Store.{IsClosed, IsOpen, FramesAt, slot_at, other_at, slot_bytes, IsOlder, magic, Head}
use Rattle.journal.proofs.Ranges.{same_within, holds_same}

pub length-encoded : (f : Frame) → length (encoded f) ≡ 17 + (length f.list + length f.body)
unfolding encoded
length-encoded f =
    let size = to_le_bytes w64 (length f.list + length f.body) in
    omega (arith, length-append (to_le_bytes w64 f.last) (size ++ (f.list ++ f.body)), length-append size (f.list ++ f.body), length-append f.list f.body)

pub open_same : (a b at : ℕ) (x y : List ℕ) → a ≤ at → at < b → Same a b x y → IsOpen x at → IsOpen y at
open_same a b at x y from below same is = (omega (arith, same.there), λ e. is.1 (sym (same.each at from below) ∙ e))

pub closed_same : (a b at : ℕ) (x y : List ℕ) → a ≤ at → at < b → Same a b x y → IsClosed x at → IsClosed y at
closed_same a b at x y from below same is = (omega (arith, same.there), same.each at from below ∙ is.1)

-- the frames stay where their bytes stay, and others may stand behind them
pub frames_onto : (frames more : List Frame) (old new : List ℕ) (at end : ℕ) → end ≡ at + frames_len frames → FramesAt old at frames → Same at end old new → FramesAt new end more → FramesAt new at (frames ++ more)
frames_onto [] more old new at end is at_old same then =
    let here : end ≡ at = omega arith in
    subst (λ (k : ℕ). FramesAt new k more) here then
frames_onto (f ∷ frames) more old new at end is at_old same then =
    let size = length-encoded f in (
      open_same at end at old new (omega arith) (omega arith) same at_old.0,
      holds_same at end (at + 1) (encoded f) old new (omega arith) (omega arith) same at_old.1,
      frames_onto frames more old new (at + frame_len f) end (omega arith) at_old.2 (same_within at end (at + frame_len f) end old new (omega arith) (omega arith) same) then,
    )

-- the closed gate behind them
pub frames_end : (frames : List Frame) (file : List ℕ) (at end : ℕ) → end ≡ at + frames_len frames → FramesAt file at frames → IsClosed file end
frames_end [] file at end is here = let same : at ≡ end = omega arith in subst (λ (k : ℕ). IsClosed file k) same here
frames_end (f ∷ frames) file at end is here = frames_end frames file (at + frame_len f) end (omega arith) here.2

pub frames_len-append : (frames more : List Frame) → frames_len (frames ++ more) ≡ frames_len frames + frames_len more
frames_len-append [] more = omega arith
frames_len-append (f ∷ frames) more = omega (arith, frames_len-append frames more)

pub last_of-push : (before : ℕ) (frames : List Frame) (f : Frame) → last_of before (frames ++ f ∷ []) ≡ f.last
last_of-push before [] f = refl
last_of-push before (g ∷ frames) f = last_of-push g.last frames f

older_same : (at number : ℕ) (x y : List ℕ) → at + 17 ≤ 128 → Same 0 128 x y → IsOlder x at number → IsOlder y at number
older_same at number x y within same (inl shut) = inl (closed_same 0 128 at x y (omega arith) (omega arith) same shut)
older_same at number x y within same (inr o) = inr (o.0, o.1, open_same 0 128 at x y (omega arith) (omega arith) same o.2, o.3, holds_same 0 128 (at + 1) (slot_bytes o.0 o.1) x y (omega arith) (omega arith) same o.4)

-- both slots stand before the zeros
pub slots_small : (live : Bool) → (slot_at live ≤ 61) × (other_at live ≤ 61)
slots_small true = (omega arith, omega arith)
slots_small false = (omega arith, omega arith)

-- a version stays where its byte does
pub first_same : (a b : ℕ) (x y : List ℕ) → a ≤ 8 → 8 < b → Same a b x y → IsFirst x → IsFirst y
first_same a b x y from to same is = same.each 8 from to ∙ is

pub second_same : (a b : ℕ) (x y : List ℕ) → a ≤ 8 → 8 < b → Same a b x y → IsSecond x → IsSecond y
second_same a b x y from to same is first = is (sym (same.each 8 from to) ∙ first)

-- frames that are sound in a file are so in one of the same version, or of a later one
pub sound_same : (frames : List Frame) (x y : List ℕ) → (IsSecond x → IsSecond y) → AreSound x frames → AreSound y frames
sound_same [] x y to sound = tt
sound_same (f ∷ frames) x y to sound = (
  sound.0,
  sound.1,
  ⊎_elim (λ (none : f.list ≡ []). inl none) (λ (some : (f.snapshot ≡ true) × (length f.list ≡ 32) × IsSecond x). inr (some.0, some.1, to some.2)) sound.2,
  sound_same frames x y to sound.3,
)

pub sound_push : (file : List ℕ) (frames : List Frame) (f : Frame) → AreSound file frames → f.last < 2 ^ 64 → length f.list + length f.body < 2 ^ 64 → IsListed file f → AreSound file (frames ++ f ∷ [])
sound_push file [] f sound last size listed = (last, size, listed, tt)
sound_push file (x ∷ frames) f sound last size listed = (sound.0, sound.1, sound.2, sound_push file frames f sound.3 last size listed)

-- a snapshot that names a list stands under it
pub named : (kept list : List ℕ) → length list ≡ 32 → list ≡ list_or kept list
named kept [] long = absurd (omega arith)
named kept (byte ∷ rest) long = refl

-- a frame that names no list leaves the one under which a region stands
pub digest_push : (kept : List ℕ) (frames : List Frame) (f : Frame) → f.list ≡ [] → region_digest kept frames ≡ region_digest kept (frames ++ f ∷ [])
digest_push kept [] f none = ap (λ (l : List ℕ). list_or kept l) (sym none)
digest_push kept (x ∷ frames) f none = refl

pub head_same : (kept x y : List ℕ) (live : Bool) (number begin : ℕ) → Same 0 128 x y → Head kept x live number begin → Head kept y live number begin
head_same kept x y live number begin same h = record {
  gate = open_same 0 128 0 x y (omega arith) (omega arith) same h.gate;
  name = holds_same 0 128 1 magic x y (omega arith) (omega arith) same h.name;
  padding = holds_same 0 128 9 (replicate 3 0) x y (omega arith) (omega arith) same h.padding;
  kept_size = h.kept_size;
  kept_at = holds_same 0 128 12 kept x y (omega arith) (omega (arith, h.kept_size)) same h.kept_at;
  slot = open_same 0 128 (slot_at live) x y (omega arith) (omega (arith, (slots_small live).0)) same h.slot;
  slot_says = holds_same 0 128 (slot_at live + 1) (slot_bytes number begin) x y (omega arith) (omega (arith, (slots_small live).0)) same h.slot_says;
  older = older_same (other_at live) number x y (omega (arith, (slots_small live).1)) same h.older;
  zero = holds_same 0 128 78 (replicate 50 0) x y (omega arith) (omega arith) same h.zero;
}
