-- A store of version 1 becomes one of version 2.
use Rattle.std.proofs.Common.{◌≡◌, inl, inr, ℕ, zero, suc, ◌+◌, ◌≤◌, ◌<◌, Bool, true, false, List, [], ◌∷◌, length, slice_index, arith, refl, sym, ◌∙◌, subst}
use Rattle.std.specs.Prelude.{replicate}
use Rattle.std.proofs.lemmas.Bool.{cases_eq}
use Rattle.std.proofs.lemmas.List.{append-nil}
use Rattle.disk_model.specs.Disk.{Torn, Written}
use Rattle.journal.specs.Append.{Same}
use Rattle.journal.specs.Frame.{Frame, IsFirst, IsSecond, AreSound, frames_len}
use Rattle.journal.specs.Store.{IsOlder, IsUnborn, IsStore, Head, FramesAt, slot_at, other_at, slot_bytes, magic}
use Rattle.journal.specs.Opening.{IsUpgrade, IsUpgraded}
use Rattle.journal.specs.ReaderAnswers.{IsKept}
use Rattle.journal.proofs.Ranges.{torn_before, torn_behind, holds_same, same_within}
use Rattle.journal.proofs.Frames.{open_same, closed_same, frames_onto, frames_end, sound_same, slots_small}

-- where frames stand, the file reaches
pub begins_within : (file : List ℕ) (at : ℕ) (frames : List Frame) → FramesAt file at frames → at < length file
begins_within file at [] here = here.0
begins_within file at (f ∷ frames) here = here.0.0

-- a store has a head and a gate
pub store_long : (digest file : List ℕ) (frames : List Frame) → IsStore digest file frames → 129 ≤ length file
store_long digest file frames s = omega (arith, s.from, begins_within file s.begin frames s.frames_at)

one_byte : (old new : List ℕ) → Written 8 (2 ∷ []) old new → Torn 8 1 old new
one_byte old new w = record { no_shorter = omega (arith, w.len); no_longer = omega (arith, w.len); below = w.below; above = w.above }

pub as_upgrade : (old new : List ℕ) → IsFirst old → Written 8 (2 ∷ []) old new → IsUpgrade old new
as_upgrade old new first w = record { first = first; torn = one_byte old new w }

-- an opening leaves a file as it was, or but for its version
pub upgraded_kept : (old new : List ℕ) → IsUpgraded old new → IsKept old new
upgraded_kept old new (inl up) = inr (as_upgrade old new up.0 up.1)
upgraded_kept old new (inr same) = inl same.1

-- and of version 2
pub upgraded_second : (old new : List ℕ) → IsUpgraded old new → IsSecond new
upgraded_second old new (inl up) = λ one. two_one (slice_index new 8) (up.1.each 0 (omega arith)) one
  where
    two_one : (n : ℕ) → n ≡ 2 → n ≡ 1 → ⊥
    two_one n two one = omega arith
upgraded_second old new (inr same) = subst (λ (f : List ℕ). IsSecond f) (sym same.1) same.0

-- only one byte of a store may have changed
module _ (old new : List ℕ) (up : IsUpgrade old new) (long : 129 ≤ length old) where
  front : Same 0 8 old new
  front = torn_before 8 1 8 old new (omega arith) (omega (arith, long)) up.torn

  back : (b : ℕ) → b ≤ length old → Same 9 b old new
  back b there = torn_behind 8 1 9 b old new (omega arith) there up.torn

  head_back : Same 9 129 old new
  head_back = back 129 long

  older_kept : (at number : ℕ) → 9 ≤ at → at + 17 ≤ 128 → IsOlder old at number → IsOlder new at number
  older_kept at number from within (inl shut) = inl (closed_same 9 129 at old new from (omega arith) head_back shut)
  older_kept at number from within (inr o) = inr (o.0, o.1, open_same 9 129 at old new from (omega arith) head_back o.2, o.3, holds_same 9 129 (at + 1) (slot_bytes o.0 o.1) old new (omega arith) (omega arith) head_back o.4)

  slots_far : (live : Bool) → (9 ≤ slot_at live) × (9 ≤ other_at live)
  slots_far true = (omega arith, omega arith)
  slots_far false = (omega arith, omega arith)

  pub head_kept : (kept : List ℕ) (live : Bool) (number begin : ℕ) → Head kept old live number begin → Head kept new live number begin
  head_kept kept live number begin h = record {
    gate = open_same 0 8 0 old new (omega arith) (omega arith) front h.gate;
    name = holds_same 0 8 1 magic old new (omega arith) (omega arith) front h.name;
    padding = holds_same 9 129 9 (replicate 3 0) old new (omega arith) (omega arith) head_back h.padding;
    kept_size = h.kept_size;
    kept_at = holds_same 9 129 12 kept old new (omega arith) (omega (arith, h.kept_size)) head_back h.kept_at;
    slot = open_same 9 129 (slot_at live) old new (slots_far live).0 (omega (arith, (slots_small live).0)) head_back h.slot;
    slot_says = holds_same 9 129 (slot_at live + 1) (slot_bytes number begin) old new (omega (arith, (slots_far live).0)) (omega (arith, (slots_small live).0)) head_back h.slot_says;
    older = older_kept (other_at live) number (slots_far live).1 (omega (arith, (slots_small live).1)) h.older;
    zero = holds_same 9 129 78 (replicate 50 0) old new (omega arith) (omega arith) head_back h.zero;
  }

  pub frames_kept : (frames : List Frame) (begin : ℕ) → 128 ≤ begin → FramesAt old begin frames → FramesAt new begin frames
  frames_kept frames begin from at =
      let end = begin + frames_len frames in
      let gate = frames_end frames old begin end refl at in
      let same = back (end + 1) (omega (arith, gate.0)) in
      let shut = closed_same 9 (end + 1) end old new (omega (arith, from)) (omega arith) same gate in
      subst (λ (l : List Frame). FramesAt new begin l) (append-nil frames) (frames_onto frames [] old new begin end refl at (same_within 9 (end + 1) begin end old new (omega (arith, from)) (omega arith) same) shut)

  pub sound_kept : (frames : List Frame) → AreSound old frames → AreSound new frames
  sound_kept frames = sound_same frames old new (λ second. absurd (second up.first))

-- the frames of an upgraded store, and the digest under which they stand, are those from before
pub upgrade_store : (digest old new : List ℕ) (frames : List Frame) → IsStore digest old frames → IsUpgrade old new → IsStore digest new frames
upgrade_store digest old new frames s up =
    let long = store_long digest old frames s in
    record {
      kept = s.kept;
      live = s.live;
      number = s.number;
      begin = s.begin;
      head = head_kept old new up long s.kept s.live s.number s.begin s.head;
      from = s.from;
      fits = s.fits;
      frames_at = frames_kept old new up long frames s.begin s.from s.frames_at;
      sound = sound_kept old new up long frames s.sound;
      under = s.under;
    }

-- an unborn file stays one
pub upgrade_unborn : (old new : List ℕ) → IsUnborn old → IsUpgrade old new → IsUnborn new
upgrade_unborn old new (inl short) up = absurd (no_version old short up.first)
  where
    no_version : (file : List ℕ) → length file ≤ 1 → slice_index file 8 ≡ 1 → ⊥
    no_version [] short one = omega arith
    no_version (x ∷ []) short one = omega arith
    no_version (x ∷ y ∷ rest) short one = omega arith
upgrade_unborn old new (inr shut) up = inr (elim (cases_eq (length old) 0) [
  | inl none ↦ absurd (empty old none up.first)
  | inr some ↦ up.torn.below 0 (omega (arith, some_of (length old) some)) (omega arith) ∙ shut
])
  where
    empty : (file : List ℕ) → length file ≡ 0 → slice_index file 8 ≡ 1 → ⊥
    empty [] none one = omega arith
    empty (x ∷ rest) none one = omega arith

    some_of : (n : ℕ) → (n ≡ 0 → ⊥) → 0 < n
    some_of zero some = absurd (some refl)
    some_of (suc n) some = omega arith
