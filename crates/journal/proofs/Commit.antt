-- What the images of a commit stand for.
use Rattle.std.proofs.Common.{◌≡◌, inl, inr, ℕ, ◌+◌, ◌^◌, ◌<◌, ◌≤◌, Bool, List, [], ◌∷◌, ◌++◌, length, slice_index, arith, sym, ◌∙◌, ap, subst, length-append}
use Rattle.std.proofs.lemmas.Bool.{cases_eq}
use Rattle.std.proofs.lemmas.List.{append-nil, get_or_append_left, get_or-append-add}
use Rattle.disk_model.specs.Disk.{Holds, Written}
use Rattle.journal.specs.Append.{Same, IsAppending}
use Rattle.journal.specs.Frame.{IsSecond, Frame, encoded, frame_len, AreSound, region_digest}
use Rattle.journal.specs.Store.{IsClosed, IsOpen, FramesAt, IsStore}
use Rattle.journal.specs.Journal.{IsBeforeOrAfter}
use Rattle.journal.specs.CheckpointParts.{IsRegion}
use Rattle.journal.proofs.Ranges.{same_within, torn_before, written_before}
use Rattle.journal.proofs.Frames.{length-encoded, frames_len-append, frames_onto, frames_end, closed_same, head_same, second_same, sound_same, sound_push, digest_push}

pub holds_front : (file : List ℕ) (at : ℕ) (xs ys : List ℕ) → Holds file at (xs ++ ys) → Holds file at xs
holds_front file at xs ys h = record {
  within = omega (arith, h.within, length-append xs ys);
  each = λ i below. h.each i (omega (arith, length-append xs ys)) ∙ get_or_append_left xs ys 0 i below;
}

pub holds_back : (file : List ℕ) (at : ℕ) (xs ys : List ℕ) → Holds file at (xs ++ ys) → Holds file (at + length xs) ys
holds_back file at xs ys h = record {
  within = omega (arith, h.within, length-append xs ys);
  each = λ i below.
      let place : at + length xs + i ≡ at + (length xs + i) = omega arith in
      ap (λ (k : ℕ). slice_index file k) place ∙ h.each (length xs + i) (omega (arith, length-append xs ys)) ∙ get_or-append-add xs ys i 0;
}

-- a closed gate behind a frame's bytes
pub closed_behind : (file : List ℕ) (at : ℕ) (f : Frame) → Holds file (at + 1) (encoded f ++ 0 ∷ []) → IsClosed file (at + frame_len f)
closed_behind file at f h =
    let back = holds_back file (at + 1) (encoded f) (0 ∷ []) h in
    let place : at + 1 + length (encoded f) + 0 ≡ at + frame_len f = omega (arith, length-encoded f) in
    (omega (arith, back.within, length-encoded f), ap (λ (k : ℕ). slice_index file k) (sym place) ∙ back.each 0 (omega arith))

-- the gate's place is in the file
pub gate_place : (digest c : List ℕ) (live : Bool) (number begin end : ℕ) (frames : List Frame) → IsRegion digest c live number begin end frames → end + 1 ≤ length c
gate_place digest c live number begin end frames region = omega (arith, (frames_end frames c begin end region.ends region.frames_at).0)

module _ (digest c : List ℕ) (live : Bool) (number begin end : ℕ) (frames : List Frame) (f : Frame)
    (region : IsRegion digest c live number begin end frames) (last_fits : f.last < 2 ^ 64) (none : f.list ≡ []) (body_fits : length f.list + length f.body < 2 ^ 64) where
  place : end + 1 ≤ length c
  place = gate_place digest c live number begin end frames region

  long : 128 ≤ end
  long = omega (arith, region.from, region.ends)

  store : (file : List ℕ) (more : List Frame) → AreSound c (frames ++ more) → digest ≡ region_digest region.kept (frames ++ more) → Same 0 end c file → FramesAt file end more → IsStore digest file (frames ++ more)
  store file more sound under same then = record {
    kept = region.kept;
    live = live;
    number = number;
    begin = begin;
    head = head_same region.kept c file live number begin (same_within 0 end 0 128 c file (omega arith) long same) region.head;
    from = region.from;
    fits = region.fits;
    frames_at = frames_onto frames more c file begin end region.ends region.frames_at (same_within 0 end begin end c file (omega arith) (omega arith) same) then;
    sound = sound_same (frames ++ more) c file (second_same 0 end c file (omega arith) (omega (arith, long)) same) sound;
    under = under;
  }

  without : (file : List ℕ) → Same 0 end c file → IsClosed file end → IsStore digest file frames
  without file same shut =
      let back = sym (append-nil frames) in
      subst (λ (l : List Frame). IsStore digest file l) (append-nil frames)
      (store file [] (subst (λ (l : List Frame). AreSound c l) back region.sound) (subst (λ (l : List Frame). digest ≡ region_digest region.kept l) back region.under) same shut)

  with_open : (file : List ℕ) → Holds file (end + 1) (encoded f ++ 0 ∷ []) → IsOpen file end → FramesAt file end (f ∷ [])
  with_open file stands is_open = (is_open, holds_front file (end + 1) (encoded f) (0 ∷ []) stands, closed_behind file end f stands)

  sound : AreSound c (frames ++ f ∷ [])
  sound = sound_push c frames f region.sound last_fits body_fits (inl none)

  under : digest ≡ region_digest region.kept (frames ++ f ∷ [])
  under = region.under ∙ digest_push region.kept frames f none

  still_second : (file : List ℕ) → Same 0 end c file → IsSecond file
  still_second file same = second_same 0 end c file (omega arith) (omega (arith, long)) same region.second

  pub image : (file : List ℕ) → IsAppending end (encoded f ++ 0 ∷ []) c file → IsBeforeOrAfter digest frames f file
  image file (inl torn) =
      let behind : Same 0 (end + 1) c file = torn_before (end + 1) (length (encoded f ++ 0 ∷ [])) (end + 1) c file (omega arith) place torn in
      let same = same_within 0 (end + 1) 0 end c file (omega arith) (omega arith) behind in
      (still_second file same, inl (without file same (closed_same 0 (end + 1) end c file (omega arith) (omega arith) behind (frames_end frames c begin end region.ends region.frames_at))))
  image file (inr gated) =
      let before : Same 0 end c file = torn_before end (length (encoded f ++ 0 ∷ []) + 1) end c file (omega arith) (omega (arith, place)) gated.0 in (
        still_second file before,
        elim (cases_eq (slice_index file end) 0) [
          | inl shut ↦ inl (without file before (omega (arith, gated.1.within), shut))
          | inr is_open ↦ inr (store file (f ∷ []) sound under before (with_open file gated.1 (omega (arith, gated.1.within), is_open)))
        ],
      )

  -- once both are written
  pub done : (file : List ℕ) → Written end (1 ∷ encoded f ++ 0 ∷ []) c file → IsRegion digest file live number begin (end + frame_len f) (frames ++ f ∷ [])
  done file written =
      let before : Same 0 end c file = written_before end end (1 ∷ encoded f ++ 0 ∷ []) c file (omega arith) (omega (arith, place)) written in
      let gate : slice_index file (end + 0) ≡ 1 = written.each 0 (omega arith) in
      let zero_place : end + 0 ≡ end = omega arith in
      let opened : slice_index file end ≡ 1 = ap (λ (k : ℕ). slice_index file k) (sym zero_place) ∙ gate in
      let stands : Holds file (end + 1) (encoded f ++ 0 ∷ []) = holds_back file end (1 ∷ []) (encoded f ++ 0 ∷ []) (record { within = omega (arith, written.len); each = written.each }) in
      let is_open : IsOpen file end = (omega (arith, stands.within), one_zero (slice_index file end) opened) in
      record {
        kept = region.kept;
        head = head_same region.kept c file live number begin (same_within 0 end 0 128 c file (omega arith) long before) region.head;
        from = region.from;
        fits = region.fits;
        frames_at = frames_onto frames (f ∷ []) c file begin end region.ends region.frames_at (same_within 0 end begin end c file (omega arith) (omega arith) before) (with_open file stands is_open);
        sound = sound_same (frames ++ f ∷ []) c file (second_same 0 end c file (omega arith) (omega (arith, long)) before) sound;
        second = still_second file before;
        under = under;
        ends = omega (arith, region.ends, frames_len-append frames (f ∷ []));
      }
    where
      one_zero : (n : ℕ) → n ≡ 1 → n ≡ 0 → ⊥
      one_zero n is e = omega arith
