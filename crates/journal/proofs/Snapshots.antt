-- What the images of a checkpoint stand for.
use Rattle.std.proofs.Common.{◌≡◌, inl, inr, ⊎_elim, ℕ, ◌+◌, ◌%◌, ◌^◌, ◌≤◌, ◌<◌, Bool, true, false, not, List, [], ◌∷◌, ◌++◌, length, slice_index, arith, refl, sym, ◌∙◌, ap, subst}
use Rattle.std.specs.Prelude.{replicate}
use Rattle.std.proofs.lemmas.Bool.{cases_eq}
use Rattle.std.proofs.lemmas.List.{append-nil}
use Rattle.disk_model.specs.Disk.{Holds, Torn, Written}
use Rattle.journal.specs.Append.{Same, IsAppending, IsStaging, IsStaged}
use Rattle.journal.specs.Frame.{Frame, encoded, frames_len, IsSecond}
use Rattle.journal.specs.Store.{IsClosed, IsOpen, FramesAt, slot_at, slot_bytes, other_at, IsOlder, magic, Head, IsStore}
use Rattle.journal.specs.Journal.{IsBeforeOrSnapshot}
use Rattle.journal.specs.CheckpointParts.{IsApart, IsBetween, IsBlock, IsRegion, IsStillStore}
use Rattle.journal.proofs.Ranges.{same_within, same_then, same_here, holds_same, torn_before, torn_behind, written_holds}
use Rattle.journal.proofs.Commit.{holds_front, holds_back, closed_behind}
use Rattle.journal.proofs.Frames.{named, frames_onto, frames_end, closed_same, open_same, second_same, sound_same}

-- what a head's other parts need of a file
pub other_small : (b : Bool) → other_at b ≤ 61
other_small true = omega arith
other_small false = omega arith

one_zero : (n : ℕ) → n ≡ 1 → n ≡ 0 → ⊥
one_zero n is e = omega arith

record Around (live : Bool) (c file : List ℕ) : Type 0 where
  low : Same 0 44 c file
  slot : Same (slot_at live) (slot_at live + 17) c file
  high : Same 78 128 c file

around_torn : (live : Bool) (a m : ℕ) (c file : List ℕ) → 128 ≤ length c → other_at live ≤ a → a + m ≤ other_at live + 17 → Torn a m c file → Around live c file
around_torn true a m c file long from to torn = record {
  low = torn_before a m 44 c file (omega arith) (omega arith) torn;
  slot = torn_behind a m 61 78 c file (omega arith) (omega arith) torn;
  high = torn_behind a m 78 128 c file (omega arith) (omega arith) torn;
}
around_torn false a m c file long from to torn = record {
  low = torn_before a m 44 c file (omega arith) (omega arith) torn;
  slot = same_within 0 61 44 61 c file (omega arith) (omega arith) (torn_before a m 61 c file (omega arith) (omega arith) torn);
  high = torn_behind a m 78 128 c file (omega arith) (omega arith) torn;
}

around_same : (live : Bool) (c file : List ℕ) → Same 0 128 c file → Around live c file
around_same true c file same = record { low = same_within 0 128 0 44 c file (omega arith) (omega arith) same; slot = same_within 0 128 61 78 c file (omega arith) (omega arith) same; high = same_within 0 128 78 128 c file (omega arith) (omega arith) same }
around_same false c file same = record { low = same_within 0 128 0 44 c file (omega arith) (omega arith) same; slot = same_within 0 128 44 61 c file (omega arith) (omega arith) same; high = same_within 0 128 78 128 c file (omega arith) (omega arith) same }

around_then : (live : Bool) (c d e : List ℕ) → Around live c d → Around live d e → Around live c e
around_then live c d e one two = record {
  low = same_then 0 44 c d e one.low two.low;
  slot = same_then (slot_at live) (slot_at live + 17) c d e one.slot two.slot;
  high = same_then 78 128 c d e one.high two.high;
}

-- the head with its live slot, and whatever the other slot says
head_around : (kept c file : List ℕ) (live : Bool) (number begin : ℕ) → Around live c file → Head kept c live number begin → IsOlder file (other_at live) number → Head kept file live number begin
head_around kept c file live number begin same h older = record {
  gate = open_same 0 44 0 c file (omega arith) (omega arith) same.low h.gate;
  name = holds_same 0 44 1 magic c file (omega arith) (omega arith) same.low h.name;
  padding = holds_same 0 44 9 (replicate 3 0) c file (omega arith) (omega arith) same.low h.padding;
  kept_size = h.kept_size;
  kept_at = holds_same 0 44 12 kept c file (omega arith) (omega (arith, h.kept_size)) same.low h.kept_at;
  slot = open_same (slot_at live) (slot_at live + 17) (slot_at live) c file (omega arith) (omega arith) same.slot h.slot;
  slot_says = holds_same (slot_at live) (slot_at live + 17) (slot_at live + 1) (slot_bytes number begin) c file (omega arith) (omega arith) same.slot h.slot_says;
  older = older;
  zero = holds_same 78 128 78 (replicate 50 0) c file (omega arith) (omega arith) same.high h.zero;
}

module _ (digest c : List ℕ) (live : Bool) (number begin end : ℕ) (frames : List Frame)
    (r : IsRegion digest c live number begin end frames) where
  long : 128 ≤ length c
  long = omega (arith, r.from, r.ends, (frames_end frames c begin end r.ends r.frames_at).0)

  frames_kept : (file : List ℕ) → Same begin (end + 1) c file → FramesAt file begin frames
  frames_kept file same =
      let shut = closed_same begin (end + 1) end c file (omega (arith, r.ends)) (omega arith) same (frames_end frames c begin end r.ends r.frames_at) in
      subst (λ (l : List Frame). FramesAt file begin l) (append-nil frames) (frames_onto frames [] c file begin end r.ends r.frames_at (same_within begin (end + 1) begin end c file (omega arith) (omega arith) same) shut)

  stays : (file : List ℕ) → Around live c file → Same begin (end + 1) c file → IsOlder file (other_at live) number → IsStore digest file frames
  stays file around same older =
      let shut = closed_same begin (end + 1) end c file (omega (arith, r.ends)) (omega arith) same (frames_end frames c begin end r.ends r.frames_at) in
      let at_file = frames_onto frames [] c file begin end r.ends r.frames_at (same_within begin (end + 1) begin end c file (omega arith) (omega arith) same) shut in
      record {
        kept = r.kept;
        live = live;
        number = number;
        begin = begin;
        head = head_around r.kept c file live number begin around r.head older;
        from = r.from;
        fits = r.fits;
        sound = sound_same frames c file (second_same 0 44 c file (omega arith) (omega arith) around.low) r.sound;
        under = r.under;
        frames_at = subst (λ (l : List Frame). FramesAt file begin l) (append-nil frames) at_file;
      }

  still : (file : List ℕ) → Around live c file → IsSecond file
  still file around = second_same 0 44 c file (omega arith) (omega arith) around.low r.second

  -- the first write of a checkpoint
  first_same : (to len : ℕ) (mid : List ℕ) → IsApart to len begin end → Torn to len c mid → Same 0 128 c mid × Same begin (end + 1) c mid
  first_same to len mid apart torn = (
    torn_before to len 128 c mid apart.0 long torn,
    ⊎_elim
        (λ (below : to + len ≤ begin). torn_behind to len begin (end + 1) c mid below (omega (arith, r.ends, (frames_end frames c begin end r.ends r.frames_at).0)) torn)
        (λ (is : to ≡ end + 1). same_within 0 (end + 1) begin (end + 1) c mid (omega arith) (omega arith) (torn_before to len (end + 1) c mid (omega arith) (omega (arith, r.ends, (frames_end frames c begin end r.ends r.frames_at).0)) torn))
        apart.1,
  )

  -- an old slot whose gate is torn is old or closed
  older_gate : (mid file : List ℕ) → Same 0 128 c mid → Torn (other_at live) 1 mid file → (older was : ℕ) → number ≡ (older + 1) % 2 ^ 64 → Holds c (other_at live + 1) (slot_bytes older was) → IsOlder file (other_at live) number
  older_gate mid file same torn older was is holds =
      let there : other_at live < length file = omega (arith, same.there, torn.no_shorter, other_small live) in
      elim (cases_eq (slice_index file (other_at live)) 0) [
        | inl shut ↦ inl (there, shut)
        | inr is_open ↦ inr (
          older,
          was,
          (there, is_open),
          is,
          holds_same (other_at live + 1) 128 (other_at live + 1) (slot_bytes older was) mid file (omega arith) (omega (arith, other_small live)) (torn_behind (other_at live) 1 (other_at live + 1) 128 mid file (omega arith) same.there torn)
              (holds_same 0 128 (other_at live + 1) (slot_bytes older was) c mid (omega arith) (omega (arith, other_small live)) same holds),
        )
      ]

  -- a closed slot stays closed while what is behind its gate is torn
  closed_number : (m : ℕ) (mid file : List ℕ) → Same 0 128 c mid → Torn (other_at live + 1) m mid file → IsClosed c (other_at live) → IsClosed file (other_at live)
  closed_number m mid file same torn shut =
      closed_same 0 (other_at live + 1) (other_at live) mid file (omega arith) (omega arith) (torn_before (other_at live + 1) m (other_at live + 1) mid file (omega arith) (omega (arith, same.there, other_small live)) torn)
      (closed_same 0 128 (other_at live) c mid (omega arith) (omega (arith, other_small live)) same shut)

  module _ (to len : ℕ) (apart : IsApart to len begin end) where
    after : (a m : ℕ) (mid file : List ℕ) → other_at live ≤ a → a + m ≤ other_at live + 17 → Torn to len c mid → Torn a m mid file → Around live c file × Same begin (end + 1) c file
    after a m mid file low high one two =
        let same = first_same to len mid apart one in (
          around_then live c mid file (around_same live c mid same.0) (around_torn live a m mid file same.0.there low high two),
          same_then begin (end + 1) c mid file same.1 (torn_behind a m begin (end + 1) mid file (omega (arith, other_small live)) same.1.there two),
        )

    -- the images of the first part, where the other slot was open
    pub stage_open : (older was : ℕ) → number ≡ (older + 1) % 2 ^ 64 → Holds c (other_at live + 1) (slot_bytes older was) → (file : List ℕ) → IsStaging to len (other_at live) 1 c file → IsStillStore digest frames file
    stage_open older was is holds file staging =
        let same = first_same to len staging.0 apart staging.1 in
        let around = after (other_at live) 1 staging.0 file (omega arith) (omega arith) staging.1 staging.2 in
        (still file around.0, stays file around.0 around.1 (older_gate staging.0 file same.0 staging.2 older was is holds))

    -- where it was closed
    pub stage_closed : IsClosed c (other_at live) → (file : List ℕ) → IsStaging to len (other_at live + 1) 8 c file → IsStillStore digest frames file
    stage_closed shut file staging =
        let same = first_same to len staging.0 apart staging.1 in
        let around = after (other_at live + 1) 8 staging.0 file (omega arith) (omega arith) staging.1 staging.2 in
        (still file around.0, stays file around.0 around.1 (inl (closed_number 8 staging.0 file same.0 staging.2 shut)))

    -- once the first part is done
    module _ (f : Frame) (a m : ℕ) (piece file : List ℕ) (low : other_at live ≤ a) (high : a + length piece ≤ other_at live + 17) (fits : len ≡ length (1 ∷ encoded f ++ 0 ∷ [])) (staged : IsStaged to (1 ∷ encoded f ++ 0 ∷ []) a piece c file) where
      one : Torn to len c staged.0
      one = let w = staged.1 in record { no_shorter = omega (arith, w.len); no_longer = omega (arith, w.len, fits); below = w.below; above = λ i within over. w.above i within (omega (arith, fits, over)) }

      two : Torn a (length piece) staged.0 file
      two = let w = staged.2 in record { no_shorter = omega (arith, w.len); no_longer = omega (arith, w.len); below = w.below; above = w.above }

      block_stays : Same to (to + len) staged.0 file
      block_stays = torn_behind a (length piece) to (to + len) staged.0 file (omega (arith, apart.0, other_small live)) (omega (arith, staged.1.len, fits)) two

      block_holds : Holds file to (1 ∷ encoded f ++ 0 ∷ [])
      block_holds = holds_same to (to + len) to (1 ∷ encoded f ++ 0 ∷ []) staged.0 file (omega arith) (omega (arith, fits)) block_stays (written_holds to (1 ∷ encoded f ++ 0 ∷ []) c staged.0 staged.1)

      snapshot_stands : FramesAt file to (f ∷ [])
      snapshot_stands =
          let back = holds_back file to (1 ∷ []) (encoded f ++ 0 ∷ []) block_holds in
          let gate : slice_index file to ≡ 1 = (let p : to ≡ to + 0 = omega arith in ap (λ (k : ℕ). slice_index file k) p) ∙ block_holds.each 0 (omega arith) in
          ((omega (arith, back.within), one_zero (slice_index file to) gate), holds_front file (to + 1) (encoded f) (0 ∷ []) back, closed_behind file to f back)

      pub between : IsClosed file (other_at live) → IsBetween digest file live number begin frames to f
      between shut =
          let around = after a (length piece) staged.0 file low high one two in
          let older : IsOlder file (other_at live) number = inl shut in
          record {
            kept = r.kept;
            head = head_around r.kept c file live number begin around.0 r.head older;
            from = r.from;
            fits = r.fits;
            sound = sound_same frames c file (second_same 0 44 c file (omega arith) (omega arith) around.0.low) r.sound;
            second = second_same 0 44 c file (omega arith) (omega arith) around.0.low r.second;
            under = r.under;
            frames_at = frames_kept file around.1;
            shut = shut;
            behind = apart.0;
            snapshot_at = snapshot_stands;
          }

      -- the gate was closed, and the number behind it was written
      pub between_closed : a ≡ other_at live + 1 → IsClosed c (other_at live) → IsBetween digest file live number begin frames to f
      between_closed is shut =
          let torn : Torn (other_at live + 1) (length piece) staged.0 file = subst (λ (k : ℕ). Torn k (length piece) staged.0 file) is two in
          between (closed_number (length piece) staged.0 file (first_same to len staged.0 apart one).0 torn shut)

      -- the gate was closed by the second write
      pub between_open : a ≡ other_at live → piece ≡ 0 ∷ [] → IsBetween digest file live number begin frames to f
      between_open is zero_piece =
          let w : Written a (0 ∷ []) staged.0 file = subst (λ (l : List ℕ). Written a l staged.0 file) zero_piece staged.2 in
          let place : a + 0 ≡ other_at live = omega arith in
          between (omega (arith, w.len), ap (λ (k : ℕ). slice_index file k) (sym place) ∙ w.each 0 (omega arith))

-- the slots change places
other_is : (live : Bool) → other_at live ≡ slot_at (not live)
other_is true = refl
other_is false = refl

slot_is : (live : Bool) → slot_at live ≡ other_at (not live)
slot_is true = refl
slot_is false = refl

-- the head once the other slot is open
new_head : (kept c file : List ℕ) (live : Bool) (number begin to : ℕ) → Around live c file → Head kept c live number begin
    → IsOpen file (other_at live) → Holds file (other_at live + 1) (slot_bytes ((number + 1) % 2 ^ 64) to) → Head kept file (not live) ((number + 1) % 2 ^ 64) to
new_head kept c file live number begin to same h is_open says = record {
  gate = open_same 0 44 0 c file (omega arith) (omega arith) same.low h.gate;
  name = holds_same 0 44 1 magic c file (omega arith) (omega arith) same.low h.name;
  padding = holds_same 0 44 9 (replicate 3 0) c file (omega arith) (omega arith) same.low h.padding;
  kept_size = h.kept_size;
  kept_at = holds_same 0 44 12 kept c file (omega arith) (omega (arith, h.kept_size)) same.low h.kept_at;
  slot = subst (IsOpen file) (other_is live) is_open;
  slot_says = subst (λ (k : ℕ). Holds file (k + 1) (slot_bytes ((number + 1) % 2 ^ 64) to)) (other_is live) says;
  older = subst (λ (k : ℕ). IsOlder file k ((number + 1) % 2 ^ 64)) (slot_is live) (inr (
    number,
    begin,
    open_same (slot_at live) (slot_at live + 17) (slot_at live) c file (omega arith) (omega arith) same.slot h.slot,
    refl,
    holds_same (slot_at live) (slot_at live + 17) (slot_at live + 1) (slot_bytes number begin) c file (omega arith) (omega arith) same.slot h.slot_says,
  ));
  zero = holds_same 78 128 78 (replicate 50 0) c file (omega arith) (omega arith) same.high h.zero;
}

-- the second part: the slot's number and begin, and then its gate
module _ (digest c : List ℕ) (live : Bool) (number begin : ℕ) (frames : List Frame) (to : ℕ) (f : Frame) (is : IsBetween digest c live number begin frames to f) (to_fits : to < 2 ^ 64)
    (block : List ℕ) (whole_block : IsBlock f block) where
  end : ℕ
  end = begin + frames_len frames

  whole : IsRegion digest c live number begin (begin + frames_len frames) frames
  whole = record { kept = is.kept; head = is.head; from = is.from; fits = is.fits; frames_at = is.frames_at; sound = is.sound; second = is.second; under = is.under; ends = refl }

  region : end + 1 ≤ length c
  unfolding end
  region = omega (arith, (frames_end frames c begin (begin + frames_len frames) refl is.frames_at).0)

  long_c : 128 ≤ length c
  unfolding end
  long_c = omega (arith, is.from, region)

  pub switch : (file : List ℕ) → IsAppending (other_at live) (slot_bytes ((number + 1) % 2 ^ 64) to) c file → IsBeforeOrSnapshot digest frames f file
  unfolding end
  switch file (inl torn) =
      let around = around_torn live (other_at live + 1) 16 c file long_c (omega arith) (omega arith) torn in
      let same = torn_behind (other_at live + 1) 16 begin (end + 1) c file (omega (arith, is.from, other_small live)) region torn in
      (still digest c live number begin end frames whole file around, inl (stays digest c live number begin end frames whole file around same (inl (closed_number digest c live number begin end frames whole 16 c file (same_here 0 128 c long_c) torn is.shut))))
  switch file (inr gated) =
      let around = around_torn live (other_at live) 17 c file long_c (omega arith) (omega arith) gated.0 in
      let same = torn_behind (other_at live) 17 begin (end + 1) c file (omega (arith, is.from, other_small live)) region gated.0 in
      let there : other_at live < length file = omega (arith, gated.1.within) in
      let second = still digest c live number begin end frames whole file around in (
        second,
        elim (cases_eq (slice_index file (other_at live)) 0) [
          | inl shut ↦ inl (stays digest c live number begin end frames whole file around same (inl (there, shut)))
          | inr is_open ↦ inr (record {
            kept = is.kept;
            live = not live;
            number = (number + 1) % 2 ^ 64;
            begin = to;
            head = new_head is.kept c file live number begin to around is.head (there, is_open) gated.1;
            from = is.behind;
            fits = to_fits;
            sound = (whole_block.last, whole_block.size, inr (whole_block.snapshot, whole_block.list, second), tt);
            under = named is.kept f.list whole_block.list;
            frames_at =
                let last = frames_end (f ∷ []) c to (to + frames_len (f ∷ [])) refl is.snapshot_at in
                let moved = torn_behind (other_at live) 17 to (to + frames_len (f ∷ []) + 1) c file (omega (arith, is.behind, other_small live)) (omega (arith, last.0)) gated.0 in
                frames_onto (f ∷ []) [] c file to (to + frames_len (f ∷ [])) refl is.snapshot_at (same_within to (to + frames_len (f ∷ []) + 1) to (to + frames_len (f ∷ [])) c file (omega arith) (omega arith) moved)
                (closed_same to (to + frames_len (f ∷ []) + 1) (to + frames_len (f ∷ [])) c file (omega arith) (omega arith) moved last);
          })
        ],
      )

  -- once the other slot is open
  pub switched : (file : List ℕ) → Written (other_at live) (1 ∷ slot_bytes ((number + 1) % 2 ^ 64) to) c file
      → IsSecond file × ((kept : List ℕ) × Head kept file (not live) ((number + 1) % 2 ^ 64) to) × FramesAt file to (f ∷ [])
  unfolding end
  switched file w =
      let torn : Torn (other_at live) 17 c file = record { no_shorter = omega (arith, w.len); no_longer = omega (arith, w.len); below = w.below; above = w.above } in
      let around = around_torn live (other_at live) 17 c file long_c (omega arith) (omega arith) torn in
      let gate : slice_index file (other_at live) ≡ 1 = (let p : other_at live ≡ other_at live + 0 = omega arith in ap (λ (k : ℕ). slice_index file k) p) ∙ w.each 0 (omega arith) in
      let stands = holds_back file (other_at live) (1 ∷ []) (slot_bytes ((number + 1) % 2 ^ 64) to) (written_holds (other_at live) (1 ∷ slot_bytes ((number + 1) % 2 ^ 64) to) c file w) in
      let last = frames_end (f ∷ []) c to (to + frames_len (f ∷ [])) refl is.snapshot_at in
      let moved = torn_behind (other_at live) 17 to (to + frames_len (f ∷ []) + 1) c file (omega (arith, is.behind, other_small live)) (omega (arith, last.0)) torn in (
        still digest c live number begin end frames whole file around,
        (is.kept, new_head is.kept c file live number begin to around is.head (omega (arith, stands.within), one_zero (slice_index file (other_at live)) gate) stands),
        frames_onto (f ∷ []) [] c file to (to + frames_len (f ∷ [])) refl is.snapshot_at (same_within to (to + frames_len (f ∷ []) + 1) to (to + frames_len (f ∷ [])) c file (omega arith) (omega arith) moved)
            (closed_same to (to + frames_len (f ∷ []) + 1) (to + frames_len (f ∷ [])) c file (omega arith) (omega arith) moved last),
      )
