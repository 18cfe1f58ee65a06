use Rattle.std.proofs.Common.{◌≡◌, ◌≤◌, ◌+◌, ◌%◌, ◌^◌, ◌≢◌, ◌∷◌, [], Bool, List, ℕ, length, slice_index, arith, sym, ◌∙◌, ap, subst, refl, inl, inr}
use Rattle.std.specs.Prelude.{Option, Some}
use Rattle.disk_model.specs.Disk.{View, Goes, IsSettled, Stays, LeavesOnly, Holds}
use Rattle.journal.specs.Append.{IsStaging, IsStaged}
use Rattle.journal.specs.CheckpointParts.{IsRegion, IsStillStore}
use Rattle.journal.specs.Frame.{Frame}
use Rattle.journal.specs.Store.{IsStore, IsClosed, IsOlder, slot_bytes, other_at}
use Rattle.journal.proofs.Moments.{weaker, goes_from, goes_back, started, stays_on, and_then, settled_images}
use Rattle.journal.proofs.Snapshots.{stage_closed, stage_open, between_closed, between_open, other_small}
use Rattle.std.proofs.lemmas.Result.{on_ok_weaker}
use Rattle.journal.proofs.checkpoint.stage_snapshot.Goals as goal

-- the frames stand while the gate is read, and in each moment of the writes that leave them
stands_through : (v w y : View) (digest file : List ℕ) (live : Bool) (number begin end : ℕ) (frames : List Frame) (Q : List ℕ → Type 0) → ((c : List ℕ) → v.left_since v.moment c → v.may_leave c) → IsSettled v → v.contents ≡ Some file
    → IsRegion digest file live number begin end frames → Stays v w → ((image : List ℕ) → Q image → IsStillStore digest frames image) → LeavesOnly w y Q → LeavesOnly v y (IsStillStore digest frames)
stands_through v w y digest file live number begin end frames Q only settled is r stays to moments =
    let P = IsStillStore digest frames in
    let store : IsStore digest file frames = record { kept = r.kept; live = live; number = number; begin = begin; head = r.head; from = r.from; fits = r.fits; frames_at = r.frames_at; sound = r.sound; under = r.under } in
    let read = stays_on v v w P (started v P only (settled_images v file P settled is (r.second, store))) stays in
    and_then v w y P read (weaker w y Q P to moments)

-- the gate that was read is that of the head's other slot
gate_is : (file : List ℕ) (live : Bool) (slot gate : ℕ) → slot ≡ other_at live → slice_index file slot ≡ gate → slice_index file (other_at live) ≡ gate
gate_is file live slot gate at byte = subst (λ (k : ℕ). slice_index file k ≡ gate) at byte

-- the head's other slot, where its gate is closed
was_shut : (file : List ℕ) (live : Bool) (slot gate : ℕ) → slot ≡ other_at live → slice_index file slot ≡ gate → gate ≡ 0 → 129 ≤ length file → IsClosed file (other_at live)
was_shut file live slot gate at byte shut long = (omega (arith, long, other_small live), gate_is file live slot gate at byte ∙ shut)

-- the head's other slot, where its gate is open
was_open : (file : List ℕ) (at number : ℕ) → IsOlder file at number → slice_index file at ≢ 0 → (older : ℕ) × (was : ℕ) × (number ≡ (older + 1) % 2 ^ 64) × Holds file (at + 1) (slot_bytes older was)
was_open file at number (inl shut) is_open = absurd (is_open shut.1)
was_open file at number (inr o) is_open = (o.0, o.1, o.3, o.4)

pub returns-then-gate-eq0-clause-any_moment : goal.returns-then-gate-eq0-clause-any_moment
returns-then-gate-eq0-clause-any_moment g c = λ x digest begin end frames is r apart.
    let V = g.D.Disk.view in
    let live = c.args.live in
    let to = c.args.to in
    let len = length c.args.block.now in
    let v = V c.args.disk.now in
    let w = V c.byte_at.new.disk in
    let y = V c.stage.new.disk in
    let shut = was_shut x live c.other_slot-other.result c.in_ok-gate.gate c.other_slot-other.ensures (c.in_ok-gate.ensures.byte x is) c.if-gate-eq0.true (c.requires.ready.place x is).1 in
    let eight : length c.to_le_bytes.result ≡ 8 = ap (λ (l : List ℕ). length l) c.to_le_bytes.ensures in
    let E = λ (m : ℕ). LeavesOnly w y (IsStaging to len (c.other_slot-other.result + 1) m x) in
    let S = λ (k : ℕ). LeavesOnly w y (IsStaging to len k 8 x) in
    let place_is : c.other_slot-other.result + 1 ≡ other_at live + 1 = omega (arith, c.other_slot-other.ensures) in
    let moments = subst S place_is (subst E eight (c.stage.ensures.any_moment x (c.byte_at.ensures.stays.contents ∙ is))) in
    stands_through v w y digest x live c.args.number begin end frames (IsStaging to len (other_at live + 1) 8 x) (g.met.D.Disk.lawful c.args.disk.now).only_now c.requires.ready.settled is r c.byte_at.ensures.stays
    (stage_closed digest x live c.args.number begin end frames r to len apart shut) moments

pub returns-else-gate-eq0-clause-any_moment : goal.returns-else-gate-eq0-clause-any_moment
returns-else-gate-eq0-clause-any_moment g c = λ x digest begin end frames is r apart.
    let V = g.D.Disk.view in
    let live = c.args.live in
    let to = c.args.to in
    let len = length c.args.block.now in
    let v = V c.args.disk.now in
    let w = V c.byte_at.new.disk in
    let y = V c.stage-else-gate-eq0.new.disk in
    let gate = gate_is x live c.other_slot-other.result c.in_ok-gate.gate c.other_slot-other.ensures (c.in_ok-gate.ensures.byte x is) in
    let is_open : slice_index x (other_at live) ≢ 0 = λ e. c.if-gate-eq0.false (sym gate ∙ e) in
    let o = was_open x (other_at live) c.args.number r.head.older is_open in
    let S = λ (k : ℕ). LeavesOnly w y (IsStaging to len k 1 x) in
    let moments = subst S c.other_slot-other.ensures (c.stage-else-gate-eq0.ensures.any_moment x (c.byte_at.ensures.stays.contents ∙ is)) in
    stands_through v w y digest x live c.args.number begin end frames (IsStaging to len (other_at live) 1 x) (g.met.D.Disk.lawful c.args.disk.now).only_now c.requires.ready.settled is r c.byte_at.ensures.stays
    (stage_open digest x live c.args.number begin end frames r to len apart o.0 o.1 o.2 o.3) moments

pub returns-then-gate-eq0-clause-between : goal.returns-then-gate-eq0-clause-between
returns-then-gate-eq0-clause-between g c = on_ok_weaker c.stage.result (λ goes. λ x digest begin end frames f is r apart block.
    let live = c.args.live in
    let to = c.args.to in
    let len = length c.args.block.now in
    let other = c.other_slot-other.ensures in
    let shut = was_shut x live c.other_slot-other.result c.in_ok-gate.gate other (c.in_ok-gate.ensures.byte x is) c.if-gate-eq0.true (c.requires.ready.place x is).1 in
    let next = goes_from _ _ _ x goes (c.byte_at.ensures.stays.contents ∙ is) in
    let eight : length c.to_le_bytes.result ≡ 8 = ap (λ (l : List ℕ). length l) c.to_le_bytes.ensures in
    let B = λ (l : List ℕ). IsStaged to l (c.other_slot-other.result + 1) c.to_le_bytes.result x next.0 in (
      next.0,
      next.1,
      between_closed digest x live c.args.number begin end frames r to len apart f (c.other_slot-other.result + 1) 8 c.to_le_bytes.result next.0
          (omega (arith, other)) (omega (arith, other, eight)) (ap (λ (l : List ℕ). length l) block.bytes) (subst B block.bytes next.2) (omega (arith, other)) shut,
    )) c.stage.ensures.written

pub returns-else-gate-eq0-clause-between : goal.returns-else-gate-eq0-clause-between
returns-else-gate-eq0-clause-between g c = on_ok_weaker c.stage-else-gate-eq0.result (λ goes. λ x digest begin end frames f is r apart block.
    let to = c.args.to in
    let other = c.other_slot-other.ensures in
    let next = goes_from _ _ _ x goes (c.byte_at.ensures.stays.contents ∙ is) in
    let B = λ (l : List ℕ). IsStaged to l c.other_slot-other.result (0 ∷ []) x next.0 in (
      next.0,
      next.1,
      between_open digest x c.args.live c.args.number begin end frames r to (length c.args.block.now) apart f c.other_slot-other.result 1 (0 ∷ []) next.0
          (omega (arith, other)) (omega (arith, other)) (ap (λ (l : List ℕ). length l) block.bytes) (subst B block.bytes next.2) other refl,
    )) c.stage-else-gate-eq0.ensures.written

-- what is written over a long file leaves it long
still_long : (at slot : ℕ) (block piece : List ℕ) (old mid new : Option (List ℕ)) (d : List ℕ) → mid ≡ old → ((c : List ℕ) → old ≡ Some c → (at ≤ length c) × (129 ≤ length c)) → Goes (IsStaged at block slot piece) mid new → new ≡ Some d
    → 129 ≤ length d
still_long at slot block piece old mid new d same place goes told =
    let was = goes_back (IsStaged at block slot piece) mid new d goes told in
    let staged = was.2 in
    omega (arith, staged.1.len, staged.2.len, (place was.0 (sym same ∙ was.1)).1)

pub returns-then-gate-eq0-clause-long : goal.returns-then-gate-eq0-clause-long
returns-then-gate-eq0-clause-long g c = on_ok_weaker c.stage.result (λ goes. λ d told. still_long _ _ _ _ _ _ _ d c.byte_at.ensures.stays.contents c.requires.ready.place goes told) c.stage.ensures.written

pub returns-else-gate-eq0-clause-long : goal.returns-else-gate-eq0-clause-long
returns-else-gate-eq0-clause-long g c = on_ok_weaker c.stage-else-gate-eq0.result (λ goes. λ d told. still_long _ _ _ _ _ _ _ d c.byte_at.ensures.stays.contents c.requires.ready.place goes told) c.stage-else-gate-eq0.ensures.written
