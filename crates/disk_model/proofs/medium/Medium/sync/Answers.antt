use Rattle.std.proofs.Common.{◌≡◌, List, ℕ, arith, subst}
use Rattle.disk_model.specs.History.{Past, held, after, synced, Grows}
use Rattle.disk_model.specs.MediumBuffers.{unless_fresh}
use Rattle.disk_model.proofs.Records.{kept_sync, grown}
use Rattle.disk_model.proofs.medium.Medium.sync.Goals as goal

pub invariant_of-self-2 : goal.invariant_of-self-2
invariant_of-self-2 c =
    let i = c.self.inside in
    let room = c.self.invariant.1 in
    let is_synced : unless_fresh i.fresh i.contents.items c.settle.new.synced.items ≡ i.contents.items =
    subst (λ (l : List ℕ). unless_fresh i.fresh l c.settle.new.synced.items ≡ l) c.deref.ensures.value c.in_ok-settle.ensures.synced in (
      rw (c.then-self-inside.ensures, c.clear.ensures.items)
          (kept_sync i.contents.items i.synced.items i.fresh i.ranges.items i.history.first i.history.events c.self.invariant.0 c.settle.new.synced.items is_synced),
      record {
        in_contents = room.in_contents;
        in_synced = omega (arith, room.in_synced, c.in_ok-settle.ensures.capacity);
        in_ranges = omega (arith, room.in_ranges, c.clear.ensures.len, c.clear.ensures.capacity);
        fits = room.fits;
        fits_next = room.fits_next;
      },
    )

pub returns-clause-grows : goal.returns-clause-grows
returns-clause-grows c =
    let i = c.self.inside in
    let new : Past = record { first = c.then-self-inside.result.first; events = c.then-self-inside.result.events; room_end = i.room_end; room_writes = i.room_writes } in
    let P : Past → Type 0 = λ p. Grows p new (after (held p) synced) in
    subst P c.self.view_is (rw c.then-self-inside.ensures (grown i.history.first i.history.events i.room_end i.room_writes i.room_end i.room_writes synced))
