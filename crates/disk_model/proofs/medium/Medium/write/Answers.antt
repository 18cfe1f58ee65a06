use Rattle.std.proofs.Common.{◌≡◌, ◌≤◌, List, ℕ, length, arith, ◌∙◌, ap, sym, subst, ◌-◌, vec_len}
use Rattle.disk_model.specs.History.{Held, wrote, after, overlaid, Past, held, Grows}
use Rattle.disk_model.specs.MediumBuffers.{unless_fresh}
use Rattle.disk_model.proofs.Records.{kept_write, grown, length-overlaid, vec_len-items}
use Rattle.disk_model.proofs.medium.Medium.write.Goals as goal

pub invariant_of-self-2 : goal.invariant_of-self-2
invariant_of-self-2 c =
    let i = c.self.inside in
    let room = c.self.invariant.1 in
    let is_contents : c.overlay.new.contents.items ≡ overlaid i.contents.items c.args.at c.args.bytes.now = c.in_ok-overlay.ensures.items in
    let is_synced : c.begin.new.synced.items ≡ unless_fresh i.fresh i.contents.items i.synced.items = c.in_ok-begin.ensures.synced ∙ ap (λ (l : List ℕ). unless_fresh i.fresh l i.synced.items) c.deref.ensures.value in
    let k = c.self.invariant.0 in
    let is_now : i.contents.items ≡ (held c.args.self.now).contents = ap (λ (h : Held). h.contents) (sym k.replayed) ∙ ap (λ (p : Past). (held p).contents) c.self.view_is in
    let place : c.args.at ≤ length i.contents.items = omega (arith, ap length is_now, c.requires.place) in
    let value : i.room_end ≡ c.args.self.now.room_end = ap (λ (p : Past). p.room_end) c.self.view_is in
    let value_writes : i.room_writes ≡ c.args.self.now.room_writes = ap (λ (p : Past). p.room_writes) c.self.view_is in
    let len : vec_len c.overlay.new.contents ≤ i.room_end =
    omega (arith, vec_len-items c.overlay.new.contents, ap length is_contents, length-overlaid i.contents.items c.args.at c.args.bytes.now i.room_end (omega (arith, vec_len-items i.contents, room.fits_next (omega (arith, value_writes)))) (omega (arith, value))) in (
      rw (c.then-self-inside.ensures, is_contents, is_synced, c.in_ok-push.ensures.items)
          (kept_write i.contents.items i.synced.items i.fresh i.ranges.items i.history.first i.history.events k c.args.at c.args.bytes.now place),
      record {
        in_contents = omega (arith, room.in_contents, c.in_ok-overlay.ensures.capacity);
        in_synced = omega (arith, room.in_synced, c.in_ok-begin.ensures.capacity);
        in_ranges = omega (arith, room.in_ranges, c.in_ok-push.ensures.len, c.in_ok-push.ensures.capacity, value_writes);
        fits = λ e. len;
        fits_next = λ e. len;
      },
    )

pub returns-clause-grows : goal.returns-clause-grows
returns-clause-grows c =
    let i = c.self.inside in
    let new : Past = record { first = c.then-self-inside.result.first; events = c.then-self-inside.result.events; room_end = i.room_end; room_writes = i.room_writes - 1 } in
    let P : Past → Type 0 = λ p. Grows p new (after (held p) (wrote c.args.at c.args.bytes.now)) in
    subst P c.self.view_is (rw c.then-self-inside.ensures (grown i.history.first i.history.events i.room_end i.room_writes i.room_end (i.room_writes - 1) (wrote c.args.at c.args.bytes.now)))
