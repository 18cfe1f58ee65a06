use Rattle.std.proofs.Common.{arith, refl, subst}
use Rattle.disk_model.specs.Carried.{TellsSame}
use Rattle.carried_disk.specs.Calls.{CarriedView, CarriesOut, view_told}
use Rattle.carried_disk.proofs.CarriedLemmas.{call_room_more, stands_done, stays_same}
use Rattle.carried_disk.proofs.carried_disk.CarriedDiskCarried.done.Goals as goal

pub invariant_of-self : goal.invariant_of-self
invariant_of-self c =
    let i = c.self.inside in
    let r = c.self.invariant.1 in (
      c.self.invariant.0,
      record {
        in_disk = r.in_disk;
        writes_in_disk = r.writes_in_disk;
        in_bytes = omega (arith, r.in_bytes, c.done.ensures.byte_room);
      },
      call_room_more i.unsynced i.room_writes i.calls.room c.done.new.self.room c.done.ensures.room c.self.invariant.2,
    )

pub returns-clause-done : goal.returns-clause-done
returns-clause-done c =
    let i = c.self.inside in
    let old : CarriedView = record { disk = i.disk; left = i.calls.left; unsynced = i.unsynced; faults = i.faults; changing = i.changing; room_end = i.room_end; room_writes = i.room_writes } in
    let new : CarriedView = record old { left = c.done.new.self.left } in
    let P : CarriedView → Type 0 = λ v. CarriesOut v new in
    subst P c.self.view_is (record {
      left = c.done.ensures.left;
      file = stands_done old new (stays_same (view_told old)) c.done.ensures.left;
      same = refl;
    })

pub returns-clause-same : goal.returns-clause-same
returns-clause-same c =
    let i = c.self.inside in
    let old : CarriedView = record { disk = i.disk; left = i.calls.left; unsynced = i.unsynced; faults = i.faults; changing = i.changing; room_end = i.room_end; room_writes = i.room_writes } in
    let new : CarriedView = record old { left = c.done.new.self.left } in
    let P : CarriedView → Type 0 = λ v. TellsSame (view_told v) (view_told new) in
    subst P c.self.view_is (record {
      stays = stays_same (view_told old);
      faults = refl;
      room_end = refl;
      room_writes = refl;
      off = refl;
      failures = refl;
      cuts = refl;
    })
