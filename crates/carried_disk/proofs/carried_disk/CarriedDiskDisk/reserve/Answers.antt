use Rattle.std.proofs.Common.{arith, ap, subst, refl}
use Rattle.disk_model.specs.Disk.{Stays}
use Rattle.disk_model.specs.MemDisk.{MemView}
use Rattle.carried_disk.specs.Calls.{CarriedView, view_told, StillStands}
use Rattle.carried_disk.proofs.CarriedLemmas.{call_room_more, call_room_made, stands_by_stays, told_stays, steady_stays}
use Rattle.carried_disk.proofs.carried_disk.CarriedDiskDisk.reserve.Goals as goal

pub invariant_of-self-in_err-reserve-2 : goal.invariant_of-self-in_err-reserve-2
invariant_of-self-in_err-reserve-2 c =
    let i = c.self.inside in
    let r = c.self.invariant.1 in
    let room = c.in_err-reserve-2.ensures.room in (
      steady_stays i.disk c.reserve-2.new.self i.unsynced c.self.invariant.0 c.reserve-2.ensures.stays (ap (λ (m : MemView). m.plan) c.reserve-2.ensures.same),
      record {
        in_disk = λ some. omega (arith, r.in_disk some, room.end);
        writes_in_disk = omega (arith, r.writes_in_disk, room.writes);
        in_bytes = omega (arith, r.in_bytes, c.reserve.ensures.kept.1);
      },
      call_room_more i.unsynced i.room_writes i.calls.room c.reserve.new.self.room c.reserve.ensures.kept.0 c.self.invariant.2,
    )

pub returns-in_err-reserve-2-clause-stays : goal.returns-in_err-reserve-2-clause-stays
returns-in_err-reserve-2-clause-stays c =
    let i = c.self.inside in
    let old : CarriedView = record { disk = i.disk; left = i.calls.left; unsynced = i.unsynced; faults = i.faults; changing = i.changing; room_end = i.room_end; room_writes = i.room_writes } in
    let new : CarriedView = record old { disk = c.reserve-2.new.self; left = c.reserve.new.self.left } in
    let P : CarriedView → Type 0 = λ v. Stays (view_told v) (view_told new) in
    subst P c.self.view_is (told_stays old new c.reserve-2.ensures.stays refl)

pub returns-in_err-reserve-2-clause-file : goal.returns-in_err-reserve-2-clause-file
returns-in_err-reserve-2-clause-file c =
    let i = c.self.inside in
    let old : CarriedView = record { disk = i.disk; left = i.calls.left; unsynced = i.unsynced; faults = i.faults; changing = i.changing; room_end = i.room_end; room_writes = i.room_writes } in
    let new : CarriedView = record old { disk = c.reserve-2.new.self; left = c.reserve.new.self.left } in
    let P : CarriedView → Type 0 = λ v. StillStands v new in
    subst P c.self.view_is (stands_by_stays old new (told_stays old new c.reserve-2.ensures.stays refl) c.reserve.ensures.left)

pub invariant_of-self-2 : goal.invariant_of-self-2
invariant_of-self-2 c =
    let i = c.self.inside in (
      steady_stays i.disk c.reserve-2.new.self i.unsynced c.self.invariant.0 c.reserve-2.ensures.stays (ap (λ (m : MemView). m.plan) c.reserve-2.ensures.same),
      record {
        in_disk = λ some. c.in_ok-reserve-2.ensures.end;
        writes_in_disk = c.in_ok-reserve-2.ensures.writes;
        in_bytes = c.in_ok-reserve.ensures.byte_room;
      },
      call_room_made i.unsynced c.args.writes c.reserve.new.self.room c.in_ok-reserve.ensures.room,
    )

pub returns-clause-stays : goal.returns-clause-stays
returns-clause-stays c =
    let i = c.self.inside in
    let old : CarriedView = record { disk = i.disk; left = i.calls.left; unsynced = i.unsynced; faults = i.faults; changing = i.changing; room_end = i.room_end; room_writes = i.room_writes } in
    let new : CarriedView = record old { disk = c.reserve-2.new.self; left = c.reserve.new.self.left; room_end = c.args.end; room_writes = c.args.writes } in
    let P : CarriedView → Type 0 = λ v. Stays (view_told v) (view_told new) in
    subst P c.self.view_is (told_stays old new c.reserve-2.ensures.stays refl)

pub returns-clause-file : goal.returns-clause-file
returns-clause-file c =
    let i = c.self.inside in
    let old : CarriedView = record { disk = i.disk; left = i.calls.left; unsynced = i.unsynced; faults = i.faults; changing = i.changing; room_end = i.room_end; room_writes = i.room_writes } in
    let new : CarriedView = record old { disk = c.reserve-2.new.self; left = c.reserve.new.self.left; room_end = c.args.end; room_writes = c.args.writes } in
    let P : CarriedView → Type 0 = λ v. StillStands v new in
    subst P c.self.view_is (stands_by_stays old new (told_stays old new c.reserve-2.ensures.stays refl) c.reserve.ensures.left)
