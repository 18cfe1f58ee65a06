use Rattle.std.proofs.Common.{◌-◌, true, subst}
use Rattle.std.specs.Prelude.{OnOk}
use Rattle.disk_model.specs.Disk.{Goes, Written, Elapses}
use Rattle.carried_disk.specs.Calls.{CarriedView, view_told, StillStands}
use Rattle.carried_disk.proofs.CarriedLemmas.{stands_write, told_elapses}
use Rattle.carried_disk.proofs.carried_disk.CarriedDiskDisk.write_at.Goals as goal

pub returns-clause-written : goal.returns-clause-written
returns-clause-written c =
    let i = c.self.inside in
    let old : CarriedView = record { disk = i.disk; left = i.calls.left; unsynced = i.unsynced; faults = i.faults; changing = i.changing; room_end = i.room_end; room_writes = i.room_writes } in
    let new : CarriedView = record old { disk = c.write_at.new.self; left = c.push_write.new.self.left; unsynced = true; changing = c.saturating_add-self-inside.result; room_writes = i.room_writes - 1 } in
    let P : CarriedView → Type 0 = λ v. OnOk c.write_at.result (Goes (Written c.args.at c.args.bytes.now) (view_told v).contents (view_told new).contents) in
    subst P c.self.view_is c.write_at.ensures.written

pub returns-clause-time : goal.returns-clause-time
returns-clause-time c =
    let i = c.self.inside in
    let old : CarriedView = record { disk = i.disk; left = i.calls.left; unsynced = i.unsynced; faults = i.faults; changing = i.changing; room_end = i.room_end; room_writes = i.room_writes } in
    let new : CarriedView = record old { disk = c.write_at.new.self; left = c.push_write.new.self.left; unsynced = true; changing = c.saturating_add-self-inside.result; room_writes = i.room_writes - 1 } in
    let P : CarriedView → Type 0 = λ v. Elapses (view_told v) (view_told new) in
    subst P c.self.view_is (told_elapses old new c.write_at.ensures.time)

pub returns-clause-file : goal.returns-clause-file
returns-clause-file c =
    let i = c.self.inside in
    let old : CarriedView = record { disk = i.disk; left = i.calls.left; unsynced = i.unsynced; faults = i.faults; changing = i.changing; room_end = i.room_end; room_writes = i.room_writes } in
    let new : CarriedView = record old { disk = c.write_at.new.self; left = c.push_write.new.self.left; unsynced = true; changing = c.saturating_add-self-inside.result; room_writes = i.room_writes - 1 } in
    let P : CarriedView → Type 0 = λ v. StillStands v new in
    subst P c.self.view_is (stands_write old new c.args.at c.args.bytes.now c.write_at.ensures.time c.push_write.ensures.left (c.write_at.ensures.past c.self.invariant.0.powered))
