use Rattle.std.proofs.Common.{false, subst}
use Rattle.disk_model.specs.Disk.{Elapses}
use Rattle.carried_disk.specs.Calls.{CarriedView, view_told, StillStands}
use Rattle.carried_disk.proofs.CarriedLemmas.{stands_sync, told_elapses, grows_sync}
use Rattle.carried_disk.proofs.carried_disk.CarriedDiskDisk.sync.Goals as goal

pub returns-then-not-self-clause-file : goal.returns-then-not-self-clause-file
returns-then-not-self-clause-file c =
    let i = c.self.inside in
    let old : CarriedView = record { disk = i.disk; left = i.calls.left; unsynced = i.unsynced; faults = i.faults; changing = i.changing; room_end = i.room_end; room_writes = i.room_writes } in
    let new : CarriedView = record old { changing = c.saturating_add-self-inside.result } in
    let P : CarriedView → Type 0 = λ v. StillStands v new in
    subst P c.self.view_is (λ file since f. record { past = f.past; contents = f.contents; images = f.images; any_moment = f.any_moment })

pub returns-clause-time : goal.returns-clause-time
returns-clause-time c =
    let i = c.self.inside in
    let old : CarriedView = record { disk = i.disk; left = i.calls.left; unsynced = i.unsynced; faults = i.faults; changing = i.changing; room_end = i.room_end; room_writes = i.room_writes } in
    let new : CarriedView = record old { disk = c.sync.new.self; left = c.push_sync.new.self.left; unsynced = false; changing = c.saturating_add-self-inside.result } in
    let P : CarriedView → Type 0 = λ v. Elapses (view_told v) (view_told new) in
    subst P c.self.view_is (told_elapses old new c.sync.ensures.time)

pub returns-clause-file : goal.returns-clause-file
returns-clause-file c =
    let i = c.self.inside in
    let old : CarriedView = record { disk = i.disk; left = i.calls.left; unsynced = i.unsynced; faults = i.faults; changing = i.changing; room_end = i.room_end; room_writes = i.room_writes } in
    let new : CarriedView = record old { disk = c.sync.new.self; left = c.push_sync.new.self.left; unsynced = false; changing = c.saturating_add-self-inside.result } in
    let P : CarriedView → Type 0 = λ v. StillStands v new in
    subst P c.self.view_is (stands_sync old new c.sync.ensures.time c.push_sync.ensures.left (grows_sync i.disk.past c.sync.new.self.past i.disk.plan c.self.invariant.0.cuts c.self.invariant.0.fails (c.sync.ensures.past c.self.invariant.0.powered)))
