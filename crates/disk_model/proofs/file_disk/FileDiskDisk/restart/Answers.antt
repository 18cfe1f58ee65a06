use Rattle.disk_model.proofs.WritingBack.{are_torn}
use Rattle.disk_model.proofs.file_disk.FileDiskDisk.restart.Goals as goal

pub invariant_of-self : goal.invariant_of-self
invariant_of-self g c =
    let V = g.F.RawFile.view in
    are_torn c.self.inside.ranges.items (V c.self.inside.file).may_leave (V c.write_back.new.file).may_leave c.in_err-write_back.ensures.still_torn c.self.invariant
