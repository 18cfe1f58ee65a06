use Rattle.std.proofs.Common.{List, ℕ, length, sym, subst}
use Rattle.disk_model.specs.RawFile.{AreTorn}
use Rattle.disk_model.proofs.WritingBack.{torn_push}
use Rattle.disk_model.proofs.file_disk.FileDiskDisk.write_at.Goals as goal

pub invariant_of-self : goal.invariant_of-self
invariant_of-self g c =
    let V = g.F.RawFile.view in
    let new = (V c.write_whole-made.new.file).may_leave in
    subst (λ (l : List (ℕ × ℕ)). AreTorn l new) (sym c.push.ensures.items)
    (torn_push c.self.inside.ranges.items c.args.at (length c.args.bytes.now) (V c.self.inside.file).may_leave new c.write_whole-made.ensures.still_torn c.self.invariant c.write_whole-made.ensures.torn)
