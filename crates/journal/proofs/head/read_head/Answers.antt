use Rattle.std.proofs.Common.{◌≤◌, length, arith, rules}
use Rattle.std.specs.Prelude.{replicate}
use Rattle.disk_model.specs.Disk.{Holds}
use Rattle.journal.specs.Store.{magic}
use Rattle.journal.proofs.Heads.{head_read}
use Rattle.journal.proofs.head.read_head.Goals as goal

pub returns : goal.returns
returns c =
    let file = c.args.bytes.now in
    let long : 129 ≤ length file = omega arith in
    let name : Holds file 1 magic = search rules in
    let padding : Holds file 9 (replicate 3 0) = search rules in
    head_read file c.read_slots.result c.requires (record { long = long; name = name; padding = padding }) c.read_slots.ensures
