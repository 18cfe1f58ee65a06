use Rattle.std.proofs.Common.{◌≡◌, false}
use Rattle.journal.specs.Journal.{IsAtRest}
use Rattle.disk_tests.proofs.journals.checkpoints.Given as goal

abbrev pub invariant-snapshots : goal.invariant-snapshots
invariant-snapshots g l =
    (l.journal.shut ≡ false) × IsAtRest l.journal (g.D.Disk.view l.disk)
