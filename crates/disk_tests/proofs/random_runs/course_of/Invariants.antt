use Rattle.std.proofs.Common.{◌≡◌, false}
use Rattle.journal.specs.Journal.{IsAtRest}
use Rattle.disk_tests.proofs.random_runs.course_of.Given as goal

abbrev pub invariant-steps : goal.invariant-steps
invariant-steps g l =
    (l.journal.shut ≡ false) × IsAtRest l.journal (g.D.Disk.view l.disk)
