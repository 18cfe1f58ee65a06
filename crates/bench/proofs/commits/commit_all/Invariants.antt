use Rattle.std.proofs.Common.{◌≡◌, false}
use Rattle.journal.specs.Journal.{IsAtRest}
use Rattle.bench.proofs.commits.commit_all.Given as goal

abbrev pub invariant-commits : goal.invariant-commits
invariant-commits g l =
    (l.journal.shut ≡ false) × IsAtRest l.journal (g.D.Disk.view l.disk)
