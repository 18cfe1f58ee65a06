use Rattle.std.proofs.Common.{◌≤◌, ◌+◌, length}
use Rattle.script_lines.proofs.TwoLemmas.{Passed}
use Rattle.script_lines.proofs.two_scripts.divided.Given as goal

abbrev pub invariant-lines : goal.invariant-lines
invariant-lines l =
    record {
      count : l.number + length l.rest ≤ length l.bytes + 1;
      passed : Passed l.bytes l.rest l.number;
    }

abbrev pub decreases-lines : goal.decreases-lines
decreases-lines l = length l.rest
