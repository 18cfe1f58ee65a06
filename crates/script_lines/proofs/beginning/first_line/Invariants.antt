use Rattle.std.proofs.Common.{◌≡◌, ◌≤◌, ◌+◌, Bool, length}
use Rattle.script_lines.specs.Grammar.{lines_of, script_from}
use Rattle.script_lines.proofs.beginning.first_line.Given as goal

abbrev pub invariant-blank : goal.invariant-blank
invariant-blank l =
    record {
      count : l.number + length l.rest ≤ l.fn.number + length l.bytes;
      script : (cuts_allowed : Bool) → script_from cuts_allowed l.fn.number (lines_of l.bytes) ≡ script_from cuts_allowed l.number (lines_of l.rest);
    }

abbrev pub decreases-blank : goal.decreases-blank
decreases-blank l = length l.rest
