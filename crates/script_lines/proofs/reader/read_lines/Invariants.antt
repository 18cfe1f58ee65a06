use Rattle.std.proofs.Common.{◌≡◌, ◌≤◌, ◌+◌, length, map}
use Rattle.script_lines.specs.Fields.{then_ok}
use Rattle.script_lines.specs.Grammar.{lines_from, lines_of, script_limit}
use Rattle.script_actions.specs.Plain.{line_of}
use Rattle.script_lines.specs.Pieces.{after}
use Rattle.script_lines.proofs.reader.read_lines.Given as goal

abbrev pub invariant-lines : goal.invariant-lines
invariant-lines l =
    record {
      count : l.number + length l.rest ≤ script_limit + 1;
      script : then_ok (lines_from l.fn.number (lines_of l.bytes)) (after (map line_of l.fn.lines.items)) ≡ then_ok (lines_from l.number (lines_of l.rest)) (after (map line_of l.lines.items));
    }

abbrev pub decreases-lines : goal.decreases-lines
decreases-lines l = length l.rest
