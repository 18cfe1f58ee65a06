use Rattle.std.proofs.Common.{◌≡◌, map, take}
use Rattle.script_actions.specs.Plain.{line_of}
use Rattle.script_lines.proofs.script.Script.copy.Given as goal

abbrev pub invariant-loop-line : goal.invariant-loop-line
invariant-loop-line l = map line_of l.lines.items ≡ map line_of (take l.line-index l.self.lines.items)
