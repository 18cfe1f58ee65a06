use Rattle.std.proofs.Common.{◌≡◌, drop}
use Rattle.script_lines.specs.Cuts as spec
use Rattle.script_lines.proofs.cuts.rise.Given as goal

abbrev pub invariant-loop-cut : goal.invariant-loop-cut
invariant-loop-cut l = spec.rise 0 l.cuts ≡ spec.rise l.last (drop l.cut-index l.cuts)
