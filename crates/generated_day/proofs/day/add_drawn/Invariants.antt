use Rattle.std.proofs.Common.{◌≡◌, ◌++◌, ◌-◌, map}
use Rattle.script_actions.specs.Plain.{step_of}
use Rattle.generated_day.specs.Day.{drawn_lines, numbers_from}
use Rattle.generated_day.specs.Draws.{first_state}
use Rattle.generated_day.proofs.day.add_drawn.Given as goal

abbrev pub invariant-loop-number : goal.invariant-loop-number
invariant-loop-number l = record {
  lines : map (λ line. step_of line.step) l.lines.items ++ drawn_lines (5021 - l.number) l.draws.state
      ≡ map (λ line. step_of line.step) l.initial.lines.items ++ drawn_lines 5000 (first_state l.seed);
  numbers : map (λ line. line.number) l.lines.items ++ numbers_from l.number ≡ numbers_from 1;
}
