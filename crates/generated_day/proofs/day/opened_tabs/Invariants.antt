use Rattle.std.proofs.Common.{◌≡◌, ◌++◌, map}
use Rattle.script_actions.specs.Plain.{step_of}
use Rattle.generated_day.specs.Day.{open_lines, numbers_from}
use Rattle.generated_day.proofs.DayLemmas.{opens_from}
use Rattle.generated_day.proofs.day.opened_tabs.Given as goal

abbrev pub invariant-loop-tab : goal.invariant-loop-tab
invariant-loop-tab l = record {
  lines : map (λ line. step_of line.step) l.lines.items ++ opens_from l.tab ≡ open_lines;
  numbers : map (λ line. line.number) l.lines.items ++ numbers_from l.tab ≡ numbers_from 1;
}
