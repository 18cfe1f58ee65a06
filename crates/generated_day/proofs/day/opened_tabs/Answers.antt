use Rattle.std.proofs.Common.{◌≡◌, ◌+◌, ◌++◌, ◌∙◌, refl, ap, map, arith}
use Rattle.script_actions.specs.Plain.{step_of}
use Rattle.script_actions.specs.declared.step.Line.{Line}
use Rattle.generated_day.specs.Day.{numbers_from, open_line}
use Rattle.generated_day.proofs.DayLemmas.{all_opens, no_opens, opens_from, open_first, number_first, moves, ends}
use Rattle.generated_day.proofs.day.opened_tabs.Goals as goal

pub loop-tab-init : goal.loop-tab-init
loop-tab-init c =
    let none = c.new-lines.ensures.items in
    record {
      lines = ap (λ l. map (λ line. step_of line.step) l ++ opens_from 1) none ∙ all_opens;
      numbers = ap (λ l. map (λ line. line.number) l ++ numbers_from 1) none;
    }

pub loop-tab-preserved : goal.loop-tab-preserved
loop-tab-preserved c =
    let tab = c.loop-tab.tab in
    let items = c.loop-tab.lines.items in
    let x : Line = record { number = tab; step = c.in_ok-step.step } in
    record {
      lines = moves (λ line. step_of line.step) items c.add.new.lines.items x (open_line tab) (opens_from tab) (opens_from (tab + 1)) _ c.in_ok-add.ensures c.in_ok-step.ensures (open_first tab (omega arith)) c.loop-tab.invariant.lines;
      numbers = moves (λ line. line.number) items c.add.new.lines.items x tab (numbers_from tab) (numbers_from (tab + 1)) _ c.in_ok-add.ensures refl (number_first tab (omega arith)) c.loop-tab.invariant.numbers;
    }

pub returns-clause-lines : goal.returns-clause-lines
returns-clause-lines c =
    let last : c.loop-tab.tab ≡ 21 = omega arith in
    ends (map (λ line. step_of line.step) c.loop-tab.lines.items) (opens_from c.loop-tab.tab) _ (ap opens_from last ∙ no_opens) c.loop-tab.invariant.lines
