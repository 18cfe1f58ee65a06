use Rattle.std.proofs.Common.{◌≡◌, ◌+◌, ◌-◌, ◌∷◌, ◌∙◌, refl, sym, ap, map, arith}
use Rattle.script_actions.specs.Plain.{step_of}
use Rattle.script_actions.specs.declared.step.Line.{Line}
use Rattle.generated_day.specs.Day.{numbers_from, drawn_line, drawn_lines}
use Rattle.generated_day.proofs.DayLemmas.{none_drawn, no_numbers, drawn_first, number_first, moves, ends}
use Rattle.generated_day.proofs.day.add_drawn.Goals as goal

pub loop-number-preserved : goal.loop-number-preserved
loop-number-preserved c =
    let n = c.loop-number.number in
    let items = c.loop-number.lines.items in
    let state = c.loop-number.draws.state in
    let new = c.drawn_line.new.draws.state in
    let x : Line = record { number = n; step = c.in_ok-step.step } in
    let less : 5021 - n - 1 ≡ 5021 - (n + 1) = omega arith in
    let drawn = c.in_ok-step.ensures in
    let first : drawn_lines (5021 - n) state ≡ (drawn_line state).0 ∷ drawn_lines (5021 - (n + 1)) new =
    drawn_first (5021 - n) state (omega arith) ∙ ap (λ k. (drawn_line state).0 ∷ drawn_lines k (drawn_line state).1) less
    ∙ ap (λ p. (drawn_line state).0 ∷ drawn_lines (5021 - (n + 1)) p.1) (sym drawn) in
    record {
      lines = moves (λ line. step_of line.step) items c.add.new.lines.items x (drawn_line state).0 (drawn_lines (5021 - n) state) (drawn_lines (5021 - (n + 1)) new) _ c.in_ok-add.ensures (ap (λ p. p.0) drawn) first c.loop-number.invariant.lines;
      numbers = moves (λ line. line.number) items c.add.new.lines.items x n (numbers_from n) (numbers_from (n + 1)) _ c.in_ok-add.ensures refl (number_first n (omega arith)) c.loop-number.invariant.numbers;
    }

pub returns-clause-lines : goal.returns-clause-lines
returns-clause-lines c =
    let none : 5021 - c.loop-number.number ≡ 0 = omega arith in
    ends (map (λ line. step_of line.step) c.loop-number.lines.items) (drawn_lines (5021 - c.loop-number.number) c.loop-number.draws.state) _
    (ap (λ n. drawn_lines n c.loop-number.draws.state) none ∙ none_drawn c.loop-number.draws.state) c.loop-number.invariant.lines

pub returns-clause-numbers : goal.returns-clause-numbers
returns-clause-numbers c =
    let last : c.loop-number.number ≡ 5021 = omega arith in
    ends (map (λ line. line.number) c.loop-number.lines.items) (numbers_from c.loop-number.number) _ (ap numbers_from last ∙ no_numbers) c.loop-number.invariant.numbers
