use Rattle.std.proofs.Common.{◌≡◌, ◌<◌, ◌+◌, ◌-◌, ◌∷◌, true, false, length, take, option_copied, IfSome, refl, ap, sym, subst, arith, ◌∙◌}
use Rattle.script_lines.specs.Grammar.{lines_of}
use Rattle.script_lines.specs.Pieces.{lines_after, with_later}
use Rattle.script_lines.specs.TwoScripts.{both_scripts, is_divider}
use Rattle.script_lines.proofs.TwoLemmas.{later_or_none, line_divides, line_passed, none_divides, none_passed}
use Rattle.script_lines.proofs.two_scripts.divided.Goals as goal

pub lines-init : goal.lines-init
lines-init c = record { count = omega arith; passed = none_passed c.args.bytes.now }

pub lines-preserved : goal.lines-preserved
lines-preserved c =
    let line = c.next_line.result.0.now in
    let other : is_divider line ≡ false = grind (arith, c.is_divider.ensures, c.if-is_divider.false) in
    let shorter : length c.in-Some.later.now < length c.lines.rest.now =
    subst (λ o. IfSome o (λ later. length later.now < length c.lines.rest.now)) c.in-Some.is c.next_line.ensures.shorter in
    record {
      count = omega (arith, c.lines.invariant.count);
      passed = line_passed c.args.bytes.now c.lines.rest.now line c.in-Some.later.now c.lines.number c.lines.invariant.passed c.next_line.ensures.line
          (c.next_line.ensures.bytes ∙ ap (λ o. with_later line (option_copied o)) c.in-Some.is) other;
    }

pub returns-then-is_divider-clause-scripts : goal.returns-then-is_divider-clause-scripts
returns-then-is_divider-clause-scripts c =
    let line = c.next_line.result.0.now in
    let is : is_divider line ≡ true = grind (arith, c.is_divider.ensures, c.if-is_divider.true) in
    let later = c.next_line.result.1 in
    line_divides c.args.bytes.now c.lines.rest.now line (option_copied later) c.lines.number c.lines.invariant.passed c.next_line.ensures.lines is
    ∙ ap (λ behind. both_scripts (lines_of (take (length c.args.bytes.now - length c.lines.rest.now) c.args.bytes.now)) (c.lines.number + 1) (lines_of behind))
    (sym (later_or_none later _ c.unwrap_or.result c.unwrap_or.ensures refl))

pub returns-in-None-clause-scripts : goal.returns-in-None-clause-scripts
returns-in-None-clause-scripts c =
    let line = c.next_line.result.0.now in
    let other : is_divider line ≡ false = grind (arith, c.is_divider.ensures, c.if-is_divider.false) in
    none_divides c.args.bytes.now c.lines.rest.now line c.lines.number c.lines.invariant.passed
    (c.next_line.ensures.lines ∙ ap (λ o. line ∷ lines_after (option_copied o)) c.in-None.is) other
