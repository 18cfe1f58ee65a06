use Rattle.std.proofs.Common.{◌≡◌, ◌+◌, ◌<◌, ◌∷◌, [], length, true, IfSome, option_copied, ap, subst, arith, ◌∙◌}
use Rattle.script_lines.specs.Grammar.{is_blank, lines_of, script_from}
use Rattle.script_lines.specs.Pieces.{lines_after}
use Rattle.script_lines.proofs.LineLemmas.{nothing_begins, skipped}
use Rattle.script_lines.proofs.beginning.first_line.Goals as goal

pub returns-in-None-clause-script : goal.returns-in-None-clause-script
returns-in-None-clause-script c =
    let text = c.next_line.result.0.now in
    let number = c.blank.number in
    let blank : is_blank text ≡ true = grind (arith, c.is_blank.ensures, c.if-not-is_blank.false, c.if-not-is_blank.ensures) in
    λ cuts_allowed. c.blank.invariant.script cuts_allowed
    ∙ ap (script_from cuts_allowed number) (c.next_line.ensures.lines ∙ ap (λ o. text ∷ lines_after (option_copied o)) c.in-None.is)
    ∙ skipped cuts_allowed number text [] blank ∙ nothing_begins cuts_allowed (number + 1)

pub blank-preserved : goal.blank-preserved
blank-preserved c =
    let text = c.next_line.result.0.now in
    let number = c.blank.number in
    let blank : is_blank text ≡ true = grind (arith, c.is_blank.ensures, c.if-not-is_blank.false, c.if-not-is_blank.ensures) in
    let shorter : length c.in-Some.later.now < length c.blank.rest.now =
    subst (λ o. IfSome o (λ later. length later.now < length c.blank.rest.now)) c.in-Some.is c.next_line.ensures.shorter in
    record {
      count = omega (arith, c.blank.invariant.count);
      script = λ cuts_allowed. c.blank.invariant.script cuts_allowed
          ∙ ap (script_from cuts_allowed number) (c.next_line.ensures.lines ∙ ap (λ o. text ∷ lines_after (option_copied o)) c.in-Some.is)
          ∙ skipped cuts_allowed number text (lines_of c.in-Some.later.now) blank;
    }
