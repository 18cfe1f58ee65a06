use Rattle.std.proofs.Common.{◌≡◌, ◌⊎◌, ◌+◌, ◌<◌, ◌∷◌, [], length, Err, IfSome, option_copied, arith, ap, inl, inr, subst, rules, ⊎_elim, ◌∙◌, map}
use Rattle.script_lines.specs.Fields.{then_ok}
use Rattle.script_lines.specs.Grammar.{lines_from, lines_of}
use Rattle.script_lines.specs.Pieces.{after, lines_after}
use Rattle.script_actions.specs.Plain.{line_of}
use Rattle.script_lines.specs.Plain.{fault_of}
use Rattle.script_lines.specs.declared.script.ScriptFault.TheVariants.{NoMemory}
use Rattle.script_lines.proofs.LineLemmas.{no_more_lines, script_goes_on, script_has_fault}
use Rattle.script_lines.proofs.reader.read_lines.Goals as goal

pub lines-preserved : goal.lines-preserved
lines-preserved c =
    let shorter : length c.in-Some.later.now < length c.lines.rest.now =
    subst (λ o. IfSome o (λ later. length later.now < length c.lines.rest.now)) c.in-Some.is c.next_line.ensures.shorter in
    record {
      count = omega (arith, c.lines.invariant.count);
      script = script_goes_on (then_ok (lines_from c.args.number (lines_of c.args.bytes.now)) (after (map line_of c.args.lines.items))) c.lines.number c.lines.rest.now c.next_line.result.0.now (lines_of c.in-Some.later.now)
          c.lines.lines.items c.push_some.new.lines.items c.in_ok-read_line.field-0
          c.lines.invariant.script (c.next_line.ensures.lines ∙ ap (λ o. c.next_line.result.0.now ∷ lines_after (option_copied o)) c.in-Some.is)
          c.in_ok-read_line.ensures.line c.in_ok-push_some.ensures;
    }

pub returns-in-None : goal.returns-in-None
returns-in-None c =
    script_goes_on (then_ok (lines_from c.args.number (lines_of c.args.bytes.now)) (after (map line_of c.args.lines.items))) c.lines.number c.lines.rest.now c.next_line.result.0.now []
    c.lines.lines.items c.push_some.new.lines.items c.in_ok-read_line.field-0
    c.lines.invariant.script (c.next_line.ensures.lines ∙ ap (λ o. c.next_line.result.0.now ∷ lines_after (option_copied o)) c.in-None.is)
    c.in_ok-read_line.ensures.line c.in_ok-push_some.ensures
    ∙ no_more_lines (c.lines.number + 1) (map line_of c.push_some.new.lines.items)

pub returns-in_err-read_line : goal.returns-in_err-read_line
returns-in_err-read_line c =
    let why : (c.in_err-read_line.field-0.0 ≡ NoMemory) ⊎ (then_ok (lines_from c.args.number (lines_of c.args.bytes.now)) (after (map line_of c.args.lines.items)) ≡ Err (fault_of c.in_err-read_line.field-0.0)) =
    ⊎_elim (λ memory. inl memory)
    (λ fault. inr (script_has_fault (then_ok (lines_from c.args.number (lines_of c.args.bytes.now)) (after (map line_of c.args.lines.items))) c.lines.number c.lines.rest.now c.next_line.result.0.now (lines_after (option_copied c.next_line.result.1))
    c.lines.lines.items (fault_of c.in_err-read_line.field-0.0) c.lines.invariant.script c.next_line.ensures.lines fault)) c.in_err-read_line.ensures.line in
    search rules
