use Rattle.std.proofs.Common.{◌∙◌, ap, sym, inr}
use Rattle.std.specs.Prelude.{is_none}
use Rattle.std.specs.Str.{is_utf8}
use Rattle.std.proofs.lemmas.Bool.{false_from_ne_true}
use Rattle.std.proofs.lemmas.Str.{IsUtf8-from_is_utf8, is_utf8-from_IsUtf8}
use Rattle.suffix_list.specs.ListText.{is_no_rule, rule_of, text_of}
use Rattle.suffix_list.proofs.RuleLemmas.{line_rule, not_text, skipped_line}
use Rattle.suffix_list.proofs.reader.read_line.Goals as goal

pub returns-in_default : goal.returns-in_default
returns-in_default c = inr (not_text c.args.line.now (false_from_ne_true (is_utf8 c.args.line.now) (λ holds. c.in_default.ensures.cases.0 (IsUtf8-from_is_utf8 c.args.line.now holds))))

pub returns-then-is_no_rule : goal.returns-then-is_no_rule
returns-then-is_no_rule c =
    let utf8 = is_utf8-from_IsUtf8 c.args.line.now c.in-Ok.ensures.cases.1 in
    let text = c.text_of-text.ensures ∙ ap text_of c.in-Ok.ensures.cases.0 in
    skipped_line c.args.line.now utf8 (ap is_no_rule (sym text) ∙ sym c.is_no_rule.ensures ∙ c.if-is_no_rule.true)

pub returns : goal.returns
returns c =
    let utf8 = is_utf8-from_IsUtf8 c.args.line.now c.in-Ok.ensures.cases.1 in
    let text = c.text_of-text.ensures ∙ ap text_of c.in-Ok.ensures.cases.0 in
    let parts = line_rule c.args.line.now utf8 (ap is_no_rule (sym text) ∙ sym c.is_no_rule.ensures ∙ c.if-is_no_rule.false) in
    let rule = ap rule_of (sym text) ∙ c.in_ok-read_rule.ensures in
    (parts.0 ∙ ap (λ o. is_none o) rule, parts.1 ∙ rule)
