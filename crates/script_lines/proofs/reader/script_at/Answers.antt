use Rattle.std.proofs.Common.{◌≡◌, ◌⊎◌, ◌+◌, ◌∷◌, [], Ok, Err, option_copied, ap, inl, inr, map, rules, ⊎_elim, ◌∙◌}
use Rattle.script_actions.specs.Plain.{line_of}
use Rattle.script_lines.specs.Grammar.{lines_of, script_from}
use Rattle.script_lines.specs.Pieces.{lines_after}
use Rattle.script_lines.specs.Plain.{fault_of, script_of}
use Rattle.script_lines.specs.declared.script.ScriptFault.TheVariants.{NoMemory}
use Rattle.script_lines.proofs.LineLemmas.{first_has_fault, first_read, no_more_lines}
use Rattle.script_lines.proofs.reader.script_at.Goals as goal

pub returns-in-Some : goal.returns-in-Some
returns-in-Some c =
    let first = c.args.first.now in
    ap (λ o. script_from c.args.cuts_allowed first.number (first.text.now ∷ lines_after (option_copied o))) c.in-Some.is
    ∙ first_read c.args.cuts_allowed first.number first.text.now (lines_of c.in-Some.later.now) (script_of c.in_ok-begun.begun) (Ok (map line_of c.in_ok-lines-in-Some.lines.items))
    c.requires.seen c.in_ok-begun.ensures c.in_ok-lines-in-Some.ensures

pub returns : goal.returns
returns c =
    let first = c.args.first.now in
    let begun = script_of c.in_ok-begun.begun in
    ap (λ o. script_from c.args.cuts_allowed first.number (first.text.now ∷ lines_after (option_copied o))) c.in-None.is
    ∙ first_read c.args.cuts_allowed first.number first.text.now [] begun (Ok begun.lines)
    c.requires.seen c.in_ok-begun.ensures (no_more_lines (first.number + 1) begun.lines)

pub returns-in_err-begun : goal.returns-in_err-begun
returns-in_err-begun c =
    let first = c.args.first.now in
    let lines = lines_after (option_copied first.later) in
    let fault = c.in_err-begun.field-0.0 in
    let why : (fault ≡ NoMemory) ⊎ (script_from c.args.cuts_allowed first.number (first.text.now ∷ lines) ≡ Err (fault_of fault)) =
    ⊎_elim (λ memory. inl memory)
    (λ is. inr (first_has_fault c.args.cuts_allowed first.number first.text.now lines (fault_of fault) c.requires.seen is)) c.in_err-begun.ensures in
    search rules

pub returns-in_err-lines-in-Some : goal.returns-in_err-lines-in-Some
returns-in_err-lines-in-Some c =
    let first = c.args.first.now in
    let fault = c.in_err-lines-in-Some.field-0.0 in
    let why : (fault ≡ NoMemory) ⊎ (script_from c.args.cuts_allowed first.number (first.text.now ∷ lines_after (option_copied first.later)) ≡ Err (fault_of fault)) =
    ⊎_elim (λ memory. inl memory)
    (λ is. inr (ap (λ o. script_from c.args.cuts_allowed first.number (first.text.now ∷ lines_after (option_copied o))) c.in-Some.is
    ∙ first_read c.args.cuts_allowed first.number first.text.now (lines_of c.in-Some.later.now) (script_of c.in_ok-begun.begun) (Err (fault_of fault))
    c.requires.seen c.in_ok-begun.ensures is)) c.in_err-lines-in-Some.ensures in
    search rules
