use Rattle.std.proofs.Common.{◌≡◌, ◌++◌, OnOk, sym, ap, subst, ◌∙◌, append-nil}
use Rattle.row_changes.specs.Plain.{plain_change}
use Rattle.row_lines.specs.Plain.{plain_row}
use Rattle.store_dumps.proofs.TextLemmas.{no_text, one_text}
use Rattle.store_dumps.proofs.writing.hold.Goals as goal

pub returns-in-Some : goal.returns-in-Some
returns-in-Some c =
    let held = c.args.waiting.now.items in
    let text = one_text (plain_change c.args.row.now) (plain_row c.in-Some.row) (sym c.in-Some.ensures.row) in
    subst (λ t. OnOk c.print_row.result (c.print_row.new.text.items ≡ held ++ t)) (sym text) c.print_row.ensures.line

pub returns-in-None : goal.returns-in-None
returns-in-None c =
    let held = c.args.waiting.now.items in
    sym (ap (λ t. held ++ t) (no_text (plain_change c.args.row.now) (sym c.in-None.ensures.row)) ∙ append-nil held)
