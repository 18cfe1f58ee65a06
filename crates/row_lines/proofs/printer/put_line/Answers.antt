use Rattle.std.proofs.Common.{◌≡◌, ◌++◌, ◌∷◌, [], ap, ◌∙◌, append_assoc, rules}
use Rattle.serde_json.specs.Data.{object}
use Rattle.serde_json.specs.Written.{compact_text}
use Rattle.row_lines.specs.Plain.{plain_row}
use Rattle.row_lines.specs.Row.{row_members}
use Rattle.row_lines.proofs.TokenLemmas.{value_text}
use Rattle.row_lines.proofs.printer.put_line.Goals as goal

pub returns-clause-line : goal.returns-clause-line
returns-clause-line c =
    let d = object (row_members (plain_row c.args.row)) in
    let before : c.new-writer.result.before ≡ c.args.text.now.items = search rules in
    let value = value_text c.in_ok-written.field-0 c.put_row-written.result d c.new-writer.result c.put_row-written.new.writer c.in_ok-written.was c.new-writer.ensures.tokens c.put_row-written.ensures in
    c.in_ok-extend_from_slice.ensures.items
    ∙ ap (λ t. t ++ 10 ∷ []) (c.into_inner.ensures.items ∙ value ∙ ap (λ t. t ++ compact_text d) before)
    ∙ append_assoc c.args.text.now.items (compact_text d) (10 ∷ [])
