use Rattle.std.proofs.Common.{◌≡◌, ◌++◌, ◌∷◌, [], ap, ◌∙◌, append_assoc, arith, rules}
use Rattle.serde_json.specs.Written.{compact_text}
use Rattle.row_lines.proofs.TokenLemmas.{value_text}
use Rattle.local_scripts.specs.Items.{item_of}
use Rattle.item_lines.specs.Item.{item_data}
use Rattle.item_lines.proofs.LawLemmas.{renumbered}
use Rattle.item_lines.proofs.MemberLemmas.{known, puts}
use Rattle.item_lines.proofs.printer.put_item_line.Goals as goal

pub returns-clause-line : goal.returns-clause-line
returns-clause-line c =
    let d = item_data c.args.number (item_of c.args.item.now) in
    let before : c.new-writer.result.before ≡ c.args.text.now.items = search rules in
    let value = value_text c.in_ok-written.field-0 c.put_item-written.result d c.new-writer.result c.put_item-written.new.writer c.in_ok-written.was c.new-writer.ensures.tokens (puts c.put_item-written.ensures) in
    c.in_ok-extend_from_slice.ensures.items
    ∙ ap (λ t. t ++ 10 ∷ []) (c.into_inner.ensures.items ∙ value ∙ ap (λ t. t ++ compact_text d) before)
    ∙ append_assoc c.args.text.now.items (compact_text d) (10 ∷ [])

pub returns-clause-range : goal.returns-clause-range
returns-clause-range c = renumbered c.args.number 0 (omega arith) (item_of c.args.item.now) (known c.in_ok-written.was c.put_item-written.ensures.holds)
