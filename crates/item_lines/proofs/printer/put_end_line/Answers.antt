use Rattle.std.proofs.Common.{◌≡◌, ◌++◌, ◌∷◌, [], ap, ◌∙◌, append_assoc, rules}
use Rattle.serde_json.specs.Written.{compact_text}
use Rattle.row_lines.proofs.TokenLemmas.{value_text}
use Rattle.local_scripts.specs.Items.{item_of}
use Rattle.local_scripts.specs.declared.item.Item.TheVariants as item
use Rattle.item_lines.specs.Item.{end_data}
use Rattle.item_lines.proofs.MemberLemmas.{known, puts}
use Rattle.item_lines.proofs.printer.put_end_line.Goals as goal

pub returns-clause-line : goal.returns-clause-line
returns-clause-line c =
    let d = end_data (item_of (item.Restarts c.args.end.now)) in
    let before : c.new-writer.result.before ≡ c.args.text.now.items = search rules in
    let value = value_text c.in_ok-written.field-0 c.put_end-written.result d c.new-writer.result c.put_end-written.new.writer c.in_ok-written.was c.new-writer.ensures.tokens (puts c.put_end-written.ensures) in
    c.in_ok-extend_from_slice.ensures.items
    ∙ ap (λ t. t ++ 10 ∷ []) (c.into_inner.ensures.items ∙ value ∙ ap (λ t. t ++ compact_text d) before)
    ∙ append_assoc c.args.text.now.items (compact_text d) (10 ∷ [])

pub returns-clause-range : goal.returns-clause-range
returns-clause-range c = known c.in_ok-written.was c.put_end-written.ensures.holds
