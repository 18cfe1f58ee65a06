use Rattle.std.proofs.Common.{◌≡◌, ◌++◌, ◌∷◌, [], ap, ◌∙◌, append_assoc, rules}
use Rattle.serde_json.specs.Written.{compact_text}
use Rattle.row_lines.proofs.TokenLemmas.{value_text}
use Rattle.served_lines.specs.Refusal.{refusal_data}
use Rattle.served_lines.proofs.refusal.put_line.Goals as goal

pub returns : goal.returns
returns c =
    let d = refusal_data c.args.number c.args.words.now in
    let before : c.new-writer.result.before ≡ c.args.text.now.items = search rules in
    let value = value_text c.in_ok-written.field-0 c.put_members-written.result d c.new-writer.result c.put_members-written.new.writer c.in_ok-written.was c.new-writer.ensures.tokens c.put_members-written.ensures in
    c.in_ok-extend_from_slice.ensures.items
    ∙ ap (λ t. t ++ 10 ∷ []) (c.into_inner.ensures.items ∙ value ∙ ap (λ t. t ++ compact_text d) before)
    ∙ append_assoc c.args.text.now.items (compact_text d) (10 ∷ [])
