use Rattle.std.proofs.Common.{◌≡◌, ◌∷◌, ◌++◌, ◌≤◌, [], ap, arith, length, sym, ◌∙◌, append_assoc, map}
use Rattle.std.specs.Prelude.{codes}
use Rattle.std.proofs.lemmas.List.{drop_all}
use Rattle.json.specs.Token.{begin_array, key}
use Rattle.json.specs.Tree.{items_tokens}
use Rattle.serde_json.specs.View.{items_of}
use Rattle.serde_json.specs.Written.{items_outline}
use Rattle.script_actions.specs.Plain.{head_field_of}
use Rattle.reply_lines.proofs.ListLemmas.{map-map}
use Rattle.item_lines.specs.Line.{field_data}
use Rattle.item_lines.proofs.ListLemmas.{left, short_head}
use Rattle.item_lines.proofs.heads.put_head.Goals as goal

pub loop-field-init : goal.loop-field-init
loop-field-init c =
    let old = c.args.writer.now.tokens in
    let values = left (λ f. field_data (head_field_of f)) c.args.head.now in
    let begun : c.begin_array.new.self.tokens ≡ old ++ key (codes "head") ∷ begin_array ∷ [] =
    c.in_ok-begin_array.ensures.ok ∙ ap (λ ts. ts ++ begin_array ∷ []) c.in_ok-key.ensures.ok ∙ append_assoc old (key (codes "head") ∷ []) (begin_array ∷ []) in (
      c.in_ok-begin_array.ensures.room.0 ∙ c.in_ok-key.ensures.room.0,
      ap (λ vs. old ++ key (codes "head") ∷ begin_array ∷ items_tokens (items_outline (items_of vs))) (map-map field_data head_field_of c.args.head.now)
          ∙ sym (append_assoc old (key (codes "head") ∷ begin_array ∷ []) values) ∙ ap (λ ts. ts ++ values) (sym begun),
    )

pub returns : goal.returns
returns c =
    let fields = c.args.head.now in
    let values = left (λ f. field_data (head_field_of f)) in
    let all : length fields ≤ c.loop-field.field-index = omega (arith, c.loop-field-test.false) in
    record {
      tokens = c.in_ok-end_array.ensures.ok ∙ sym (c.loop-field.invariant.1 ∙ ap (λ fs. c.loop-field.writer.tokens ++ values fs) (drop_all c.loop-field.field-index fields all));
      before = c.in_ok-end_array.ensures.room.0 ∙ c.loop-field.invariant.0;
      holds = short_head (map head_field_of fields);
    }
