use Rattle.std.proofs.Common.{◌≡◌, ◌∷◌, ◌++◌, drop, map}
use Rattle.std.specs.Prelude.{codes}
use Rattle.json.specs.Token.{key}
use Rattle.row_lines.specs.Tokens.{tokens_of}
use Rattle.script_actions.specs.Plain.{head_field_of}
use Rattle.item_lines.specs.Line.{field_data, head_data}
use Rattle.item_lines.proofs.ListLemmas.{left}
use Rattle.item_lines.proofs.heads.put_head.Given as goal

abbrev pub invariant-loop-field : goal.invariant-loop-field
invariant-loop-field l =
    (l.writer.before ≡ l.fn.writer.before)
    × (l.fn.writer.tokens ++ key (codes "head") ∷ tokens_of (head_data (map head_field_of l.fn.head)) ≡ l.writer.tokens ++ left (λ f. field_data (head_field_of f)) (drop l.field-index l.fn.head))
