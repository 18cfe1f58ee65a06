use Rattle.std.proofs.Common.{◌≡◌, [], Some, map, subst, sym, ap, ◌∙◌, arith}
use Rattle.script_lines.specs.Fields.{given, meaning, formed, of_headers, then_ok, head_list}
use Rattle.script_lines.specs.Flat.{data_of, field_of_texts, pairs_data}
use Rattle.script_lines.specs.Heads.{few, head_of_value}
use Rattle.script_lines.specs.JsonLine.{data_of_line}
use Rattle.script_lines.specs.Plain.{Reads}
use Rattle.script_actions.specs.Plain.{head_field_of}
use Rattle.serde_json.specs.Find.{get}
use Rattle.script_lines.proofs.PairLemmas.{head_of_pairs}
use Rattle.script_lines.proofs.heads.head.Goals as goal

pub returns-in-Some-Pairs : goal.returns-in-Some-Pairs
returns-in-Some-Pairs c =
    let name = c.args.name.now in
    let number = c.args.number in
    let pairs = c.in-Some-Pairs.pairs.now in
    let is : data_of c.in-Some-Pairs.field-0 ≡ pairs_data pairs = grind (arith, c.in-Some-Pairs.is, c.in-Some-Pairs.field-0-is, c.in-Some-Pairs.pairs-is) in
    let form : few (map field_of_texts pairs) ≡ given (meaning head_list) (Some []) (get name (data_of_line c.args.line.now)) =
    sym (ap head_of_value is ∙ head_of_pairs pairs) ∙ ap (given (meaning head_list) (Some [])) c.in-Some-Pairs.ensures in
    subst (λ form. Reads (λ v. map head_field_of v.items) (then_ok (formed number name form) (of_headers number)) c.head_of.result) form c.head_of.ensures
