use Rattle.std.proofs.Common.{◌≡◌, [], ◌∷◌, Some, length, ap, ◌∙◌, arith, rules}
use Rattle.json.specs.Lex.{tokens}
use Rattle.json.specs.Token.{Token}
use Rattle.json.specs.Json.{members, parse_map, value}
use Rattle.json.proofs.Grammar.{value-begin_object}
use Rattle.serde_json.specs.Data.{object}
use Rattle.serde_json.specs.Read.{converted, of_json}
use Rattle.script_lines.proofs.FlatLemmas.{converted-object, whole_read}
use Rattle.script_lines.specs.Flat.{members_of}
use Rattle.script_lines.proofs.flat_object.read_object.Goals as goal

pub returns : goal.returns
returns c =
    let text = c.args.text.now in
    let later = c.next.new.self in
    let first : tokens text ≡ Token.begin_object ∷ later = grind arith in
    let none : c.read_members.new.reader ≡ [] = search rules in
    whole_read (value 127 (tokens text)) (object (members_of c.in_ok-members.members.items))
    (ap (converted of_json) (ap (value 127) first ∙ value-begin_object 127 later (omega arith))
    ∙ converted-object (members (value 126) (length later) later)
    ∙ ap (parse_map object) (c.in_ok-members.ensures ∙ ap (λ r. Some (members_of c.in_ok-members.members.items, r)) none))
