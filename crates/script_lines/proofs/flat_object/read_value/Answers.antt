use Rattle.std.proofs.Common.{◌≡◌, ◌∷◌, option_map, ap, ◌∙◌, arith}
use Rattle.json.specs.Token.{Token}
use Rattle.json.specs.Json.{value}
use Rattle.json.specs.Reads.{token_of}
use Rattle.json.proofs.Grammar.{value_is}
use Rattle.serde_json.specs.Data.{number}
use Rattle.serde_json.specs.Read.{converted, of_json}
use Rattle.script_lines.specs.Flat.{items_of_pairs}
use Rattle.script_lines.proofs.PairLemmas.{list_read}
use Rattle.script_lines.proofs.flat_object.read_value.Goals as goal

pub returns-in-String-clause-value : goal.returns-in-String-clause-value
returns-in-String-clause-value c =
    let first : c.args.reader.now ≡ token_of c.in-Some.token ∷ c.next.new.self = c.in-Some.ensures.value in
    let is : c.args.reader.now ≡ Token.string c.in-String.text.now ∷ c.next.new.self = grind (arith, first) in
    ap (converted of_json) (ap (value 126) is ∙ value_is 126 _)

pub returns-in-Bool-clause-value : goal.returns-in-Bool-clause-value
returns-in-Bool-clause-value c =
    let first : c.args.reader.now ≡ token_of c.in-Some.token ∷ c.next.new.self = c.in-Some.ensures.value in
    let is : c.args.reader.now ≡ Token.boolean c.in-Bool.truth ∷ c.next.new.self = grind (arith, first) in
    ap (converted of_json) (ap (value 126) is ∙ value_is 126 _)

pub returns-in-Some-whole_number-clause-value : goal.returns-in-Some-whole_number-clause-value
returns-in-Some-whole_number-clause-value c =
    let first : c.args.reader.now ≡ token_of c.in-Some.token ∷ c.next.new.self = c.in-Some.ensures.value in
    let is : c.args.reader.now ≡ Token.number c.in-Number.text.now ∷ c.next.new.self = grind (arith, first) in
    ap (converted of_json) (ap (value 126) is ∙ value_is 126 _)
    ∙ ap (λ read. option_map (λ d. (d, c.next.new.self)) (option_map number read)) c.in-Some-whole_number.ensures

pub returns-in_ok-read_pairs-in-BeginArray-clause-value : goal.returns-in_ok-read_pairs-in-BeginArray-clause-value
returns-in_ok-read_pairs-in-BeginArray-clause-value c =
    let first : c.args.reader.now ≡ token_of c.in-Some.token ∷ c.next.new.self = c.in-Some.ensures.value in
    let is : c.args.reader.now ≡ Token.begin_array ∷ c.next.new.self = grind (arith, first, c.in-BeginArray.is) in
    let list = c.in_ok-read_pairs-in-BeginArray in
    (list_read (items_of_pairs list.field-0.items) c.args.reader.now c.next.new.self c.read_pairs.new.reader is list.ensures).0

pub returns-in_ok-read_pairs-in-BeginArray-clause-shorter : goal.returns-in_ok-read_pairs-in-BeginArray-clause-shorter
returns-in_ok-read_pairs-in-BeginArray-clause-shorter c =
    let first : c.args.reader.now ≡ token_of c.in-Some.token ∷ c.next.new.self = c.in-Some.ensures.value in
    let is : c.args.reader.now ≡ Token.begin_array ∷ c.next.new.self = grind (arith, first, c.in-BeginArray.is) in
    let list = c.in_ok-read_pairs-in-BeginArray in
    (list_read (items_of_pairs list.field-0.items) c.args.reader.now c.next.new.self c.read_pairs.new.reader is list.ensures).1
