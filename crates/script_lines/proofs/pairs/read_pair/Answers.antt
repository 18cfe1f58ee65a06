use Rattle.std.proofs.Common.{◌≡◌, ◌∷◌, ap, ◌∙◌, arith}
use Rattle.json.specs.Token.{Token}
use Rattle.json.proofs.Grammar.{closed_array}
use Rattle.script_lines.proofs.PairLemmas.{pair_read}
use Rattle.script_lines.proofs.pairs.read_pair.Goals as goal

pub returns-then-take_end_array-clause-value : goal.returns-then-take_end_array-clause-value
returns-then-take_end_array-clause-value c =
    let name = c.in_ok-name.name.now in
    let value = c.in_ok-value.value.now in
    let r = c.take_end_array.new.self in
    let opened : c.args.reader.now ≡ Token.begin_array ∷ c.next.new.self = grind (arith, c.in-Some-BeginArray.ensures.value, c.in-Some-BeginArray.field-0-is) in
    let named : c.next.new.self ≡ Token.string name ∷ c.read_text.new.reader = c.in_ok-name.ensures in
    let valued : c.read_text.new.reader ≡ Token.string value ∷ c.read_text-2.new.reader = c.in_ok-value.ensures in
    let closed : c.read_text-2.new.reader ≡ Token.end_array ∷ r = closed_array c.read_text-2.new.reader r c.if-take_end_array.ensures in
    pair_read name value c.args.reader.now r
    (opened ∙ ap (λ ts. Token.begin_array ∷ ts) (named ∙ ap (λ ts. Token.string name ∷ ts) (valued ∙ ap (λ ts. Token.string value ∷ ts) closed)))
