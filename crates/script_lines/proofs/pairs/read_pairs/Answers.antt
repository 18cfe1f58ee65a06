use Rattle.std.proofs.Common.{◌≡◌, ◌-◌, [], ◌∷◌, ◌++◌, Some, None, length, map, ap, sym, ◌∙◌, arith, rules}
use Rattle.std.proofs.lemmas.List.{map-append}
use Rattle.json.specs.Json.{after_end_array, items, value}
use Rattle.serde_json.specs.Read.{converted, of_items, of_json}
use Rattle.script_lines.specs.Flat.{pair_data}
use Rattle.script_lines.proofs.PairLemmas.{behind, item_read, items_over}
use Rattle.script_lines.proofs.pairs.read_pairs.Goals as goal

pub returns-then-take_end_array : goal.returns-then-take_end_array
returns-then-take_end_array c =
    let l = c.pairs in
    let over : after_end_array l.reader ≡ Some c.take_end_array.new.self = c.if-take_end_array.ensures in
    l.invariant.2 ∙ items_over (value 125) (map pair_data l.found.items) l.invariant.0 l.reader c.take_end_array.new.self l.invariant.1 over

pub pairs-preserved : goal.pairs-preserved
pairs-preserved c =
    let l = c.pairs in
    let n = l.invariant.0 in
    let done = map pair_data l.found.items in
    let s = c.take_end_array.new.self in
    let r = c.read_pair.new.reader in
    let pair = c.in_ok-pair.pair in
    let more : after_end_array l.reader ≡ None = c.if-take_end_array.ensures.0 in
    let stays : s ≡ l.reader = c.if-take_end_array.ensures.1 in
    let read : converted of_json (value 125 l.reader) ≡ Some (pair_data pair, r) = ap (λ ts. converted of_json (value 125 ts)) (sym stays) ∙ c.in_ok-pair.ensures.value in
    let lesser = c.in_ok-pair.ensures.shorter in
    let same = ap length stays in
    let pushed : c.push.new.self.items ≡ l.found.items ++ pair ∷ [] = search rules in
    let grown : map pair_data c.push.new.self.items ≡ done ++ pair_data pair ∷ [] = ap (map pair_data) pushed ∙ map-append pair_data l.found.items (pair ∷ []) in (
      n - 1,
      omega (arith, l.invariant.1, lesser, same),
      l.invariant.2 ∙ item_read (value 125) done n l.reader r (pair_data pair) (omega (arith, l.invariant.1, lesser, same)) more read
          ∙ ap (λ ds. behind ds (converted of_items (items (value 125) (n - 1) r))) (sym grown),
    )
