use Rattle.std.proofs.Common.{◌≡◌, ◌+◌, ◌∷◌, ◌++◌, [], map, option_map, drop, sym, ap, ◌∙◌, rules}
use Rattle.std.proofs.lemmas.List.{at_drop_all, map-append}
use Rattle.serde_json.specs.View.{items_view}
use Rattle.script_lines.specs.Heads.{field_of_pair}
use Rattle.script_lines.specs.Items.{each_of}
use Rattle.script_lines.specs.Flat.{field_of_texts}
use Rattle.script_lines.proofs.ItemLemmas.{each_end, joined, next_fails, next_read}
use Rattle.script_lines.proofs.heads.each_pair.Goals as goal

pub returns-in-None : goal.returns-in-None
returns-in-None c =
    let l = c.loop-item in
    sym (l.invariant ∙ next_fails field_of_pair (map field_of_texts l.pairs.items) c.args.items.now l.item-index c.item-item.result c.loop-item-test.true c.item-item.is
    (sym c.pair_in.ensures ∙ ap (option_map field_of_texts) c.in-None.is))

pub loop-item-preserved : goal.loop-item-preserved
loop-item-preserved c =
    let l = c.loop-item in
    let pushed : c.push.new.self.items ≡ l.pairs.items ++ c.in-Some.pair ∷ [] = search rules in
    l.invariant
    ∙ next_read field_of_pair (map field_of_texts l.pairs.items) c.args.items.now l.item-index c.item-item.result (field_of_texts c.in-Some.pair) c.loop-item-test.true c.item-item.is
    (sym c.pair_in.ensures ∙ ap (option_map field_of_texts) c.in-Some.is)
    ∙ ap (λ xs. joined xs (each_of field_of_pair (items_view (drop (l.item-index + 1) c.args.items.now))))
    (sym (ap (map field_of_texts) pushed ∙ map-append field_of_texts l.pairs.items (c.in-Some.pair ∷ [])))

pub returns : goal.returns
returns c =
    let l = c.loop-item in
    sym (l.invariant
    ∙ at_drop_all (λ later. joined (map field_of_texts l.pairs.items) (each_of field_of_pair (items_view later))) c.args.items.now l.item-index c.loop-item-test.false
    ∙ each_end field_of_pair (map field_of_texts l.pairs.items))
