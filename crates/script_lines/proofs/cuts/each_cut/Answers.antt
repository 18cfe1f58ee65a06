use Rattle.std.proofs.Common.{◌≡◌, ◌+◌, ◌∷◌, ◌++◌, [], drop, sym, ap, ◌∙◌, rules}
use Rattle.std.proofs.lemmas.List.{at_drop_all}
use Rattle.serde_json.specs.View.{items_view}
use Rattle.script_lines.specs.Cuts.{cut_of_pair}
use Rattle.script_lines.specs.Items.{each_of}
use Rattle.script_lines.proofs.ItemLemmas.{each_end, joined, next_fails, next_read}
use Rattle.script_lines.proofs.cuts.each_cut.Goals as goal

pub returns-in-None : goal.returns-in-None
returns-in-None c =
    let l = c.loop-item in
    sym (l.invariant ∙ next_fails cut_of_pair l.cuts.items c.args.items.now l.item-index c.item-item.result c.loop-item-test.true c.item-item.is
    (sym c.cut_in.ensures ∙ c.in-None.is))

pub loop-item-preserved : goal.loop-item-preserved
loop-item-preserved c =
    let l = c.loop-item in
    let pushed : c.push.new.self.items ≡ l.cuts.items ++ c.in-Some.cut ∷ [] = search rules in
    l.invariant
    ∙ next_read cut_of_pair l.cuts.items c.args.items.now l.item-index c.item-item.result c.in-Some.cut c.loop-item-test.true c.item-item.is
    (sym c.cut_in.ensures ∙ c.in-Some.is)
    ∙ ap (λ xs. joined xs (each_of cut_of_pair (items_view (drop (l.item-index + 1) c.args.items.now)))) (sym pushed)

pub returns : goal.returns
returns c =
    let l = c.loop-item in
    sym (l.invariant
    ∙ at_drop_all (λ later. joined l.cuts.items (each_of cut_of_pair (items_view later))) c.args.items.now l.item-index c.loop-item-test.false
    ∙ each_end cut_of_pair l.cuts.items)
