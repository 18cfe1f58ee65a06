use Rattle.std.proofs.Common.{◌+◌, sym, ap, ◌∙◌, arith, [], ◌∷◌}
use Rattle.local_scripts.specs.Items.{item_of}
use Rattle.script_courses.specs.Twins.{acknowledged_in}
use Rattle.twins.proofs.CountLemmas.{acknowledged_few, acknowledged_more}
use Rattle.twins.proofs.counts.acknowledged.Goals as goal
use Rattle.twins.proofs.counts.acknowledged.Goals.{in-Restarts, in_default}

pub overflow_add-count : goal.overflow_add-count
overflow_add-count c =
    let items = c.args.items.now in
    let i = c.loop-item.item-index in
    let more = acknowledged_more items i c.item-item.result c.loop-item-test.true in
    let one = ap (λ x. acknowledged_in (item_of x ∷ [])) (sym c.item-item.is ∙ c.in-Restarts.is) in
    omega (arith, more, one, acknowledged_few items (i + 1), c.loop-item.invariant, c.requires.few)

pub loop-item-preserved : goal.loop-item-preserved
loop-item-preserved c =
    let items = c.args.items.now in
    let i = c.loop-item.item-index in
    let more = acknowledged_more items i c.item-item.result c.loop-item-test.true in
    elim c.match-item.branch [
      | in-Restarts w ↦ let one = ap (λ x. acknowledged_in (item_of x ∷ []))
          (sym c.item-item.is ∙ w.in-Restarts.is) in omega (arith, more, one, c.loop-item.invariant, w.count-is)
      | in_default w ↦ let one = ap (λ x. acknowledged_in (item_of x ∷ []))
          (sym c.item-item.is ∙ w.in_default.is) in omega (arith, more, one, c.loop-item.invariant, w.count-is)
    ]
