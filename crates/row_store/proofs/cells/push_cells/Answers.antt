use Rattle.std.proofs.Common.{◌∷◌, [], ◌++◌, ◌∙◌, ap, sym, take}
use Rattle.std.proofs.lemmas.List.{take_more}
use Rattle.cookie_jar.specs.Key.{plain_key}
use Rattle.row_store.specs.Pushed.{cell_rows_in}
use Rattle.row_store.proofs.PushedLemmas.{item_more}
use Rattle.row_store.proofs.cells.push_cells.Goals as goal

pub loop-cell-init : goal.loop-cell-init
loop-cell-init g c = g.met.S.RowSink.none _

pub loop-cell-preserved : goal.loop-cell-preserved
loop-cell-preserved g c =
    let cells = c.args.cells.now in
    let index = c.loop-cell.cell-index in
    item_more g.S.RowSink.adds g.met.S.RowSink.then (cell_rows_in c.args.which c.args.cookies.now)
    plain_key cells index c.cell-item.result _ _ _
    (take_more cells index c.cell-item.result c.loop-cell-test.true ∙ ap (λ x. take index cells ++ x ∷ []) (sym c.cell-item.is))
    c.loop-cell.invariant c.in_ok-push_cell.ensures.pushed
