use Rattle.std.proofs.Common.{map, take}
use Rattle.cookie_jar.specs.Key.{plain_key}
use Rattle.row_store.specs.Pushed.{rows_of_cells}
use Rattle.row_store.proofs.cells.push_cells.Given as goal

abbrev pub invariant-loop-cell : goal.invariant-loop-cell
invariant-loop-cell g l = g.S.RowSink.adds l.fn.sink
    (rows_of_cells l.which l.cookies (map plain_key (take l.cell-index l.cells))) l.sink
