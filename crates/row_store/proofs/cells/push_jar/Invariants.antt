use Rattle.std.proofs.Common.{◌≡◌, filter, length, take}
use Rattle.cookie_jar.specs.Key.{plain_key}
use Rattle.row_store.specs.Listing.{cookie_rows}
use Rattle.row_store.specs.Pushed.{is_chosen}
use Rattle.row_store.proofs.cells.push_jar.Given as goal

abbrev pub invariant-loop-index : goal.invariant-loop-index
invariant-loop-index g l = record {
  place : l.place ≡ length (filter (is_chosen l.which) (take l.index l.jar.cookies));
  added : g.S.RowSink.adds l.fn.sink (cookie_rows (plain_key l.cell) 0
      (filter (is_chosen l.which) (take l.index l.jar.cookies))) l.sink;
}
