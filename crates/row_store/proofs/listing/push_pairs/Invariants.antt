use Rattle.std.proofs.Common.{take}
use Rattle.storage_key.specs.Plain.{plain_key}
use Rattle.row_store.specs.Listing.{pair_rows}
use Rattle.row_store.proofs.listing.push_pairs.Given as goal

abbrev pub invariant-loop-place : goal.invariant-loop-place
invariant-loop-place g l = g.S.RowSink.adds l.fn.sink (pair_rows (plain_key l.key) (take l.place l.area)) l.sink
