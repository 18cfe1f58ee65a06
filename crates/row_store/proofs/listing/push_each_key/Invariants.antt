use Rattle.std.proofs.Common.{map, take}
use Rattle.storage_key.specs.Plain.{plain_key}
use Rattle.row_store.specs.Pushed.{rows_of_keys}
use Rattle.row_store.proofs.listing.push_each_key.Given as goal

abbrev pub invariant-loop-key : goal.invariant-loop-key
invariant-loop-key g l = g.S.RowSink.adds l.fn.sink (rows_of_keys l.storage (map plain_key (take l.key-index l.keys))) l.sink
