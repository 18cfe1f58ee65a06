use Rattle.std.proofs.Common.{map, take}
use Rattle.access_grants.specs.Plain.{plain_grant}
use Rattle.row_changes.specs.Change.{Grant}
use Rattle.row_store.proofs.listing.push_grants.Given as goal

abbrev pub invariant-loop-row : goal.invariant-loop-row
invariant-loop-row g l = g.S.RowSink.adds l.fn.sink (map (λ row. Grant (plain_grant row)) (take l.row-index l.grants)) l.sink
