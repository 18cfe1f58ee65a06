use Rattle.storage_key.specs.Plain.{plain_key}
use Rattle.row_changes.specs.Change.{AreaPut}
use Rattle.row_store.proofs.PushedLemmas.{place_more}
use Rattle.row_store.proofs.listing.push_pairs.Goals as goal

pub loop-place-init : goal.loop-place-init
loop-place-init g c = g.met.S.RowSink.none _

pub loop-place-preserved : goal.loop-place-preserved
loop-place-preserved g c =
    place_more g.S.RowSink.adds g.met.S.RowSink.then
    (λ pair. AreaPut (plain_key c.args.key.now) pair.name pair.value) c.args.area.now c.loop-place.place _ _ _
    c.loop-place.invariant c.in_ok-push_pair.ensures.pushed
