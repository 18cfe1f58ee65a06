use Rattle.std.proofs.Common.{refl}
use Rattle.cookie_jar.specs.Key.{plain_key}
use Rattle.row_store.specs.Pushed.{is_chosen}
use Rattle.row_store.proofs.PushedLemmas.{cookies_more, place_next}
use Rattle.row_store.proofs.cells.push_jar.Goals as goal

pub loop-index-init : goal.loop-index-init
loop-index-init g c = record { place = refl; added = g.met.S.RowSink.none _ }

pub loop-index-preserved : goal.loop-index-preserved
loop-index-preserved g c =
    let these = is_chosen c.args.which in
    let cookies = c.args.jar.now.cookies in
    let index = c.loop-index.index in
    record {
      place = place_next these cookies index c.loop-index.place _ c.loop-index.invariant.place c.in_ok-place.ensures.next;
      added = cookies_more g.S.RowSink.adds g.met.S.RowSink.then these (plain_key c.args.cell.now)
          cookies index c.loop-index.place _ _ _ c.loop-index.invariant.place c.loop-index.invariant.added
          c.in_ok-place.ensures.pushed;
    }
