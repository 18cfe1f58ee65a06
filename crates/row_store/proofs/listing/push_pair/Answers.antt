-- The pair at a place, if there is one.
use Rattle.std.proofs.Common.{ap, subst, sym}
use Rattle.std.specs.Prelude.{OnOk}
use Rattle.storage_key.specs.Plain.{plain_key}
use Rattle.row_store.specs.Listing.{pair_rows}
use Rattle.row_store.proofs.PushedLemmas.{found_there, none_found}
use Rattle.row_store.proofs.listing.push_pair.Goals as goal

pub returns-in-Some : goal.returns-in-Some
returns-in-Some g c = record {
  pushed =
      subst (λ more. OnOk c.add.result (g.S.RowSink.adds c.args.sink.now more c.add.new.self))
      (ap (pair_rows (plain_key c.args.key.now))
      (sym (found_there c.args.area.now c.args.place
      (record { name = c.in-Some.name.now; value = c.in-Some.value.now }) c.in-Some.ensures.pair)))
      c.add.ensures.added;
}

pub returns-in-None : goal.returns-in-None
returns-in-None g c = record {
  pushed =
      subst (λ pairs. g.S.RowSink.adds c.args.sink.now (pair_rows (plain_key c.args.key.now) pairs) c.args.sink.now)
      (sym (none_found c.args.area.now c.args.place c.in-None.ensures.pair)) (g.met.S.RowSink.none _);
}
