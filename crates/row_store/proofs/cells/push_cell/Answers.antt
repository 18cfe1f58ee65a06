-- The cookies of a cell, as all cookies have them.
use Rattle.std.proofs.Common.{◌∙◌, filter, subst, sym}
use Rattle.std.specs.Prelude.{OnOk}
use Rattle.cookie_jar.specs.Key.{plain_key}
use Rattle.row_store.specs.Listing.{cookie_rows}
use Rattle.row_store.specs.Pushed.{is_chosen}
use Rattle.row_store.proofs.PushedLemmas.{cookies_are}
use Rattle.row_store.proofs.cells.push_cell.Goals as goal

pub returns-in-Some : goal.returns-in-Some
returns-in-Some g c = record {
  pushed =
      subst (λ cookies. OnOk c.push_jar.result (g.S.RowSink.adds c.args.sink.now
      (cookie_rows (plain_key c.args.cell.now) 0 (filter (is_chosen c.args.which) cookies)) c.push_jar.new.sink))
      (c.in-Some.ensures.cookies ∙ sym (cookies_are (plain_key c.args.cell.now) c.args.cookies.now))
      c.push_jar.ensures.pushed;
}

pub returns-in-None : goal.returns-in-None
returns-in-None g c = record {
  pushed =
      subst (λ cookies. g.S.RowSink.adds c.args.sink.now
      (cookie_rows (plain_key c.args.cell.now) 0 (filter (is_chosen c.args.which) cookies)) c.args.sink.now)
      (sym (cookies_are (plain_key c.args.cell.now) c.args.cookies.now ∙ c.in-None.ensures.cookies)) (g.met.S.RowSink.none _);
}
