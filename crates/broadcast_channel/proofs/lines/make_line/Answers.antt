-- A line that is made has no channel.
use Rattle.std.proofs.Common.{ap, sym, ◌∙◌, subst}
use Rattle.std.proofs.lemmas.Result.{on_ok_weaker, on_err_weaker}
use Rattle.key_map.specs.Entries.{map_put}
use Rattle.broadcast_channel.specs.Hearers.{by_id, by_line, waiting_at, WaitsAsBefore}
use Rattle.broadcast_channel.proofs.MapLemmas.{both_ways, none_from}
use Rattle.broadcast_channel.proofs.LineLemmas.{made-empty}
use Rattle.broadcast_channel.proofs.ViewLemmas.{by_id_total, by_line_total}
use Rattle.broadcast_channel.proofs.lines.make_line.Goals as goal

pub returns : goal.returns
returns g c =
    let rows = by_line g.K.Ord.cmp in
    let ids = by_id g.O.Ord.cmp in
    record {
      same = both_ways c.insert.result
          (on_ok_weaker c.insert.result
          (λ is. subst (WaitsAsBefore rows ids c.args.lines.now) (sym (is ∙ ap (λ queues. map_put rows c.args.line queues c.args.lines.now) c.new.ensures.empty))
          (made-empty rows (by_line_total _ g.K.Ord.cmp g.met.K.Ord.total) ids (by_id_total g.O.Ord.cmp g.met.O.Ord.total) c.args.line c.args.lines.now
          (none_from _ c.if-contains.ensures.contains)))
          c.insert.ensures.inserted)
          (on_err_weaker c.insert.result (λ is. λ l i. ap (waiting_at rows ids l i) is) c.insert.ensures.unchanged);
    }
