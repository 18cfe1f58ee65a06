-- The line is there, and the channel's queue is put there.
use Rattle.std.proofs.Common.{ap, sym, ◌∙◌, subst, Some, []}
use Rattle.std.specs.Prelude.{option_map}
use Rattle.std.proofs.lemmas.Result.{on_ok_weaker, on_err_weaker}
use Rattle.key_map.specs.Entries.{map_get}
use Rattle.broadcast_channel.specs.Queue.{waiting, empty_queue}
use Rattle.broadcast_channel.specs.Hearers.{by_id, by_line, ChangesAt, WaitsAsBefore}
use Rattle.broadcast_channel.proofs.MapLemmas.{of_some}
use Rattle.broadcast_channel.proofs.LineLemmas.{changes-set, changes-after, put-each, same-set}
use Rattle.broadcast_channel.proofs.ViewLemmas.{by_id_total, by_line_total}
use Rattle.broadcast_channel.proofs.lines.join.Goals as goal

pub returns-in-Some-clause-joined : goal.returns-in-Some-clause-joined
returns-in-Some-clause-joined g c =
    let rows = by_line g.K.Ord.cmp in
    let ids = by_id g.O.Ord.cmp in
    let rows_total = by_line_total _ g.K.Ord.cmp g.met.K.Ord.total in
    let ids_total = by_id_total g.O.Ord.cmp g.met.O.Ord.total in
    on_ok_weaker c.join.result
    (λ is.
    changes-after rows rows_total ids ids_total c.args.line c.args.id (Some ([], 0)) c.args.lines.now c.make_line.new.lines _ c.make_line.ensures.same
    (subst (ChangesAt rows ids c.args.line c.args.id (Some ([], 0)) c.make_line.new.lines) (sym (of_some c.get_mut.result _ c.in-Some.is (c.get_mut.follows.holds c.join.new.self)))
    (changes-set rows rows_total ids ids_total c.args.line c.args.id (Some ([], 0)) c.in-Some.hearers.now c.join.new.self c.make_line.new.lines c.in-Some.ensures.value
    (λ i. ap (λ queues. option_map waiting (map_get ids i queues)) is
    ∙ put-each rows rows_total ids ids_total c.args.id empty_queue c.in-Some.hearers.now i))))
    c.join.ensures.joined

pub returns-in-Some-clause-unchanged : goal.returns-in-Some-clause-unchanged
returns-in-Some-clause-unchanged g c =
    let rows = by_line g.K.Ord.cmp in
    let ids = by_id g.O.Ord.cmp in
    let rows_total = by_line_total _ g.K.Ord.cmp g.met.K.Ord.total in
    let ids_total = by_id_total g.O.Ord.cmp g.met.O.Ord.total in
    on_err_weaker c.join.result
    (λ is l i.
    subst (WaitsAsBefore rows ids c.make_line.new.lines) (sym (of_some c.get_mut.result _ c.in-Some.is (c.get_mut.follows.holds c.join.new.self)))
    (same-set rows rows_total ids ids_total c.args.line c.in-Some.hearers.now c.join.new.self c.make_line.new.lines c.in-Some.ensures.value
    (λ i. ap (λ queues. option_map waiting (map_get ids i queues)) is)) l i
    ∙ c.make_line.ensures.same l i)
    c.join.ensures.unchanged
