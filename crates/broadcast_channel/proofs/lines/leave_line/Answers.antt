-- One channel of the line is taken out.
use Rattle.std.proofs.Common.{ap, sym, ◌∙◌, subst, None, []}
use Rattle.std.specs.Prelude.{option_map, unwrap_or}
use Rattle.key_map.specs.Entries.{map_get}
use Rattle.broadcast_channel.specs.Queue.{waiting}
use Rattle.broadcast_channel.specs.Hearers.{by_id, by_line, queues_of, ChangesAt}
use Rattle.broadcast_channel.proofs.MapLemmas.{of_some, empty_from}
use Rattle.broadcast_channel.proofs.LineLemmas.{changes-set, changes-none, remove-each, queues-set}
use Rattle.broadcast_channel.proofs.ViewLemmas.{by_id_total, by_line_total}
use Rattle.broadcast_channel.proofs.lines.leave_line.Goals as goal

pub returns-in-Some-clause-left : goal.returns-in-Some-clause-left
returns-in-Some-clause-left g c =
    let rows = by_line g.K.Ord.cmp in
    let ids = by_id g.O.Ord.cmp in
    let rows_total = by_line_total _ g.K.Ord.cmp g.met.K.Ord.total in
    let ids_total = by_id_total g.O.Ord.cmp g.met.O.Ord.total in
    subst (ChangesAt rows ids c.args.line.now c.args.id.now None c.args.lines.now) (sym (of_some c.get_mut.result _ c.in-Some.is (c.get_mut.follows.holds c.leave.new.self)))
    (changes-set rows rows_total ids ids_total c.args.line.now c.args.id.now None c.in-Some.hearers.now c.leave.new.self c.args.lines.now c.in-Some.ensures.value
    (λ i. ap (λ queues. option_map waiting (map_get ids i queues)) c.leave.ensures.left
    ∙ remove-each rows rows_total ids ids_total c.args.id.now c.in-Some.hearers.now i))

pub returns-in-Some-clause-none : goal.returns-in-Some-clause-none
returns-in-Some-clause-none g c =
    let rows = by_line g.K.Ord.cmp in
    let ids = by_id g.O.Ord.cmp in
    λ is.
    ap (queues_of rows ids c.args.line.now) (of_some c.get_mut.result _ c.in-Some.is (c.get_mut.follows.holds c.leave.new.self))
    ∙ queues-set rows (by_line_total _ g.K.Ord.cmp g.met.K.Ord.total) ids (by_id_total g.O.Ord.cmp g.met.O.Ord.total) c.args.line.now c.in-Some.hearers.now c.leave.new.self
    c.args.lines.now c.in-Some.ensures.value
    ∙ empty_from c.leave.new.self c.is_empty.result c.is_empty.ensures.empty is

pub returns-in-None-clause-left : goal.returns-in-None-clause-left
returns-in-None-clause-left g c =
    let rows = by_line g.K.Ord.cmp in
    let ids = by_id g.O.Ord.cmp in
    subst (ChangesAt rows ids c.args.line.now c.args.id.now None c.args.lines.now) (sym c.get_mut.follows.holds-at-none)
    (changes-none rows (by_line_total _ g.K.Ord.cmp g.met.K.Ord.total) ids (by_id_total g.O.Ord.cmp g.met.O.Ord.total) c.args.line.now c.args.id.now None c.args.lines.now
    (ap (λ o. option_map waiting (map_get ids c.args.id.now (unwrap_or o []))) (sym c.in-None.ensures.value)))
