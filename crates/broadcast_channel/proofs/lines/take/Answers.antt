-- All that waits in one channel of a line is given.
use Rattle.std.proofs.Common.{ap, sym, ◌∙◌, ◌≡◌, cond, subst, []}
use Rattle.std.specs.Ordering.{is_eq}
use Rattle.std.specs.Prelude.{option_map, unwrap_or}
use Rattle.key_map.specs.Entries.{map_get, map_set}
use Rattle.broadcast_channel.specs.Queue.{waiting, empty_queue}
use Rattle.broadcast_channel.specs.Hearers.{by_id, by_line, ChangesAt, waiting_at}
use Rattle.broadcast_channel.proofs.MapLemmas.{of_some}
use Rattle.broadcast_channel.proofs.LineLemmas.{changes-set, changes-none, set-each, emptied_wait}
use Rattle.broadcast_channel.proofs.ViewLemmas.{by_id_total, by_line_total}
use Rattle.broadcast_channel.proofs.lines.take.Goals as goal

pub returns-in-Some-clause-emptied : goal.returns-in-Some-clause-emptied
returns-in-Some-clause-emptied g c =
    let rows = by_line g.K.Ord.cmp in
    let ids = by_id g.O.Ord.cmp in
    let ids_total = by_id_total g.O.Ord.cmp g.met.O.Ord.total in
    let value = option_map emptied_wait (waiting_at rows ids c.args.line.now c.args.id.now c.args.lines.now) in
    subst (ChangesAt rows ids c.args.line.now c.args.id.now value c.args.lines.now) (sym (of_some c.get_mut.result _ c.in-Some.is (c.get_mut.follows.holds c.take.new.self)))
    (changes-set rows (by_line_total _ g.K.Ord.cmp g.met.K.Ord.total) ids ids_total c.args.line.now c.args.id.now value c.in-Some.hearers.now c.take.new.self
    c.args.lines.now c.in-Some.ensures.value
    (λ i. ap (λ queues. option_map waiting (map_get ids i queues)) c.take.ensures.emptied
    ∙ subst (λ queues. option_map waiting (map_get ids i (map_set ids c.args.id.now empty_queue c.in-Some.hearers.now))
    ≡ cond (is_eq (ids c.args.id.now i)) (option_map emptied_wait (option_map waiting (map_get ids c.args.id.now queues))) (option_map waiting (map_get ids i c.in-Some.hearers.now)))
    (ap (λ o. unwrap_or o []) c.in-Some.ensures.value)
    (set-each rows (by_line_total _ g.K.Ord.cmp g.met.K.Ord.total) ids ids_total c.args.id.now c.in-Some.hearers.now i)))

pub returns-in-None-clause-emptied : goal.returns-in-None-clause-emptied
returns-in-None-clause-emptied g c =
    let rows = by_line g.K.Ord.cmp in
    let ids = by_id g.O.Ord.cmp in
    let value = option_map emptied_wait (waiting_at rows ids c.args.line.now c.args.id.now c.args.lines.now) in
    subst (ChangesAt rows ids c.args.line.now c.args.id.now value c.args.lines.now) (sym c.get_mut.follows.holds-at-none)
    (changes-none rows (by_line_total _ g.K.Ord.cmp g.met.K.Ord.total) ids (by_id_total g.O.Ord.cmp g.met.O.Ord.total) c.args.line.now c.args.id.now value c.args.lines.now
    (ap (λ o. option_map waiting (map_get ids c.args.id.now (unwrap_or o []))) (sym c.in-None.ensures.value)
    ∙ ap (λ o. option_map emptied_wait (option_map waiting (map_get ids c.args.id.now (unwrap_or o [])))) c.in-None.ensures.value))
