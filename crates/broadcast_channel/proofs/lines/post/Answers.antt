-- A message comes to the other channels of a line.
use Rattle.std.proofs.Common.{ap, sym, subst, [], IfOk, length, ◌≡◌}
use Rattle.std.specs.Prelude.{unwrap_or}
use Rattle.std.specs.List.Sorted.{IsStrictlySortedBy}
use Rattle.std.specs.Map.{keys_of}
use Rattle.std.proofs.lemmas.Result.{on_ok_weaker, on_err_weaker}
use Rattle.key_map.specs.Entries.{map_remove}
use Rattle.broadcast_channel.specs.Hearers.{by_id, by_line, TellsLine, WaitsAsBefore}
use Rattle.broadcast_channel.proofs.MapLemmas.{of_some, sorted-none}
use Rattle.broadcast_channel.proofs.QueueLemmas.{told-get, same-get}
use Rattle.broadcast_channel.proofs.LineLemmas.{tells-set, tells-none, same-set}
use Rattle.broadcast_channel.proofs.ViewLemmas.{by_id_total, by_line_total}
use Rattle.broadcast_channel.proofs.lines.post.Goals as goal

pub returns-in-Some-clause-told : goal.returns-in-Some-clause-told
returns-in-Some-clause-told g c =
    let rows = by_line g.K.Ord.cmp in
    let ids = by_id g.O.Ord.cmp in
    let ids_total = by_id_total g.O.Ord.cmp g.met.O.Ord.total in
    on_ok_weaker c.post.result
    (λ zip.
    subst (TellsLine rows ids c.args.line.now c.args.from.now c.args.message.now c.args.lines.now) (sym (of_some c.get_mut.result _ c.in-Some.is (c.get_mut.follows.holds c.post.new.self)))
    (tells-set rows (by_line_total _ g.K.Ord.cmp g.met.K.Ord.total) ids ids_total c.args.line.now c.args.from.now c.args.message.now c.in-Some.hearers.now c.post.new.self
    c.args.lines.now c.in-Some.ensures.value
    (λ i. told-get ids ids_total c.args.from.now c.args.message.now i c.in-Some.hearers.now c.post.new.self zip)))
    c.post.ensures.told

pub returns-in-Some-clause-reached : goal.returns-in-Some-clause-reached
returns-in-Some-clause-reached g c =
    subst (λ queues. IfOk c.post.result (λ count. count ≡ length (map_remove (by_id g.O.Ord.cmp) c.args.from.now queues))) (ap (λ o. unwrap_or o []) c.in-Some.ensures.value)
    c.post.ensures.reached

pub returns-in-Some-clause-unchanged : goal.returns-in-Some-clause-unchanged
returns-in-Some-clause-unchanged g c =
    let rows = by_line g.K.Ord.cmp in
    let ids = by_id g.O.Ord.cmp in
    on_err_weaker c.post.result
    (λ zip.
    subst (WaitsAsBefore rows ids c.args.lines.now) (sym (of_some c.get_mut.result _ c.in-Some.is (c.get_mut.follows.holds c.post.new.self)))
    (same-set rows (by_line_total _ g.K.Ord.cmp g.met.K.Ord.total) ids (by_id_total g.O.Ord.cmp g.met.O.Ord.total) c.args.line.now c.in-Some.hearers.now c.post.new.self
    c.args.lines.now c.in-Some.ensures.value (λ i. same-get ids i c.in-Some.hearers.now c.post.new.self zip)))
    c.post.ensures.unchanged

pub returns-in-None-clause-told : goal.returns-in-None-clause-told
returns-in-None-clause-told g c =
    let rows = by_line g.K.Ord.cmp in
    let ids = by_id g.O.Ord.cmp in
    subst (TellsLine rows ids c.args.line.now c.args.from.now c.args.message.now c.args.lines.now) (sym c.get_mut.follows.holds-at-none)
    (tells-none rows (by_line_total _ g.K.Ord.cmp g.met.K.Ord.total) ids (by_id_total g.O.Ord.cmp g.met.O.Ord.total) c.args.line.now c.args.from.now c.args.message.now
    c.args.lines.now (sym c.in-None.ensures.value))

pub returns-in-None-clause-ordered : goal.returns-in-None-clause-ordered
returns-in-None-clause-ordered g c =
    subst (λ queues. IsStrictlySortedBy (by_id g.O.Ord.cmp) (keys_of queues)) (ap (λ o. unwrap_or o []) c.in-None.ensures.value)
    (sorted-none (by_id g.O.Ord.cmp))
