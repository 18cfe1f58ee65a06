-- A message is offered, and then comes to all others or is withdrawn.
use Rattle.std.proofs.Common.{sym, ◌∙◌, subst}
use Rattle.std.specs.List.{AllZip}
use Rattle.broadcast_channel.specs.Hearers.{by_id, IsSettled}
use Rattle.broadcast_channel.proofs.MapLemmas.{err_of}
use Rattle.broadcast_channel.proofs.QueueLemmas.{told-settled, same-settled, same-all}
use Rattle.broadcast_channel.proofs.hearers.Hearers.post.Goals as goal

pub returns-in_err-others-clause-unchanged : goal.returns-in_err-others-clause-unchanged
returns-in_err-others-clause-unchanged g c = err_of _ (same-all c.args.self.now)

pub returns-then-ready-clause-told : goal.returns-then-ready-clause-told
returns-then-ready-clause-told g c =
    told-settled (by_id g.O.Ord.cmp) c.args.from.now c.args.message.now c.args.self.now c.offer.new.self c.settle.new.self c.offer.ensures.offered
    (sym c.is_ready-ready.ensures.ready ∙ c.if-ready.true)
    (subst (λ r. AllZip (IsSettled (by_id g.O.Ord.cmp) c.args.from.now r) c.offer.new.self c.settle.new.self) c.if-ready.true c.settle.ensures.settled)

pub returns-else-ready-clause-unchanged : goal.returns-else-ready-clause-unchanged
returns-else-ready-clause-unchanged g c =
    same-settled (by_id g.O.Ord.cmp) c.args.from.now c.args.message.now c.args.self.now c.offer.new.self c.settle.new.self c.offer.ensures.offered
    (subst (λ r. AllZip (IsSettled (by_id g.O.Ord.cmp) c.args.from.now r) c.offer.new.self c.settle.new.self) c.if-ready.false c.settle.ensures.settled)
