-- What is added, or nothing, is at most added.
use Rattle.std.proofs.Common.{◌∙◌, ap, sym}
use Rattle.std.specs.Prelude.{◌&&◌}
use Rattle.std.specs.Ordering.{is_eq}
use Rattle.std.specs.Rc.{rc_value}
use Rattle.web_locks.specs.Index.{resource_order, shared_order}
use Rattle.web_locks.proofs.GroupLemmas.{added_at_most, most_alike, on_either, same_at_most}
use Rattle.web_locks.proofs.index.add_where.Goals as goal

pub returns-in-Ok-clause-at_most : goal.returns-in-Ok-clause-at_most
returns-in-Ok-clause-at_most g c =
    let order = shared_order g.K.Ord.cmp in
    on_either c.add.result c.add.ensures.added c.add.ensures.unchanged
    (λ adds.
    most_alike order (λ q. is_eq (order c.in-Ok.resource q)) c.args.number c.args.groups.now c.add.new.self
    (λ q. c.args.is_wanted && is_eq (order c.args.resource.now q))
    (λ q.
    ap (λ r. is_eq (resource_order g.K.Ord.cmp r (rc_value q))) c.in-Ok.ensures.cases
    ∙ sym (ap (λ b. b && is_eq (order c.args.resource.now q)) c.if-not-is_wanted.false))
    (added_at_most order (λ q. is_eq (order c.in-Ok.resource q)) c.args.number c.args.groups.now c.add.new.self adds))
    (λ same. same_at_most order (λ q. c.args.is_wanted && is_eq (order c.args.resource.now q)) c.args.number c.args.groups.now c.add.new.self same)
