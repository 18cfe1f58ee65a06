-- The number goes from each group that a request is of.
use Rattle.std.proofs.Common.{◌∙◌, ap}
use Rattle.std.specs.Ordering.{is_eq}
use Rattle.web_locks.specs.Index.{has_id, id_order, is_for, shared_order}
use Rattle.web_locks.specs.Owners.{label_order}
use Rattle.web_locks.specs.Lock.{is_owned}
use Rattle.web_locks.proofs.GroupLemmas.{removes_alike}
use Rattle.web_locks.proofs.IndexLemmas.{id_group, owner_group, shared_group}
use Rattle.web_locks.proofs.index.Index.forget.Goals as goal

pub returns : goal.returns
returns g c =
    let order = shared_order g.K.Ord.cmp in
    let lock = c.args.request.now in
    record {
      forgotten = record {
        ids =
            removes_alike id_order _ c.args.number c.args.self.now.ids c.remove.new.self (λ q. has_id q lock)
            (λ q. ap (λ own. is_eq (id_order own q)) c.own_id.ensures.own ∙ id_group lock q) c.remove.ensures.removed;
        owners =
            removes_alike label_order _ c.args.number c.args.self.now.owners c.remove-2.new.self (λ q. is_owned q lock)
            (λ q. ap (λ l. is_eq (label_order l.owner q)) c.request.view_is ∙ owner_group lock q) c.remove-2.ensures.removed;
        queues =
            removes_alike order _ c.args.number c.args.self.now.queues c.remove-3.new.self (λ q. is_for g.K.Ord.cmp q lock)
            (λ q. shared_group g.K.Ord.cmp g.met.K.Ord.total c.request.inside.resource q ∙ ap (is_for g.K.Ord.cmp q) c.request.view_is) c.remove-3.ensures.removed;
        waiting =
            removes_alike order _ c.args.number c.args.self.now.waiting c.remove-4.new.self (λ q. is_for g.K.Ord.cmp q lock)
            (λ q. shared_group g.K.Ord.cmp g.met.K.Ord.total c.request.inside.resource q ∙ ap (is_for g.K.Ord.cmp q) c.request.view_is) c.remove-4.ensures.removed;
        thieves =
            removes_alike order _ c.args.number c.args.self.now.thieves c.remove-5.new.self (λ q. is_for g.K.Ord.cmp q lock)
            (λ q. shared_group g.K.Ord.cmp g.met.K.Ord.total c.request.inside.resource q ∙ ap (is_for g.K.Ord.cmp q) c.request.view_is) c.remove-5.ensures.removed;
      };
    }
