-- The number is added to each group that a request is of, as far as there is memory.
use Rattle.std.proofs.Common.{◌∙◌, ap, refl, not}
use Rattle.std.specs.Ordering.{is_eq}
use Rattle.std.proofs.lemmas.Result.{on_ok_weaker}
use Rattle.web_locks.specs.Index.{has_id, id_order, is_for, shared_order, stole_it, waits_for}
use Rattle.web_locks.specs.Owners.{label_order}
use Rattle.web_locks.specs.Lock.{is_owned}
use Rattle.web_locks.proofs.GroupLemmas.{added_at_most, adds_alike, most_alike, same_at_most}
use Rattle.web_locks.proofs.IndexLemmas.{id_group, owner_group, shared_group, where_group}
use Rattle.web_locks.proofs.index.Index.note.Goals as goal

pub returns-in_err-add-clause-kept : goal.returns-in_err-add-clause-kept
returns-in_err-add-clause-kept g c = record {
  ids = same_at_most id_order (λ q. has_id q c.args.request.now) c.args.number c.args.self.now.ids c.add.new.self c.in_err-add.ensures.unchanged;
  owners = λ q. refl;
  queues = λ q. refl;
  waiting = λ q. refl;
  thieves = λ q. refl;
}

pub returns-in_err-add-2-clause-kept : goal.returns-in_err-add-2-clause-kept
returns-in_err-add-2-clause-kept g c = record {
  ids =
      most_alike id_order _ c.args.number c.args.self.now.ids c.add.new.self (λ q. has_id q c.args.request.now)
      (λ q. ap (λ own. is_eq (id_order own q)) c.own_id.ensures.own ∙ id_group c.args.request.now q)
      (added_at_most id_order _ c.args.number c.args.self.now.ids c.add.new.self c.in_ok-add.ensures.added);
  owners = same_at_most label_order (λ q. is_owned q c.args.request.now) c.args.number c.args.self.now.owners c.add-2.new.self c.in_err-add-2.ensures.unchanged;
  queues = λ q. refl;
  waiting = λ q. refl;
  thieves = λ q. refl;
}

pub returns-in_err-add_where-clause-kept : goal.returns-in_err-add_where-clause-kept
returns-in_err-add_where-clause-kept g c = record {
  ids =
      most_alike id_order _ c.args.number c.args.self.now.ids c.add.new.self (λ q. has_id q c.args.request.now)
      (λ q. ap (λ own. is_eq (id_order own q)) c.own_id.ensures.own ∙ id_group c.args.request.now q)
      (added_at_most id_order _ c.args.number c.args.self.now.ids c.add.new.self c.in_ok-add.ensures.added);
  owners =
      most_alike label_order _ c.args.number c.args.self.now.owners c.add-2.new.self (λ q. is_owned q c.args.request.now)
      (λ q. ap (λ l. is_eq (label_order l.owner q)) c.request.view_is ∙ owner_group c.args.request.now q)
      (added_at_most label_order _ c.args.number c.args.self.now.owners c.add-2.new.self c.in_ok-add-2.ensures.added);
  queues =
      most_alike (shared_order g.K.Ord.cmp) _ c.args.number c.args.self.now.queues c.add_where.new.groups (λ q. is_for g.K.Ord.cmp q c.args.request.now)
      (λ q. shared_group g.K.Ord.cmp g.met.K.Ord.total c.request.inside.resource q ∙ ap (is_for g.K.Ord.cmp q) c.request.view_is)
      c.add_where.ensures.at_most;
  waiting = λ q. refl;
  thieves = λ q. refl;
}

pub returns-in_err-add_where-2-clause-kept : goal.returns-in_err-add_where-2-clause-kept
returns-in_err-add_where-2-clause-kept g c = record {
  ids =
      most_alike id_order _ c.args.number c.args.self.now.ids c.add.new.self (λ q. has_id q c.args.request.now)
      (λ q. ap (λ own. is_eq (id_order own q)) c.own_id.ensures.own ∙ id_group c.args.request.now q)
      (added_at_most id_order _ c.args.number c.args.self.now.ids c.add.new.self c.in_ok-add.ensures.added);
  owners =
      most_alike label_order _ c.args.number c.args.self.now.owners c.add-2.new.self (λ q. is_owned q c.args.request.now)
      (λ q. ap (λ l. is_eq (label_order l.owner q)) c.request.view_is ∙ owner_group c.args.request.now q)
      (added_at_most label_order _ c.args.number c.args.self.now.owners c.add-2.new.self c.in_ok-add-2.ensures.added);
  queues =
      most_alike (shared_order g.K.Ord.cmp) _ c.args.number c.args.self.now.queues c.add_where.new.groups (λ q. is_for g.K.Ord.cmp q c.args.request.now)
      (λ q. shared_group g.K.Ord.cmp g.met.K.Ord.total c.request.inside.resource q ∙ ap (is_for g.K.Ord.cmp q) c.request.view_is)
      c.add_where.ensures.at_most;
  waiting =
      most_alike (shared_order g.K.Ord.cmp) _ c.args.number c.args.self.now.waiting c.add_where-2.new.groups (λ q. waits_for g.K.Ord.cmp q c.args.request.now)
      (λ q.
      where_group (not c.request.inside.held) (is_eq (shared_order g.K.Ord.cmp c.request.inside.resource q)) _
      (shared_group g.K.Ord.cmp g.met.K.Ord.total c.request.inside.resource q)
      ∙ ap (waits_for g.K.Ord.cmp q) c.request.view_is)
      c.add_where-2.ensures.at_most;
  thieves = λ q. refl;
}

pub returns-clause-noted : goal.returns-clause-noted
returns-clause-noted g c =
    on_ok_weaker c.add_where-3.result (λ adds. record {
      ids =
          adds_alike id_order _ c.args.number c.args.self.now.ids c.add.new.self (λ q. has_id q c.args.request.now)
          (λ q. ap (λ own. is_eq (id_order own q)) c.own_id.ensures.own ∙ id_group c.args.request.now q) c.in_ok-add.ensures.added;
      owners =
          adds_alike label_order _ c.args.number c.args.self.now.owners c.add-2.new.self (λ q. is_owned q c.args.request.now)
          (λ q. ap (λ l. is_eq (label_order l.owner q)) c.request.view_is ∙ owner_group c.args.request.now q) c.in_ok-add-2.ensures.added;
      queues =
          adds_alike (shared_order g.K.Ord.cmp) _ c.args.number c.args.self.now.queues c.add_where.new.groups (λ q. is_for g.K.Ord.cmp q c.args.request.now)
          (λ q. shared_group g.K.Ord.cmp g.met.K.Ord.total c.request.inside.resource q ∙ ap (is_for g.K.Ord.cmp q) c.request.view_is)
          c.in_ok-add_where.ensures.added;
      waiting =
          adds_alike (shared_order g.K.Ord.cmp) _ c.args.number c.args.self.now.waiting c.add_where-2.new.groups (λ q. waits_for g.K.Ord.cmp q c.args.request.now)
          (λ q.
          where_group (not c.request.inside.held) (is_eq (shared_order g.K.Ord.cmp c.request.inside.resource q)) _
          (shared_group g.K.Ord.cmp g.met.K.Ord.total c.request.inside.resource q)
          ∙ ap (waits_for g.K.Ord.cmp q) c.request.view_is)
          c.in_ok-add_where-2.ensures.added;
      thieves =
          adds_alike (shared_order g.K.Ord.cmp) _ c.args.number c.args.self.now.thieves c.add_where-3.new.groups (λ q. stole_it g.K.Ord.cmp q c.args.request.now)
          (λ q.
          where_group c.request.inside.stole (is_eq (shared_order g.K.Ord.cmp c.request.inside.resource q)) _
          (shared_group g.K.Ord.cmp g.met.K.Ord.total c.request.inside.resource q)
          ∙ ap (stole_it g.K.Ord.cmp q) c.request.view_is)
          adds;
    })
    c.add_where-3.ensures.added

pub returns-clause-kept : goal.returns-clause-kept
returns-clause-kept g c = record {
  ids =
      most_alike id_order _ c.args.number c.args.self.now.ids c.add.new.self (λ q. has_id q c.args.request.now)
      (λ q. ap (λ own. is_eq (id_order own q)) c.own_id.ensures.own ∙ id_group c.args.request.now q)
      (added_at_most id_order _ c.args.number c.args.self.now.ids c.add.new.self c.in_ok-add.ensures.added);
  owners =
      most_alike label_order _ c.args.number c.args.self.now.owners c.add-2.new.self (λ q. is_owned q c.args.request.now)
      (λ q. ap (λ l. is_eq (label_order l.owner q)) c.request.view_is ∙ owner_group c.args.request.now q)
      (added_at_most label_order _ c.args.number c.args.self.now.owners c.add-2.new.self c.in_ok-add-2.ensures.added);
  queues =
      most_alike (shared_order g.K.Ord.cmp) _ c.args.number c.args.self.now.queues c.add_where.new.groups (λ q. is_for g.K.Ord.cmp q c.args.request.now)
      (λ q. shared_group g.K.Ord.cmp g.met.K.Ord.total c.request.inside.resource q ∙ ap (is_for g.K.Ord.cmp q) c.request.view_is)
      c.add_where.ensures.at_most;
  waiting =
      most_alike (shared_order g.K.Ord.cmp) _ c.args.number c.args.self.now.waiting c.add_where-2.new.groups (λ q. waits_for g.K.Ord.cmp q c.args.request.now)
      (λ q.
      where_group (not c.request.inside.held) (is_eq (shared_order g.K.Ord.cmp c.request.inside.resource q)) _
      (shared_group g.K.Ord.cmp g.met.K.Ord.total c.request.inside.resource q)
      ∙ ap (waits_for g.K.Ord.cmp q) c.request.view_is)
      c.add_where-2.ensures.at_most;
  thieves =
      most_alike (shared_order g.K.Ord.cmp) _ c.args.number c.args.self.now.thieves c.add_where-3.new.groups (λ q. stole_it g.K.Ord.cmp q c.args.request.now)
      (λ q.
      where_group c.request.inside.stole (is_eq (shared_order g.K.Ord.cmp c.request.inside.resource q)) _
      (shared_group g.K.Ord.cmp g.met.K.Ord.total c.request.inside.resource q)
      ∙ ap (stole_it g.K.Ord.cmp q) c.request.view_is)
      c.add_where-3.ensures.at_most;
}
