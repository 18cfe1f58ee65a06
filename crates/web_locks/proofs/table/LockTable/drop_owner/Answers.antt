-- One request of the document is released after another.
use Rattle.std.proofs.Common.{◌∙◌, ◌<◌, ap, sym, subst, length}
use Rattle.web_locks.specs.Lock.{owned_ids}
use Rattle.web_locks.specs.Requests.{without_owner}
use Rattle.web_locks.proofs.OwnedLemmas.{first_released, fewer_owned, none_released}
use Rattle.web_locks.proofs.table.LockTable.drop_owner.Goals as goal

pub loop-id-smaller : goal.loop-id-smaller
loop-id-smaller g c =
    subst (λ table. length (owned_ids c.args.owner table) < length (owned_ids c.args.owner c.loop-id.self)) (sym c.release.ensures.released)
    (fewer_owned g.K.Ord.cmp c.args.owner c.loop-id.self c.in-Some.id (sym c.in-Some.ensures.first) c.in-Some.ensures.distinct)

pub loop-id-preserved : goal.loop-id-preserved
loop-id-preserved g c =
    ap (without_owner g.K.Ord.cmp c.args.owner) c.release.ensures.released
    ∙ first_released g.K.Ord.cmp c.args.owner c.loop-id.self c.in-Some.id (sym c.in-Some.ensures.first) c.in-Some.ensures.distinct
    ∙ c.loop-id.invariant

pub returns : goal.returns
returns g c = record {
  dropped =
      sym (none_released g.K.Ord.cmp c.args.owner c.loop-id.self (sym c.first_id.ensures.first ∙ c.in_default.is)) ∙ c.loop-id.invariant;
}
