-- The request that is found is released.
use Rattle.std.proofs.Common.{◌∙◌, ap, sym, subst, not, None}
use Rattle.web_locks.specs.Forms.{IsLockTable}
use Rattle.web_locks.specs.Index.{locks_of}
use Rattle.web_locks.proofs.RequestLemmas.{released_alike, request_found, used_found, unused_released}
use Rattle.web_locks.proofs.StandingLemmas.{standing_released}
use Rattle.web_locks.proofs.requests.Requests.release.Goals as goal

pub returns-in_default-clause-released : goal.returns-in_default-clause-released
returns-in_default-clause-released g c =
    sym (unused_released c.args.owner c.args.id g.K.Ord.cmp c.args.self.now.rows (sym (c.find.ensures.found c.requires.indexed.told) ∙ c.in_default.is))

pub returns-in_default-clause-no_lock : goal.returns-in_default-clause-no_lock
returns-in_default-clause-no_lock g c =
    ap not (sym (used_found c.args.owner c.args.id None c.args.self.now.rows (sym c.in_default.is ∙ c.find.ensures.found c.requires.indexed.told)))

pub returns-clause-released : goal.returns-clause-released
returns-clause-released g c =
    let first = request_found c.args.owner c.args.id c.in-Some.number c.args.self.now.rows c.in-Some.ensures.ordered (c.in-Some.ensures.found c.requires.indexed.told) in
    c.release_row.ensures.released first.lock first.row
    ∙ released_alike c.args.owner c.args.id g.K.Ord.cmp first.lock first.passes (locks_of c.args.self.now.rows)

pub returns-clause-standing : goal.returns-clause-standing
returns-clause-standing g c =
    subst (IsLockTable g.K.Ord.cmp) (sym (returns-clause-released g c))
    (standing_released g.K.Ord.cmp g.met.K.Ord.total c.args.owner c.args.id (locks_of c.args.self.now.rows) c.requires.standing)

pub returns-clause-no_lock : goal.returns-clause-no_lock
returns-clause-no_lock g c =
    ap not (sym (used_found c.args.owner c.args.id _ c.args.self.now.rows (c.in-Some.ensures.found c.requires.indexed.told)))
