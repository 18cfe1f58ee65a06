-- A steal, or a request that takes its place in the queue.
use Rattle.std.proofs.Common.{rules, ◌≡◌, sym, subst}
use Rattle.web_locks.specs.Forms.{IsLockTable}
use Rattle.web_locks.specs.Index.{locks_of}
use Rattle.web_locks.specs.Requests.{requested}
use Rattle.web_locks.proofs.GroupLemmas.{on_either}
use Rattle.web_locks.proofs.StandingLemmas.{standing_requested}
use Rattle.web_locks.proofs.requests.Requests.request.Goals as goal

pub returns-then-request-clause-standing : goal.returns-then-request-clause-standing
returns-then-request-clause-standing g c =
    let is : locks_of c.steal.new.self.rows ≡ requested g.K.Ord.cmp c.args.if_available c.args.request (locks_of c.args.self.now.rows) = search rules in
    subst (IsLockTable g.K.Ord.cmp) (sym is)
    (standing_requested g.K.Ord.cmp g.met.K.Ord.total c.args.if_available c.args.request (locks_of c.args.self.now.rows) c.requires.supported c.requires.free
    c.requires.standing)

pub returns-clause-standing : goal.returns-clause-standing
returns-clause-standing g c =
    on_either c.queue.result c.queue.ensures.requested c.queue.ensures.unchanged
    (λ is.
    subst (IsLockTable g.K.Ord.cmp) (sym is)
    (standing_requested g.K.Ord.cmp g.met.K.Ord.total c.args.if_available c.args.request (locks_of c.args.self.now.rows) c.requires.supported c.requires.free
    c.requires.standing))
    (λ is. subst (λ rows. IsLockTable g.K.Ord.cmp (locks_of rows)) (sym is) c.requires.standing)
