-- The requests for a name are in one of the forms.
use Rattle.web_locks.specs.Index.{locks_of}
use Rattle.web_locks.proofs.RequestLemmas.{open_standing}
use Rattle.web_locks.proofs.requests.Requests.queue.Goals as goal

pub is_grantable-held-requires-clause-line : goal.is_grantable-held-requires-clause-line
is_grantable-held-requires-clause-line g c = open_standing g.K.Ord.cmp (locks_of c.args.self.now.rows) c.requires.standing _ _
