-- What finds the request forgets it.
use Rattle.std.proofs.Common.{◌≡◌, ◌∙◌, subst}
use Rattle.web_locks.specs.Index.{IsForgotten}
use Rattle.web_locks.proofs.RowLemmas.{some_is}
use Rattle.web_locks.proofs.ToldLemmas.{all_less}
use Rattle.web_locks.proofs.requests.Requests.take.Goals as goal

pub returns-clause-told : goal.returns-clause-told
returns-clause-told g c = λ lock row told.
    let same : c.in_ok-request.request ≡ lock = some_is c.in_ok-request.request lock (c.in_ok-request.ensures.value ∙ row) in
    rw c.remove.ensures.removed
    (all_less g.K.Ord.cmp c.args.number lock c.args.self.now.index c.forget.new.self c.args.self.now.rows
    (subst (λ l. IsForgotten g.K.Ord.cmp c.args.number l c.args.self.now.index c.forget.new.self) same c.forget.ensures.forgotten) told)
