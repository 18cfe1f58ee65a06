use Rattle.std.proofs.Common.{◌≡◌, ap, subst, ◌∙◌, rules}
use Rattle.store_runs.specs.Steps.{steps_of}
use Rattle.selftests.specs.Store.{IsStoreLength}
use Rattle.selftests.proofs.RunLemmas.{day_digest}
use Rattle.selftests.proofs.found.selftest.Goals as goal

pub returns-clause-digest : goal.returns-clause-digest
returns-clause-digest c =
    let lines : c.deref.result.now ≡ c.in_ok-lines.lines.items = search rules in
    let text : c.as_slice.result.now ≡ c.run.new.printed.text.items = search rules in
    day_digest c.args.seed (steps_of c.deref.result.now)
    c.as_slice.result.now c.digest.result c.digest.ensures (ap steps_of lines ∙ c.in_ok-lines.ensures.lines)
    (λ actions are. text ∙ c.in_ok-store.ensures.text actions are)

pub returns-clause-store : goal.returns-clause-store
returns-clause-store c =
    let lines : c.deref.result.now ≡ c.in_ok-lines.lines.items = search rules in
    subst (λ steps. IsStoreLength steps c.in_ok-store.store) (ap steps_of lines ∙ c.in_ok-lines.ensures.lines)
    c.in_ok-store.ensures.store
