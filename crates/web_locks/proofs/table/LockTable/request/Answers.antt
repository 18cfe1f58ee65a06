-- A number is used where a request of it is found.
use Rattle.std.proofs.Common.{rules, ◌≡◌, ◌∙◌, ap, sym, refl, false}
use Rattle.std.specs.Prelude.{string_bytes}
use Rattle.web_locks.specs.Lock.{has_request}
use Rattle.web_locks.specs.Requests.{asked, is_unsupported}
use Rattle.web_locks.proofs.RequestLemmas.{used_found}
use Rattle.web_locks.proofs.table.LockTable.request.Goals as goal
use Rattle.web_locks.proofs.table.LockTable.request.Goals.{in-Ok-request, in-Err}

pub returns-then-is_some-clause-id_used : goal.returns-then-is_some-clause-id_used
returns-then-is_some-clause-id_used g c =
    let no : is_unsupported c.args.options.if_available (asked c.args.owner c.args.id c.args.key (string_bytes c.args.name) c.args.options) ≡ false = search rules in
    let used = ap (has_request c.args.owner c.args.id) (sym c.self.view_is)
    ∙ used_found c.args.owner c.args.id c.find.result c.self.inside.requests.rows (c.find.ensures.found c.self.invariant.0.told)
    ∙ sym c.if-is_some.ensures in
    ((λ said. (no, used)), (λ there. refl))

pub returns-in_default-clause-id_used : goal.returns-in_default-clause-id_used
returns-in_default-clause-id_used g c =
    let free = ap (has_request c.args.owner c.args.id) (sym c.self.view_is)
    ∙ used_found c.args.owner c.args.id c.find.result c.self.inside.requests.rows (c.find.ensures.found c.self.invariant.0.told)
    ∙ sym c.if-is_some.ensures in
    ((λ never. absurd (cc never)), (λ there. absurd (cc (sym free ∙ there.1))))

pub request-requires-clause-free : goal.request-requires-clause-free
request-requires-clause-free g c =
    used_found c.args.owner c.args.id c.find.result c.self.inside.requests.rows (c.find.ensures.found c.self.invariant.0.told) ∙ sym c.if-is_some.ensures

pub returns-clause-id_used : goal.returns-clause-id_used
returns-clause-id_used g c =
    let free = ap (has_request c.args.owner c.args.id) (sym c.self.view_is)
    ∙ used_found c.args.owner c.args.id c.find.result c.self.inside.requests.rows (c.find.ensures.found c.self.invariant.0.told)
    ∙ sym c.if-is_some.ensures in
    elim c.match-request.branch [
      | in-Ok-request w ↦ ((λ said. absurd (cc (sym w.result-is ∙ said))), (λ there. absurd (cc (sym free ∙ there.1))))
      | in-Err w ↦ ((λ said. absurd (cc (sym w.result-is ∙ said))), (λ there. absurd (cc (sym free ∙ there.1))))
    ]
