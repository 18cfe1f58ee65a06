-- The row of the pair, seen among the rows that contracts see.
use Rattle.std.proofs.Common.{sym, ap, ◌∙◌, arith, FitsSigned, w64}
use Rattle.std.proofs.lemmas.Int.{ints, to_z-of_z}
use Rattle.access_grants.specs.Grant.{state_by, state_of}
use Rattle.access_grants.specs.Plain.{plain_grant}
use Rattle.origin_site.specs.Plain.{plain_site}
use Rattle.access_grants.proofs.PartLemmas.{find_under}
use Rattle.access_grants.proofs.grants.Grants.state.Goals as goal

pub returns-in-Some : goal.returns-in-Some
returns-in-Some c =
    let fits : FitsSigned w64 c.args.now = omega (arith, ints, c.ranges.now.sfits) in
    let moment = to_z-of_z w64 c.args.now fits in
    let state = c.state_of.ensures ∙ ap (λ n. state_of n (plain_grant c.in-Some.row.now)) moment ∙ ap (state_by c.args.now) c.in-Some.ensures.row in
    record { state = state; under = state ∙ ap (state_by c.args.now) (sym (find_under (plain_site c.args.top.now) (plain_site c.args.site.now) c.args.self.now.rows)) }

pub returns-in-None : goal.returns-in-None
returns-in-None c =
    let state = ap (state_by c.args.now) c.in-None.ensures.row in
    record { state = state; under = state ∙ ap (state_by c.args.now) (sym (find_under (plain_site c.args.top.now) (plain_site c.args.site.now) c.args.self.now.rows)) }
