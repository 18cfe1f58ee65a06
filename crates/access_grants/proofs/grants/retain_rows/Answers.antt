-- A retain is the filter by what the closure tests.
use Rattle.std.proofs.Common.{rules, ◌∙◌, ap, map}
use Rattle.std.proofs.lemmas.Fn.{filter_same}
use Rattle.access_grants.specs.Plain.{plain_grant}
use Rattle.access_grants.specs.Stays.{grant_stays}
use Rattle.access_grants.proofs.MigrateLemmas.{filter_seen}
use Rattle.access_grants.proofs.grants.retain_rows.Goals as goal

pub returns-clause-kept : goal.returns-clause-kept
returns-clause-kept c =
    let test = grant_stays c.args.list.now.rules in
    let kept = filter_same _ (λ row. test (plain_grant row)) _ (λ x b f' k. search rules) _ _ c.retain.ensures.filtered in
    ap (map plain_grant) kept ∙ filter_seen plain_grant test c.args.rows.now.items
