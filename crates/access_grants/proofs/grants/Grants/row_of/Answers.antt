-- The row at the place of the pair's row.
use Rattle.std.proofs.Common.{◌∙◌, ap, sym, option_copied, option_map}
use Rattle.origin_site.specs.Plain.{plain_site}
use Rattle.access_grants.specs.Grant.{is_of}
use Rattle.access_grants.specs.Plain.{plain_grant}
use Rattle.access_grants.proofs.IndexLemmas.{find_none, find_some}
use Rattle.access_grants.proofs.grants.Grants.row_of.Goals as goal

pub returns-in_err-place : goal.returns-in_err-place
returns-in_err-place c =
    let test = is_of (plain_site c.args.top.now) (plain_site c.args.site.now) in
    record { row = ap (λ r. option_map plain_grant (option_copied r)) c.from_residual.ensures ∙ sym (find_none test c.args.self.now.rows (sym c.in_err-place.ensures.place)) }

pub returns : goal.returns
returns c =
    let test = is_of (plain_site c.args.top.now) (plain_site c.args.site.now) in
    record { row = c.row.ensures.row ∙ sym (find_some test c.args.self.now.rows c.in_ok-place.place (sym c.in_ok-place.ensures.place)) }
