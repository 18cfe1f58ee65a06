use Rattle.std.proofs.Common.{rules, ◌∙◌, sym}
use Rattle.std.proofs.lemmas.Iterator.{YieldsList-from_slice}
use Rattle.std.proofs.lemmas.Iterator.Search.{all_from_yields_List}
use Rattle.std.proofs.lemmas.List.Folds.{list_all-map}
use Rattle.access_grants.specs.Plain.{plain_grant}
use Rattle.access_grants.specs.Stays.{grant_stays}
use Rattle.access_grants.proofs.grants.all_stay.Goals as goal

pub returns : goal.returns
returns c =
    let test = grant_stays c.args.list.now.rules in
    all_from_yields_List (λ row. test (plain_grant row)) _ _ c.all.result c.all.ensures.ran (YieldsList-from_slice c.args.rows.now c.iter.ensures.rest) (λ x b q k. search rules)
    ∙ sym (list_all-map test plain_grant c.args.rows.now)
