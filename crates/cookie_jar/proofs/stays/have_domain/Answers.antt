use Rattle.std.proofs.Common.{rules, ◌∙◌, sym}
use Rattle.std.proofs.lemmas.Iterator.{YieldsList-from_slice}
use Rattle.std.proofs.lemmas.Iterator.Search.{all_from_yields_List}
use Rattle.std.proofs.lemmas.List.Folds.{list_all-map}
use Rattle.cookie_jar.specs.Plain.{plain_cookie}
use Rattle.cookie_jar.specs.Stays.{cookie_stays}
use Rattle.cookie_jar.proofs.stays.have_domain.Goals as goal

pub returns : goal.returns
returns c =
    let test = cookie_stays c.args.list.now.rules c.args.domain.now in
    all_from_yields_List (λ cookie. test (plain_cookie cookie)) _ _ c.all.result c.all.ensures.ran (YieldsList-from_slice c.args.cookies.now c.iter.ensures.rest) (λ x b q k. search rules)
    ∙ sym (list_all-map test plain_cookie c.args.cookies.now)
