use Rattle.std.proofs.Common.{◌∙◌, ap, map, sym, take}
use Rattle.std.proofs.lemmas.List.{take-map, take_min}
use Rattle.std.specs.List.{count_by}
use Rattle.cookie_jar.specs.Lifetime.{is_persistent}
use Rattle.cookie_jar.specs.Plain.{plain_cookie}
use Rattle.cookie_jar.proofs.RemovalLemmas.{count_map}
use Rattle.cookie_jar.proofs.removals.persistent_before.Goals as goal

pub returns : goal.returns
returns c =
    let cookies = c.args.cookies.now in
    c.count_persistent.ensures ∙ count_map plain_cookie is_persistent (take c.min.result cookies) ∙ ap (λ cs. count_by is_persistent (map plain_cookie cs)) (ap (λ n. take n cookies) c.min.ensures ∙ take_min c.args.place cookies) ∙ ap (count_by is_persistent) (sym (take-map plain_cookie c.args.place cookies))
