use Rattle.std.proofs.Common.{◌∙◌, ap, map, [], ◌∷◌}
use Rattle.std.proofs.lemmas.Result.{IfOk-weaker}
use Rattle.cookie_jar.specs.declared.step.JarStep.TheVariants.{Remove}
use Rattle.cookie_jar.specs.Steps.{rank}
use Rattle.cookie_jar.specs.Plain.{plain_cookie}
use Rattle.cookie_jar.proofs.RemovalLemmas.{remove_there}
use Rattle.cookie_jar.proofs.removals.removal_alone.Goals as goal

pub returns-in-Some : goal.returns-in-Some
returns-in-Some c =
    let cs = map plain_cookie c.args.cookies.now in
    let place = c.args.place in
    let step = ap (λ r. Remove place r c.lasts.result ∷ []) c.persistent_before.ensures ∙ ap (λ was. Remove place (rank place cs) was ∷ []) c.lasts.ensures ∙ remove_there place cs (plain_cookie c.in-Some.old.now) c.in-Some.ensures in
    IfOk-weaker c.from_slice.result _ _ (λ v is. is ∙ step) c.from_slice.ensures.items
