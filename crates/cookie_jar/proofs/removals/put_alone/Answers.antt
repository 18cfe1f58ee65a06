use Rattle.std.proofs.Common.{◌≡◌, ◌∙◌, ap, map, [], ◌∷◌}
use Rattle.std.proofs.lemmas.Result.{IfOk-weaker}
use Rattle.cookie_jar.specs.declared.step.JarStep.TheVariants.{Insert, Replace}
use Rattle.cookie_jar.specs.Steps.{put_step, rank}
use Rattle.cookie_jar.specs.Plain.{plain_cookie}
use Rattle.cookie_jar.proofs.RemovalLemmas.{put_past_is, put_there_is}
use Rattle.cookie_jar.proofs.removals.put_alone.Goals as goal
use Rattle.cookie_jar.proofs.removals.put_alone.Goals.{in-Some, in-None}

pub returns : goal.returns
returns c =
    let cs = map plain_cookie c.args.cookies.now in
    let place = c.args.place in
    let ranked = c.persistent_before-rank.ensures in
    let step : c.match-cookie_at.step ≡ put_step place cs =
    elim c.match-cookie_at.branch [
      | in-Some w ↦ w.step-is ∙ ap (λ r. Replace place r w.lasts.result) ranked ∙ ap (Replace place (rank place cs)) w.lasts.ensures ∙ put_there_is place cs (plain_cookie w.in-Some.old.now) w.in-Some.ensures
      | in-None w ↦ w.step-is ∙ ap (Insert place) ranked ∙ put_past_is place cs w.in-None.ensures
    ] in
    IfOk-weaker c.from_slice.result _ _ (λ v is. is ∙ ap (λ s. s ∷ []) step) c.from_slice.ensures.items
