use Rattle.std.proofs.Common.{◌∙◌, ap, map, [], ◌∷◌, ◌++◌, length, sym}
use Rattle.std.proofs.lemmas.Bool.Decides.{Decides-eqb}
use Rattle.std.proofs.lemmas.List.{nil_from_length}
use Rattle.std.proofs.lemmas.Result.{IfOk-weaker}
use Rattle.cookie_jar.specs.Flags.{flag_put}
use Rattle.cookie_jar.specs.Performed.{after_removals}
use Rattle.cookie_jar.specs.Steps.{put_step, removals}
use Rattle.cookie_jar.specs.Plain.{plain_cookie}
use Rattle.cookie_jar.proofs.PutLemmas.{steps_alone}
use Rattle.cookie_jar.proofs.RemovalLemmas.{flag_put_is}
use Rattle.cookie_jar.proofs.removals.live_steps.Goals as goal

pub returns-then-is_empty : goal.returns-then-is_empty
returns-then-is_empty c =
    let none = nil_from_length c.args.gone.now ((Decides-eqb (length c.args.gone.now) 0).0 (sym c.is_empty.ensures ∙ c.if-is_empty.true)) in
    IfOk-weaker c.put_alone.result _ _ (λ v is. is ∙ steps_alone (map plain_cookie c.args.cookies.now) c.args.gone.now c.args.place none) c.put_alone.ensures

pub returns : goal.returns
returns c =
    let cs = map plain_cookie c.args.cookies.now in
    let left = after_removals cs (removals cs [] c.args.gone.now) in
    c.in_ok-push.ensures.items ∙ ap (λ xs. xs ++ c.put_step.result ∷ []) c.in_ok-steps.ensures.steps
    ∙ ap (λ s. removals cs [] c.args.gone.now ++ s ∷ [])
    (c.put_step.ensures ∙ ap (flag_put c.place_now.result) (c.deref.ensures.value ∙ c.in_ok-steps.ensures.flags) ∙ flag_put_is c.place_now.result left ∙ ap (λ n. put_step n left) c.place_now.ensures)
