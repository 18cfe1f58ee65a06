use Rattle.std.proofs.Common.{[], ◌∷◌, ◌++◌, take, take_all, refl, sym, ap, subst, ◌∙◌, arith, List}
use Rattle.std.proofs.lemmas.Result.{IfOk-weaker}
use Rattle.origin_site.specs.Plain.{plain_site}
use Rattle.script_actions.specs.Plain.{step_of}
use Rattle.script_actions.specs.declared.step.Line.{Line}
use Rattle.store_runs.specs.Steps.{steps_of}
use Rattle.store_runs.proofs.LoopLemmas.{steps_fit, steps_more}
use Rattle.twins.specs.Collecting.{Collects, EndsAs, StandsOnCourse}
use Rattle.twins.specs.Scripts.{Gives}
use Rattle.twins.specs.Settings.{setting}
use Rattle.twins.proofs.lines.local_script.Goals as goal

pub loop-line-init : goal.loop-line-init
loop-line-init c =
    let site = plain_site c.args.site.now in
    let at = setting c.args.list.now site c.args.options in (
      0,
      subst (StandsOnCourse at c.in_ok-agent.agent []) (sym c.new-found.ensures.nothing) (c.in_ok-agent.ensures.opened site),
    )

pub loop-line-preserved : goal.loop-line-preserved
loop-line-preserved c =
    let lines = c.args.lines.now in
    let i = c.loop-line.line-index in
    let at = setting c.args.list.now (plain_site c.args.site.now) c.args.options in
    let few = steps_fit lines i c.loop-line.auto.line-index-end c.requires.fits in
    let all = c.in_ok-step.ensures.leads at (steps_of (take i lines)) refl few c.loop-line.invariant in
    subst (λ ss. Collects at c.step.new.agent ss c.step.new.found)
    (ap (λ (l : Line). steps_of (take i lines) ++ step_of l.step ∷ []) c.line-item.is
    ∙ sym (steps_more lines i c.line-item.result c.loop-line-test.true)) all

pub returns : goal.returns
returns c =
    let lines = c.args.lines.now in
    let i = c.loop-line.line-index in
    let site = plain_site c.args.site.now in
    let at = setting c.args.list.now site c.args.options in
    let few = steps_fit lines i c.loop-line.auto.line-index-end c.requires.fits in
    record {
      given = IfOk-weaker c.close.result (EndsAs site c.loop-line.agent c.loop-line.found) (Gives at (steps_of lines))
          (λ script ends. subst (λ (ls : List Line). Gives at (steps_of ls) script)
          (take_all i lines (omega (arith, c.loop-line-test.false)))
          (ends at (steps_of (take i lines)) refl few c.loop-line.invariant)) c.close.ensures.ends;
    }
