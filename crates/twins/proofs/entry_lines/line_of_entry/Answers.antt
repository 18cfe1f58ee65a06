use Rattle.std.proofs.Common.{[], ◌∷◌, ◌++◌, Some, take, take_all, refl, sym, ap, subst, ◌∙◌, arith, List}
use Rattle.std.proofs.lemmas.Option.{slice_get-get_or}
use Rattle.origin_site.specs.Plain.{plain_site}
use Rattle.script_actions.specs.Plain.{step_of}
use Rattle.script_actions.specs.declared.step.Line.{Line}
use Rattle.store_runs.specs.Steps.{steps_of}
use Rattle.store_runs.proofs.LoopLemmas.{steps_fit, steps_more}
use Rattle.twins.specs.Collecting.{Collects, StandsOnCourse}
use Rattle.twins.specs.Settings.{setting}
use Rattle.twins.proofs.NumberLemmas.{no_number, nothing_found, number_of}
use Rattle.twins.proofs.entry_lines.line_of_entry.Goals as goal

pub loop-line-init : goal.loop-line-init
loop-line-init c =
    let at = setting c.args.list.now (plain_site c.args.site.now) c.args.options in
    record {
      collects = (
        0,
        subst (StandsOnCourse at c.in_ok-agent.agent []) (sym c.new-found.ensures.nothing)
            (c.in_ok-agent.ensures.opened (plain_site c.args.site.now)),
      );
      few = nothing_found c.new-found.result c.args.entry c.new-found.ensures.nothing;
    }

pub step-requires : goal.step-requires
step-requires c =
    let s = c.loop-line.invariant.collects.1 in
    record { still = (s.a, s.seen, s.quiet) }

pub loop-line-preserved : goal.loop-line-preserved
loop-line-preserved c =
    let lines = c.args.lines.now in
    let i = c.loop-line.line-index in
    let at = setting c.args.list.now (plain_site c.args.site.now) c.args.options in
    let few = steps_fit lines i c.loop-line.auto.line-index-end c.requires.fits in
    let all = c.in_ok-step.ensures.leads at (steps_of (take i lines)) refl few c.loop-line.invariant.collects in
    record {
      collects = subst (λ ss. Collects at c.step.new.agent ss c.step.new.found)
          (ap (λ (l : Line). steps_of (take i lines) ++ step_of l.step ∷ []) c.line-item.is
          ∙ sym (steps_more lines i c.line-item.result c.loop-line-test.true)) all;
      few = omega (arith, c.if-count-entry.false, c.len-count.ensures);
    }

pub returns-then-count-entry : goal.returns-then-count-entry
returns-then-count-entry c =
    let lines = c.args.lines.now in
    let i = c.loop-line.line-index in
    let line = c.line-item.result in
    let at = setting c.args.list.now (plain_site c.args.site.now) c.args.options in
    let few = steps_fit lines i c.loop-line.auto.line-index-end c.requires.fits in
    let all = c.in_ok-step.ensures.leads at (steps_of (take i lines)) refl few c.loop-line.invariant.collects in
    record {
      number = number_of at c.loop-line.agent c.step.new.agent lines i line c.loop-line.found c.step.new.found c.args.entry
          c.loop-line-test.true (slice_get-get_or lines i line c.loop-line-test.true ∙ ap Some (sym c.line-item.is))
          c.loop-line.invariant.collects c.loop-line.invariant.few
          (subst (λ ss. Collects at c.step.new.agent ss c.step.new.found)
          (ap (λ (l : Line). steps_of (take i lines) ++ step_of l.step ∷ []) c.line-item.is
          ∙ sym (steps_more lines i line c.loop-line-test.true)) all)
          (omega (arith, c.if-count-entry.true, c.len-count.ensures));
    }

pub returns : goal.returns
returns c =
    let lines = c.args.lines.now in
    let i = c.loop-line.line-index in
    let at = setting c.args.list.now (plain_site c.args.site.now) c.args.options in
    record {
      number = no_number at c.loop-line.agent lines c.loop-line.found c.args.entry
          (subst (λ (ls : List Line). Collects at c.loop-line.agent (steps_of ls) c.loop-line.found)
          (take_all i lines (omega (arith, c.loop-line-test.false))) c.loop-line.invariant.collects)
          c.loop-line.invariant.few;
    }
