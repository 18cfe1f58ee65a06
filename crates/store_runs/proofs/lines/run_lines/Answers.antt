use Rattle.std.proofs.Common.{◌≡◌, List, [], ◌∷◌, ◌++◌, ◌+◌, inl, inr, arith, refl, sym, ap, subst, ◌∙◌, append-nil, take, drop, take_all}
use Rattle.agent_core.specs.AgentView.{may_of}
use Rattle.agent_base.specs.Counts.{Rose}
use Rattle.script_actions.specs.Action.{PlainStep}
use Rattle.store_runs.specs.Calls.{ToldAt, over_run}
use Rattle.store_runs.specs.Courses.{OnCourse}
use Rattle.store_runs.specs.Endings.{IsStoreEnding, TellsPower}
use Rattle.store_runs.specs.Openings.{just_opened}
use Rattle.store_runs.specs.Steps.{steps_of}
use Rattle.store_runs.specs.Tidy.{IsTidyAt}
use Rattle.store_runs.specs.Waiting.{Ended}
use Rattle.script_actions.specs.Plain.{step_of}
use Rattle.store_runs.proofs.EndLemmas.{closes_power, closes_stays, closes_store, closes_tidy, end_stays, end_store, ended_counts, ended_done, ended_so, ends_power, ends_tidy, stop_device, stop_done, stop_power, stop_stays, stop_store, unsettled_device, unsettled_done, unsettled_power, unsettled_stays, unsettled_store, write_device, write_done}
use Rattle.store_runs.specs.Fronts.{HasNoRestart}
use Rattle.store_runs.proofs.FrontLemmas.{Fronts, Told, acts_front, closed_by, ended_by, fronts_more, fronts_next, fronts_none, fronts_written, none_within, stopped_within, told_front, told_last, unsettled_by, unsettled_within, writes_first}
use Rattle.store_runs.proofs.LoopLemmas.{course_begins, opens_up, steps_fit, steps_parts}
use Rattle.store_runs.proofs.PowerLemmas.{counts_still, counts_then, counts_up}
use Rattle.store_runs.proofs.StopLemmas.{StandsOn, Wrote, closes_writes, goes_then, settled_on, stepped_on, steps_with, stops_writes, told_wrote, unsettled_writes}
use Rattle.agent_core.specs.declared.agent.Power.TheVariants.{Down}
use Rattle.store_runs.specs.declared.ending.Ending.TheVariants.{Device, Done}
use Rattle.store_runs.proofs.lines.run_lines.Goals as goal

pub loop-line-init : goal.loop-line-init
loop-line-init g c =
    let view = g.D.Disk.view c.args.agent.now.disk in
    let rules = c.args.agent.now.memory.rules in
    let batch = c.args.agent.now.batch in
    let out = g.O.Sink.taken c.args.out.now in
    record {
      goes = record { rules = refl; digest = refl; batch = refl; checkpoint = refl; tells = refl };
      still = refl;
      counts = counts_still g.D.Disk.view c.args.agent.now;
      course = λ x opened told.
          let a = just_opened rules x in (
            a,
            opened.seen,
            (λ none. (opens_up rules x, none.0, none.1)),
            subst (OnCourse rules batch x a (may_of c.args.agent.now view) []
                (over_run g.D.Disk.view c.args.agent.now c.args.agent.now (Unit {0})) out out) (sym c.new-waiting.ensures.items)
                (course_begins rules batch x (over_run g.D.Disk.view c.args.agent.now c.args.agent.now (Unit {0})) a
                (may_of c.args.agent.now view) out (omega arith) refl (opens_up rules x) opened.batch refl opened.base),
          );
      fronts = λ x opened. fronts_none g.D.Disk.view c.args.agent.now x out _ _;
    }

pub loop-line-preserved : goal.loop-line-preserved
loop-line-preserved g c =
    let view = g.D.Disk.view in
    let lines = c.args.lines.now in
    let i = c.loop-line.line-index in
    let first = c.args.agent.now in
    let here = c.loop-line.agent in
    let between = c.step.new.agent in
    let next = c.settle.new.agent in
    let before = g.O.Sink.taken c.args.out.now in
    let out = g.O.Sink.taken c.loop-line.out in
    let later = g.O.Sink.taken c.settle.new.out in
    let was = c.loop-line.invariant in
    let goes = goes_then view first here between was.goes c.step.ensures.goes_on in
    let ran = steps_of (take i lines) in
    let step = step_of c.line-item.result.step in
    let more = steps_with lines i c.line-item.result c.loop-line-test.true c.line-item.is in
    record {
      goes = goes_then view first between next goes c.settle.ensures.goes_on;
      still = c.in-Ok-settle.ensures.settled.1 ∙ was.still;
      counts = counts_then view first between next
          (counts_then view first here between was.counts c.step.ensures.counts) c.settle.ensures.counts;
      course = λ x opened told_all.
          let told = subst (Told (view first.disk)) more told_all in
          let stepped = stepped_on view first x before opened here between was.goes c.step.ensures.goes_on
          lines c.requires.fits i c.line-item.result c.loop-line-test.true c.line-item.is
          (told_last (view first.disk) (view here.disk) ran step was.goes.tells told) out
          c.loop-line.waiting.items (was.course x opened (told_front (view first.disk) ran (step ∷ []) told))
          c.step.new.waiting.items c.in-Ok.ensures.stepped in
          settled_on view first x before opened between next goes c.settle.ensures.goes_on
          (steps_of (take (i + 1) lines)) (steps_fit lines (i + 1) (omega (arith, c.loop-line-test.true))
          c.requires.fits) out later
          (g.O.Sink.faults c.loop-line.out) (g.O.Sink.faults c.settle.new.out)
          c.step.new.waiting.items stepped c.settle.new.waiting.items c.in-Ok-settle.ensures.settled;
      fronts = λ x opened.
          fronts_written view first x before (steps_of (take (i + 1) lines)) out later c.step.new.waiting.items
          c.settle.new.waiting.items c.in-Ok-settle.ensures.settled.0
          (subst (λ ss. Fronts view first x before ss out c.step.new.waiting.items) (sym more)
          (fronts_more view first x before (ran ++ step ∷ []) out c.loop-line.waiting.items c.step.new.waiting.items
          c.in-Ok.ensures.stepped.0 c.in-Ok.ensures.stepped.1
          (fronts_next view first x before here ran step out c.loop-line.waiting.items
          (λ none. was.course x opened (inr none)) (was.fronts x opened))));
    }

-- ---- a line stops the run

pub returns-in-Err-clause-written : goal.returns-in-Err-clause-written
returns-in-Err-clause-written g c =
    let view = g.D.Disk.view in
    let lines = c.args.lines.now in
    let i = c.loop-line.line-index in
    let first = c.args.agent.now in
    let here = c.loop-line.agent in
    let new = c.step.new.agent in
    let before = g.O.Sink.taken c.args.out.now in
    let out = g.O.Sink.taken c.loop-line.out in
    let later = g.O.Sink.taken c.end.new.out in
    let was = c.loop-line.invariant in
    let step = step_of c.line-item.result.step in
    let parts = steps_parts lines (i + 1)
    ∙ ap (λ ss. ss ++ steps_of (drop (i + 1) lines)) (steps_with lines i c.line-item.result c.loop-line-test.true c.line-item.is) in
    λ x opened.
    told_wrote view first x before (steps_of lines) c.end.result later new
    (c.step.ensures.goes_on.tells ∙ was.goes.tells ∙ opened.tells)
    (stops_writes view first x before opened.just here new was.goes c.step.ensures.goes_on lines
    c.requires.fits i c.line-item.result c.loop-line-test.true c.line-item.is
    (told_last (view first.disk) (view here.disk) (steps_of (take i lines)) step was.goes.tells (inl opened.tells))
    out c.loop-line.waiting.items (was.course x opened.just (inl opened.tells))
    (steps_of lines) (steps_of (drop (i + 1) lines)) parts c.in-Err.ending c.end.result later
    (g.O.Sink.faults c.loop-line.out) (g.O.Sink.faults c.end.new.out) c.in-Err.ensures.stops
    (subst (Ended c.in-Err.ending c.end.result out later (g.O.Sink.faults c.loop-line.out)
    (g.O.Sink.faults c.end.new.out)) (c.deref.ensures.value ∙ c.in-Err.ensures.unchanged) c.end.ensures))

pub returns-in-Err-clause-first : goal.returns-in-Err-clause-first
returns-in-Err-clause-first g c =
    let view = g.D.Disk.view in
    let lines = c.args.lines.now in
    let i = c.loop-line.line-index in
    let first = c.args.agent.now in
    let here = c.loop-line.agent in
    let new = c.step.new.agent in
    let before = g.O.Sink.taken c.args.out.now in
    let out = g.O.Sink.taken c.loop-line.out in
    let later = g.O.Sink.taken c.end.new.out in
    let count = g.O.Sink.faults c.loop-line.out in
    let rose = g.O.Sink.faults c.end.new.out in
    let was = c.loop-line.invariant in
    let waiting = c.loop-line.waiting.items in
    let ran = steps_of (take i lines) in
    let step = step_of c.line-item.result.step in
    let behind = steps_of (drop (i + 1) lines) in
    let parts = steps_parts lines (i + 1)
    ∙ ap (λ ss. ss ++ behind) (steps_with lines i c.line-item.result c.loop-line-test.true c.line-item.is) in
    let ended = subst (Ended c.in-Err.ending c.end.result out later count rose)
    (c.deref.ensures.value ∙ c.in-Err.ensures.unchanged) c.end.ensures in
    λ x opened.
    let told : HasNoRestart (ran ++ step ∷ []) → ToldAt step (view here.disk) =
    λ acts. told_last (view first.disk) (view here.disk) ran step was.goes.tells (inr acts) in
    let stands : HasNoRestart (ran ++ step ∷ []) → StandsOn view first x before here ran out waiting =
    λ acts. was.course x opened (inr (acts_front ran (step ∷ []) acts)) in
    let wrote : (all left : List PlainStep) → all ≡ (ran ++ step ∷ []) ++ left → HasNoRestart (ran ++ step ∷ [])
    → Wrote view first x before all c.end.result later new = λ all left is acts. stops_writes view first x before opened here new was.goes c.step.ensures.goes_on lines
    c.requires.fits i c.line-item.result c.loop-line-test.true c.line-item.is (told acts)
    out waiting (stands acts) all left is c.in-Err.ending c.end.result later count rose c.in-Err.ensures.stops ended in
    writes_first view first x before (steps_of lines) (ran ++ step ∷ []) behind c.end.result out later waiting new parts
    (λ none. wrote (steps_of lines) behind parts (acts_front (ran ++ step ∷ []) behind (subst HasNoRestart parts none)))
    (λ front rest left acts is longer.
    let here_acts = acts_front (ran ++ step ∷ []) left (subst HasNoRestart longer acts) in
    stopped_within view first x before here new step (stands here_acts).0 front c.in-Err.ending c.end.result out later count rose
    waiting c.in-Err.ensures.stops (told here_acts) (stands here_acts).1 ended (wrote front left longer here_acts))
    (fronts_next view first x before here ran step out waiting (λ none. was.course x opened (inr none)) (was.fronts x opened))
    (ended_by before out later c.in-Err.ending c.end.result count rose waiting ended)

pub returns-in-Err-clause-power : goal.returns-in-Err-clause-power
returns-in-Err-clause-power g c = λ x opened.
    ended_so (λ e. TellsPower e c.step.new.agent.power)
    c.in-Err.ending c.end.result _ _ _ _ c.deref.result.now
    (stop_power g.D.Disk.view c.loop-line.agent c.step.new.agent (step_of c.line-item.result.step)
    c.in-Err.ending c.step.new.agent.power c.in-Err.ensures.stops) tt c.end.ensures

pub returns-in-Err-clause-device : goal.returns-in-Err-clause-device
returns-in-Err-clause-device g c = λ up.
    ended_so (λ e. e ≡ Device → Rose (g.D.Disk.view c.args.agent.now.disk).faults
    (g.D.Disk.view c.step.new.agent.disk).faults) c.in-Err.ending c.end.result _ _ _ _ c.deref.result.now
    (stop_device g.D.Disk.view c.loop-line.agent c.step.new.agent (step_of c.line-item.result.step)
    (Rose (g.D.Disk.view c.args.agent.now.disk).faults (g.D.Disk.view c.step.new.agent.disk).faults)
    c.in-Err.ending c.in-Err.ensures.stops) (λ e. absurd (write_device e)) c.end.ensures

pub returns-in-Err-clause-tidy : goal.returns-in-Err-clause-tidy
returns-in-Err-clause-tidy g c = λ x opened.
    let view = g.D.Disk.view c.step.new.agent.disk in
    ended_so (λ e. e ≡ Done → IsTidyAt c.step.new.agent view)
    c.in-Err.ending c.end.result _ _ _ _ c.deref.result.now
    (stop_done g.D.Disk.view c.loop-line.agent c.step.new.agent (step_of c.line-item.result.step)
    (IsTidyAt c.step.new.agent view) c.in-Err.ending c.in-Err.ensures.stops) (λ e. absurd (write_done e)) c.end.ensures

pub returns-in-Err-clause-store : goal.returns-in-Err-clause-store
returns-in-Err-clause-store g c =
    ended_so IsStoreEnding c.in-Err.ending c.end.result _ _ _ _ c.deref.result.now
    (stop_store g.D.Disk.view c.loop-line.agent c.step.new.agent (step_of c.line-item.result.step)
    c.in-Err.ending c.in-Err.ensures.stops) tt c.end.ensures

pub returns-in-Err-clause-write : goal.returns-in-Err-clause-write
returns-in-Err-clause-write g c =
    ended_counts c.in-Err.ending c.end.result _ _ (g.O.Sink.faults c.args.out.now)
    _ _ c.deref.result.now c.loop-line.invariant.still
    (stop_stays g.D.Disk.view c.loop-line.agent c.step.new.agent (step_of c.line-item.result.step)
    c.in-Err.ending (g.O.Sink.faults c.args.out.now) (g.O.Sink.faults c.end.new.out) c.in-Err.ensures.stops) c.end.ensures

-- ---- the run stops between two lines

pub returns-in-Err-settle-clause-written : goal.returns-in-Err-settle-clause-written
returns-in-Err-settle-clause-written g c =
    let view = g.D.Disk.view in
    let lines = c.args.lines.now in
    let i = c.loop-line.line-index in
    let first = c.args.agent.now in
    let here = c.loop-line.agent in
    let between = c.step.new.agent in
    let before = g.O.Sink.taken c.args.out.now in
    let out = g.O.Sink.taken c.loop-line.out in
    let later = g.O.Sink.taken c.settle.new.out in
    let was = c.loop-line.invariant in
    let goes = goes_then view first here between was.goes c.step.ensures.goes_on in
    λ x opened.
    let stepped = stepped_on view first x before opened.just here between was.goes c.step.ensures.goes_on lines
    c.requires.fits i c.line-item.result c.loop-line-test.true c.line-item.is
    (told_last (view first.disk) (view here.disk) (steps_of (take i lines)) (step_of c.line-item.result.step) was.goes.tells
    (inl opened.tells)) out c.loop-line.waiting.items (was.course x opened.just (inl opened.tells))
    c.step.new.waiting.items c.in-Ok.ensures.stepped in
    told_wrote view first x before (steps_of lines) c.in-Err-settle.ending later c.settle.new.agent
    (c.settle.ensures.goes_on.tells ∙ goes.tells ∙ opened.tells)
    (unsettled_writes view first x before opened.just between c.settle.new.agent goes c.settle.ensures.goes_on
    (steps_of (take (i + 1) lines)) (steps_fit lines (i + 1) (omega (arith, c.loop-line-test.true))
    c.requires.fits) out later
    (g.O.Sink.faults c.loop-line.out) (g.O.Sink.faults c.settle.new.out) c.step.new.waiting.items stepped
    (steps_of lines) (steps_of (drop (i + 1) lines)) (steps_parts lines (i + 1))
    c.in-Err-settle.ending c.in-Err-settle.ensures.stops)

pub returns-in-Err-settle-clause-first : goal.returns-in-Err-settle-clause-first
returns-in-Err-settle-clause-first g c =
    let view = g.D.Disk.view in
    let lines = c.args.lines.now in
    let i = c.loop-line.line-index in
    let first = c.args.agent.now in
    let here = c.loop-line.agent in
    let between = c.step.new.agent in
    let next = c.settle.new.agent in
    let before = g.O.Sink.taken c.args.out.now in
    let out = g.O.Sink.taken c.loop-line.out in
    let later = g.O.Sink.taken c.settle.new.out in
    let count = g.O.Sink.faults c.loop-line.out in
    let rose = g.O.Sink.faults c.settle.new.out in
    let was = c.loop-line.invariant in
    let goes = goes_then view first here between was.goes c.step.ensures.goes_on in
    let ran = steps_of (take i lines) in
    let step = step_of c.line-item.result.step in
    let done = steps_of (take (i + 1) lines) in
    let behind = steps_of (drop (i + 1) lines) in
    let more = steps_with lines i c.line-item.result c.loop-line-test.true c.line-item.is in
    let waiting = c.step.new.waiting.items in
    λ x opened.
    let stands : HasNoRestart done → StandsOn view first x before between done out waiting = λ acts.
    let told = subst (Told (view first.disk)) more (inr acts) in
    stepped_on view first x before opened here between was.goes c.step.ensures.goes_on lines
    c.requires.fits i c.line-item.result c.loop-line-test.true c.line-item.is
    (told_last (view first.disk) (view here.disk) ran step was.goes.tells told) out c.loop-line.waiting.items
    (was.course x opened (told_front (view first.disk) ran (step ∷ []) told)) waiting c.in-Ok.ensures.stepped in
    let wrote : (all left : List PlainStep) → all ≡ done ++ left → HasNoRestart done
    → Wrote view first x before all c.in-Err-settle.ending later next = λ all left is acts. unsettled_writes view first x before opened between next goes c.settle.ensures.goes_on
    done (steps_fit lines (i + 1) (omega (arith, c.loop-line-test.true)) c.requires.fits) out later count rose waiting
    (stands acts) all left is c.in-Err-settle.ending c.in-Err-settle.ensures.stops in
    writes_first view first x before (steps_of lines) done behind c.in-Err-settle.ending out later waiting next
    (steps_parts lines (i + 1))
    (λ none. wrote (steps_of lines) behind (steps_parts lines (i + 1))
    (acts_front done behind (subst HasNoRestart (steps_parts lines (i + 1)) none)))
    (λ front rest left acts is longer.
    unsettled_within view first x before front between next out later count rose waiting c.in-Err-settle.ending
    c.in-Err-settle.ensures.stops (wrote front left longer (acts_front done left (subst HasNoRestart longer acts))))
    (subst (λ ss. Fronts view first x before ss out waiting) (sym more)
    (fronts_more view first x before (ran ++ step ∷ []) out c.loop-line.waiting.items waiting
    c.in-Ok.ensures.stepped.0 c.in-Ok.ensures.stepped.1
    (fronts_next view first x before here ran step out c.loop-line.waiting.items
    (λ none. was.course x opened (inr none)) (was.fronts x opened))))
    (unsettled_by view between next before out later count rose waiting c.in-Err-settle.ending c.in-Err-settle.ensures.stops)

pub returns-in-Err-settle-clause-power : goal.returns-in-Err-settle-clause-power
returns-in-Err-settle-clause-power g c = λ x opened.
    unsettled_power g.D.Disk.view c.step.new.agent c.settle.new.agent (g.O.Sink.taken c.loop-line.out)
    (g.O.Sink.taken c.settle.new.out) (g.O.Sink.faults c.loop-line.out) (g.O.Sink.faults c.settle.new.out)
    c.step.new.waiting.items c.in-Err-settle.ending c.settle.new.agent.power c.in-Err-settle.ensures.stops

pub returns-in-Err-settle-clause-device : goal.returns-in-Err-settle-clause-device
returns-in-Err-settle-clause-device g c = λ up.
    unsettled_device g.D.Disk.view c.step.new.agent c.settle.new.agent (g.O.Sink.taken c.loop-line.out)
    (g.O.Sink.taken c.settle.new.out) (g.O.Sink.faults c.loop-line.out) (g.O.Sink.faults c.settle.new.out)
    c.step.new.waiting.items _ c.in-Err-settle.ending c.in-Err-settle.ensures.stops

pub returns-in-Err-settle-clause-tidy : goal.returns-in-Err-settle-clause-tidy
returns-in-Err-settle-clause-tidy g c = λ x opened.
    unsettled_done g.D.Disk.view c.step.new.agent c.settle.new.agent (g.O.Sink.taken c.loop-line.out)
    (g.O.Sink.taken c.settle.new.out) (g.O.Sink.faults c.loop-line.out) (g.O.Sink.faults c.settle.new.out)
    c.step.new.waiting.items _ c.in-Err-settle.ending c.in-Err-settle.ensures.stops

pub returns-in-Err-settle-clause-store : goal.returns-in-Err-settle-clause-store
returns-in-Err-settle-clause-store g c =
    unsettled_store g.D.Disk.view c.step.new.agent c.settle.new.agent (g.O.Sink.taken c.loop-line.out)
    (g.O.Sink.taken c.settle.new.out) (g.O.Sink.faults c.loop-line.out) (g.O.Sink.faults c.settle.new.out)
    c.step.new.waiting.items c.in-Err-settle.ending c.in-Err-settle.ensures.stops

pub returns-in-Err-settle-clause-write : goal.returns-in-Err-settle-clause-write
returns-in-Err-settle-clause-write g c =
    unsettled_stays g.D.Disk.view c.step.new.agent c.settle.new.agent (g.O.Sink.taken c.loop-line.out)
    (g.O.Sink.taken c.settle.new.out) (g.O.Sink.faults c.loop-line.out) (g.O.Sink.faults c.settle.new.out)
    c.step.new.waiting.items c.in-Err-settle.ending (g.O.Sink.faults c.args.out.now)
    c.loop-line.invariant.still c.in-Err-settle.ensures.stops

-- ---- the end of the lines

pub returns-clause-written : goal.returns-clause-written
returns-clause-written g c =
    let lines = c.args.lines.now in
    let i = c.loop-line.line-index in
    let first = c.args.agent.now in
    let before = g.O.Sink.taken c.args.out.now in
    let out = g.O.Sink.taken c.loop-line.out in
    let later = g.O.Sink.taken c.end-ending.new.out in
    let was = c.loop-line.invariant in
    λ x opened.
    let stands = subst (λ ss. StandsOn g.D.Disk.view first x before c.loop-line.agent ss out
    c.loop-line.waiting.items) (ap steps_of (take_all i lines (omega (arith, c.loop-line-test.false))))
    (was.course x opened.just (inl opened.tells)) in
    told_wrote g.D.Disk.view first x before (steps_of lines) c.last_checkpoint.result later c.last_checkpoint.new.agent
    (c.last_checkpoint.ensures.goes_on.tells ∙ c.last_commit-ending.ensures.goes_on.tells ∙ was.goes.tells ∙ opened.tells)
    (closes_writes g.D.Disk.view first x before opened.just c.loop-line.agent c.last_commit-ending.new.agent
    c.last_checkpoint.new.agent was.goes c.last_commit-ending.ensures.goes_on
    c.last_checkpoint.ensures.goes_on (steps_of lines) out later
    (g.O.Sink.faults c.loop-line.out) (g.O.Sink.faults c.end-ending.new.out)
    c.loop-line.waiting.items c.last_commit-ending.new.waiting.items stands c.last_commit-ending.result
    c.end-ending.result c.last_checkpoint.result c.last_commit-ending.ensures.ends
    (subst (Ended c.last_commit-ending.result c.end-ending.result out later (g.O.Sink.faults c.loop-line.out)
    (g.O.Sink.faults c.end-ending.new.out)) c.deref-2.ensures.value c.end-ending.ensures) c.last_checkpoint.ensures.closes)

pub returns-clause-first : goal.returns-clause-first
returns-clause-first g c =
    let view = g.D.Disk.view in
    let lines = c.args.lines.now in
    let all = steps_of lines in
    let i = c.loop-line.line-index in
    let first = c.args.agent.now in
    let old = c.loop-line.agent in
    let here = c.last_commit-ending.new.agent in
    let new = c.last_checkpoint.new.agent in
    let before = g.O.Sink.taken c.args.out.now in
    let out = g.O.Sink.taken c.loop-line.out in
    let later = g.O.Sink.taken c.end-ending.new.out in
    let count = g.O.Sink.faults c.loop-line.out in
    let rose = g.O.Sink.faults c.end-ending.new.out in
    let waiting = c.loop-line.waiting.items in
    let waits = c.last_commit-ending.new.waiting.items in
    let was = c.loop-line.invariant in
    let ended = subst (Ended c.last_commit-ending.result c.end-ending.result out later count rose)
    c.deref-2.ensures.value c.end-ending.ensures in
    let ran = ap steps_of (take_all i lines (omega (arith, c.loop-line-test.false))) in
    λ x opened.
    writes_first view first x before all all [] c.last_checkpoint.result out later waits new (sym (append-nil all))
    (λ none. closes_writes view first x before opened old here new was.goes c.last_commit-ending.ensures.goes_on
    c.last_checkpoint.ensures.goes_on all out later count rose waiting waits
    (subst (λ ss. StandsOn view first x before old ss out waiting) ran
    (was.course x opened (inr (subst HasNoRestart (sym ran) none))))
    c.last_commit-ending.result c.end-ending.result c.last_checkpoint.result c.last_commit-ending.ensures.ends
    ended c.last_checkpoint.ensures.closes)
    (none_within view first x before all c.last_checkpoint.result later)
    (fronts_more view first x before all out waiting waits c.last_commit-ending.ensures.lengthens.0
    c.last_commit-ending.ensures.lengthens.1
    (subst (λ ss. Fronts view first x before ss out waiting) ran (was.fronts x opened)))
    (closed_by view here new before out later c.last_commit-ending.result c.end-ending.result c.last_checkpoint.result
    count rose waits ended c.last_checkpoint.ensures.closes)

pub returns-clause-power : goal.returns-clause-power
returns-clause-power g c = λ x opened.
    let all = c.loop-line.invariant.course x opened.just (inl opened.tells) in
    let here = c.last_commit-ending.new.agent in
    let ends = c.last_commit-ending.ensures.ends all.0 all.1 in
    closes_power g.D.Disk.view here c.last_checkpoint.new.agent c.end-ending.result c.last_checkpoint.result
    c.last_checkpoint.ensures.closes ends.0 ends.1
    (ended_so (λ e. TellsPower e here.power) c.last_commit-ending.result c.end-ending.result _ _ _ _ c.deref-2.result.now
    (ends_power c.loop-line.agent.memory.rules all.0 ends.0
    (may_of c.loop-line.agent (g.D.Disk.view c.loop-line.agent.disk))
    (may_of here (g.D.Disk.view here.disk)) (g.D.Disk.view c.loop-line.agent.disk)
    (g.D.Disk.view here.disk) c.last_commit-ending.result _ _ here.power ends.1.up.0 ends.1.up.1 ends.2)
    tt c.end-ending.ensures)

pub returns-clause-device : goal.returns-clause-device
returns-clause-device g c = λ up is.
    let view = g.D.Disk.view in
    let first = c.args.agent.now in
    let here = c.last_commit-ending.new.agent in
    let new = c.last_checkpoint.new.agent in
    let counts = counts_then view first here new
    (counts_then view first c.loop-line.agent here c.loop-line.invariant.counts c.last_commit-ending.ensures.counts)
    c.last_checkpoint.ensures.counts in
    (counts (view first.disk).faults (counts_up view first up)).1
    (c.last_checkpoint.ensures.fell
    (ended_so (λ e. e ≡ Device → here.power ≡ Down) c.last_commit-ending.result c.end-ending.result _ _ _ _ c.deref-2.result.now
    c.last_commit-ending.ensures.fell (λ e. absurd (write_device e)) c.end-ending.ensures) is)

pub returns-clause-tidy : goal.returns-clause-tidy
returns-clause-tidy g c = λ x opened is.
    let all = c.loop-line.invariant.course x opened.just (inl opened.tells) in
    let here = c.last_commit-ending.new.agent in
    let ends = c.last_commit-ending.ensures.ends all.0 all.1 in
    closes_tidy g.D.Disk.view here c.last_checkpoint.new.agent c.end-ending.result c.last_checkpoint.result
    c.last_checkpoint.ensures.closes ends.0 ends.1
    (λ done owed. ends_tidy here (g.D.Disk.view here.disk) c.loop-line.agent.memory.rules all.0 ends.0
    (may_of c.loop-line.agent (g.D.Disk.view c.loop-line.agent.disk))
    (may_of here (g.D.Disk.view here.disk)) (g.D.Disk.view c.loop-line.agent.disk)
    (g.D.Disk.view here.disk) c.last_commit-ending.result _ _ ends.1 ends.2
    (ended_done c.last_commit-ending.result c.end-ending.result _ _ _ _ c.deref-2.result.now
    c.end-ending.ensures done).0 owed) is (c.last_checkpoint.ensures.tidy is)

pub returns-clause-store : goal.returns-clause-store
returns-clause-store g c =
    closes_store g.D.Disk.view c.last_commit-ending.new.agent c.last_checkpoint.new.agent c.end-ending.result
    c.last_checkpoint.result c.last_checkpoint.ensures.closes
    (ended_so IsStoreEnding c.last_commit-ending.result c.end-ending.result _ _ _ _ c.deref-2.result.now
    (end_store c.last_commit-ending.result c.last_commit-ending.ensures.ending) tt c.end-ending.ensures)

pub returns-clause-write : goal.returns-clause-write
returns-clause-write g c =
    closes_stays g.D.Disk.view c.last_commit-ending.new.agent c.last_checkpoint.new.agent c.end-ending.result
    c.last_checkpoint.result c.last_checkpoint.ensures.closes (g.O.Sink.faults c.args.out.now)
    (g.O.Sink.faults c.end-ending.new.out)
    (ended_counts c.last_commit-ending.result c.end-ending.result _ _ (g.O.Sink.faults c.args.out.now)
    _ _ c.deref-2.result.now c.loop-line.invariant.still
    (end_stays c.last_commit-ending.result (g.O.Sink.faults c.args.out.now)
    (g.O.Sink.faults c.end-ending.new.out) c.last_commit-ending.ensures.ending) c.end-ending.ensures)
