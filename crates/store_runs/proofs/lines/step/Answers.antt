use Rattle.std.proofs.Common.{rules}
use Rattle.script_actions.specs.Plain.{step_of}
use Rattle.store_runs.specs.Answers.{answer_text}
use Rattle.store_runs.specs.Calls.{Stops}
use Rattle.store_runs.proofs.AgentLemmas.{stops_within, wanting_ran}
use Rattle.store_runs.proofs.lines.step.Goals as goal

pub returns-clause-stepped : goal.returns-clause-stepped
returns-clause-stepped g c =
    (answer_text c.in_ok-answer.answer, c.in_ok-hold.ensures.text, c.in_ok-answer.ensures.ran)

pub returns-in_err-answer-clause-stops : goal.returns-in_err-answer-clause-stops
returns-in_err-answer-clause-stops g c =
    let stops : Stops g.D.Disk.view c.args.agent.now c.run_line.new.agent (step_of c.args.step.now) c.in_err-answer.field-0.0 =
    stops_within g.D.Disk.view c.args.agent.now c.run_line.new.agent (step_of c.args.step.now) c.in_err-answer.field-0.0
    c.in_err-answer.ensures.stops in
    search rules

pub returns-in_err-hold-clause-stops : goal.returns-in_err-hold-clause-stops
returns-in_err-hold-clause-stops g c =
    wanting_ran g.D.Disk.view c.args.agent.now c.run_line.new.agent (step_of c.args.step.now)
    (answer_text c.in_ok-answer.answer) c.in_ok-answer.ensures.ran
    c.from_residual-in_err-hold.result c.from_residual-in_err-hold.ensures.1
