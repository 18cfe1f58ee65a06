use Rattle.std.proofs.Common.{◌≡◌, take}
use Rattle.durable_model.specs.Histories.{AgentOpening}
use Rattle.store_runs.specs.FaultCounts.{KeepsCount}
use Rattle.store_runs.specs.Openings.{GoesOn, IsJustOpened}
use Rattle.store_runs.specs.Steps.{steps_of}
use Rattle.store_runs.proofs.FrontLemmas.{Fronts, Told}
use Rattle.store_runs.proofs.StopLemmas.{StandsOn}
use Rattle.store_runs.proofs.lines.run_lines.Given as goal

-- the agent stands on a course of the lines so far, and of its text the front was written and the rest waits
abbrev pub invariant-loop-line : goal.invariant-loop-line
invariant-loop-line g l = record {
  goes : GoesOn g.D.Disk.view l.fn.agent l.agent;
  still : g.O.Sink.faults l.out ≡ g.O.Sink.faults l.fn.out;
  counts : KeepsCount g.D.Disk.view l.fn.agent l.agent;
  course : (opening : AgentOpening) → IsJustOpened l.fn.agent (g.D.Disk.view l.fn.agent.disk) opening
      → Told (g.D.Disk.view l.fn.agent.disk) (steps_of (take l.line-index l.lines))
      → StandsOn g.D.Disk.view l.fn.agent opening (g.O.Sink.taken l.fn.out) l.agent
      (steps_of (take l.line-index l.lines)) (g.O.Sink.taken l.out) l.waiting.items;
  fronts : (opening : AgentOpening) → IsJustOpened l.fn.agent (g.D.Disk.view l.fn.agent.disk) opening
      → Fronts g.D.Disk.view l.fn.agent opening (g.O.Sink.taken l.fn.out)
      (steps_of (take l.line-index l.lines)) (g.O.Sink.taken l.out) l.waiting.items;
}
