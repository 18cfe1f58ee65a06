use Rattle.std.proofs.Common.{subst, sym}
use Rattle.replay.specs.BeforeAfter.{from_to}
use Rattle.replay.specs.Runs.{RanInMemory, ScriptRead, TakesNone, Written}
use Rattle.store_runs.specs.Disks.{WritesInMemory}
use Rattle.store_runs.specs.Steps.{steps_of}
use Rattle.std.proofs.Common.{true}
use Rattle.replay.proofs.ScriptLemmas.{memory_ran}
use Rattle.replay.proofs.StatusLemmas.{written_of}
use Rattle.replay.proofs.scripts.run_in_new.Goals as goal

pub returns-in-Ok-clause-text : goal.returns-in-Ok-clause-text
returns-in-Ok-clause-text g c =
    let options = c.args.options in
    let list = c.args.list.now in
    let script = c.in-Ok.script in
    let read = c.in-Ok.ensures.read in
    let taken = from_to (g.O.Sink.taken c.args.out.now) (g.O.Sink.taken c.run_in_memory-ending.new.out) in
    let ended = c.run_in_memory-ending.result in
    let lines = script.lines.items in
    let wrote : WritesInMemory ended list.rules options.start options.batch options.checkpoint script.cuts.items (steps_of lines) taken.before taken.after =
    subst (λ ls. WritesInMemory ended list.rules options.start options.batch options.checkpoint script.cuts.items (steps_of ls) taken.before taken.after) c.deref.ensures.value c.run_in_memory-ending.ensures.written in
    subst (λ s. Written s (TakesNone taken) (λ e. (r : ScriptRead true (from_to (g.I.Source.left c.args.script.now) (g.I.Source.left c.read_script.new.script))) × RanInMemory options.start options.batch options.checkpoint taken e list r.script)) (sym c.status.ensures)
    (written_of ended (TakesNone taken) (λ e. (r : ScriptRead true (from_to (g.I.Source.left c.args.script.now) (g.I.Source.left c.read_script.new.script))) × RanInMemory options.start options.batch options.checkpoint taken e list r.script)
    (read.0, memory_ran options.start options.batch options.checkpoint taken ended list read.0.script script.cuts.items lines read.1 wrote))
