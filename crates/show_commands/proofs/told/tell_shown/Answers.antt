use Rattle.std.proofs.Common.{subst, sym}
use Rattle.replay.specs.BeforeAfter.{from_to}
use Rattle.show_commands.specs.FaultLines.{TellsLine, usage_line}
use Rattle.show_commands.proofs.ServeLemmas.{line_told}
use Rattle.show_commands.proofs.told.tell_shown.Goals as goal

pub returns-in-Usage : goal.returns-in-Usage
returns-in-Usage g c =
    let taken = from_to (g.E.Sink.taken c.args.err.now) (g.E.Sink.taken c.write_all.new.sink) in
    let faults = from_to (g.E.Sink.faults c.args.err.now) (g.E.Sink.faults c.write_all.new.sink) in
    record {
      told = subst (λ s. TellsLine s taken faults) (sym c.in-Usage.is)
          (line_told c.write_all.result taken.before taken.after faults.before faults.after c.as_bytes.result.now usage_line
          c.as_bytes.ensures.value c.write_all.ensures.all c.write_all.ensures.prefix c.write_all.ensures.cause);
    }
