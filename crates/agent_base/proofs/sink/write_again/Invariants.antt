-- A write that was interrupted left what the writer holds.
use Rattle.std.specs.Io.KnownBytes.{Keeps}
use Rattle.agent_base.proofs.sink.write_again.Given as goal

abbrev pub invariant-tries : goal.invariant-tries
invariant-tries g l = Keeps (g.W.Write.contents l.initial.writer) (g.W.Write.contents l.writer)
