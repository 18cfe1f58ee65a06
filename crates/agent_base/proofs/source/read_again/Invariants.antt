-- A read that was interrupted left the buffer's room and the reader's bytes.
use Rattle.std.proofs.Common.{◌≡◌, length}
use Rattle.std.specs.Io.KnownBytes.{Keeps}
use Rattle.agent_base.proofs.source.read_again.Given as goal

abbrev pub invariant-tries : goal.invariant-tries
invariant-tries g l = (length l.into ≡ length l.initial.into) × Keeps (g.R.Read.remaining l.initial.reader) (g.R.Read.remaining l.reader)
