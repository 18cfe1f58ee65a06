use Rattle.std.proofs.Common.{◌≡◌}
use Rattle.waiting_lines.specs.Waiting.{TakesFront}
use Rattle.store_dumps.proofs.TextLemmas.{first_text}
use Rattle.store_dumps.proofs.writing.write_rows.Given as goal

-- of the lines so far the front was written, and the rest waits
abbrev pub invariant-loop-row : goal.invariant-loop-row
invariant-loop-row g l = record {
  still : g.O.Sink.faults l.out ≡ g.O.Sink.faults l.fn.out;
  text : TakesFront (g.O.Sink.taken l.fn.out) (g.O.Sink.taken l.out) (first_text l.rows l.row-index) l.waiting.items;
}
