-- The lines so far were served, and all that the source gave is handled.
use Rattle.std.proofs.Common.{◌≡◌, true, []}
use Rattle.served_lines.specs.Steps.{StandsAt}
use Rattle.served_lines.proofs.serving.serve.Given as goal

abbrev pub invariant-pieces : goal.invariant-pieces
invariant-pieces g l = record {
  printed : l.session.printed ≡ true;
  wrote : g.O.Sink.faults l.out ≡ g.O.Sink.faults l.fn.out;
  read : g.I.Source.faults l.source ≡ g.I.Source.faults l.fn.source;
  stands : StandsAt g.D.Disk.view l.fn.session l.session (g.I.Source.left l.fn.source) (g.I.Source.left l.source)
      (g.O.Sink.taken l.fn.out) (g.O.Sink.taken l.out) l.place.line l.place.number [];
}
