-- The lines so far were served, and the rest of the piece is still to be handled.
use Rattle.std.proofs.Common.{◌≡◌, ◌≤◌, true, List, ℕ, Option, length}
use Rattle.line_session.specs.SessionView.{SessionView}
use Rattle.served_lines.specs.Steps.{StandsAt}
use Rattle.served_lines.proofs.serving.serve_piece.Given as goal

abbrev pub invariant-lines : goal.invariant-lines
invariant-lines g l = record {
  printed : l.session.printed ≡ true;
  still : g.O.Sink.faults l.out ≡ g.O.Sink.faults l.fn.out;
  shorter : length l.rest ≤ length l.piece;
  stands : (first : SessionView g.row.D.Denot) (before after taken : Option (List ℕ))
      → StandsAt g.D.Disk.view first l.fn.session before after taken (g.O.Sink.taken l.fn.out)
      l.fn.place.line l.fn.place.number l.piece
      → StandsAt g.D.Disk.view first l.session before after taken (g.O.Sink.taken l.out)
      l.place.line l.place.number l.rest;
}

abbrev pub decreases-lines : goal.decreases-lines
decreases-lines g l = length l.rest
