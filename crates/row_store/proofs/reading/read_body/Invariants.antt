use Rattle.std.proofs.Common.{◌≡◌, ◌+◌, ◌≤◌, length}
use Rattle.std.specs.List.{All}
use Rattle.row_changes.specs.Body.{pieces_of}
use Rattle.row_changes.specs.Laws.{IsSpelledPiece}
use Rattle.row_store.specs.Bodies.{after_pieces}
use Rattle.row_store.specs.Edits.{IsStanding}
use Rattle.row_store.specs.Stored.{saved_of}
use Rattle.row_store.proofs.reading.read_body.Given as goal

abbrev pub invariant-loop-piece : goal.invariant-loop-piece
invariant-loop-piece l = record {
  after : after_pieces (saved_of l.fn.parts) 0 (pieces_of l.snapshot l.body)
      ≡ after_pieces (saved_of l.parts) l.count l.reader;
  spelled : All IsSpelledPiece l.reader;
  standing : IsStanding l.fn.parts → IsStanding l.parts;
  few : l.count + length l.reader ≤ length l.body + 1;
}

abbrev pub decreases-loop-piece : goal.decreases-loop-piece
decreases-loop-piece l = length l.reader
