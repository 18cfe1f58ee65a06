-- A piece of a body, and how far a body is read, as contracts see them.
use Rattle.row_changes.specs.Body.{PlainPiece, Begins, Row, Fault, PlainProgress}
use Rattle.row_changes.specs.Plain.{plain_change}
use Rattle.row_changes.specs.declared.body.Piece.{Piece}
use Rattle.row_changes.specs.declared.body.Piece.TheVariants as piece
use Rattle.row_changes.specs.declared.body.Progress.{Progress}

-- a piece
abbrev pub plain_piece : Piece → PlainPiece
plain_piece piece.Begins = Begins
plain_piece (piece.Row at change) = Row at (plain_change change)
plain_piece (piece.Fault at) = Fault at

-- how far a body is read
abbrev pub plain_progress : Progress → PlainProgress
plain_progress p = record { left = p.left; rest = p.rest.now }
