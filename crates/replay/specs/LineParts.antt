-- The pieces of a fault line. Only private functions see it.
-- Source: none.
use Rattle.std.specs.Prelude.{ℕ, List, flat_map, decimal}
use Rattle.replay.specs.declared.told.FaultLine.{FaultLine}
use Rattle.replay.specs.declared.told.Piece.{Piece}
use Rattle.replay.specs.declared.told.Piece.TheVariants.{Text, Number}

-- a piece: a text, or a number in decimal digits
abbrev pub piece_text : Piece → List ℕ
piece_text (Text text) = text.now
piece_text (Number n) = decimal n

-- the whole line
abbrev pub line_text : FaultLine → List ℕ
line_text line = flat_map piece_text line.pieces
