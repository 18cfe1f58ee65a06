-- The body of a frame: durable changes to its end, or the row changes of a snapshot to its end, and
-- what is read of one, piece by piece, with the first fault.
-- Source: none.
-- Our own choice: a durable change is the number of its row changes, in four bytes, and these. It
-- has one row change at least. A fault is a count that is 0 or cut off, with its offset, or what is
-- no row change, with the offset at which it begins, which may be the body's end.
use Rattle.std.specs.Prelude.{ℕ, suc, zero, ◌-◌, ◌==◌, nat_lt, Bool, not, ◌&&◌, List, [], ◌∷◌, ◌++◌, length}
use Rattle.std.specs.Prelude.{Option, Some, None, if◌then◌else◌}
use Rattle.std.specs.List.{flat_map}
use Rattle.std.specs.Int.{w32, to_le_bytes}
use Rattle.row_changes.specs.Change.{PlainChange}
use Rattle.row_changes.specs.Spelling.{change_bytes}
use Rattle.row_changes.specs.Fields.{Reading, made, passing, number_at}
use Rattle.row_changes.specs.Reading.{change_at}

-- the bytes of row changes
abbrev pub rows_bytes : List PlainChange → List ℕ
rows_bytes changes = flat_map change_bytes changes

-- the bytes of one durable change
abbrev pub changes_bytes : List PlainChange → List ℕ
changes_bytes changes = to_le_bytes w32 (length changes) ++ rows_bytes changes

-- the bytes of the row changes of a line: none where there is none, else those of one durable
-- change
abbrev pub durable_bytes : List PlainChange → List ℕ
durable_bytes [] = []
durable_bytes (change ∷ changes) = changes_bytes (change ∷ changes)

-- a piece of a body: a durable change begins, a row change that begins at this offset, or the first
-- fault with its offset, which is the last piece
pub data PlainPiece : Type 0 where
  Begins : PlainPiece
  Row : (at : ℕ) (change : PlainChange) → PlainPiece
  Fault : (at : ℕ) → PlainPiece

-- how far a body is read: how many row changes of the durable change are still to come, and the
-- bytes that are left
pub record PlainProgress : Type 0 where
  pub left : ℕ
  pub rest : List ℕ

-- the number of row changes of a durable change, which is not 0
unfoldable pub count_at : Reading ℕ
count_at = made (passing (λ count. nat_lt 0 count)) (number_at w32)

-- nothing is left after the first fault
abbrev pub faulty : ℕ → PlainProgress → PlainPiece × PlainProgress
faulty size p = (Fault (size - length p.rest), record { left = 0; rest = [] })

-- the count of a durable change, or its fault, in a body of this size
abbrev pub begun : ℕ → PlainProgress → Option (ℕ × List ℕ) → PlainPiece × PlainProgress
begun size p (Some found) = (Begins, record { left = found.0; rest = found.1 })
begun size p None = faulty size p

-- a row change, or its fault, in a body of this size
abbrev pub rowed : ℕ → PlainProgress → Option (PlainChange × List ℕ) → PlainPiece × PlainProgress
rowed size p (Some found) =
    (Row (size - length p.rest) found.0, record { left = p.left - 1; rest = found.1 })
rowed size p None = faulty size p

-- nothing is to come: the body is at its end, and no row change is due
abbrev pub is_over : PlainProgress → Bool
is_over p = p.left == 0 && length p.rest == 0

-- the next piece, and how far the body is read behind it. Where no row change is due, a count comes
-- next, but in a snapshot, which has none.
unfoldable pub next_piece : Bool → ℕ → PlainProgress → PlainPiece × PlainProgress
next_piece snapshot size p =
    if p.left == 0 && not snapshot then begun size p (count_at p.rest)
    else rowed size p (change_at p.rest)

-- the pieces to come, of which there are at most so many
abbrev pub pieces_within : ℕ → Bool → ℕ → PlainProgress → List PlainPiece
pieces_within zero snapshot size p = []
pieces_within (suc most) snapshot size p =
    if is_over p then []
    else (next_piece snapshot size p).0
    ∷ pieces_within most snapshot size (next_piece snapshot size p).1

-- the pieces to come. Each takes a byte at least, but for a fault.
abbrev pub pieces_from : Bool → ℕ → PlainProgress → List PlainPiece
pieces_from snapshot size p = pieces_within (suc (length p.rest)) snapshot size p

-- the pieces of a body
abbrev pub pieces_of : Bool → List ℕ → List PlainPiece
pieces_of snapshot body =
    pieces_from snapshot (length body) (record { left = 0; rest = body })
