-- What ties the bytes of row changes, and the bodies of them, to what bytes say.
-- Source: none.
-- Our own choice: an offset counts from the body's front, and is that of the first byte.
use Rattle.std.specs.Prelude.{◌≡◌, ⊤, ℕ, ◌+◌, ◌<◌, ◌^◌, Bool, true, false, List, [], ◌∷◌, ◌++◌, length}
use Rattle.std.specs.Prelude.{Some, slice_index}
use Rattle.std.specs.Int.{w32, byte_len}
use Rattle.std.specs.List.{All, flat_map}
use Rattle.row_changes.specs.Change.{PlainChange}
use Rattle.row_changes.specs.Spelling.{change_bytes}
use Rattle.row_changes.specs.Spelled.{IsSpelled}
use Rattle.row_changes.specs.Reading.{change_at}
use Rattle.row_changes.specs.Body.{rows_bytes, changes_bytes, PlainPiece, Begins, Row, Fault, pieces_of}

-- each number of a list is a byte
abbrev pub AreBytes : List ℕ → Type 0
AreBytes bytes = (i : ℕ) → slice_index bytes i < 256

-- a row change whose fields have a spelling reads back from its bytes, whatever stands behind them
abbrev pub ReadsBack : Type 0
ReadsBack = (change : PlainChange) (rest : List ℕ) → IsSpelled change
    → change_at (change_bytes change ++ rest) ≡ Some (change, rest)

-- what is read has a spelling, and stands in its bytes
abbrev pub IsOneSpelling : Type 0
IsOneSpelling = (bytes : List ℕ) (change : PlainChange) (rest : List ℕ)
    → AreBytes bytes → change_at bytes ≡ Some (change, rest)
    → IsSpelled change × (bytes ≡ change_bytes change ++ rest)

-- the pieces of row changes whose bytes begin at this offset
abbrev pub row_pieces : ℕ → List PlainChange → List PlainPiece
row_pieces at [] = []
row_pieces at (change ∷ changes) =
    Row at change ∷ row_pieces (at + length (change_bytes change)) changes

-- the pieces of durable changes whose bytes begin at this offset: each begins with its count, and
-- its row changes are behind the four bytes of that
abbrev pub body_pieces : ℕ → List (List PlainChange) → List PlainPiece
body_pieces at [] = []
body_pieces at (changes ∷ later) =
    Begins ∷ row_pieces (at + byte_len w32) changes
    ++ body_pieces (at + length (changes_bytes changes)) later

-- a durable change has a spelling: it has one row change at least, each has a spelling, and their
-- number has room in four bytes
abbrev pub IsWritable : List PlainChange → Type 0
IsWritable changes =
    (0 < length changes) × (length changes < 2 ^ 32) × All IsSpelled changes

-- a body of durable changes that have a spelling reads back as these, in their order: each as its
-- beginning and its row changes, at their offsets. Nothing else is read, and so no fault.
abbrev pub BodiesReadBack : Type 0
BodiesReadBack = (written : List (List PlainChange))
    → All IsWritable written
    → pieces_of false (flat_map changes_bytes written) ≡ body_pieces 0 written

-- a snapshot of row changes that have a spelling reads back as these, in their order and at their
-- offsets. Nothing else is read, and so no fault.
abbrev pub SnapshotsReadBack : Type 0
SnapshotsReadBack = (changes : List PlainChange)
    → All IsSpelled changes
    → pieces_of true (rows_bytes changes) ≡ row_pieces 0 changes

-- a piece that is a row change has a spelling
abbrev pub IsSpelledPiece : PlainPiece → Type 0
IsSpelledPiece Begins = ⊤
IsSpelledPiece (Row at change) = IsSpelled change
IsSpelledPiece (Fault at) = ⊤

-- whatever the bytes of a body are, each row change that is read of it has a spelling
abbrev pub PiecesAreSpelled : Type 0
PiecesAreSpelled = (snapshot : Bool) (body : List ℕ)
    → AreBytes body → All IsSpelledPiece (pieces_of snapshot body)
