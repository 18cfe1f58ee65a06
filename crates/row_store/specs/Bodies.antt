-- What the body of a frame means: which durable state it leads to, or where its first fault is.
-- Source: none.
-- Our own choice: a body is read from its front, and a row change that is not valid in the state
-- before it is a fault at the offset at which it begins. A snapshot is row changes from the empty
-- state, and counts as no durable change. No suffix list is asked: a body means one state, whatever
-- list it was written under.
use Rattle.std.specs.Prelude.{◌≡◌, ℕ, ◌+◌, Bool, true, false, List, [], ◌∷◌, if◌then◌else◌}
use Rattle.std.specs.Prelude.{Result, Ok, Err}
use Rattle.row_changes.specs.Body.{PlainPiece, Begins, Row, Fault, pieces_of}
use Rattle.durable_model.specs.Saved.{Saved, nothing_saved}
use Rattle.durable_model.specs.RowEdits.{edited, is_valid}

-- a state, and how many durable changes led to it
abbrev pub Counted : Type 0
Counted = Saved × ℕ

-- the state after the pieces of a body, with the number of its durable changes, or the offset of
-- its first fault
abbrev pub after_pieces : Saved → ℕ → List PlainPiece → Result Counted ℕ
after_pieces d count [] = Ok (d, count)
after_pieces d count (Begins ∷ pieces) = after_pieces d (count + 1) pieces
after_pieces d count (Row at change ∷ pieces) =
    if is_valid change d then after_pieces (edited change d) count pieces else Err at
after_pieces d count (Fault at ∷ pieces) = Err at

-- the state from which a body of this kind is read
abbrev pub from : Bool → Saved → Saved
from true d = nothing_saved
from false d = d

-- what a body means in a state: a snapshot, or durable changes
unfoldable pub body_means : Saved → (snapshot : Bool) → List ℕ → Result Counted ℕ
body_means d snapshot body = after_pieces (from snapshot d) 0 (pieces_of snapshot body)

-- a body leads from a state to another, by so many durable changes
abbrev pub Takes : Saved → Bool → List ℕ → Saved → ℕ → Type 0
Takes d snapshot body after count = body_means d snapshot body ≡ Ok (after, count)

-- the first fault of a body is at this offset
abbrev pub Refuses : Saved → Bool → List ℕ → ℕ → Type 0
Refuses d snapshot body offset = body_means d snapshot body ≡ Err offset
