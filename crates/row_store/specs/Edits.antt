-- What a private function does to the parts of a durable state.
use Rattle.std.specs.Prelude.{◌≡◌, ℕ, ◌+◌, ◌≤◌, Bool, List, ◌∷◌, Ok, Err}
use Rattle.row_changes.specs.Change.{PlainChange}
use Rattle.row_changes.specs.Body.{PlainPiece}
use Rattle.row_changes.specs.Laws.{IsSpelledPiece}
use Rattle.durable_model.specs.Saved.{IsValid}
use Rattle.durable_model.specs.RowEdits.{after_change, is_valid}
use Rattle.spelled_model.specs.Rows.{IsReadSaved}
use Rattle.row_store.specs.Bodies.{after_pieces}
use Rattle.row_store.specs.Laws.{IsSpelledState, IsStorable}
use Rattle.row_store.specs.Stored.{HasNoSession, saved_of}
use Rattle.row_store.specs.declared.parts.Parts.{Parts}

-- a row change is done where it is valid, which is told. Where it is not, the state stays.
pub record IsEdited (change : PlainChange) (old new : Parts) (done : Bool) : Type 0 where
  pub valid : done ≡ is_valid change (saved_of old)
  pub saved : saved_of new ≡ after_change (saved_of old) change
  pub sessions : HasNoSession old.storage → HasNoSession new.storage

-- the durable state of parts stays
pub record IsUndone (old new : Parts) : Type 0 where
  pub saved : saved_of new ≡ saved_of old
  pub sessions : HasNoSession old.storage → HasNoSession new.storage

-- parts that an agent goes on with: each cell is as it outlives a restart, the durable state is one
-- that was read, a snapshot can be made of it, and no tab has a session area
pub record IsStanding (parts : Parts) : Type 0 where
  pub valid : IsValid (saved_of parts)
  pub read : IsReadSaved (saved_of parts)
  pub storable : IsStorable (saved_of parts)
  pub spelled : IsSpelledState (saved_of parts)
  pub sessions : HasNoSession parts.storage

-- a piece is taken from the front of others, and so many durable changes begin with it
pub record IsTaken (piece : PlainPiece) (old new : Parts) (begun : ℕ) : Type 0 where
  pub after : (count : ℕ) (pieces : List PlainPiece)
      → after_pieces (saved_of old) count (piece ∷ pieces)
      ≡ after_pieces (saved_of new) (count + begun) pieces
  pub standing : IsSpelledPiece piece → IsStanding old → IsStanding new
  pub one : begun ≤ 1

-- a piece is the fault of each body that goes on with it from here
abbrev pub IsFaultAt : PlainPiece → Parts → ℕ → Type 0
IsFaultAt piece parts at =
    (count : ℕ) (pieces : List PlainPiece)
    → after_pieces (saved_of parts) count (piece ∷ pieces) ≡ Err at

-- pieces were taken to their end, by so many durable changes
pub record AreTaken (pieces : List PlainPiece) (old new : Parts) (count : ℕ)
    : Type 0 where
  pub after : after_pieces (saved_of old) 0 pieces ≡ Ok (saved_of new, count)
  pub standing : IsStanding old → IsStanding new
