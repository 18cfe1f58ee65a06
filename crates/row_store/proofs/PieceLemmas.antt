-- What a piece makes of the parts, from the front of others.
use Rattle.std.proofs.Common.{◌≡◌, ℕ, ◌+◌, Bool, true, false, cond, List, [], ◌∷◌, drop, Option, Some, None, refl, sym, ap, subst, ◌∙◌, arith}
use Rattle.std.specs.Prelude.{Result, Ok, Err, IfOk, OnErr, slice_get}
use Rattle.std.specs.List.{All}
use Rattle.std.proofs.lemmas.List.Elements.{All-head}
use Rattle.row_changes.specs.Change.{PlainChange}
use Rattle.row_changes.specs.Body.{PlainPiece, Begins, Row, Fault}
use Rattle.row_changes.specs.Laws.{IsSpelledPiece}
use Rattle.row_changes.specs.Spelled.{IsSpelled}
use Rattle.cookie_jar.specs.Key.{OwnCell, PartitionCell}
use Rattle.web_cookies.proofs.CellLemmas.{partitioned_at, shared_at}
use Rattle.durable_model.specs.Saved.{IsKeptCell, IsValid, no_rows, nothing_saved}
use Rattle.durable_model.specs.RowEdits.{edited}
use Rattle.durable_model.specs.Laws.{ChangesKeepValid}
use Rattle.spelled_model.specs.Laws.{RowsStayRead}
use Rattle.spelled_model.specs.Rows.{IsReadSaved}
use Rattle.spelled_model.proofs.SavedLemmas.{nothing_read}
use Rattle.row_store.specs.Bodies.{after_pieces}
use Rattle.row_store.specs.Edits.{IsEdited, IsFaultAt, IsStanding, IsTaken, IsUndone}
use Rattle.row_store.specs.Laws.{IsSpelledState, IsStorable}
use Rattle.row_store.specs.Stored.{HasNoSession, saved_of}
use Rattle.row_store.specs.declared.parts.Parts.{Parts}
use Rattle.row_store.proofs.SpelledLaws.{edits_keep_spelled}
use Rattle.row_store.proofs.StorableLaws.{edits_keep_storable}

-- a durable change begins
pub begun : (parts : Parts) → IsTaken Begins parts parts 1
begun parts = record { after = λ count pieces. refl; standing = λ spelled s. s; one = omega arith }

as_many : (count : ℕ) → count ≡ count + 0
as_many count = omega arith

-- ---- a row change by itself

-- parts whose durable state stays stand as they stood
pub stays_standing : (old new : Parts) → IsUndone old new → IsStanding old → IsStanding new
stays_standing old new is s = record {
  valid = subst IsValid (sym is.saved) s.valid;
  read = subst IsReadSaved (sym is.saved) s.read;
  storable = subst IsStorable (sym is.saved) s.storable;
  spelled = subst IsSpelledState (sym is.saved) s.spelled;
  sessions = is.sessions s.sessions;
}

module _ (change : PlainChange) (old new : Parts) where
  -- a row change that is done makes the state what it makes of it
  pub done_saved : IsEdited change old new true → saved_of new ≡ edited change (saved_of old)
  done_saved is = is.saved ∙ ap (λ b. cond b (edited change (saved_of old)) (saved_of old)) (sym is.valid)

  -- and keeps the parts standing, where it has a spelling
  pub done_standing : ChangesKeepValid → RowsStayRead → IsSpelled change
      → IsEdited change old new true → IsStanding old → IsStanding new
  done_standing law read spelled is s = record {
    valid = subst IsValid (sym is.saved) (law (saved_of old) change s.valid);
    read = subst IsReadSaved (sym is.saved) (read (saved_of old) change spelled s.read);
    storable = subst IsStorable (sym (done_saved is)) (edits_keep_storable.1 (saved_of old) change (sym is.valid) s.storable);
    spelled = subst IsSpelledState (sym (done_saved is))
        (edits_keep_spelled.1 (saved_of old) change spelled s.spelled);
    sessions = is.sessions s.sessions;
  }

  -- one that is not valid leaves them
  pub passed_saved : IsEdited change old new false → saved_of new ≡ saved_of old
  passed_saved is = is.saved ∙ ap (λ b. cond b (edited change (saved_of old)) (saved_of old)) (sym is.valid)

  pub passed_standing : IsEdited change old new false → IsStanding old → IsStanding new
  passed_standing is = stays_standing old new (record { saved = passed_saved is; sessions = is.sessions })

-- parts stand after each answer to a row change that has a spelling
pub edit_standing : {E : Type 0} (change : PlainChange) (old new : Parts)
    (r : Result Bool E) → ChangesKeepValid → RowsStayRead → IsSpelled change
    → IfOk r (λ valid. IsEdited change old new valid) → OnErr r (IsUndone old new) → IsStanding old → IsStanding new
edit_standing change old new (Ok true) law read spelled is stays s =
    done_standing change old new law read spelled is s
edit_standing change old new (Ok false) law read spelled is stays s = passed_standing change old new is s
edit_standing change old new (Err why) law read spelled is stays s = stays_standing old new stays s

-- ---- a row change as a piece

module _ (at : ℕ) (change : PlainChange) (old new : Parts) where
  -- one that is done
  pub done : ChangesKeepValid → RowsStayRead → IsEdited change old new true → IsTaken (Row at change) old new 0
  done law read is =
      record {
        after = λ count pieces.
            ap (λ b. cond b (after_pieces (edited change (saved_of old)) count pieces) (Err at)) (sym is.valid)
            ∙ ap (λ d. after_pieces d count pieces) (sym (done_saved change old new is))
            ∙ ap (λ n. after_pieces (saved_of new) n pieces) (as_many count);
        standing = λ spelled s. done_standing change old new law read spelled is s;
        one = omega arith;
      }

  -- and one that is not valid
  pub refused : IsEdited change old new false → IsFaultAt (Row at change) old at
  refused is count pieces = ap (λ b. cond b (after_pieces (edited change (saved_of old)) count pieces) (Err at)) (sym is.valid)

-- the first fault of a body
pub faulty : (at : ℕ) (parts : Parts) → IsFaultAt (Fault at) parts at
faulty at parts count pieces = refl

-- ---- pieces one after another

-- a list that has a first piece
pub front : (pieces : List PlainPiece) (piece : PlainPiece) → slice_get pieces 0 ≡ Some piece → pieces ≡ piece ∷ drop 1 pieces
front [] piece is = let no : ◌≡◌ {A = Option PlainPiece} None (Some piece) = is in cc
front (first ∷ rest) piece is = let same : first ≡ piece = cc in ap (λ p. p ∷ rest) same

pub over : (pieces : List PlainPiece) → slice_get pieces 0 ≡ None → pieces ≡ []
over [] is = refl
over (first ∷ rest) is = let no : ◌≡◌ {A = Option PlainPiece} (Some first) None = is in cc

-- where each piece is spelled, the first is
pub front_spelled : (pieces : List PlainPiece) (piece : PlainPiece)
    → slice_get pieces 0 ≡ Some piece → All IsSpelledPiece pieces → IsSpelledPiece piece
front_spelled pieces piece is spelled =
    All-head IsSpelledPiece piece (drop 1 pieces) (subst (All IsSpelledPiece) (front pieces piece is) spelled)

-- ---- the beginning

empty_kept : IsKeptCell []
empty_kept = (refl, λ c. omega arith)

nothing_valid : IsValid nothing_saved
unfolding nothing_saved no_rows
nothing_valid (OwnCell domain) = subst IsKeptCell (sym (shared_at domain [])) empty_kept
nothing_valid (PartitionCell top bit domain) = subst IsKeptCell
    (sym (partitioned_at (record { top = top; bit = bit; domain = domain }) [])) empty_kept

-- parts of which nothing is durable
pub nothing_standing : (parts : Parts) → saved_of parts ≡ nothing_saved
    → HasNoSession parts.storage → IsStanding parts
nothing_standing parts is none = record {
  valid = subst IsValid (sym is) nothing_valid;
  read = subst IsReadSaved (sym is) nothing_read.0;
  storable = subst IsStorable (sym is) edits_keep_storable.0;
  spelled = subst IsSpelledState (sym is) edits_keep_spelled.0;
  sessions = none;
}
