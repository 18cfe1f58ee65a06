-- The pieces of a body: how many they are, and where its first fault is.
use Rattle.std.proofs.Common.{◌≡◌, ℕ, zero, suc, ◌+◌, ◌≤◌, ◌==◌, Bool, true, false, cond, not, ◌&&◌, List, [], ◌∷◌, drop, length, Option, Some, None, ap, sym, subst, arith}
use Rattle.std.specs.Prelude.{slice_get}
use Rattle.std.specs.Prelude.{Result, Ok, Err}
use Rattle.row_changes.specs.Change.{PlainChange}
use Rattle.row_changes.specs.Body.{PlainPiece, Begins, Row, Fault, PlainProgress, begun, count_at, is_over, next_piece, pieces_of, pieces_within, rowed}
use Rattle.row_changes.specs.Reading.{change_at}
use Rattle.durable_model.specs.Saved.{Saved}
use Rattle.durable_model.specs.RowEdits.{edited, is_valid}
use Rattle.row_store.specs.Bodies.{Counted, after_pieces, body_means, from}

module _ (snapshot : Bool) (size : ℕ) where
  few_within : (most : ℕ) (p : PlainProgress) → length (pieces_within most snapshot size p) ≤ most
  few_within zero p = omega arith
  few_within (suc most) p = at (is_over p) (few_within most (next_piece snapshot size p).1)
    where
      at : (b : Bool) → length (pieces_within most snapshot size (next_piece snapshot size p).1) ≤ most
          → length (cond b [] ((next_piece snapshot size p).0
          ∷ pieces_within most snapshot size (next_piece snapshot size p).1)) ≤ suc most
      at true ih = omega arith
      at false ih = omega (arith, ih)

  -- where a piece begins, if it is a row change or a fault
  abbrev IsWithin : PlainPiece → Type 0
  IsWithin Begins = Unit {0}
  IsWithin (Row at change) = at ≤ size
  IsWithin (Fault at) = at ≤ size

  begun_within : (p : PlainProgress) (found : Option (ℕ × List ℕ)) → IsWithin (begun size p found).0
  begun_within p (Some found) = tt
  begun_within p None = omega arith

  rowed_within : (p : PlainProgress) (found : Option (PlainChange × List ℕ)) → IsWithin (rowed size p found).0
  rowed_within p (Some found) = omega arith
  rowed_within p None = omega arith

  piece_within : (p : PlainProgress) → IsWithin (next_piece snapshot size p).0
  unfolding next_piece
  piece_within p = at (p.left == 0 && not snapshot)
    where
      at : (b : Bool) → IsWithin (cond b (begun size p (count_at p.rest)) (rowed size p (change_at p.rest))).0
      at true = begun_within p (count_at p.rest)
      at false = rowed_within p (change_at p.rest)

  fault_of : (o p : ℕ) → ◌≡◌ {A = Result Counted ℕ} (Err o) (Err p) → o ≡ p
  fault_of o p e = cc

  no_fault : (x : Counted) (o : ℕ) → ◌≡◌ {A = Result Counted ℕ} (Ok x) (Err o) → ⊥
  no_fault x o e = cc

  first_within : (piece : PlainPiece) (pieces : List PlainPiece) (d : Saved) (n o : ℕ) → IsWithin piece
      → ((e : Saved) (m : ℕ) → after_pieces e m pieces ≡ Err o → o ≤ size) → after_pieces d n (piece ∷ pieces) ≡ Err o → o ≤ size
  first_within Begins pieces d n o within more h = more d (n + 1) h
  first_within (Row at change) pieces d n o within more h = by (is_valid change d) h
    where
      by : (b : Bool) → cond b (after_pieces (edited change d) n pieces) (Err at) ≡ Err o → o ≤ size
      by true h = more (edited change d) n h
      by false h = subst (λ k. k ≤ size) (fault_of at o h) within
  first_within (Fault at) pieces d n o within more h = subst (λ k. k ≤ size) (fault_of at o h) within

  fault_within : (most : ℕ) (p : PlainProgress) (d : Saved) (n o : ℕ)
      → after_pieces d n (pieces_within most snapshot size p) ≡ Err o → o ≤ size
  fault_within zero p d n o h = absurd (no_fault (d, n) o h)
  fault_within (suc most) p d n o h = at (is_over p) (λ e m. fault_within most (next_piece snapshot size p).1 e m o) h
    where
      at : (b : Bool) → ((e : Saved) (m : ℕ) → after_pieces e m
          (pieces_within most snapshot size (next_piece snapshot size p).1) ≡ Err o → o ≤ size)
          → after_pieces d n (cond b [] ((next_piece snapshot size p).0
          ∷ pieces_within most snapshot size (next_piece snapshot size p).1)) ≡ Err o → o ≤ size
      at true more h = absurd (no_fault (d, n) o h)
      at false more h =
          first_within (next_piece snapshot size p).0
          (pieces_within most snapshot size (next_piece snapshot size p).1) d n o (piece_within p) more h

-- a body has at most one piece more than bytes
pub few_pieces : (snapshot : Bool) (body : List ℕ) → length (pieces_of snapshot body) ≤ length body + 1
few_pieces snapshot body =
    let few = few_within snapshot (length body) (suc (length body)) (record { left = 0; rest = body }) in omega (arith, few)

-- the first fault is within the body
pub fault_in_body : (snapshot : Bool) (body : List ℕ) (d : Saved) (o : ℕ)
    → after_pieces d 0 (pieces_of snapshot body) ≡ Err o → o ≤ length body
fault_in_body snapshot body d o h = fault_within snapshot (length body) (suc (length body))
    (record { left = 0; rest = body }) d 0 o h

-- what a body means, by its pieces, from the state from which it is read
pub meaning : (d e : Saved) (snapshot : Bool) (body : List ℕ) → e ≡ from snapshot d
    → body_means d snapshot body ≡ after_pieces e 0 (pieces_of snapshot body)
unfolding body_means
meaning d e snapshot body same_state =
    ap (λ (s : Saved). after_pieces s 0 (pieces_of snapshot body)) (sym same_state)

-- pieces whose first one is told
pub first_piece : (pieces : List PlainPiece) {piece : PlainPiece} → Some piece ≡ slice_get pieces 0 → pieces ≡ piece ∷ drop 1 pieces
first_piece [] is = absurd (none_is is)
  where
    none_is : {p : PlainPiece} → Some p ≡ None → ⊥
    none_is e = cc
first_piece (p ∷ ps) {piece} is = let same : piece ≡ p = cc in ap (λ q. q ∷ ps) (sym same)
