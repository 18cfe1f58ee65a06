-- Each row change that is read of a body has a spelling.
use Rattle.std.proofs.Common.{◌≡◌, ℕ, zero, suc, Bool, true, false, cond, List, [], ◌∷◌, length, Option, Some, None, refl, arith}
use Rattle.std.specs.Prelude.{◌&&◌, ◌==◌, not, nat_lt}
use Rattle.std.specs.Int.{w32}
use Rattle.std.specs.List.{All}
use Rattle.std.proofs.lemmas.List.Elements.{All-cons, All-nil}
use Rattle.row_changes.specs.Change.{PlainChange}
use Rattle.row_changes.specs.Fields.{number_at, passing}
use Rattle.row_changes.specs.Spelled.{IsSpelled}
use Rattle.row_changes.specs.Reading.{change_at}
use Rattle.row_changes.specs.Body.{PlainPiece, PlainProgress, begun, count_at, is_over, next_piece, pieces_within, rowed}
use Rattle.row_changes.specs.Laws.{IsSpelledPiece, PiecesAreSpelled}
use Rattle.row_changes.proofs.ChangeLaws.{change_takes}
use Rattle.row_changes.proofs.FieldLaws.{IsBytes, count_reads, made_some}

module _ (snapshot : Bool) (size : ℕ) where
  -- a piece that is spelled, before bytes
  abbrev IsRead : PlainPiece × PlainProgress → Type 0
  IsRead next = IsSpelledPiece next.0 × IsBytes next.1.rest

  begun_read : (p : PlainProgress) (found : Option (ℕ × List ℕ)) → ((count : ℕ) (rest : List ℕ) → found ≡ Some (count, rest) → IsBytes rest) → IsRead (begun size p found)
  begun_read p None rest = (tt, λ i. omega arith)
  begun_read p (Some found) rest = (tt, rest found.0 found.1 refl)

  rowed_read : (p : PlainProgress) (found : Option (PlainChange × List ℕ))
      → ((change : PlainChange) (rest : List ℕ) → found ≡ Some (change, rest) → IsSpelled change × IsBytes rest) → IsRead (rowed size p found)
  rowed_read p None row = (tt, λ i. omega arith)
  rowed_read p (Some found) row = row found.0 found.1 refl

  count_rest : (bytes : List ℕ) (count : ℕ) (rest : List ℕ) → IsBytes bytes → count_at bytes ≡ Some (count, rest) → IsBytes rest
  unfolding count_at
  count_rest bytes count rest fits e =
      let m = made_some (passing (λ count. nat_lt 0 count)) (number_at w32) bytes count rest e in
      (count_reads.takes bytes m.0 rest fits m.1).rest_bytes

  chosen_read : (b : Bool) (x y : PlainPiece × PlainProgress) → IsRead x → IsRead y → IsRead (cond b x y)
  chosen_read true x y h k = h
  chosen_read false x y h k = k

  next_read : (p : PlainProgress) → IsBytes p.rest → IsRead (next_piece snapshot size p)
  unfolding next_piece
  next_read p fits =
      chosen_read (p.left == 0 && not snapshot) (begun size p (count_at p.rest)) (rowed size p (change_at p.rest))
      (begun_read p (count_at p.rest) (λ count rest e. count_rest p.rest count rest fits e))
      (rowed_read p (change_at p.rest) (λ change rest e. let t = change_takes p.rest change rest fits e in (t.is, t.rest_bytes)))

  within_spelled : (most : ℕ) (p : PlainProgress) → IsBytes p.rest → All IsSpelledPiece (pieces_within most snapshot size p)
  within_spelled zero p fits = All-nil IsSpelledPiece
  within_spelled (suc most) p fits =
      let next = next_read p fits in
      at (is_over p) next.0 (within_spelled most (next_piece snapshot size p).1 next.1)
    where
      at : (b : Bool) → IsSpelledPiece (next_piece snapshot size p).0
          → All IsSpelledPiece (pieces_within most snapshot size (next_piece snapshot size p).1)
          → All IsSpelledPiece (cond b [] ((next_piece snapshot size p).0 ∷ pieces_within most snapshot size (next_piece snapshot size p).1))
      at true one more = All-nil IsSpelledPiece
      at false one more =
          All-cons IsSpelledPiece (next_piece snapshot size p).0 (pieces_within most snapshot size (next_piece snapshot size p).1) one more

pub pieces_spelled : PiecesAreSpelled
pieces_spelled snapshot body fits = within_spelled snapshot (length body) (suc (length body)) (record { left = 0; rest = body }) fits
