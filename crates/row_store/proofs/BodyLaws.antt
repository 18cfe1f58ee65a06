-- A body that is written from row changes which are valid one after another.
use Rattle.std.proofs.Common.{◌≡◌, ℕ, ◌+◌, true, cond, List, [], ◌∷◌, ◌++◌, length, refl, sym, ap, ◌∙◌, arith}
use Rattle.std.specs.Prelude.{fold, Result, Ok, Err}
use Rattle.std.specs.Int.{w32, byte_len}
use Rattle.row_changes.specs.Change.{PlainChange}
use Rattle.row_changes.specs.Spelling.{change_bytes}
use Rattle.row_changes.specs.Body.{PlainPiece, changes_bytes}
use Rattle.row_changes.specs.Laws.{body_pieces, row_pieces}
use Rattle.row_changes.proofs.PieceLaws.{body_again}
use Rattle.durable_model.specs.Saved.{Saved}
use Rattle.durable_model.specs.RowEdits.{AreValid, after_change, after_changes, edited, is_valid}
use Rattle.row_store.specs.Bodies.{Counted, after_pieces, body_means}
use Rattle.row_store.specs.Laws.{AreAllValid, WrittenBodiesMean}

-- a valid row change is done
pub valid_done : (d : Saved) (change : PlainChange) → is_valid change d ≡ true → after_change d change ≡ edited change d
valid_done d change valid = ap (λ b. cond b (edited change d) d) valid

-- the pieces of valid row changes, from the front of others
pub rows_taken : (at : ℕ) (changes : List PlainChange) (d : Saved) (count : ℕ) (more : List PlainPiece) → AreValid d changes
    → after_pieces d count (row_pieces at changes ++ more) ≡ after_pieces (after_changes d changes) count more
rows_taken at [] d count more valid = refl
rows_taken at (change ∷ changes) d count more valid =
    let behind = at + length (change_bytes change) in
    ap {B = Result Counted ℕ} (λ b. cond b (after_pieces (edited change d) count
    (row_pieces behind changes ++ more)) (Err at)) valid.0
    ∙ rows_taken behind changes (edited change d) count more valid.1
    ∙ ap (λ e. after_pieces (after_changes e changes) count more) (sym (valid_done d change valid.0))

-- the pieces of durable changes
body_taken : (at : ℕ) (written : List (List PlainChange)) (d : Saved) (count : ℕ) → AreAllValid d written
    → after_pieces d count (body_pieces at written) ≡ Ok (fold after_changes d written, count + length written)
body_taken at [] d count valid = let same : count ≡ count + 0 = omega arith in ap (λ (n : ℕ). Ok (d, n)) same
body_taken at (changes ∷ later) d count valid =
    let behind = at + length (changes_bytes changes) in
    let state = after_changes d changes in
    let more : (count + 1) + length later ≡ count + length (changes ∷ later) = omega arith in
    rows_taken (at + byte_len w32) changes d (count + 1) (body_pieces behind later) valid.0
    ∙ body_taken behind later state (count + 1) valid.1
    ∙ ap (λ (n : ℕ). Ok (fold after_changes state later, n)) more

pub written_bodies_mean : WrittenBodiesMean
unfolding body_means
written_bodies_mean d written writable valid =
    let same : 0 + length written ≡ length written = omega arith in
    ap (after_pieces d 0) (body_again written writable) ∙ body_taken 0 written d 0 valid
    ∙ ap (λ (n : ℕ). Ok (fold after_changes d written, n)) same
