-- A body reads back as the pieces that were written into it.
use Rattle.std.proofs.Common.{◌≡◌, ℕ, suc, ◌+◌, ◌-◌, ◌<◌, ◌^◌, Bool, true, false, cond, List, [], ◌∷◌, ◌++◌, length, Option, Some, None, refl, sym, ap, ◌∙◌, append_assoc, length-append, arith}
use Rattle.std.specs.Prelude.{not, ◌&&◌, ◌==◌, nat_lt}
use Rattle.std.specs.Int.{w32, byte_len, to_le_bytes}
use Rattle.std.specs.List.{All, flat_map, filter_map, count_by, list_any}
use Rattle.std.proofs.lemmas.Bool.{lt-ltb}
use Rattle.std.proofs.lemmas.List.Elements.{filter_map-append}
use Rattle.std.proofs.lemmas.List.Folds.{list_any-append}
use Rattle.std.proofs.lemmas.List.Sums.{sum_by-append, sum_by-cons}
use Rattle.row_changes.specs.Change.{PlainChange}
use Rattle.row_changes.specs.Fields.{number_at}
use Rattle.row_changes.specs.Spelling.{change_bytes}
use Rattle.row_changes.specs.Spelled.{IsSpelled}
use Rattle.row_changes.specs.Reading.{change_at}
use Rattle.row_changes.specs.Body.{rows_bytes, changes_bytes, PlainPiece, Begins, Row, Fault, PlainProgress, count_at, is_over, next_piece, pieces_from, pieces_of}
use Rattle.row_changes.specs.Laws.{row_pieces, body_pieces, IsWritable}
use Rattle.row_changes.proofs.FieldLaws.{differs, count_reads}
use Rattle.row_changes.proofs.BodyLaws.{change_shorter, none_from, next_from}
use Rattle.row_changes.proofs.ChangeLaws.{change_again}

-- so many row changes are still to come before these bytes
abbrev progress : ℕ → List ℕ → PlainProgress
progress left rest = record { left = left; rest = rest }

-- where bytes are left, a piece is to come
more_left : (left : ℕ) (rest : List ℕ) → 0 < length rest → is_over (progress left rest) ≡ false
more_left left rest h = by (left == 0)
  where
    by : (t : Bool) → (t && length rest == 0) ≡ false
    by true = differs (length rest) 0 h
    by false = refl

-- a row change that is due, and what is behind it
row_next : (snapshot : Bool) (size at left : ℕ) (change : PlainChange) (rest : List ℕ) → IsSpelled change
    → (left == 0 && not snapshot) ≡ false → at + length (change_bytes change ++ rest) ≡ size
    → pieces_from snapshot size (progress left (change_bytes change ++ rest)) ≡ Row at change ∷ pieces_from snapshot size (progress (left - 1) rest)
unfolding next_piece
row_next snapshot size at left change rest h due whole =
    let bytes = change_bytes change ++ rest in
    let again : change_at bytes ≡ Some (change, rest) = change_again change rest h in
    let shorter : length rest < length bytes = change_shorter bytes change rest again in
    let begin : size - length bytes ≡ at = omega (arith, whole) in
    let next : next_piece snapshot size (progress left bytes) ≡ (Row at change, progress (left - 1) rest) = rw (due, again, begin) refl in
    next_from snapshot size (progress left bytes) (more_left left bytes (omega (arith, shorter)))
    ∙ ap (λ (x : PlainPiece × PlainProgress). x.0 ∷ pieces_from snapshot size x.1) next

-- a count of row changes, and what is behind it
begin_next : (size count : ℕ) (rest : List ℕ) → 0 < count → count < 2 ^ 32
    → pieces_from false size (progress 0 (to_le_bytes w32 count ++ rest)) ≡ Begins ∷ pieces_from false size (progress count rest)
unfolding next_piece count_at
begin_next size count rest some few =
    let bytes = to_le_bytes w32 count ++ rest in
    let number : number_at w32 bytes ≡ Some (count, rest) = count_reads.again count rest few in
    let positive : nat_lt 0 count ≡ true = lt-ltb 0 count some in
    let counted : count_at bytes ≡ Some (count, rest) = rw (number, positive) refl in
    let next : next_piece false size (progress 0 bytes) ≡ (Begins, progress count rest) = rw counted refl in
    next_from false size (progress 0 bytes) (more_left 0 bytes (omega arith))
    ∙ ap (λ (x : PlainPiece × PlainProgress). x.0 ∷ pieces_from false size x.1) next

-- the row changes of a durable change, and what is behind them
rows_next : (size at : ℕ) (changes : List PlainChange) (rest : List ℕ) → All IsSpelled changes
    → at + length (rows_bytes changes ++ rest) ≡ size
    → pieces_from false size (progress (length changes) (rows_bytes changes ++ rest)) ≡ row_pieces at changes ++ pieces_from false size (progress 0 rest)
rows_next size at [] rest h whole = refl
rows_next size at (change ∷ changes) rest h whole =
    let bytes = change_bytes change in
    let behind = rows_bytes changes ++ rest in
    let parted : rows_bytes (change ∷ changes) ++ rest ≡ bytes ++ behind = append_assoc bytes (rows_bytes changes) rest in
    let count = length (change ∷ changes) in
    let due : (count == 0 && not false) ≡ false = rw (differs count 0 (omega arith)) refl in
    let here : at + length (bytes ++ behind) ≡ size = ap (λ (l : List ℕ). at + length l) (sym parted) ∙ whole in
    let there : (at + length bytes) + length behind ≡ size = omega (arith, here, length-append bytes behind) in
    let fewer : count - 1 ≡ length changes = omega arith in
    ap (λ (l : List ℕ). pieces_from false size (progress count l)) parted
    ∙ row_next false size at count change behind (h 0 change (omega arith)) due here
    ∙ ap (λ (n : ℕ). Row at change ∷ pieces_from false size (progress n behind)) fewer
    ∙ ap (λ (l : List PlainPiece). Row at change ∷ l) (rows_next size (at + length bytes) changes rest (λ k d lt. h (suc k) d (omega (arith, lt))) there)

-- the durable changes that are left
body_next : (size at : ℕ) (written : List (List PlainChange)) → All IsWritable written
    → at + length (flat_map changes_bytes written) ≡ size
    → pieces_from false size (progress 0 (flat_map changes_bytes written)) ≡ body_pieces at written
body_next size at [] h whole = none_from false size (progress 0 []) refl
body_next size at (changes ∷ later) h whole =
    let one : IsWritable changes = h 0 changes (omega arith) in
    let count = to_le_bytes w32 (length changes) in
    let rows = rows_bytes changes in
    let behind = flat_map changes_bytes later in
    let parted : flat_map changes_bytes (changes ∷ later) ≡ count ++ (rows ++ behind) = append_assoc count rows behind in
    let long : length (changes_bytes changes) ≡ byte_len w32 + length rows = length-append count rows in
    let here : (at + byte_len w32) + length (rows ++ behind) ≡ size =
    let all : at + length (count ++ (rows ++ behind)) ≡ size = ap (λ (l : List ℕ). at + length l) (sym parted) ∙ whole in
    omega (arith, all, length-append count (rows ++ behind)) in
    let there : (at + length (changes_bytes changes)) + length behind ≡ size = omega (arith, here, long, length-append rows behind) in
    ap (λ (l : List ℕ). pieces_from false size (progress 0 l)) parted
    ∙ begin_next size (length changes) (rows ++ behind) one.0 one.1
    ∙ ap (λ (l : List PlainPiece). Begins ∷ l) (rows_next size (at + byte_len w32) changes behind one.2 here)
    ∙ ap (λ (l : List PlainPiece). Begins ∷ row_pieces (at + byte_len w32) changes ++ l)
    (body_next size (at + length (changes_bytes changes)) later (λ k d lt. h (suc k) d (omega (arith, lt))) there)

-- the row changes of a snapshot that are left
snapshot_next : (size at : ℕ) (changes : List PlainChange) → All IsSpelled changes → at + length (rows_bytes changes) ≡ size
    → pieces_from true size (progress 0 (rows_bytes changes)) ≡ row_pieces at changes
snapshot_next size at [] h whole = none_from true size (progress 0 []) refl
snapshot_next size at (change ∷ changes) h whole =
    let bytes = change_bytes change in
    let there : (at + length bytes) + length (rows_bytes changes) ≡ size = omega (arith, whole, length-append bytes (rows_bytes changes)) in
    row_next true size at 0 change (rows_bytes changes) (h 0 change (omega arith)) refl whole
    ∙ ap (λ (l : List PlainPiece). Row at change ∷ l) (snapshot_next size (at + length bytes) changes (λ k d lt. h (suc k) d (omega (arith, lt))) there)

-- ---- whole bodies

pub body_again : (written : List (List PlainChange)) → All IsWritable written
    → pieces_of false (flat_map changes_bytes written) ≡ body_pieces 0 written
body_again written h = body_next (length (flat_map changes_bytes written)) 0 written h (omega arith)

pub snapshot_again : (changes : List PlainChange) → All IsSpelled changes
    → pieces_of true (rows_bytes changes) ≡ row_pieces 0 changes
snapshot_again changes h = snapshot_next (length (rows_bytes changes)) 0 changes h (omega arith)

-- ---- what the pieces hold, without the offsets

-- the row change of a piece
abbrev pub piece_row : PlainPiece → Option PlainChange
piece_row Begins = None
piece_row (Row at change) = Some change
piece_row (Fault at) = None

-- whether a durable change begins
abbrev pub begins : PlainPiece → Bool
begins Begins = true
begins (Row at change) = false
begins (Fault at) = false

-- whether a piece is a fault
abbrev pub is_fault : PlainPiece → Bool
is_fault Begins = false
is_fault (Row at change) = false
is_fault (Fault at) = true

rows_held : (at : ℕ) (changes : List PlainChange) → filter_map piece_row (row_pieces at changes) ≡ changes
rows_held at [] = refl
rows_held at (change ∷ changes) = ap (λ (l : List PlainChange). change ∷ l) (rows_held (at + length (change_bytes change)) changes)

rows_begin_none : (at : ℕ) (changes : List PlainChange) → count_by begins (row_pieces at changes) ≡ 0
rows_begin_none at [] = refl
rows_begin_none at (change ∷ changes) = rows_begin_none (at + length (change_bytes change)) changes

rows_whole : (at : ℕ) (changes : List PlainChange) → list_any is_fault (row_pieces at changes) ≡ false
rows_whole at [] = refl
rows_whole at (change ∷ changes) = rows_whole (at + length (change_bytes change)) changes

body_held : (at : ℕ) (written : List (List PlainChange)) → filter_map piece_row (body_pieces at written) ≡ flat_map (λ changes. changes) written
body_held at [] = refl
body_held at (changes ∷ later) =
    let begin = at + byte_len w32 in
    let behind = at + length (changes_bytes changes) in
    filter_map-append piece_row (row_pieces begin changes) (body_pieces behind later)
    ∙ rw (rows_held begin changes, body_held behind later) refl

body_begins_each : (at : ℕ) (written : List (List PlainChange)) → count_by begins (body_pieces at written) ≡ length written
body_begins_each at [] = refl
body_begins_each at (changes ∷ later) =
    let begin = at + byte_len w32 in
    let behind = at + length (changes_bytes changes) in
    let one : PlainPiece → ℕ = λ piece. cond (begins piece) 1 0 in
    let first = sum_by-cons one Begins (row_pieces begin changes ++ body_pieces behind later) in
    let both = sum_by-append one (row_pieces begin changes) (body_pieces behind later) in
    omega (arith, first, both, rows_begin_none begin changes, body_begins_each behind later)

body_whole : (at : ℕ) (written : List (List PlainChange)) → list_any is_fault (body_pieces at written) ≡ false
body_whole at [] = refl
body_whole at (changes ∷ later) =
    let begin = at + byte_len w32 in
    let behind = at + length (changes_bytes changes) in
    list_any-append is_fault (row_pieces begin changes) (body_pieces behind later) ∙ rw (rows_whole begin changes, body_whole behind later) refl

-- the row changes of a body's pieces are the written ones, in their order
pub body_rows : (written : List (List PlainChange)) → All IsWritable written
    → filter_map piece_row (pieces_of false (flat_map changes_bytes written)) ≡ flat_map (λ changes. changes) written
body_rows written h = ap (filter_map piece_row) (body_again written h) ∙ body_held 0 written

-- as many begin as were written
pub body_begins : (written : List (List PlainChange)) → All IsWritable written
    → count_by begins (pieces_of false (flat_map changes_bytes written)) ≡ length written
body_begins written h = ap (count_by begins) (body_again written h) ∙ body_begins_each 0 written

pub body_faultless : (written : List (List PlainChange)) → All IsWritable written
    → list_any is_fault (pieces_of false (flat_map changes_bytes written)) ≡ false
body_faultless written h = ap (list_any is_fault) (body_again written h) ∙ body_whole 0 written

-- the same of a snapshot, in which no durable change begins
pub snapshot_rows : (changes : List PlainChange) → All IsSpelled changes
    → filter_map piece_row (pieces_of true (rows_bytes changes)) ≡ changes
snapshot_rows changes h = ap (filter_map piece_row) (snapshot_again changes h) ∙ rows_held 0 changes

pub snapshot_begins : (changes : List PlainChange) → All IsSpelled changes
    → count_by begins (pieces_of true (rows_bytes changes)) ≡ 0
snapshot_begins changes h = ap (count_by begins) (snapshot_again changes h) ∙ rows_begin_none 0 changes

pub snapshot_faultless : (changes : List PlainChange) → All IsSpelled changes
    → list_any is_fault (pieces_of true (rows_bytes changes)) ≡ false
snapshot_faultless changes h = ap (list_any is_fault) (snapshot_again changes h) ∙ rows_whole 0 changes
