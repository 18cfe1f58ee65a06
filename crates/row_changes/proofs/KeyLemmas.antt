-- A key that is read again: the bytes that it was read from are its spelling.
use Rattle.std.proofs.Common.{◌≡◌, ℕ, ◌+◌, ◌-◌, true, List, ◌++◌, length, take, drop, Some, refl, sym, ap, ◌∙◌, arith}
use Rattle.std.specs.Prelude.{nat_eq}
use Rattle.std.specs.Cmp.Lexicographic.{pointwise}
use Rattle.std.proofs.lemmas.List.{take_at, take-append-drop, length-append}
use Rattle.std.proofs.lemmas.Slice.Eq.{bytes_eq-Decides}
use Rattle.storage_key.specs.Key.{PlainKey}
use Rattle.row_changes.specs.LastKey.{IsSpelling}
use Rattle.row_changes.specs.Reading.{key_at}
use Rattle.row_changes.specs.Spelling.{key_bytes}
use Rattle.row_changes.proofs.FieldLaws.{IsBytes}
use Rattle.row_changes.proofs.RowLaws.{key_reads}

-- bytes that begin with the spelling of a key say this key
pub again : (front bytes rest : List ℕ) (key : PlainKey) → IsSpelling front key
    → pointwise nat_eq (take (length front) bytes) front ≡ true → rest ≡ drop (length front) bytes
    → key_at bytes ≡ Some (key, rest)
again front bytes rest key h same behind =
    let begins : take (length front) bytes ≡ key_bytes key = (bytes_eq-Decides (take (length front) bytes) front).0 same ∙ h.1 in
    let whole : bytes ≡ key_bytes key ++ rest =
    sym (take-append-drop (length front) bytes) ∙ ap (λ (l : List ℕ). l ++ drop (length front) bytes) begins
    ∙ ap (λ (l : List ℕ). key_bytes key ++ l) (sym behind) in
    ap key_at whole ∙ key_reads.again key rest h.0

-- a key that was read stands in its spelling, before the bytes that are left
pub front_spelling : (bytes rest : List ℕ) (key : PlainKey) → IsBytes bytes → key_at bytes ≡ Some (key, rest)
    → IsSpelling (take (length bytes - length rest) bytes) key
front_spelling bytes rest key fits e =
    let t = key_reads.takes bytes key rest fits e in
    let whole : length bytes ≡ length (key_bytes key) + length rest = ap length t.parts ∙ length-append (key_bytes key) rest in
    let count : length bytes - length rest ≡ length (key_bytes key) = omega (arith, whole) in
    (t.is, ap (λ (n : ℕ). take n bytes) count ∙ ap (take (length (key_bytes key))) t.parts ∙ take_at (key_bytes key) rest (length (key_bytes key)) refl)
