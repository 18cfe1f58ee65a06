-- How what stands somewhere grows by row changes: a list of them, or the body of a snapshot.
-- Source: none.
use Rattle.std.specs.Prelude.{◌≡◌, ℕ, List, [], ◌∷◌, ◌++◌, map, Result, Ok, Err, OnOk}
use Rattle.std.specs.List.{All}
use Rattle.std.proofs.Common.{ap, append-nil, append_assoc, sym, ◌∙◌}
use Rattle.std.proofs.lemmas.Grind.{flat_map-append}
use Rattle.std.proofs.lemmas.List.{map-append}
use Rattle.std.proofs.lemmas.List.Elements.{All-append, All-cons, All-nil}
use Rattle.row_changes.specs.declared.change.Change.{Change}
use Rattle.row_changes.specs.Appended.{HasTexts}
use Rattle.row_changes.specs.Body.{rows_bytes}
use Rattle.row_changes.specs.Change.{PlainChange}
use Rattle.row_changes.specs.Plain.{plain_change}
use Rattle.row_changes.specs.Spelling.{change_bytes}
use Rattle.row_store.specs.Kept.{kept_change}

-- a list has these row changes behind what it had
abbrev pub IsListed : List Change → List PlainChange → List Change → Type 0
IsListed before rows after = map plain_change after ≡ map plain_change before ++ rows

-- bytes have these row changes behind what they had, with room for each of their texts
pub record IsWritten (before : List ℕ) (rows : List PlainChange) (after : List ℕ) : Type 0 where
  pub bytes : after ≡ before ++ rows_bytes rows
  pub texts : All HasTexts rows

-- ---- none, and some behind others

-- nothing behind a list
pub listed_none : (s : List Change) → IsListed s [] s
listed_none s = sym (append-nil (map plain_change s))

-- some row changes behind a list, and more behind them
pub listed_then : (s t u : List Change) (xs ys : List PlainChange) → IsListed s xs t
    → IsListed t ys u → IsListed s (xs ++ ys) u
listed_then s t u xs ys first second =
    second ∙ ap (λ l. l ++ ys) first ∙ append_assoc (map plain_change s) xs ys

-- no row change that outlives a restart behind a list
pub kept_none : (s : List Change) → IsListed s (map kept_change []) s
kept_none s = listed_none s

-- some that outlive a restart, and more behind them
pub kept_then : (s t u : List Change) (xs ys : List PlainChange)
    → IsListed s (map kept_change xs) t → IsListed t (map kept_change ys) u
    → IsListed s (map kept_change (xs ++ ys)) u
kept_then s t u xs ys first second =
    listed_then s t u (map kept_change xs) (map kept_change ys) first second
    ∙ ap (λ l. map plain_change s ++ l) (sym (map-append kept_change xs ys))

-- nothing behind bytes
pub written_none : (s : List ℕ) → IsWritten s [] s
written_none s = record { bytes = sym (append-nil s); texts = All-nil HasTexts }

-- one behind what was there, where it was written
pub written_one : {T E : Type 0} (result : Result T E) (s t : List ℕ) (row : PlainChange)
    → OnOk result (t ≡ s ++ change_bytes row) → OnOk result (HasTexts row)
    → OnOk result (IsWritten s (row ∷ []) t)
written_one (Ok value) s t row bytes texts = record {
  bytes = bytes ∙ ap (λ l. s ++ l) (sym (append-nil (change_bytes row)));
  texts = All-cons HasTexts row [] texts (All-nil HasTexts);
}
written_one (Err why) s t row bytes texts = tt

-- some row changes behind bytes, and more behind them
pub written_then : (s t u : List ℕ) (xs ys : List PlainChange) → IsWritten s xs t → IsWritten t ys u
    → IsWritten s (xs ++ ys) u
written_then s t u xs ys first second = record {
  bytes = second.bytes ∙ ap (λ l. l ++ rows_bytes ys) first.bytes
      ∙ append_assoc s (rows_bytes xs) (rows_bytes ys)
      ∙ ap (λ l. s ++ l) (sym (flat_map-append change_bytes xs ys));
  texts = All-append HasTexts xs ys first.texts second.texts;
}
