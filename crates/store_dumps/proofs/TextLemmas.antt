-- The lines of rows, joined, and what of them was written.
use Rattle.std.proofs.Common.{◌≡◌, ℕ, ◌+◌, ◌<◌, List, [], ◌∷◌, ◌++◌, map, take, drop, length, get_or, Option, Some, None, sym, ap, subst, ◌∙◌, append-nil}
use Rattle.std.specs.Prelude.{MatchResult, Ok, Result, flat_map}
use Rattle.std.specs.List.{cons_option}
use Rattle.std.proofs.lemmas.Grind.{flat_map-append}
use Rattle.std.proofs.lemmas.List.{map-append, take-append-drop, take_more}
use Rattle.std.proofs.lemmas.List.Elements.{filter_map-append}
use Rattle.agent_base.specs.Streams.{Takes, TakesPrefix}
use Rattle.suffix_list.specs.ListText.{RuleList}
use Rattle.durable_model.specs.Migrate.{IsUnder}
use Rattle.durable_model.specs.Saved.{IsValid, Saved}
use Rattle.spelled_model.specs.Rows.{IsReadSavedUnder}
use Rattle.row_changes.specs.Change.{PlainChange}
use Rattle.row_changes.specs.Plain.{plain_change}
use Rattle.row_changes.specs.declared.change.Change.{Change}
use Rattle.row_lines.specs.Row.{PlainRow, row_of, row_text}
use Rattle.waiting_lines.specs.Waiting.{TakesFront}
use Rattle.waiting_lines.proofs.PrefixLemmas.{front_more, front_part, prefix_front, prefix_longer}
use Rattle.store_dumps.specs.Dump.{StandsAsTold, Writes, WritesSome, dump_text, rows_of, rows_text}
use Rattle.store_dumps.specs.Opening.{opening_of}
use Rattle.store_dumps.specs.declared.fault.DumpFault.{DumpFault}

text_append : (a b : List PlainChange) → rows_text (a ++ b) ≡ rows_text a ++ rows_text b
text_append a b = ap (flat_map row_text) (filter_map-append row_of a b) ∙ flat_map-append row_text (rows_of a) (rows_of b)

-- the line of one row change, which is a row or none
pub one_text : (change : PlainChange) (row : PlainRow) → row_of change ≡ Some row → rows_text (change ∷ []) ≡ row_text row
one_text change row is = subst (λ o. flat_map row_text (cons_option o []) ≡ row_text row) (sym is) (append-nil (row_text row))

pub no_text : (change : PlainChange) → row_of change ≡ None → rows_text (change ∷ []) ≡ []
no_text change is = ap (λ o. flat_map row_text (cons_option o [])) is

-- the lines of the first rows
abbrev pub first_text : List Change → ℕ → List ℕ
first_text rows i = rows_text (map plain_change (take i rows))

-- one row more
pub first_more : (rows : List Change) (i : ℕ) (item : Change) → i < length rows → item ≡ get_or rows i item
    → first_text rows (i + 1) ≡ first_text rows i ++ rows_text (plain_change item ∷ [])
first_more rows i item within is =
    ap (λ rs. rows_text (map plain_change rs)) (take_more rows i item within)
    ∙ ap rows_text (map-append plain_change (take i rows) (get_or rows i item ∷ []))
    ∙ text_append (map plain_change (take i rows)) (plain_change (get_or rows i item) ∷ [])
    ∙ ap (λ (r : Change). first_text rows i ++ rows_text (plain_change r ∷ [])) (sym is)

-- the line of one row more waits
pub next_held : (a b : Option (List ℕ)) (rows : List Change) (i : ℕ) (item : Change) (held now : List ℕ)
    → i < length rows → item ≡ get_or rows i item → TakesFront a b (first_text rows i) held
    → now ≡ held ++ rows_text (plain_change item ∷ []) → TakesFront a b (first_text rows (i + 1)) now
next_held a b rows i item held now within is front more =
    let line = rows_text (plain_change item ∷ []) in
    subst (TakesFront a b (first_text rows (i + 1))) (sym more)
    (subst (λ t. TakesFront a b t (held ++ line)) (sym (first_more rows i item within is))
    (front_more a b b (first_text rows i) held front line))

first_rest : (rows : List Change) (i : ℕ) → rows_text (map plain_change rows) ≡ first_text rows i
    ++ rows_text (map plain_change (drop i rows))
first_rest rows i =
    ap (λ rs. rows_text (map plain_change rs)) (sym (take-append-drop i rows))
    ∙ ap rows_text (map-append plain_change (take i rows) (drop i rows))
    ∙ text_append (map plain_change (take i rows)) (map plain_change (drop i rows))

module _ (a b : Option (List ℕ)) (rows : List Change) (i : ℕ) where
  whole : TakesPrefix a b (first_text rows i) → TakesPrefix a b (rows_text (map plain_change rows))
  whole prefix = subst (TakesPrefix a b) (sym (first_rest rows i))
      (prefix_longer a b (first_text rows i) (rows_text (map plain_change (drop i rows))) prefix)

  -- what waits is not written
  pub stopped : (held : List ℕ) → TakesFront a b (first_text rows i) held → TakesPrefix a b (rows_text (map plain_change rows))
  stopped held front = whole (subst (TakesPrefix a b) (sym front.1.1) (prefix_front a b front.0 held front.1.0))

  -- writing what waits failed
  pub failed : (c : Option (List ℕ)) (held : List ℕ) → TakesFront a c (first_text rows i) held
      → TakesPrefix c b held → TakesPrefix a b (rows_text (map plain_change rows))
  failed c held front prefix = whole (front_part a c b (first_text rows i) held front prefix)

-- a dump whose store was opened wrote the lines of its state
pub writes_some : (list : RuleList) (told : Option (List ℕ)) (result : Result (Unit {0}) DumpFault)
    (a b : Option (List ℕ)) (d : Saved) → opening_of result ≡ Ok tt → IsValid d → IsUnder list.rules d
    → IsReadSavedUnder list.rules d → StandsAsTold list told d → Writes (dump_text d) result a b → WritesSome list told result a b
writes_some list told result a b d is valid under read stands writes =
    subst (λ o. MatchResult o (λ _. (d : Saved) × IsValid d × IsUnder list.rules d
    × IsReadSavedUnder list.rules d × StandsAsTold list told d × Writes (dump_text d) result a b) (λ _. Takes a b [])) (sym is)
    (d, valid, under, read, stands, writes)
