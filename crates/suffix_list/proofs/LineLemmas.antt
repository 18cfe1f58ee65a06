-- Going through the lines one after another gives what the definition over all lines says.
use Rattle.std.proofs.Common.{◌≡◌, ℕ, suc, ◌+◌, ◌<◌, ◌≤◌, Bool, true, false, not, cond, List, [], ◌∷◌, ◌++◌, length, take, drop, refl, ap, ◌∙◌, sym, arith, append_assoc, length-append}
use Rattle.std.specs.Prelude.{nat_lt, nat_le, ◌==◌, Option, Some, None, Result, Ok, Err}
use Rattle.std.specs.List.{filter_map, cons_option, enumerate_from, position, position_or_len, onto_first}
use Rattle.std.proofs.lemmas.Bool.{ltb-true, ltb-false, le-ltb, lt-ltb, leb-true, leb-false}
use Rattle.std.proofs.lemmas.List.Elements.{filter_map-append}
use Rattle.std.proofs.Math.Seq.{take-append-add}
use Rattle.std.proofs.lemmas.List.Splits.{slice_split_first}
use Rattle.suffix_list.specs.declared.fault.ListFault.{ListFault}
use Rattle.suffix_list.specs.declared.fault.ListFault.TheVariants.{BadRule, TooLong, TooManyRules, ReadFault}
use Rattle.suffix_list.specs.Suffix.{Rule}
use Rattle.suffix_list.specs.ListText.{byte_limit, is_bad, line_fault, lines_of, list_of, rule_in, rule_limit, rules_in, rules_of_lines, unless_fault, with_digest}
use Rattle.suffix_list.specs.Lines.{rules_after, rules_from, unless_faulty, with_rule}

append_nil : {X : Type 0} (xs : List X) → xs ++ [] ≡ xs
append_nil [] = refl
append_nil (x ∷ xs) = ap (λ ys. x ∷ ys) (append_nil xs)

-- the rules of the lines up to this one
rules_up_to : (all before : List (List ℕ)) (line : List ℕ) (lines : List (List ℕ)) (number : ℕ) → all ≡ before ++ (line ∷ lines) → number ≡ length before + 1
    → rules_in (take number all) ≡ rules_in before ++ cons_option (rule_in line) []
rules_up_to all before line lines number same at =
    ap (λ n. rules_in (take n all)) at ∙ ap (λ ls. rules_in (take (length before + 1) ls)) same
    ∙ ap rules_in (take-append-add before (line ∷ lines) 1) ∙ filter_map-append rule_in before (line ∷ [])

-- going on from a line gives the rules of all lines, or the first fault from there on
scan : (all before rest : List (List ℕ)) (number : ℕ) (rules : List Rule) → all ≡ before ++ rest → number ≡ length before + 1 → rules ≡ rules_in before → length rules ≤ rule_limit
    → rules_from number rules rest ≡ unless_fault (rules_in all) (filter_map (line_fault all) (enumerate_from number rest))
scan all before [] number rules same at are fit =
    ap Ok (are ∙ ap rules_in (sym (same ∙ append_nil before)))
scan all before (line ∷ lines) number rules same at are fit =
    step
    (λ more is small. scan all (before ++ (line ∷ [])) lines (number + 1) more (same ∙ sym (append_assoc before (line ∷ []) lines)) (omega (arith, length-append before (line ∷ []))) (is ∙ sym (filter_map-append rule_in before (line ∷ []))) small)
    (rules_up_to all before line lines number same at)
    (is_bad line) (rule_in line) refl refl
  where
    step : ((more : List Rule) → more ≡ rules_in before ++ cons_option (rule_in line) [] → length more ≤ rule_limit → rules_from (number + 1) more lines ≡ unless_fault (rules_in all) (filter_map (line_fault all) (enumerate_from (number + 1) lines)))
        → rules_in (take number all) ≡ rules_in before ++ cons_option (rule_in line) []
        → (bad : Bool) (found : Option Rule) → is_bad line ≡ bad → rule_in line ≡ found
        → unless_faulty (λ more. rules_from (number + 1) more lines) (cond bad (Err (BadRule number)) (with_rule number rules found))
        ≡ unless_fault (rules_in all) (cons_option (cond bad (Some (BadRule number)) (cond (nat_lt rule_limit (length (rules_in (take number all)))) (Some (TooManyRules number)) None)) (filter_map (line_fault all) (enumerate_from (number + 1) lines)))
    step later up_to true found is_it holds = refl
    step later up_to false None is_it holds =
        let still : rules ≡ rules_in before ++ cons_option (rule_in line) [] = are ∙ sym (append_nil (rules_in before)) ∙ ap (λ o. rules_in before ++ cons_option o []) (sym holds) in
        let below : nat_lt rule_limit (length (rules_in (take number all))) ≡ false = ap (λ rs. nat_lt rule_limit (length rs)) (up_to ∙ sym still) ∙ le-ltb rule_limit (length rules) fit in
        later rules still fit
        ∙ sym (ap (λ b. unless_fault (rules_in all) (cons_option (cond b (Some (TooManyRules number)) None) (filter_map (line_fault all) (enumerate_from (number + 1) lines)))) below)
    step later up_to false (Some rule) is_it holds =
        let more_is : rules ++ (rule ∷ []) ≡ rules_in before ++ cons_option (rule_in line) [] = ap (λ rs. rs ++ (rule ∷ [])) are ∙ ap (λ o. rules_in before ++ cons_option o []) (sym holds) in
        let one_more : length (rules ++ (rule ∷ [])) ≡ length rules + 1 = omega (arith, length-append rules (rule ∷ [])) in
        let counted : length (rules_in (take number all)) ≡ length rules + 1 = ap length (up_to ∙ sym more_is) ∙ one_more in
        by (later (rules ++ (rule ∷ [])) more_is) counted one_more (nat_le rule_limit (length rules)) refl
      where
        by : (length (rules ++ (rule ∷ [])) ≤ rule_limit → rules_from (number + 1) (rules ++ (rule ∷ [])) lines ≡ unless_fault (rules_in all) (filter_map (line_fault all) (enumerate_from (number + 1) lines)))
            → length (rules_in (take number all)) ≡ length rules + 1 → length (rules ++ (rule ∷ [])) ≡ length rules + 1
            → (full : Bool) → nat_le rule_limit (length rules) ≡ full
            → unless_faulty (λ more. rules_from (number + 1) more lines) (cond full (Err (TooManyRules number)) (Ok (rules ++ rule ∷ [])))
            ≡ unless_fault (rules_in all) (cons_option (cond (nat_lt rule_limit (length (rules_in (take number all)))) (Some (TooManyRules number)) None) (filter_map (line_fault all) (enumerate_from (number + 1) lines)))
        by later counted one_more true full =
            let many = leb-true rule_limit (length rules) full in
            let above : rule_limit < length (rules_in (take number all)) = omega arith in
            sym (ap (λ b. unless_fault (rules_in all) (cons_option (cond b (Some (TooManyRules number)) None) (filter_map (line_fault all) (enumerate_from (number + 1) lines)))) (lt-ltb rule_limit (length (rules_in (take number all))) above))
        by later counted one_more false room =
            let few = leb-false rule_limit (length rules) room in
            let below : length (rules_in (take number all)) ≤ rule_limit = omega arith in
            let small : length (rules ++ (rule ∷ [])) ≤ rule_limit = omega arith in
            later small
            ∙ sym (ap (λ b. unless_fault (rules_in all) (cons_option (cond b (Some (TooManyRules number)) None) (filter_map (line_fault all) (enumerate_from (number + 1) lines)))) (le-ltb rule_limit (length (rules_in (take number all))) below))

-- going through all lines gives the rules, or the first fault
pub scan_all : (lines : List (List ℕ)) → rules_from 1 [] lines ≡ rules_of_lines lines
scan_all lines = scan lines [] lines 1 [] refl refl refl (omega arith)

-- the lines where one ends at this place
pub lines_at : (bytes : List ℕ) (at : ℕ) → position (λ b. b == 10) bytes ≡ Some at → lines_of bytes ≡ take at bytes ∷ lines_of (drop (at + 1) bytes)
lines_at bytes at found = by (nat_lt (position_or_len (λ b. b == 10) bytes) (length bytes)) refl found
  where
    by : (b : Bool) → nat_lt (position_or_len (λ b. b == 10) bytes) (length bytes) ≡ b → cond b (Some (position_or_len (λ b. b == 10) bytes)) None ≡ Some at → lines_of bytes ≡ take at bytes ∷ lines_of (drop (at + 1) bytes)
    by true inside found =
        let same : position_or_len (λ b. b == 10) bytes ≡ at = cc in
        slice_split_first (λ b. b == 10) bytes 0 (ltb-true _ _ inside) ∙ ap (λ n. take n bytes ∷ lines_of (drop (n + 1) bytes)) same
    by false inside found = absurd (cc)

-- the lines where none ends
one_line : (bytes : List ℕ) → length bytes ≤ position_or_len (λ b. b == 10) bytes → lines_of bytes ≡ bytes ∷ []
one_line [] all = refl
one_line (b ∷ bytes) all = by (b == 10) (λ rest. one_line bytes rest) all
  where
    by : (ends : Bool) → (length bytes ≤ position_or_len (λ c. c == 10) bytes → lines_of bytes ≡ bytes ∷ []) → suc (length bytes) ≤ cond (not ends) (1 + position_or_len (λ c. c == 10) bytes) 0
        → cond ends ([] ∷ lines_of bytes) (onto_first b (lines_of bytes)) ≡ (b ∷ bytes) ∷ []
    by true later all = absurd (omega arith)
    by false later all = ap (onto_first b) (later (omega arith))

pub lines_whole : (bytes : List ℕ) → position (λ b. b == 10) bytes ≡ None → lines_of bytes ≡ bytes ∷ []
lines_whole bytes found = by (nat_lt (position_or_len (λ b. b == 10) bytes) (length bytes)) refl found
  where
    by : (b : Bool) → nat_lt (position_or_len (λ b. b == 10) bytes) (length bytes) ≡ b → cond b (Some (position_or_len (λ b. b == 10) bytes)) None ≡ None → lines_of bytes ≡ bytes ∷ []
    by true inside found = absurd (cc)
    by false outside found = one_line bytes (ltb-false _ _ outside)

-- what is left after a line, as the rest of the whole
pub scan_step : (bytes rest : List ℕ) (number : ℕ) (rules : List Rule) (line : List ℕ) (behind : List (List ℕ)) → rules_from number rules (lines_of rest) ≡ rules_from 1 [] (lines_of bytes) → lines_of rest ≡ line ∷ behind
    → rules_of_lines (lines_of bytes) ≡ unless_faulty (λ more. rules_from (number + 1) more behind) (rules_after number rules line)
scan_step bytes rest number rules line behind same split = sym (scan_all (lines_of bytes)) ∙ sym same ∙ ap (rules_from number rules) split

-- no line has a fault of the source
pub no_read_fault : (lines : List (List ℕ)) → rules_of_lines lines ≡ Err ReadFault → ⊥
no_read_fault lines same = none (rules_in lines) (enumerate_from 1 lines) same
  where
    kinds : (bad many : Bool) (number : ℕ) (rules : List Rule) (later : List ListFault) → (unless_fault rules later ≡ Err ReadFault → ⊥)
        → unless_fault rules (cons_option (cond bad (Some (BadRule number)) (cond many (Some (TooManyRules number)) None)) later) ≡ Err ReadFault → ⊥
    kinds true many number rules later rest same = cc
    kinds false true number rules later rest same = cc
    kinds false false number rules later rest same = rest same

    none : (rules : List Rule) (numbered : List (ℕ × List ℕ)) → unless_fault rules (filter_map (line_fault lines) numbered) ≡ Err ReadFault → ⊥
    none rules [] same = cc
    none rules (line ∷ numbered) same =
        kinds (is_bad line.1) (nat_lt rule_limit (length (rules_in (take line.0 lines)))) line.0 rules (filter_map (line_fault lines) numbered) (none rules numbered) same

-- no list has a fault of the source
pub no_read_fault_in : (bytes : List ℕ) → list_of bytes ≡ Err ReadFault → ⊥
no_read_fault_in bytes same = by (nat_lt byte_limit (length bytes)) (rules_of_lines (lines_of bytes)) refl same
  where
    by : (long : Bool) (rules : Result (List Rule) ListFault) → rules_of_lines (lines_of bytes) ≡ rules → cond long (Err TooLong) (with_digest bytes rules) ≡ Err ReadFault → ⊥
    by true rules are same = cc
    by false (Ok rules) are same = cc
    by false (Err why) are same = no_read_fault (lines_of bytes) (are ∙ (let own : why ≡ ReadFault = cc in ap Err own))
