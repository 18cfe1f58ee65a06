-- Two parts of a text, which its first divider separates.
use Rattle.std.proofs.Common.{◌≡◌, ℕ, ◌+◌, ◌-◌, ◌==◌, Bool, true, false, cond, List, [], ◌∷◌, ◌++◌, All, length, take, drop}
use Rattle.std.proofs.Common.{Option, Some, None, Ok, Err, refl, ap, sym, ◌∙◌, arith, append_assoc, append-nil, unwrap_or, option_copied, Bor}
use Rattle.std.specs.Prelude.{option_to_list}
use Rattle.std.specs.List.{list_any, position_or_len}
use Rattle.std.proofs.Math.Bool.{or-true}
use Rattle.std.proofs.Math.Seq.{drop-append-add, take-append_seam}
use Rattle.std.proofs.lemmas.Bool.{cond-true, cond-false}
use Rattle.std.proofs.lemmas.List.{length-append}
use Rattle.std.proofs.lemmas.List.Elements.{All-append, All-cons, All-head, All-nil, All-tail}
use Rattle.std.proofs.lemmas.List.Folds.{list_any_none}
use Rattle.std.proofs.lemmas.List.Splits.{slice_split_at}
use Rattle.script_lines.specs.Script.{NoDivider}
use Rattle.script_lines.specs.Fields.{then_ok}
use Rattle.script_lines.specs.Grammar.{begun_by, is_blank, line_of_bytes, lines_from, lines_of, script_from}
use Rattle.script_lines.specs.Grammar.{with_lines}
use Rattle.script_lines.specs.Pieces.{lines_after}
use Rattle.script_lines.specs.TwoScripts.{both_scripts, is_divider, two_scripts}

-- ---- a last line without bytes

lines_to_end : (number : ℕ) (lines : List (List ℕ)) → lines_from number (lines ++ [] ∷ []) ≡ lines_from number lines
unfolding lines_from
lines_to_end number [] = refl
lines_to_end number (line ∷ lines) =
    ap (λ later. then_ok (line_of_bytes number line) (λ first. then_ok later (λ others. Ok (option_to_list first ++ others)))) (lines_to_end (number + 1) lines)

-- it gives nothing to a script
pub script_to_end : (cuts_allowed : Bool) (number : ℕ) (lines : List (List ℕ)) → script_from cuts_allowed number (lines ++ [] ∷ []) ≡ script_from cuts_allowed number lines
unfolding script_from
script_to_end cuts_allowed number [] = refl
script_to_end cuts_allowed number (line ∷ lines) =
    ap (λ rest. cond (is_blank line) rest (then_ok (begun_by cuts_allowed number line) (λ script. then_ok (lines_from (number + 1) (lines ++ [] ∷ [])) (with_lines script)))) (script_to_end cuts_allowed (number + 1) lines)
    ∙ ap (λ later. cond (is_blank line) (script_from cuts_allowed (number + 1) lines) (then_ok (begun_by cuts_allowed number line) (λ script. then_ok later (with_lines script)))) (lines_to_end (number + 1) lines)

-- nothing behind a divider is the script of no bytes
pub behind_is : (before : List (List ℕ)) (number : ℕ) (later : Option (List ℕ)) → both_scripts before number (lines_after later) ≡ both_scripts before number (lines_of (unwrap_or later []))
behind_is before number (Some later) = refl
behind_is before number None =
    ap (λ second. then_ok (script_from false 1 before) (λ first. then_ok second (λ second. Ok (first, second)))) (sym (script_to_end false number []))

-- what stands behind a line, and no bytes where nothing does
pub later_or_none : (later : Option (Bor (List ℕ))) (none behind : Bor (List ℕ)) → behind ≡ unwrap_or later none → none.now ≡ [] → behind.now ≡ unwrap_or (option_copied later) []
later_or_none (Some later) none behind is empty = ap (λ b. b.now) is
later_or_none None none behind is empty = ap (λ b. b.now) is ∙ empty

-- ---- the first divider

-- the first element that passes stands behind those that do not
first_behind : {X : Type 0} (p : X → Bool) (xs : List X) (y : X) (ys : List X) → All (λ x. p x ≡ false) xs → p y ≡ true → position_or_len p (xs ++ y ∷ ys) ≡ length xs
first_behind p [] y ys none is = rw is refl
first_behind p (x ∷ xs) y ys none is =
    rw (All-head (λ x. p x ≡ false) x xs none) (omega (arith, first_behind p xs y ys (All-tail (λ x. p x ≡ false) x xs none) is))

passes : {X : Type 0} (p : X → Bool) (xs : List X) (y : X) (ys : List X) → p y ≡ true → list_any p (xs ++ y ∷ ys) ≡ true
passes p [] y ys is = rw is refl
passes p (x ∷ xs) y ys is = rw (passes p xs y ys is) (or-true (p x))

-- the two scripts of lines whose first divider is known
two_at : (before : List (List ℕ)) (divider : List ℕ) (behind : List (List ℕ)) → All (λ line. is_divider line ≡ false) before → is_divider divider ≡ true
    → two_scripts (before ++ divider ∷ behind) ≡ both_scripts before (length before + 2) behind
two_at before divider behind none is =
    let lines = before ++ divider ∷ behind in
    let at : position_or_len is_divider lines ≡ length before = first_behind is_divider before divider behind none is in
    cond-true _ _ _ (passes is_divider before divider behind is)
    ∙ ap (λ n. both_scripts (take n lines) (length (take n lines) + 2) (drop (n + 1) lines)) at
    ∙ ap (λ ls. both_scripts ls (length ls + 2) (drop (length before + 1) lines)) (take-append_seam before (divider ∷ behind))
    ∙ ap (both_scripts before (length before + 2)) (drop-append-add before (divider ∷ behind) 1)

-- ---- lines that were passed

-- the lines before the rest of a text, none of which is a divider; the rest begins with the line of
-- this number
pub record Passed (bytes rest : List ℕ) (number : ℕ) : Type 0 where
  pub text : List ℕ
  pub lines : List (List ℕ)
  pub whole : bytes ≡ text ++ rest
  pub goes_on : (more : List ℕ) → lines_of (text ++ more) ≡ lines ++ lines_of more
  pub undivided : All (λ line. is_divider line ≡ false) lines
  pub count : number ≡ length lines + 1

pub none_passed : (bytes : List ℕ) → Passed bytes bytes 1
none_passed bytes =
    record { text = []; lines = []; whole = refl; goes_on = λ more. refl; undivided = All-nil (λ line. is_divider line ≡ false); count = refl }

regroup : (text line more : List ℕ) → (text ++ (line ++ 10 ∷ [])) ++ more ≡ text ++ (line ++ 10 ∷ more)
regroup text line more = simp append_assoc

pub line_passed : (bytes rest line later : List ℕ) (number : ℕ) → Passed bytes rest number → All (λ b. (b == 10) ≡ false) line → rest ≡ line ++ 10 ∷ later → is_divider line ≡ false
    → Passed bytes later (number + 1)
line_passed bytes rest line later number passed one is other =
    record {
      text = passed.text ++ (line ++ 10 ∷ []);
      lines = passed.lines ++ line ∷ [];
      whole = passed.whole ∙ ap (λ r. passed.text ++ r) is ∙ sym (regroup passed.text line later);
      goes_on = λ more. ap lines_of (regroup passed.text line more) ∙ passed.goes_on (line ++ 10 ∷ more)
          ∙ ap (λ ls. passed.lines ++ ls) (slice_split_at (λ b. b == 10) line 10 more one refl)
          ∙ sym (append_assoc passed.lines (line ∷ []) (lines_of more));
      undivided = All-append (λ line. is_divider line ≡ false) passed.lines (line ∷ []) passed.undivided (All-cons (λ line. is_divider line ≡ false) line [] other (All-nil (λ line. is_divider line ≡ false)));
      count = simp length-append (omega (arith, passed.count));
    }

-- the lines of the whole text
all_lines : (bytes rest line : List ℕ) (lines : List (List ℕ)) (number : ℕ) → (passed : Passed bytes rest number) → lines_of rest ≡ line ∷ lines → lines_of bytes ≡ passed.lines ++ line ∷ lines
all_lines bytes rest line lines number passed cut =
    ap lines_of passed.whole ∙ passed.goes_on rest ∙ ap (λ ls. passed.lines ++ ls) cut

-- the last line is no divider either
pub none_divides : (bytes rest line : List ℕ) (number : ℕ) → Passed bytes rest number → lines_of rest ≡ line ∷ [] → is_divider line ≡ false → two_scripts (lines_of bytes) ≡ Err NoDivider
none_divides bytes rest line number passed cut other =
    ap two_scripts (all_lines bytes rest line [] number passed cut)
    ∙ cond-false _ _ _ (list_any_none is_divider (passed.lines ++ line ∷ [])
    (All-append (λ line. is_divider line ≡ false) passed.lines (line ∷ []) passed.undivided (All-cons (λ line. is_divider line ≡ false) line [] other (All-nil (λ line. is_divider line ≡ false)))))

before_is : (bytes rest : List ℕ) (number : ℕ) → (passed : Passed bytes rest number) → take (length bytes - length rest) bytes ≡ passed.text
before_is bytes rest number passed =
    let count : length bytes - length rest ≡ length passed.text = omega (arith, ap length passed.whole, length-append passed.text rest) in
    ap (λ n. take n bytes) count ∙ ap (take (length passed.text)) passed.whole ∙ take-append_seam passed.text rest

-- the next line is the first divider
pub line_divides : (bytes rest line : List ℕ) (later : Option (List ℕ)) (number : ℕ) → Passed bytes rest number → lines_of rest ≡ line ∷ lines_after later → is_divider line ≡ true
    → two_scripts (lines_of bytes) ≡ both_scripts (lines_of (take (length bytes - length rest) bytes)) (number + 1) (lines_of (unwrap_or later []))
line_divides bytes rest line later number passed cut is =
    let behind = lines_of (unwrap_or later []) in
    let count : length passed.lines + 2 ≡ number + 1 = omega (arith, passed.count) in
    let text_lines : lines_of (take (length bytes - length rest) bytes) ≡ passed.lines ++ [] ∷ [] =
    ap lines_of (before_is bytes rest number passed ∙ sym (append-nil passed.text)) ∙ passed.goes_on [] in
    ap two_scripts (all_lines bytes rest line (lines_after later) number passed cut)
    ∙ two_at passed.lines line (lines_after later) passed.undivided is
    ∙ behind_is passed.lines (length passed.lines + 2) later
    ∙ ap (λ n. both_scripts passed.lines n behind) count
    ∙ ap (λ first. then_ok first (λ first. then_ok (script_from false (number + 1) behind) (λ second. Ok (first, second))))
    (sym (ap (script_from false 1) text_lines ∙ script_to_end false 1 passed.lines))
