-- The lines of a text one after another, and the script that they give.
use Rattle.std.proofs.Common.{◌≡◌, ℕ, ◌+◌, ◌<◌, ◌≤◌, Bool, true, false, List, [], ◌∷◌, ◌++◌, length, take, drop}
use Rattle.std.proofs.Common.{Option, Some, None, Result, Ok, Err, refl, ap, sym, ◌∙◌, arith}
use Rattle.std.proofs.Common.{◌==◌, All, append_assoc, append-nil, get_or, position, map, option_map}
use Rattle.std.specs.Prelude.{option_to_list}
use Rattle.std.specs.List.{slice_split, position_or_len}
use Rattle.std.proofs.lemmas.Bool.{cond-true, cond-false, eqb-true}
use Rattle.std.proofs.lemmas.Grind.{common_steps}
use Rattle.std.proofs.lemmas.List.Quantifiers.{position-Some}
use Rattle.std.proofs.lemmas.List.Splits.{slice_split_first, slice_split_none}
use Rattle.std.proofs.lemmas.List.Sums.{fails_before_first, split_at_first}
use Rattle.script_actions.specs.Action.{PlainLine}
use Rattle.script_lines.specs.Script.{PlainScript, PlainFault}
use Rattle.std.proofs.lemmas.List.{get_or-take, length-take, map-append}
use Rattle.script_actions.specs.declared.step.Line.{Line}
use Rattle.script_lines.specs.Fields.{then_ok}
use Rattle.script_lines.specs.Grammar.{begun_by, is_blank, line_of_bytes, lines_from, lines_of, script_from}
use Rattle.script_lines.specs.Grammar.{with_lines}
use Rattle.script_lines.specs.Pieces.{after}
use Rattle.script_actions.specs.Plain.{line_of}

-- where an element passes first, the first part ends
pub cut_at : (p : ℕ → Bool) (xs : List ℕ) (k : ℕ) → position p xs ≡ Some k → slice_split p xs ≡ take k xs ∷ slice_split p (drop (k + 1) xs)
cut_at p xs k found =
    let at : position_or_len p xs ≡ k = grind (arith, common_steps) in
    let inside : position_or_len p xs < length xs = omega (arith, at, (position-Some p xs k 0 found).0) in
    slice_split_first p xs 0 inside ∙ ap (λ n. take n xs ∷ slice_split p (drop (n + 1) xs)) at

-- none passes anywhere
pub fails_all : (p : ℕ → Bool) (xs : List ℕ) → position p xs ≡ None → All (λ x. p x ≡ false) xs
fails_all p xs none =
    let whole : length xs ≤ position_or_len p xs = grind (arith, common_steps) in
    λ k d inside. fails_before_first p xs k d (omega arith)

-- where none passes, the list is the one part
pub cut_none : (p : ℕ → Bool) (xs : List ℕ) → position p xs ≡ None → slice_split p xs ≡ xs ∷ []
cut_none p xs none = slice_split_none p xs (fails_all p xs none)

-- the same list in its parts: what stands before the place, the byte there, and what stands behind
pub place_cuts : (n : ℕ) (xs : List ℕ) (k : ℕ) → position (λ b. b == n) xs ≡ Some k → xs ≡ take k xs ++ n ∷ drop (k + 1) xs
place_cuts n xs k found =
    let at : position_or_len (λ b. b == n) xs ≡ k = grind (arith, common_steps) in
    let first = position-Some (λ b. b == n) xs k 0 found in
    let inside : position_or_len (λ b. b == n) xs < length xs = omega (arith, at, first.0) in
    split_at_first (λ b. b == n) xs 0 inside
    ∙ ap (λ j. take j xs ++ get_or xs j 0 ∷ drop (j + 1) xs) at
    ∙ ap (λ b. take k xs ++ b ∷ drop (k + 1) xs) (eqb-true (get_or xs k 0) n first.1)

-- no element before the place passes
pub fails_before : (p : ℕ → Bool) (xs : List ℕ) (k : ℕ) → position p xs ≡ Some k → All (λ x. p x ≡ false) (take k xs)
fails_before p xs k found =
    λ j d inside.
    let below : j < k = omega (arith, length-take k xs, inside) in
    ap p (get_or-take k xs j d below) ∙ (position-Some p xs k d found).2 j below

joined : (done first : List PlainLine) (later : Result (List PlainLine) PlainFault)
    → then_ok (then_ok later (λ lines. Ok (first ++ lines))) (after done) ≡ then_ok later (after (done ++ first))
joined done first (Ok later) = ap Ok (sym (append_assoc done first later))
joined done first (Err why) = refl

-- a line that was read goes to those before it
pub line_read : (number : ℕ) (line : List ℕ) (lines : List (List ℕ)) (done : List PlainLine) (first : Option PlainLine)
    → line_of_bytes number line ≡ Ok first
    → then_ok (lines_from number (line ∷ lines)) (after done) ≡ then_ok (lines_from (number + 1) lines) (after (done ++ option_to_list first))
unfolding lines_from
line_read number line lines done first is =
    ap (λ r. then_ok (then_ok r (λ first. then_ok (lines_from (number + 1) lines) (λ later. Ok (option_to_list first ++ later)))) (after done)) is
    ∙ joined done (option_to_list first) (lines_from (number + 1) lines)

-- the fault of a line is that of the script
pub line_fault : (number : ℕ) (line : List ℕ) (lines : List (List ℕ)) (done : List PlainLine) (why : PlainFault)
    → line_of_bytes number line ≡ Err why → then_ok (lines_from number (line ∷ lines)) (after done) ≡ Err why
unfolding lines_from
line_fault number line lines done why is =
    ap (λ r. then_ok (then_ok r (λ first. then_ok (lines_from (number + 1) lines) (λ later. Ok (option_to_list first ++ later)))) (after done)) is

-- behind the last line there are no more
pub no_more_lines : (number : ℕ) (done : List PlainLine) → then_ok (lines_from number []) (after done) ≡ Ok done
unfolding lines_from
no_more_lines number done = ap Ok (append-nil done)

-- the lines so far, with the one that was read
pub lines_kept : (lines : List Line) (line : Option Line) → map line_of (lines ++ option_to_list line) ≡ map line_of lines ++ option_to_list (option_map line_of line)
lines_kept lines (Some line) = map-append line_of lines (line ∷ [])
lines_kept lines None = map-append line_of lines []

-- a line more was read: the script goes on behind it
pub script_goes_on : (script : Result (List PlainLine) PlainFault) (number : ℕ) (rest line : List ℕ) (lines : List (List ℕ)) (old new : List Line) (read : Option Line)
    → script ≡ then_ok (lines_from number (lines_of rest)) (after (map line_of old)) → lines_of rest ≡ line ∷ lines
    → line_of_bytes number line ≡ Ok (option_map line_of read) → new ≡ old ++ option_to_list read
    → script ≡ then_ok (lines_from (number + 1) lines) (after (map line_of new))
script_goes_on script number rest line lines old new read so_far cut is made =
    so_far ∙ ap (λ ls. then_ok (lines_from number ls) (after (map line_of old))) cut
    ∙ line_read number line lines (map line_of old) (option_map line_of read) is
    ∙ ap (λ done. then_ok (lines_from (number + 1) lines) (after done)) (sym (lines_kept old read) ∙ ap (map line_of) (sym made))

-- the next line has a fault: so has the script
pub script_has_fault : (script : Result (List PlainLine) PlainFault) (number : ℕ) (rest line : List ℕ) (lines : List (List ℕ)) (old : List Line) (why : PlainFault)
    → script ≡ then_ok (lines_from number (lines_of rest)) (after (map line_of old)) → lines_of rest ≡ line ∷ lines
    → line_of_bytes number line ≡ Err why → script ≡ Err why
script_has_fault script number rest line lines old why so_far cut is =
    so_far ∙ ap (λ ls. then_ok (lines_from number ls) (after (map line_of old))) cut ∙ line_fault number line lines (map line_of old) why is

-- ---- the first line

-- a line that is skipped
pub skipped : (cuts_allowed : Bool) (number : ℕ) (line : List ℕ) (lines : List (List ℕ)) → is_blank line ≡ true → script_from cuts_allowed number (line ∷ lines) ≡ script_from cuts_allowed (number + 1) lines
unfolding script_from
skipped cuts_allowed number line lines blank = cond-true _ _ _ blank

begins : (cuts_allowed : Bool) (number : ℕ) (line : List ℕ) (lines : List (List ℕ)) → is_blank line ≡ false
    → script_from cuts_allowed number (line ∷ lines) ≡ then_ok (begun_by cuts_allowed number line) (λ script. then_ok (lines_from (number + 1) lines) (with_lines script))
unfolding script_from
begins cuts_allowed number line lines seen = cond-false _ _ _ seen

-- behind the last line there is no script but the empty one
pub nothing_begins : (cuts_allowed : Bool) (number : ℕ) → script_from cuts_allowed number [] ≡ Ok (record { cuts = []; lines = [] })
unfolding script_from
nothing_begins cuts_allowed number = refl

-- the fault of the first line is that of the script
pub first_has_fault : (cuts_allowed : Bool) (number : ℕ) (line : List ℕ) (lines : List (List ℕ)) (why : PlainFault) → is_blank line ≡ false
    → begun_by cuts_allowed number line ≡ Err why → script_from cuts_allowed number (line ∷ lines) ≡ Err why
first_has_fault cuts_allowed number line lines why seen is =
    begins cuts_allowed number line lines seen ∙ ap (λ begun. then_ok begun (λ script. then_ok (lines_from (number + 1) lines) (with_lines script))) is

behind : (script : PlainScript) (later : Result (List PlainLine) PlainFault)
    → then_ok later (with_lines script) ≡ then_ok (then_ok later (after script.lines)) (λ lines. Ok (record { cuts = script.cuts; lines = lines }))
behind script (Ok later) = refl
behind script (Err why) = refl

-- the first line was read: the script is its own, with the lines behind it, or their fault
pub first_read : (cuts_allowed : Bool) (number : ℕ) (line : List ℕ) (lines : List (List ℕ)) (script : PlainScript) (later : Result (List PlainLine) PlainFault) → is_blank line ≡ false
    → begun_by cuts_allowed number line ≡ Ok script → then_ok (lines_from (number + 1) lines) (after script.lines) ≡ later
    → script_from cuts_allowed number (line ∷ lines) ≡ then_ok later (λ lines. Ok (record { cuts = script.cuts; lines = lines }))
first_read cuts_allowed number line lines script later seen is then =
    begins cuts_allowed number line lines seen ∙ ap (λ begun. then_ok begun (λ script. then_ok (lines_from (number + 1) lines) (with_lines script))) is
    ∙ behind script (lines_from (number + 1) lines) ∙ ap (λ later. then_ok later (λ lines. Ok (record { cuts = script.cuts; lines = lines }))) then
