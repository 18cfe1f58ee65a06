-- What two local scripts have at the place where they differ.
use Rattle.std.proofs.Common.{◌≡◌, ℕ, ◌<◌, ◌^◌, List, ◌++◌, Option, map, slice_get, refl, sym, subst}
use Rattle.script_actions.specs.Plain.{line_of}
use Rattle.script_actions.specs.declared.step.Line.{Line}
use Rattle.script_courses.specs.GivenBy.{line_steps}
use Rattle.script_courses.specs.Twins.{HasItems, IsTwin, LocalDiffer, Twin, TwinSetting}
use Rattle.store_runs.specs.Steps.{steps_of}
use Rattle.shown_scripts.specs.Differ.{HasAtPlace, IsDifference, IsTextOfAnswer, differ_line}
use Rattle.shown_scripts.specs.Lines.{IsLineInRange, line_at}
use Rattle.shown_scripts.proofs.ApartLemmas.{lines_apart}
use Rattle.twins.specs.Comparing.{Compares}
use Rattle.twins.specs.EntryLines.{IsNumberAt}
use Rattle.twins.specs.Scripts.{Gives, end_in, entries_in}
use Rattle.twins.specs.declared.scripts.LocalScript.{LocalScript}
use Rattle.twins.proofs.LeadLemmas.{leads_answer}
use Rattle.twins.proofs.NumberLemmas.{steps_are}

module _ (at : TwinSetting) (lines : List Line) (script : LocalScript) (given : Gives at (steps_of lines) script)
    (place : ℕ) (number : Option ℕ) (numbered : IsNumberAt at (map line_of lines) place number) where
  -- what a local script has at a place
  is_at : HasAtPlace at (map line_of lines) place number (line_at place (entries_in script) (end_in script))
  is_at = record {
    entries = entries_in script;
    end = end_in script;
    given = subst (λ ss. HasItems at ss (entries_in script) (end_in script)) (sym (steps_are lines)) given.0;
    numbered = numbered;
    is = refl;
  }

module _ (at : TwinSetting) (first second : List Line) (one other : LocalScript)
    (mine : Gives at (steps_of first) one) (theirs : Gives at (steps_of second) other) where
  -- the answer to two scripts
  pub is_difference : (answer : Twin) (text : List ℕ) → Compares one other answer
      → IsTextOfAnswer at (map line_of first) (map line_of second) answer text
      → IsDifference at (map line_of first) (map line_of second) answer text
  is_difference answer text compares is = record {
    twin = subst (λ ss. IsTwin at ss (line_steps (map line_of second)) answer) (sym (steps_are first))
        (subst (λ ss. IsTwin at (steps_of first) ss answer) (sym (steps_are second))
        (leads_answer at (steps_of first) (steps_of second) one other answer mine theirs compares));
    text_is = is;
  }

  -- where they differ, the lines at that place
  pub differ_as : (place : ℕ) (number others : Option ℕ) (text : List ℕ)
      → IsNumberAt at (map line_of first) place number → IsNumberAt at (map line_of second) place others
      → text ≡ differ_line place number others
      ++ (line_at place (entries_in one) (end_in one) ++ line_at place (entries_in other) (end_in other))
      → place < 2 ^ 64 → IsLineInRange (slice_get (entries_in one) place) (end_in one)
      → IsLineInRange (slice_get (entries_in other) place) (end_in other)
      → Compares one other (LocalDiffer place)
      → IsDifference at (map line_of first) (map line_of second) (LocalDiffer place) text
  differ_as place number others text numbered those is small here there compares = is_difference (LocalDiffer place) text compares (record {
    number = number;
    line = line_at place (entries_in one) (end_in one);
    here = is_at at first one mine place number numbered;
    other = others;
    other_line = line_at place (entries_in other) (end_in other);
    there = is_at at second other theirs place others those;
    is = is;
    apart = lines_apart place one other small here there compares;
  })
