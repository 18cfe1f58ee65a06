-- What is shown of two scripts is equal exactly where they give a site the same local script.
-- Source: none; this is a law on definitions of this repository.
use Rattle.std.specs.Prelude.{◌≡◌, ◌↔◌, ℕ, List}
use Rattle.script_actions.specs.Action.{PlainStep}
use Rattle.script_courses.specs.Twins.{TwinSetting, script_in}
use Rattle.shown_scripts.specs.Shown.{IsShown}

-- the texts are equal exactly where the local scripts are
abbrev pub ShowsAsGiven : Type 0
ShowsAsGiven = (at : TwinSetting) (first second : List PlainStep) (one other : List ℕ)
    → IsShown at first one → IsShown at second other
    → (one ≡ other) ↔ (script_in at first ≡ script_in at second)
