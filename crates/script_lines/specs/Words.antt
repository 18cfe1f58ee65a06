-- The numbers and words of a line's members.
-- Source: the script format of docs/FORMATS.md. Our own choice: all of it. A number is written in
-- digits alone: `1.0`, `1e3`, `-0` are none. A word of a table counts in its own case alone.
use Rattle.std.specs.Prelude.{ℕ, Bool, true, false, ◌&&◌, nat_le, List, [], ◌∷◌, codes, bytes_eq}
use Rattle.std.specs.Prelude.{Option, Some, None, option_and_then, if◌then◌else◌}
use Rattle.serde_json.specs.Data.{Data}
use Rattle.serde_json.specs.Find.{as_number, as_str, as_u64}
use Rattle.case_tables.specs.Rows.{first_value}
use Rattle.storage_events.specs.declared.event.AreaKind.{AreaKind}
use Rattle.storage_events.specs.declared.event.AreaKind.TheVariants as area
use Rattle.script_actions.specs.declared.words.Method.{Method}
use Rattle.script_actions.specs.declared.words.Method.TheVariants as method
use Rattle.script_actions.specs.declared.words.Prompt.{Prompt}
use Rattle.script_actions.specs.declared.words.Prompt.TheVariants as prompt

-- the whole number that a value is
abbrev pub number_of : Data → Option ℕ
number_of value = option_and_then as_u64 (as_number value)

-- a number from the first to the last
abbrev pub within : ℕ → ℕ → ℕ → Option ℕ
within first last n = if nat_le first n && nat_le n last then Some n else None

-- what a word of a table stands for
abbrev pub word_of : {A : Type 0} → List (List ℕ × A) → Data → Option A
word_of words value =
    option_and_then (λ text. first_value (λ other. bytes_eq other text) words) (as_str value)

-- the methods of a request
abbrev pub methods : List (List ℕ × Method)
methods =
    (codes "GET", method.Get) ∷ (codes "HEAD", method.Head) ∷ (codes "OPTIONS", method.Options)
    ∷ (codes "POST", method.Post) ∷ (codes "PUT", method.Put) ∷ (codes "DELETE", method.Delete)
    ∷ (codes "PATCH", method.Patch) ∷ []

-- the two areas of a document
abbrev pub areas : List (List ℕ × AreaKind)
areas = (codes "local", area.Local) ∷ (codes "session", area.Session) ∷ []

-- who loads a tab anew: whether it is the page, and not the user
abbrev pub loaders : List (List ℕ × Bool)
loaders = (codes "user", false) ∷ (codes "page", true) ∷ []

-- who navigates a frame: whether it is the frame itself, and not its parent
abbrev pub navigators : List (List ℕ × Bool)
navigators = (codes "parent", false) ∷ (codes "self", true) ∷ []

-- what a user answers to a prompt for access to unpartitioned cookies
abbrev pub answers : List (List ℕ × Prompt)
answers =
    (codes "grant", prompt.Grant) ∷ (codes "deny", prompt.Deny)
    ∷ (codes "dismiss", prompt.Dismiss) ∷ []

-- what a user answers to a prompt for persistent storage, which is not dismissed
abbrev pub consents : List (List ℕ × Prompt)
consents = (codes "grant", prompt.Grant) ∷ (codes "deny", prompt.Deny) ∷ []
