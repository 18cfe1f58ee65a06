-- What is shown of two scripts whose local scripts differ: the answer, and the two lines that
-- differ. Source: none; these are the words of the promise.
-- Our own choice: the answer is a JSON object with its members in this order. It has the place from
-- 0, and the numbers of the lines that gave the entries there, `null` where the entries are over.
-- The lines of the two local scripts at that place follow, an end's where the entries are over;
-- they are never equal. Where both scripts give a site the same, nothing is shown.
use Rattle.std.specs.Prelude.{◌≡◌, ◌≢◌, ℕ, List, [], ◌++◌, Option, Some, None, codes, decimal}
use Rattle.std.specs.Prelude.{Result, Ok, Err}
use Rattle.agent_base.specs.Streams.{Takes, TakesPrefix}
use Rattle.local_scripts.specs.Items.{AgentItem}
use Rattle.script_actions.specs.Action.{PlainLine}
use Rattle.script_courses.specs.GivenBy.{line_steps}
use Rattle.script_courses.specs.Twins.{Equal, HasItems, IsTwin, LocalDiffer, TwinSetting}
use Rattle.script_courses.specs.Twins as model
use Rattle.shown_scripts.specs.Lines.{line_at}
use Rattle.shown_scripts.specs.declared.fault.ShowFault.{ShowFault}
use Rattle.shown_scripts.specs.declared.fault.ShowFault.TheVariants.{NoMemory, Write}
use Rattle.twins.specs.EntryLines.{IsNumberAt}
use Rattle.twins.specs.Plain.{plain_twin}
use Rattle.twins.specs.declared.answer.Twin.{Twin}

-- ---- the line of the answer

-- a number, or `null`
abbrev pub number_text : Option ℕ → List ℕ
number_text (Some number) = decimal number
number_text None = codes "null"

-- the answer to two scripts whose local scripts differ at this place, by lines of these numbers
abbrev pub differ_line : (place : ℕ) → (first second : Option ℕ) → List ℕ
differ_line place first second =
    codes "{\"differ\":" ++ (decimal place
    ++ (codes ",\"first\":" ++ (number_text first
    ++ (codes ",\"second\":" ++ (number_text second ++ codes ",\"twin\":\"local\"}\n")))))

-- ---- one script at a place

-- what a script has at a place: the number of the line that gives the entry, and the entry's line,
-- or that of the end where the entries are over
pub record HasAtPlace (at : TwinSetting) (lines : List PlainLine) (place : ℕ) (number : Option ℕ)
    (line : List ℕ) : Type 0 where
  pub entries : List AgentItem
  pub end : AgentItem
  pub given : HasItems at (line_steps lines) entries end
  pub numbered : IsNumberAt at lines place number
  pub is : line ≡ line_at place entries end

-- ---- two scripts

-- the text of two scripts whose local scripts differ at this place: the answer, and the two lines,
-- which are not equal
pub record DifferAs (at : TwinSetting) (first second : List PlainLine) (place : ℕ)
    (text : List ℕ) : Type 0 where
  pub number : Option ℕ
  pub line : List ℕ
  pub here : HasAtPlace at first place number line
  pub other : Option ℕ
  pub other_line : List ℕ
  pub there : HasAtPlace at second place other other_line
  pub is : text ≡ differ_line place number other ++ (line ++ other_line)
  pub apart : line ≢ other_line

-- the text that is shown with an answer to two scripts: none where they give the site the same
abbrev pub IsTextOfAnswer : TwinSetting → (first second : List PlainLine) → model.Twin → List ℕ
    → Type 0
IsTextOfAnswer at first second (Equal lines) text = text ≡ []
IsTextOfAnswer at first second (LocalDiffer place) text = DifferAs at first second place text

-- this is the answer to two scripts, and the text that is shown with it
pub record IsDifference (at : TwinSetting) (first second : List PlainLine) (answer : model.Twin)
    (text : List ℕ) : Type 0 where
  pub twin : IsTwin at (line_steps first) (line_steps second) answer
  pub text_is : IsTextOfAnswer at first second answer text

-- what the sink took of two scripts, by how it ended
abbrev pub TakesDifference : TwinSetting → (first second : List PlainLine)
    → Result Twin ShowFault → (before after : Option (List ℕ)) → Type 0
TakesDifference at first second (Ok answer) before after =
    (text : List ℕ) × IsDifference at first second (plain_twin answer) text
    × Takes before after text
TakesDifference at first second (Err Write) before after =
    (answer : model.Twin) × (text : List ℕ) × IsDifference at first second answer text
    × TakesPrefix before after text
TakesDifference at first second (Err NoMemory) before after = Takes before after []
