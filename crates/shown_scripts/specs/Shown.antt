-- What is shown of one script: the lines of the local script that it gives a site.
-- A clause on bytes speaks of a sink that tells its bytes; one that tells none has `None`.
-- Source: none; these are the words of the promise.
-- Our own choice: a line for each item and one for the end. What stops has written a part of the
-- text from the start, and nothing where memory was wanting.
use Rattle.std.specs.Prelude.{◌≡◌, ℕ, List, [], Option, Result, Ok, Err}
use Rattle.agent_base.specs.Counts.{Rose}
use Rattle.agent_base.specs.Streams.{Takes, TakesPrefix}
use Rattle.local_scripts.specs.Items.{AgentItem}
use Rattle.script_actions.specs.Action.{PlainStep}
use Rattle.script_courses.specs.Twins.{HasItems, TwinSetting}
use Rattle.shown_scripts.specs.Lines.{IsText}
use Rattle.shown_scripts.specs.declared.fault.ShowFault.{ShowFault}
use Rattle.shown_scripts.specs.declared.fault.ShowFault.TheVariants.{NoMemory, Write}

-- the entries and the end of the local script that a script gives the site, and their text
pub record IsShown (at : TwinSetting) (steps : List PlainStep) (text : List ℕ) : Type 0 where
  pub entries : List AgentItem
  pub end : AgentItem
  pub given : HasItems at steps entries end
  pub lines : IsText entries end text

-- what the sink took of a text of which this holds, by how it ended
abbrev pub TakesShown : {T : Type 0} → Result T ShowFault → (before after : Option (List ℕ))
    → (Is : List ℕ → Type 0) → Type 0
TakesShown (Ok done) before after Is = (text : List ℕ) × Is text × Takes before after text
TakesShown (Err Write) before after Is = (text : List ℕ) × Is text × TakesPrefix before after text
TakesShown (Err NoMemory) before after Is = Takes before after []

-- the count of faults of the output: writing failed where it rose, and else it stays
abbrev pub ShowCounts : {T : Type 0} → Result T ShowFault → (before after : ℕ) → Type 0
ShowCounts (Ok done) before after = after ≡ before
ShowCounts (Err Write) before after = Rose before after
ShowCounts (Err NoMemory) before after = after ≡ before
