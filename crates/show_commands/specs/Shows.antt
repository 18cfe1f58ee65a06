-- What a command writes that shows what scripts give a site.
-- A clause on bytes speaks of a source or sink that tells its bytes; one that tells none has
-- `None`.
-- Source: none; these are the words of the promise.
use Rattle.std.specs.Prelude.{◌≡◌, ℕ, false, List, Option, Some, None, Ok}
use Rattle.agent_base.specs.Streams.{Takes, TakesPrefix}
use Rattle.origin_site.specs.Site.{PlainSite, site_of_text}
use Rattle.suffix_list.specs.ListText.{RuleList}
use Rattle.command_line.specs.Shows.{Help, PlainShow, Shows as ShowsSite}
use Rattle.command_line.specs.declared.shows.Shown.{Shown}
use Rattle.command_line.specs.declared.shows.Shown.TheVariants.{Difference, Script}
use Rattle.script_actions.specs.Action.{PlainLine}
use Rattle.script_courses.specs.Twins.{Equal, LocalDiffer, Twin, TwinSetting}
use Rattle.replay.specs.BeforeAfter.{BeforeAfter}
use Rattle.replay.specs.Runs.{ListRead, ScriptRead, TakesNone, WritesLine, steps_in}
use Rattle.replay.specs.Twins.{ScriptsRead, setting_of, twin_line}
use Rattle.replay.specs.declared.status.Status.{Status}
use Rattle.replay.specs.declared.status.Status.TheVariants.{Done, Write}
use Rattle.shown_scripts.specs.Differ.{IsDifference}
use Rattle.shown_scripts.specs.Shown.{IsShown}
use Rattle.show_commands.specs.FaultLines.{usage_line}

-- the text of an answer to two scripts, of which this is shown: the line of `twin` where both give
-- the site the same
abbrev pub text_of_answer : Twin → (shown : List ℕ) → List ℕ
text_of_answer (Equal lines) shown = twin_line (Equal lines)
text_of_answer (LocalDiffer place) shown = shown

-- the text of the answer to two scripts
abbrev pub IsAnswerText : TwinSetting → (first second : List PlainLine) → List ℕ → Type 0
IsAnswerText at first second text =
    (answer : Twin) × (shown : List ℕ) × IsDifference at first second answer shown
    × (text ≡ text_of_answer answer shown)

-- the text of what is shown of a site, by the script or the two that a source gave, read to its end
abbrev pub IsTextOfScripts : Shown → RuleList → PlainSite → (start batch : ℕ)
    → (left : BeforeAfter (Option (List ℕ))) → (text : List ℕ) → Type 0
IsTextOfScripts Script list site start batch left text =
    (read : ScriptRead false left)
    × IsShown (setting_of list site start batch) (steps_in read.script) text
IsTextOfScripts Difference list site start batch left text =
    (read : ScriptsRead left)
    × IsAnswerText (setting_of list site start batch) read.first.lines read.second.lines text

-- The site that a word is, the list, and the text of what is shown of the site.
pub record IsShownOf (what : Shown) (word : List ℕ) (start batch : ℕ) (told : Option (List ℕ))
    (left : BeforeAfter (Option (List ℕ))) (text : List ℕ) : Type 0 where
  pub site : PlainSite
  pub named : site_of_text word ≡ Ok site
  pub list : ListRead told
  pub shown : IsTextOfScripts what list.list site start batch left text

-- what the sink took of the usage line
abbrev pub WritesUsage : Status → (taken : BeforeAfter (Option (List ℕ))) → Type 0
WritesUsage Done taken = Takes taken.before taken.after usage_line
WritesUsage Write taken = TakesPrefix taken.before taken.after usage_line
WritesUsage _ taken = TakesNone taken

-- what the sink took of a command; of words that are none it took nothing
abbrev pub Shows : Option PlainShow → Status → (lists : List ℕ → Option (List ℕ))
    → (left taken : BeforeAfter (Option (List ℕ))) → Type 0
Shows (Some (ShowsSite what site list batch checkpoint start)) status lists left taken =
    WritesLine status taken (IsShownOf what site start batch (lists list) left)
Shows (Some Help) status lists left taken = WritesUsage status taken
Shows None status lists left taken = TakesNone taken
