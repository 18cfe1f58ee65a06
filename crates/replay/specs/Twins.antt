-- What is written of two scripts: whether they give a site the same local script.
-- Source: none; these are the words of the promise.
-- Our own choice: the answer is a JSON object with its members in this order.
use Rattle.std.specs.Prelude.{◌≡◌, ℕ, List, [], ◌++◌, codes, decimal, Option, Some, IfSome, Ok}
use Rattle.agent_base.specs.Streams.{Gives}
use Rattle.origin_site.specs.Site.{PlainSite, site_of_text}
use Rattle.suffix_list.specs.ListText.{RuleList}
use Rattle.script_lines.specs.Script.{PlainScript}
use Rattle.script_lines.specs.TwoScripts.{two_of_bytes}
use Rattle.command_line.specs.Words.{PlainCommand}
use Rattle.command_line.specs.Words as words
use Rattle.script_courses.specs.Twins.{Equal, IsTwin, LocalDiffer, Twin, TwinSetting}
use Rattle.replay.specs.BeforeAfter.{BeforeAfter}
use Rattle.replay.specs.Runs.{ListRead, WritesLine, steps_in}
use Rattle.replay.specs.declared.status.Status.{Status}

-- the line of an answer
abbrev pub twin_line : Twin → List ℕ
twin_line (Equal lines) =
    codes "{\"equal\":" ++ (decimal lines ++ codes ",\"twin\":\"equal\"}\n")
twin_line (LocalDiffer entry) =
    codes "{\"differ\":" ++ (decimal entry ++ codes ",\"twin\":\"local\"}\n")

-- The two scripts that a source gave, read to its end.
pub record ScriptsRead (left : BeforeAfter (Option (List ℕ))) : Type 0 where
  pub bytes : List ℕ
  pub first : PlainScript
  pub second : PlainScript
  pub given : Gives left.before left.after bytes
  pub ended : IfSome left.after (λ rest. rest ≡ [])
  pub grammar : two_of_bytes bytes ≡ Ok (first, second)

-- how the scripts are run: under this list, for this site, from this second on, in batches of this
-- length
abbrev pub setting_of : RuleList → PlainSite → (start batch : ℕ) → TwinSetting
setting_of list site start batch =
    record { rules = list.rules; site = site; start = start; batch = batch }

-- The site that a word is, the list and the two scripts, and the answer whose line this is.
pub record IsAnswered (word : List ℕ) (start batch : ℕ) (told : Option (List ℕ))
    (left : BeforeAfter (Option (List ℕ))) (line : List ℕ) : Type 0 where
  pub site : PlainSite
  pub named : site_of_text word ≡ Ok site
  pub list : ListRead told
  pub scripts : ScriptsRead left
  pub answer : Twin
  pub twin : IsTwin (setting_of list.list site start batch) (steps_in scripts.first)
      (steps_in scripts.second) answer
  pub is : line ≡ twin_line answer

-- what the sink took of a comparison of two scripts, whose word for a site is this
abbrev pub WritesTwin : (word : List ℕ) → (start batch : ℕ) → Status → (told : Option (List ℕ))
    → (left taken : BeforeAfter (Option (List ℕ))) → Type 0
WritesTwin word start batch status told left taken =
    WritesLine status taken (IsAnswered word start batch told left)

-- the same of a command; of others it says nothing
abbrev pub Compares : Option PlainCommand → Status → (lists : List ℕ → Option (List ℕ))
    → (left taken : BeforeAfter (Option (List ℕ))) → Type 0
Compares (Some (words.Twin site list batch checkpoint start)) status lists left taken =
    WritesTwin site start batch status (lists list) left taken
Compares command status lists left taken = Unit {0}
