-- When a command comes to its end, but for want of memory.
-- Source: none; these are the words of the promise.
use Rattle.std.specs.Prelude.{◌≡◌, ℕ, Bool, true, false, List, [], Option, Some, None, Result, Ok}
use Rattle.agent_base.specs.Counts.{Rose}
use Rattle.journal.specs.Opening.{IsWithin}
use Rattle.suffix_list.specs.ListText.{RuleList, list_of}
use Rattle.script_lines.specs.Grammar.{script_of_bytes}
use Rattle.script_lines.specs.TwoScripts.{two_of_bytes}
use Rattle.durable_model.specs.Saved.{Saved}
use Rattle.row_opening.specs.Under.{MeansUnder}
use Rattle.command_line.specs.Words.{PlainCommand, Help, Replay, Twin, Dump, Selftest}
use Rattle.replay.specs.BeforeAfter.{BeforeAfter}
use Rattle.replay.specs.Causes.{GrammarOf}
use Rattle.replay.specs.Openings.{Images}
use Rattle.replay.specs.Words.{IsSite}

-- the list of a path is told and has no fault, and this holds of it
abbrev pub ListIs : (told : Option (List ℕ)) → (Holds : RuleList → Type 0) → Type 0
ListIs None Holds = ⊥
ListIs (Some bytes) Holds = (list : RuleList) × (list_of bytes ≡ Ok list) × Holds list

-- one script or two are told and have no fault, and this holds of them
abbrev pub ScriptIs : {Scripts : Type 0} → GrammarOf Scripts → (told : Option (List ℕ))
    → (Holds : Scripts → Type 0) → Type 0
ScriptIs grammar None Holds = ⊥
ScriptIs {Scripts} grammar (Some bytes) Holds =
    (script : Scripts) × (grammar bytes ≡ Ok script) × Holds script

-- each of these images is within the limit of size, and stands for a durable state, under whichever
-- list; an unborn one under this
abbrev pub AreStores : (images : Images) → RuleList → Type 0
AreStores images list =
    (file : List ℕ) → images file → IsWithin true file
    × ((kept : List ℕ) × (d : Saved) × (n : ℕ) × MeansUnder list.digest kept file d n)

-- What the words name is told, and has no fault: a site, a list, the script or the scripts that a
-- source has left, and what the store of a path may hold. No cut of the power is to come.
abbrev pub IsSuitable : Option PlainCommand → (lists : List ℕ → Option (List ℕ)) → (tells : Bool)
    → (stores : List ℕ → Images) → (script : Option (List ℕ)) → Type 0
IsSuitable None lists tells stores script = ⊥
IsSuitable (Some Help) lists tells stores script = Unit {0}
IsSuitable (Some (Selftest seed)) lists tells stores script = Unit {0}
IsSuitable (Some (Twin site list batch checkpoint start)) lists tells stores script =
    IsSite site × ListIs (lists list) (λ rules. Unit {0})
    × ScriptIs two_of_bytes script (λ scripts. Unit {0})
IsSuitable (Some (Replay list None batch checkpoint start)) lists tells stores script =
    ListIs (lists list) (λ rules. Unit {0})
    × ScriptIs (script_of_bytes true) script (λ read. read.cuts ≡ [])
IsSuitable (Some (Replay list (Some store) batch checkpoint start)) lists tells stores script =
    (tells ≡ true) × ListIs (lists list) (AreStores (stores store))
    × ScriptIs (script_of_bytes false) script (λ read. Unit {0})
IsSuitable (Some (Dump list store)) lists tells stores script =
    (tells ≡ true) × ListIs (lists list) (AreStores (stores store))

-- no call of the outside failed: the counts of host, stores, script and output did not rise
pub record NothingFailed (host stores script out : BeforeAfter ℕ) : Type 0 where
  pub by_host : Rose host.before host.after → ⊥
  pub by_store : Rose stores.before stores.after → ⊥
  pub by_script : Rose script.before script.after → ⊥
  pub by_output : Rose out.before out.after → ⊥
