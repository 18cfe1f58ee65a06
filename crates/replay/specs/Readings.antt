-- Why list and scripts are not read.
-- Source: none.
-- Our own choice: the statuses.
use Rattle.std.specs.Prelude.{◌≡◌, ◌⊎◌, ℕ, false, List, Option, Some, IfSome, Ok, Err}
use Rattle.agent_base.specs.Counts.{Rose}
use Rattle.suffix_list.specs.ListText.{RuleList, list_of}
use Rattle.script_lines.specs.Grammar.{script_of_bytes}
use Rattle.script_lines.specs.Plain.{fault_of}
use Rattle.script_lines.specs.Script.{PlainFault}
use Rattle.script_lines.specs.declared.script.ScriptFault.{ScriptFault}
use Rattle.script_lines.specs.declared.script.ScriptFault.TheVariants.{NoMemory, ReadFault}
use Rattle.hosts.specs.Hosts.{HasLeft}
use Rattle.replay.specs.BeforeAfter.{BeforeAfter}
use Rattle.replay.specs.Causes.{GrammarOf, ScriptFaulty, ScriptFine}
use Rattle.replay.specs.Endings.{IsOfList}
use Rattle.replay.specs.declared.status.Status.{Status}
use Rattle.replay.specs.declared.status.Status.TheVariants.{Done, Script, List as ListStatus}
use Rattle.replay.specs.declared.status.Status.TheVariants.{Memory, Read, Write}

-- ---- the list

-- the list that was read is the one that the host told, where it told one
abbrev pub IsListOf : (told : Option (List ℕ)) → RuleList → Type 0
IsListOf told list = (bytes : List ℕ) × (HasLeft told (Some bytes) × (list_of bytes ≡ Ok list))

-- where the host tells the list, reading it failed only at an opened list
abbrev pub ListUnread : Status → (told : Option (List ℕ)) → (reads : BeforeAfter ℕ) → Type 0
ListUnread Read told reads = IfSome told (λ bytes. Rose reads.before reads.after)
ListUnread _ told reads = Unit {0}

-- why the list could not be read, or was refused; only these statuses are answered
abbrev pub ListRefusal : Status → (told : Option (List ℕ)) → (faults : BeforeAfter ℕ) → Type 0
ListRefusal (ListStatus why) told faults =
    IfSome told (λ bytes. list_of bytes ≡ Err why) × IsOfList why × (faults.after ≡ faults.before)
ListRefusal Read told faults = Rose faults.before faults.after
ListRefusal Memory told faults = faults.after ≡ faults.before
ListRefusal _ told faults = ⊥

-- ---- the script

-- why one script or two could not be read, or were refused for a fault of these; only these
-- statuses are answered
abbrev pub ScriptRefusal : {Scripts : Type 0} → GrammarOf Scripts
    → (IsOf : PlainFault → Type 0) → Status → (told : Option (List ℕ)) → (faults : BeforeAfter ℕ)
    → Type 0
ScriptRefusal grammar IsOf (Script why) told faults =
    ScriptFaulty grammar told (fault_of why) × IsOf (fault_of why)
    × (faults.after ≡ faults.before)
ScriptRefusal grammar IsOf Read told faults = Rose faults.before faults.after
ScriptRefusal grammar IsOf Memory told faults = faults.after ≡ faults.before
ScriptRefusal grammar IsOf _ told faults = ⊥

-- the status of scripts that were not read, or are refused
abbrev pub refusal_status : ScriptFault → Status
refusal_status ReadFault = Read
refusal_status NoMemory = Memory
refusal_status why = Script why

-- why a run over the store of a path could not read: a call on the script failed, or the script has
-- no fault and the store could not be opened
abbrev pub StoreReadCause : Status → (told : Option (List ℕ)) → (host script : BeforeAfter ℕ)
    → Type 0
StoreReadCause Read told host script =
    Rose script.before script.after
    ⊎ (ScriptFine (script_of_bytes false) told × Rose host.before host.after)
StoreReadCause _ told host script = Unit {0}

-- the count of faults of a script's source rose where reading it failed, and stays else
abbrev pub ScriptCounts : Status → (script : BeforeAfter ℕ) → Type 0
ScriptCounts Read script = Rose script.before script.after
ScriptCounts _ script = script.after ≡ script.before

-- a status that comes after a site and a list were read, where scripts may have these faults
abbrev pub HasScripts : (IsOf : PlainFault → Type 0) → Status → Type 0
HasScripts IsOf Done = Unit {0}
HasScripts IsOf (Script why) = IsOf (fault_of why)
HasScripts IsOf Read = Unit {0}
HasScripts IsOf Write = Unit {0}
HasScripts IsOf Memory = Unit {0}
HasScripts IsOf status = ⊥
