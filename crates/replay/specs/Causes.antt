-- What each status of a run means. Want of memory alone is free.
-- Source: none.
-- Our own choice: the statuses, and the order in which words, list, script and store are read.
use Rattle.std.specs.Prelude.{◌≡◌, ◌⊎◌, ◌<◌, ℕ, Bool, true, false, List, Option, Some, None, IfSome, Err}
use Rattle.std.specs.Prelude.{IsOk, Result}
use Rattle.agent_base.specs.Counts.{Rose}
use Rattle.suffix_list.specs.ListText.{list_of}
use Rattle.script_lines.specs.Script.{PlainFault}
use Rattle.script_lines.specs.Grammar.{script_of_bytes}
use Rattle.script_lines.specs.TwoScripts.{two_of_bytes}
use Rattle.script_lines.specs.Plain.{fault_of}
use Rattle.hosts.specs.Hosts.{LeavesOthers, raised}
use Rattle.command_line.specs.Words.{PlainCommand, Replay, Twin, Dump}
use Rattle.replay.specs.BeforeAfter.{BeforeAfter}
use Rattle.replay.specs.Words.{IsNoSite}
use Rattle.replay.specs.declared.status.Status.{Status}
use Rattle.replay.specs.declared.status.Status.TheVariants.{Done, Script, List as ListStatus, Store, Read}
use Rattle.replay.specs.declared.status.Status.TheVariants.{InUse, Write, Device}

-- a script may have a line with cuts where it runs over a store in memory
abbrev pub allows_cuts : (store : Option (List ℕ)) → Bool
allows_cuts None = true
allows_cuts (Some path) = false

-- what bytes are as one script, or as two
abbrev pub GrammarOf : Type 0 → Type 0
GrammarOf Scripts = List ℕ → Result Scripts PlainFault

-- bytes, where they are told, have this fault first in a grammar
abbrev pub ScriptFaulty : {Scripts : Type 0}
    → GrammarOf Scripts → Option (List ℕ) → PlainFault → Type 0
ScriptFaulty grammar told why = IfSome told (λ bytes. grammar bytes ≡ Err why)

-- bytes, where they are told, have no fault in a grammar
abbrev pub ScriptFine : {Scripts : Type 0} → GrammarOf Scripts → Option (List ℕ) → Type 0
ScriptFine grammar told = IfSome told (λ bytes. IsOk (grammar bytes))

-- why one script is refused, or two: this is the first fault. Every later status shows no fault.
abbrev pub ScriptCauseOf : {Scripts : Type 0}
    → GrammarOf Scripts → Status → Option (List ℕ) → Type 0
ScriptCauseOf grammar (Script why) told = ScriptFaulty grammar told (fault_of why)
ScriptCauseOf grammar Done told = ScriptFine grammar told
ScriptCauseOf grammar Write told = ScriptFine grammar told
ScriptCauseOf grammar Device told = ScriptFine grammar told
ScriptCauseOf grammar (Store why) told = ScriptFine grammar told
ScriptCauseOf grammar InUse told = ScriptFine grammar told
ScriptCauseOf grammar status told = Unit {0}

-- the same of a command; others than runs and comparisons of scripts read none
abbrev pub ScriptCause : Option PlainCommand → Status → Option (List ℕ) → Type 0
ScriptCause (Some (Replay list store batch checkpoint start)) status told =
    ScriptCauseOf (script_of_bytes (allows_cuts store)) status told
ScriptCause (Some (Twin site list batch checkpoint start)) status told =
    ScriptCauseOf two_of_bytes status told
ScriptCause command status told = Unit {0}

-- why the list is refused: this is its first fault. Every later status shows that it has none.
abbrev pub ListCause : Status → Option (List ℕ) → Type 0
ListCause (ListStatus why) told = IfSome told (λ bytes. list_of bytes ≡ Err why)
ListCause Done told = IfSome told (λ bytes. IsOk (list_of bytes))
ListCause (Script why) told = IfSome told (λ bytes. IsOk (list_of bytes))
ListCause (Store why) told = IfSome told (λ bytes. IsOk (list_of bytes))
ListCause InUse told = IfSome told (λ bytes. IsOk (list_of bytes))
ListCause Write told = IfSome told (λ bytes. IsOk (list_of bytes))
ListCause Device told = IfSome told (λ bytes. IsOk (list_of bytes))
ListCause status told = Unit {0}

-- the counts of a host rose by the faults of a store that was closed, and by nothing else
abbrev pub RoseByStore : (host stores : BeforeAfter ℕ) → Type 0
RoseByStore host stores =
    (faults : ℕ) × (host.after ≡ raised faults host.before)
    × (stores.after ≡ raised faults stores.before)

-- the counts of faults of host and script: where reading failed, the host's rose and no store's
-- faults are in it, or the script's rose; where the store is in use, the host's did; else they
-- stay, but for what a store's disk counted
abbrev pub ReadCounts : Status → (host stores script : BeforeAfter ℕ) → Type 0
ReadCounts Read host stores script =
    (stores.after ≡ stores.before) × (Rose host.before host.after ⊎ Rose script.before script.after)
ReadCounts InUse host stores script =
    (stores.after ≡ stores.before) × Rose host.before host.after × (script.after ≡ script.before)
ReadCounts status host stores script =
    RoseByStore host stores × (script.after ≡ script.before)

-- the count of faults of the output: writing failed where it rose, and else it stays
abbrev pub WriteCounts : Status → (out : BeforeAfter ℕ) → Type 0
WriteCounts Write out = Rose out.before out.after
WriteCounts status out = out.after ≡ out.before

-- the count of faults of the stores that were closed, at a dump: it rose at 8, and stays else
abbrev pub DumpCounts : Status → (stores : BeforeAfter ℕ) → Type 0
DumpCounts Device stores = Rose stores.before stores.after
DumpCounts status stores = stores.after ≡ stores.before

-- the same of each command: a call failed. A run of a script may go on behind it, and a dump not.
abbrev pub DeviceCounts : Option PlainCommand → Status → (stores : BeforeAfter ℕ) → Type 0
DeviceCounts (Some (Replay list (Some store) batch checkpoint start)) Device stores =
    Rose stores.before stores.after
DeviceCounts (Some (Dump list store)) status stores = DumpCounts status stores
DeviceCounts command status stores = Unit {0}

-- the store that a command names could not be opened, and the host's count rose. A run comes to its
-- store behind its script, which has no fault.
abbrev pub StoreUnopened : Option PlainCommand → (script : Option (List ℕ)) → (host : BeforeAfter ℕ)
    → Type 0
StoreUnopened (Some (Replay list (Some store) batch checkpoint start)) script host =
    ScriptFine (script_of_bytes false) script × Rose host.before host.after
StoreUnopened (Some (Dump list store)) script host = Rose host.before host.after
StoreUnopened command script host = ⊥

-- why reading failed, where the host tells the list: a call on an opened list failed, or the list
-- has no fault and a call on the script failed, or the store could not be opened
abbrev pub ReadCause : Option PlainCommand → Status → (list script : Option (List ℕ))
    → (host reads scripts : BeforeAfter ℕ) → Type 0
ReadCause command Read list script host reads scripts =
    IfSome list (λ bytes. Rose reads.before reads.after ⊎ (IsOk (list_of bytes)
    × (Rose scripts.before scripts.after ⊎ StoreUnopened command script host)))
ReadCause command status list script host reads scripts = Unit {0}

-- ---- what is left alone

-- the words name no list, or their word for a site is none
abbrev pub OpensNoList : Option PlainCommand → Type 0
OpensNoList (Some (Replay list store batch checkpoint start)) = ⊥
OpensNoList (Some (Twin site list batch checkpoint start)) = IsNoSite site
OpensNoList (Some (Dump list store)) = ⊥
OpensNoList command = Unit {0}

-- the words name no script, or their word for a site is none, or the list is refused: the script
-- is not read
abbrev pub ReadsNoScript : Option PlainCommand → Status → Type 0
ReadsNoScript (Some (Replay list store batch checkpoint start)) (ListStatus why) = Unit {0}
ReadsNoScript (Some (Replay list store batch checkpoint start)) status = ⊥
ReadsNoScript (Some (Twin site list batch checkpoint start)) (ListStatus why) = Unit {0}
ReadsNoScript (Some (Twin site list batch checkpoint start)) status = IsNoSite site
ReadsNoScript command status = Unit {0}

-- what a host tells of every list but that of a path stands as it stood
abbrev pub LeavesListsBut : Option (List ℕ) → (before after : List ℕ → Option (List ℕ)) → Type 0
LeavesListsBut None before after = after ≡ before
LeavesListsBut (Some path) before after = LeavesOthers path before after

-- a call failed at a list that was opened
abbrev pub ListFailed : (reads : BeforeAfter ℕ) → Type 0
ListFailed reads = reads.before < reads.after
