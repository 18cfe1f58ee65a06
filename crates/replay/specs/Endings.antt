-- The statuses with which each command can end.
-- Source: none.
-- Our own choice: the statuses.
use Rattle.std.specs.Prelude.{List, ℕ, Option, Some, None}
use Rattle.journal.specs.Opening.{IsOfFile}
use Rattle.suffix_list.specs.declared.fault.ListFault.{ListFault}
use Rattle.suffix_list.specs.declared.fault.ListFault.TheVariants as list
use Rattle.script_lines.specs.Script.{PlainFault, ReadFault, NoDivider, NoMemory}
use Rattle.script_lines.specs.Plain.{fault_of}
use Rattle.command_line.specs.Words.{PlainCommand, Help, Replay, Twin, Dump, Selftest}
use Rattle.replay.specs.Words.{IsNoSite, IsSite}
use Rattle.replay.specs.declared.status.Status.{Status}
use Rattle.replay.specs.declared.status.Status.TheVariants.{Done, Usage, Script, List as ListStatus}
use Rattle.replay.specs.declared.status.Status.TheVariants.{Store, InUse, Write, Device}
use Rattle.replay.specs.declared.status.Status.TheVariants.{Memory}

-- a fault of a list's bytes
abbrev pub IsOfList : ListFault → Type 0
IsOfList list.ReadFault = ⊥
IsOfList list.NoMemory = ⊥
IsOfList why = Unit {0}

-- a fault of the bytes of one script
abbrev pub IsOfScript : PlainFault → Type 0
IsOfScript ReadFault = ⊥
IsOfScript NoDivider = ⊥
IsOfScript NoMemory = ⊥
IsOfScript why = Unit {0}

-- a fault of the bytes of two scripts
abbrev pub IsOfTwoScripts : PlainFault → Type 0
IsOfTwoScripts ReadFault = ⊥
IsOfTwoScripts NoMemory = ⊥
IsOfTwoScripts why = Unit {0}

-- the statuses with which a run of a script can end; over a store in memory no file is refused,
-- and none is in use
abbrev pub ScriptCanEnd : (store : Option (List ℕ)) → Status → Type 0
ScriptCanEnd store Usage = ⊥
ScriptCanEnd store (Script why) = IsOfScript (fault_of why)
ScriptCanEnd store (ListStatus why) = IsOfList why
ScriptCanEnd None (Store why) = ⊥
ScriptCanEnd None InUse = ⊥
ScriptCanEnd (Some path) (Store why) = IsOfFile why
ScriptCanEnd store status = Unit {0}

-- the statuses with which a comparison of two scripts can end, whose word for a site is this. All
-- but `Usage` and `Memory` come of a site alone.
abbrev pub TwinCanEnd : (site : List ℕ) → Status → Type 0
TwinCanEnd site Usage = IsNoSite site
TwinCanEnd site (Script why) = IsSite site × IsOfTwoScripts (fault_of why)
TwinCanEnd site (ListStatus why) = IsSite site × IsOfList why
TwinCanEnd site (Store why) = ⊥
TwinCanEnd site InUse = ⊥
TwinCanEnd site Device = ⊥
TwinCanEnd site Memory = Unit {0}
TwinCanEnd site status = IsSite site

-- the statuses with which a dump can end
abbrev pub DumpCanEnd : Status → Type 0
DumpCanEnd Usage = ⊥
DumpCanEnd (Script why) = ⊥
DumpCanEnd (ListStatus why) = IsOfList why
DumpCanEnd (Store why) = IsOfFile why
DumpCanEnd status = Unit {0}

-- the statuses with which a command can end
abbrev pub CanEnd : Option PlainCommand → Status → Type 0
CanEnd (Some (Replay list store batch checkpoint start)) status = ScriptCanEnd store status
CanEnd (Some (Twin site list batch checkpoint start)) status = TwinCanEnd site status
CanEnd (Some (Dump list store)) status = DumpCanEnd status
CanEnd (Some (Selftest seed)) Done = Unit {0}
CanEnd (Some (Selftest seed)) Write = Unit {0}
CanEnd (Some (Selftest seed)) Memory = Unit {0}
CanEnd (Some (Selftest seed)) status = ⊥
CanEnd (Some Help) Done = Unit {0}
CanEnd (Some Help) Write = Unit {0}
CanEnd (Some Help) status = ⊥
CanEnd None Usage = Unit {0}
CanEnd None status = ⊥
