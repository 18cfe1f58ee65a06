-- What the parts of a command answer. Only private functions see it.
-- Source: none.
use Rattle.std.specs.Prelude.{◌≡◌, ◌⊎◌, ℕ, option_and_then, List, Option, None, Result, Ok, Err}
use Rattle.agent_base.specs.Counts.{Rose}
use Rattle.agent_base.specs.declared.sink.Sink.{Ghosts as SinkTells}
use Rattle.agent_base.specs.declared.source.Source.{Ghosts as SourceTells}
use Rattle.suffix_list.specs.ListText.{RuleList}
use Rattle.origin_site.specs.Site.{PlainSite}
use Rattle.script_courses.specs.Twins.{IsTwin, Twin}
use Rattle.store_dumps.specs.declared.fault.DumpFault.{DumpFault}
use Rattle.store_dumps.specs.declared.fault.DumpFault.TheVariants.{Open}
use Rattle.store_dumps.specs.declared.fault.DumpFault.TheVariants as dump
use Rattle.store_runs.specs.Endings.{ending_of}
use Rattle.store_runs.specs.declared.ending.Ending.{Ending}
use Rattle.store_runs.specs.declared.ending.Ending.TheVariants as ending
use Rattle.journal.specs.Opening.{IsOfFile}
use Rattle.hosts.specs.Hosts.{LeavesOtherStores}
use Rattle.hosts.specs.declared.host.Host.{Ghosts as HostTells}
use Rattle.command_line.specs.Words.{PlainCommand}
use Rattle.replay.specs.BeforeAfter.{BeforeAfter, from_to}
use Rattle.replay.specs.Runs.{steps_in}
use Rattle.replay.specs.Twins.{ScriptsRead, setting_of, twin_line}
use Rattle.replay.specs.Words.{IsNoCommand, NamesSite, list_named, store_named}
use Rattle.replay.specs.Kinds.{Writes}
use Rattle.replay.specs.Stores.{LeavesAllBut}
use Rattle.replay.specs.Causes.{DeviceCounts, ListCause, ReadCause, ReadCounts, ScriptCause}
use Rattle.replay.specs.Endings.{CanEnd}
use Rattle.replay.specs.Causes.{LeavesListsBut, ListFailed, OpensNoList, ReadsNoScript}
use Rattle.replay.specs.Endings.{IsOfTwoScripts}
use Rattle.replay.specs.Causes.{RoseByStore, WriteCounts}
use Rattle.replay.specs.Readings.{HasScripts}
use Rattle.replay.specs.declared.status.Status.{Status}
use Rattle.replay.specs.declared.status.Status.TheVariants.{Done, Usage, Script, List as ListStatus}
use Rattle.replay.specs.declared.status.Status.TheVariants.{Store, Read, InUse, Write, Device}
use Rattle.replay.specs.declared.status.Status.TheVariants.{Memory}

-- ---- the list

-- a status that comes after the list was read
abbrev pub IsAfterList : Status → Type 0
IsAfterList Usage = ⊥
IsAfterList (ListStatus why) = ⊥
IsAfterList status = Unit {0}

-- ---- the store

-- a status that lines over a store can end with, or the store's opening
abbrev pub HasRun : Status → Type 0
HasRun Usage = ⊥
HasRun (Script why) = ⊥
HasRun (ListStatus why) = ⊥
HasRun (Store why) = IsOfFile why
HasRun status = Unit {0}

-- the counts of a host: its own rose where the store was not opened, and else they rose by the
-- store's faults and by nothing else
abbrev pub HostCounts : Status → (host stores : BeforeAfter ℕ) → Type 0
HostCounts Read host stores = (stores.after ≡ stores.before) × Rose host.before host.after
HostCounts InUse host stores = (stores.after ≡ stores.before) × Rose host.before host.after
HostCounts _ host stores = RoseByStore host stores

-- the count of faults of the stores that were closed rose where the device failed
abbrev pub StoreCounts : Status → (stores : BeforeAfter ℕ) → Type 0
StoreCounts Device stores = Rose stores.before stores.after
StoreCounts _ stores = Unit {0}

-- a host after work over the store of a path: no store is out, as many lists as before, and what
-- is told of lists, of readings of lists that failed and of other stores stands as it stood
pub record LeavesStoreClosed {Hosts Lists Stores : Type 0} (H : HostTells Hosts Lists Stores)
    (path : List ℕ) (host : BeforeAfter Hosts) : Type 0 where
  pub store_out : H.store_out host.after ≡ None
  pub lists_out : H.lists_out host.after ≡ H.lists_out host.before
  pub others : LeavesOtherStores path (H.stores host.before) (H.stores host.after)
  pub reads : H.reads host.after ≡ H.reads host.before
  pub lists : H.lists host.after ≡ H.lists host.before

-- ---- two scripts

-- the line of the answer to two scripts that a source gave
abbrev pub IsAnswer : RuleList → PlainSite → (start batch : ℕ)
    → (left : BeforeAfter (Option (List ℕ))) → (line : List ℕ) → Type 0
IsAnswer list site start batch left line =
    (scripts : ScriptsRead left) × (answer : Twin)
    × IsTwin (setting_of list site start batch) (steps_in scripts.first) (steps_in scripts.second)
    answer × (line ≡ twin_line answer)

-- a status that comes after a site and a list were read
abbrev pub HasCompared : Status → Type 0
HasCompared status = HasScripts IsOfTwoScripts status

-- ---- lines

-- the status of a run of lines that ended so
abbrev pub status_of : Ending → Status
status_of ending.Done = Done
status_of ending.Write = Write
status_of ending.Device = Device
status_of (ending.Store why) = Store why
status_of ending.Memory = Memory

-- how a dump ended, in the words of a run
abbrev pub dump_ending : {T : Type 0} → Result T DumpFault → Ending
dump_ending (Ok done) = ending.Done
dump_ending (Err (Open why)) = ending_of why
dump_ending (Err dump.Write) = ending.Write
dump_ending (Err dump.NoMemory) = ending.Memory

-- ---- the command

-- what a value tells before and after
abbrev pub told_of : {T U : Type 0} → (tells : T → U) → BeforeAfter T → BeforeAfter U
told_of tells value = from_to (tells value.before) (tells value.after)

-- What a command leaves and answers, by what a host, the source of a script and an output tell
-- before and after: all that `run` promises but for standard error.
pub record Obeys {Hosts Lists Stores Scripts Outs : Type 0} (H : HostTells Hosts Lists Stores)
    (I : SourceTells Scripts) (O : SinkTells Outs) (command : Option PlainCommand) (status : Status)
    (host : BeforeAfter Hosts) (script : BeforeAfter Scripts) (out : BeforeAfter Outs)
    : Type 0 where
  pub text : Writes command status (H.lists host.before) (H.tells_stores host.before)
      (H.stores host.before) (H.stores host.after) (told_of H.store_faults host)
      (told_of I.left script) (told_of O.taken out)
  pub usage : status ≡ Usage → IsNoCommand command
  pub no_command :
      IsNoCommand command → (status ≡ Usage) ⊎ (NamesSite command × (status ≡ Memory))
  pub ends : CanEnd command status
  pub refused : ScriptCause command status (I.left script.before)
  pub list : ListCause status (option_and_then (H.lists host.before) (list_named command))
  pub read :
      ReadCounts status (told_of H.faults host) (told_of H.store_faults host)
      (told_of I.faults script)
  pub read_told :
      ReadCause command status
      (option_and_then (H.lists host.before) (list_named command)) (I.left script.before)
      (told_of H.faults host)
      (told_of H.reads host) (told_of I.faults script)
  pub device :
      DeviceCounts command status (told_of H.store_faults host)
  pub write : WriteCounts status (told_of O.faults out)
  pub untouched : OpensNoList command → host.after ≡ host.before
  pub unread : ReadsNoScript command status → script.after ≡ script.before
  pub list_failed : ListFailed (told_of H.reads host) → script.after ≡ script.before
  pub lists : LeavesListsBut (list_named command) (H.lists host.before) (H.lists host.after)
  pub closed : H.lists_out host.after ≡ H.lists_out host.before
  pub store_closed : H.store_out host.after ≡ None
  pub others :
      LeavesAllBut (store_named command) (H.stores host.before) (H.stores host.after)
