-- What the parts of a command answer. Only private functions see it.
-- Source: none.
use Rattle.std.specs.Prelude.{◌≡◌, ℕ, List, [], Option, Result, Ok, Err}
use Rattle.agent_base.specs.Streams.{Takes, TakesPrefix}
use Rattle.agent_base.specs.declared.sink.Sink.{Ghosts as SinkTells}
use Rattle.agent_base.specs.declared.source.Source.{Ghosts as SourceTells}
use Rattle.command_line.specs.Shows.{PlainShow}
use Rattle.hosts.specs.declared.host.Host.{Ghosts as HostTells}
use Rattle.script_courses.specs.Twins.{Equal, LocalDiffer, Twin}
use Rattle.replay.specs.BeforeAfter.{BeforeAfter}
use Rattle.replay.specs.Causes.{LeavesListsBut, ListCause, ListFailed, OpensNoList, ReadCause}
use Rattle.replay.specs.Causes.{ReadsNoScript, WriteCounts}
use Rattle.replay.specs.Commands.{told_of}
use Rattle.replay.specs.Twins.{twin_line}
use Rattle.replay.specs.Words.{list_named}
use Rattle.replay.specs.declared.status.Status.{Status}
use Rattle.replay.specs.declared.status.Status.TheVariants as status
use Rattle.replay.specs.declared.status.Status.TheVariants.{Done, Memory}
use Rattle.twins.specs.Plain.{plain_twin}
use Rattle.twins.specs.declared.answer.Twin.{Twin as Answer}
use Rattle.shown_scripts.specs.declared.fault.ShowFault.{ShowFault}
use Rattle.shown_scripts.specs.declared.fault.ShowFault.TheVariants.{NoMemory, Write}
use Rattle.show_commands.specs.Causes.{CanEnd, LeavesAllStores, ReadCounts, ScriptCause, alike}
use Rattle.show_commands.specs.Causes.{list_of_show}
use Rattle.show_commands.specs.Shows.{Shows}

-- the status of what was not shown, or not all of it
abbrev pub refusal_status : ShowFault → Status
refusal_status Write = status.Write
refusal_status NoMemory = Memory

-- the status of what was shown
abbrev pub status_of : {T : Type 0} → Result T ShowFault → Status
status_of (Ok done) = Done
status_of (Err why) = refusal_status why

-- what the sink took of the line of an answer
abbrev pub WritesAnswer : Status → Twin → (taken : BeforeAfter (Option (List ℕ))) → Type 0
WritesAnswer Done answer taken = Takes taken.before taken.after (twin_line answer)
WritesAnswer status.Write answer taken = TakesPrefix taken.before taken.after (twin_line answer)
WritesAnswer _ answer taken = ⊥

-- what it took behind what was shown: the line of the answer where both scripts give the site the
-- same, and else nothing
abbrev pub WritesEqual : Twin → Status → (taken : BeforeAfter (Option (List ℕ))) → Type 0
WritesEqual (Equal lines) status taken = WritesAnswer status (Equal lines) taken
WritesEqual (LocalDiffer place) status taken =
    (status ≡ Done) × Takes taken.before taken.after []

-- the same, by how showing ended
abbrev pub WritesRest : Result Answer ShowFault → Status → (taken : BeforeAfter (Option (List ℕ)))
    → Type 0
WritesRest (Ok answer) status taken = WritesEqual (plain_twin answer) status taken
WritesRest (Err why) status taken =
    (status ≡ refusal_status why) × Takes taken.before taken.after []

-- the count of faults of the output, behind what was shown
abbrev pub RestCounts : Result Answer ShowFault → Status → (out : BeforeAfter ℕ) → Type 0
RestCounts (Ok answer) status out = WriteCounts status out
RestCounts (Err why) status out = (status ≡ refusal_status why) × (out.after ≡ out.before)

-- What a command leaves and answers, by what a host, the source of a script and an output tell
-- before and after: all that `run` promises but for standard error and the law.
pub record Serves {Hosts Lists Stores Scripts Outs : Type 0} (H : HostTells Hosts Lists Stores)
    (I : SourceTells Scripts) (O : SinkTells Outs) (command : Option PlainShow) (status : Status)
    (host : BeforeAfter Hosts) (script : BeforeAfter Scripts) (out : BeforeAfter Outs)
    : Type 0 where
  pub text : Shows command status (H.lists host.before) (told_of I.left script)
      (told_of O.taken out)
  pub ends : CanEnd command status
  pub refused : ScriptCause command status (I.left script.before)
  pub list : ListCause status (list_of_show (H.lists host.before) command)
  pub read : ReadCounts status (told_of H.faults host) (told_of I.faults script)
  pub read_told : ReadCause (alike command) status (list_of_show (H.lists host.before) command)
      (I.left script.before) (told_of H.faults host) (told_of H.reads host)
      (told_of I.faults script)
  pub write : WriteCounts status (told_of O.faults out)
  pub untouched : OpensNoList (alike command) → host.after ≡ host.before
  pub unread : ReadsNoScript (alike command) status → script.after ≡ script.before
  pub list_failed : ListFailed (told_of H.reads host) → script.after ≡ script.before
  pub lists : LeavesListsBut (list_named (alike command)) (H.lists host.before)
      (H.lists host.after)
  pub closed : H.lists_out host.after ≡ H.lists_out host.before
  pub stores : LeavesAllStores H host.before host.after
