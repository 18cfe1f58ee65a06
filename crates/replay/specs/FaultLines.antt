-- The line that a run writes to standard error, where its status is not 0.
-- Source: none.
-- Our own choice: the texts. The usage line names each command.
use Rattle.std.specs.Prelude.{◌≡◌, ◌⊎◌, ℕ, List, [], ◌∷◌, ◌++◌, codes, decimal, Option}
use Rattle.agent_base.specs.Counts.{Rose}
use Rattle.agent_base.specs.Streams.{Takes, TakesPrefix}
use Rattle.journal.specs.declared.open_fault.OpenFault.{OpenFault}
use Rattle.journal.specs.declared.open_fault.OpenFault.TheVariants as store
use Rattle.suffix_list.specs.declared.fault.ListFault.{ListFault}
use Rattle.suffix_list.specs.declared.fault.ListFault.TheVariants as list
use Rattle.script_lines.specs.Plain.{fault_of}
use Rattle.script_lines.specs.Script.{PlainFault, NotJson, UnknownAction, BadField, LineTooLong}
use Rattle.script_lines.specs.Script.{TooLong, NotUtf8, ReadFault, BadHeader, NoDivider, NoMemory}
use Rattle.replay.specs.BeforeAfter.{BeforeAfter}
use Rattle.replay.specs.declared.status.Status.{Status}
use Rattle.replay.specs.declared.status.Status.TheVariants.{Done, Usage, Script, List as ListStatus}
use Rattle.replay.specs.declared.status.Status.TheVariants.{Store, Read, InUse, Write, Device}
use Rattle.replay.specs.declared.status.Status.TheVariants.{Memory}

-- the line of a list's fault. No run ends with a list's `ReadFault` or `NoMemory`: these are the
-- statuses `Read` and `Memory`, whose lines they have.
abbrev pub list_fault_line : ListFault → List ℕ
list_fault_line (list.BadRule number) =
    codes "list line " ++ (decimal number ++ (codes ": bad rule" ++ 10 ∷ []))
list_fault_line (list.TooManyRules number) =
    codes "list line " ++ (decimal number ++ (codes ": too many rules" ++ 10 ∷ []))
list_fault_line list.TooLong = codes "list: too long" ++ 10 ∷ []
list_fault_line list.ReadFault = codes "read fault" ++ 10 ∷ []
list_fault_line list.NoMemory = codes "no memory" ++ 10 ∷ []

-- the line of a script's fault, which names the line and the member. No run ends with a script's
-- `ReadFault` or `NoMemory`: these are the statuses `Read` and `Memory`, whose lines they have. A
-- run of one script does not end with `NoDivider`, which is a fault of an input of two.
abbrev pub script_fault_line : PlainFault → List ℕ
script_fault_line (NotJson number) =
    codes "script line " ++ (decimal number ++ (codes ": not json" ++ 10 ∷ []))
script_fault_line (UnknownAction number) =
    codes "script line " ++ (decimal number ++ (codes ": unknown action" ++ 10 ∷ []))
script_fault_line (BadField number name) =
    codes "script line " ++ (decimal number ++ (codes ": bad field " ++ (name ++ 10 ∷ [])))
script_fault_line (LineTooLong number) =
    codes "script line " ++ (decimal number ++ (codes ": too long" ++ 10 ∷ []))
script_fault_line (NotUtf8 number) =
    codes "script line " ++ (decimal number ++ (codes ": not utf-8" ++ 10 ∷ []))
script_fault_line (BadHeader number) =
    codes "script line " ++ (decimal number ++ (codes ": bad header" ++ 10 ∷ []))
script_fault_line TooLong = codes "script: too long" ++ 10 ∷ []
script_fault_line NoDivider = codes "script: no divider" ++ 10 ∷ []
script_fault_line ReadFault = codes "read fault" ++ 10 ∷ []
script_fault_line NoMemory = codes "no memory" ++ 10 ∷ []

-- the line of a store's fault. No run ends with a store's `DeviceFault` or `NoMemory`: these are
-- the statuses `Device` and `Memory`, whose lines they have.
abbrev pub store_fault_line : OpenFault → List ℕ
store_fault_line (store.NotAStore offset) =
    codes "store: not a store at " ++ (decimal offset ++ 10 ∷ [])
store_fault_line (store.TooLarge len) = codes "store: too large: " ++ (decimal len ++ 10 ∷ [])
store_fault_line store.DeviceFault = codes "device fault" ++ 10 ∷ []
store_fault_line store.NoMemory = codes "no memory" ++ 10 ∷ []

-- the usage line
abbrev pub usage_line : List ℕ
usage_line = codes "usage: replay LIST, twin SITE LIST, dump LIST STORE, selftest N" ++ 10 ∷ []

-- the line of a status, and nothing where the run is done
abbrev pub fault_line : Status → List ℕ
fault_line Done = []
fault_line Usage = usage_line
fault_line (Script why) = script_fault_line (fault_of why)
fault_line (ListStatus why) = list_fault_line why
fault_line (Store why) = store_fault_line why
fault_line Read = codes "read fault" ++ 10 ∷ []
fault_line InUse = codes "store: in use" ++ 10 ∷ []
fault_line Write = codes "write fault" ++ 10 ∷ []
fault_line Device = codes "device fault" ++ 10 ∷ []
fault_line Memory = codes "no memory" ++ 10 ∷ []

-- the exit status of the program
abbrev pub exit_status : Status → ℕ
exit_status Done = 0
exit_status Usage = 2
exit_status (Script why) = 3
exit_status (ListStatus why) = 4
exit_status (Store why) = 5
exit_status Read = 6
exit_status InUse = 6
exit_status Write = 7
exit_status Device = 8
exit_status Memory = 9

-- two statuses that differ in nothing but the memory of a text
abbrev pub SameStatus : Status → Status → Type 0
SameStatus (Script why) (Script other) = fault_of why ≡ fault_of other
SameStatus (Script why) status = ⊥
SameStatus status other = status ≡ other

-- standard error took the line of the status, or a prefix of it where its count of faults rose
abbrev pub TellsFault : Status → (taken : BeforeAfter (Option (List ℕ))) → (faults : BeforeAfter ℕ)
    → Type 0
TellsFault status taken faults =
    (Takes taken.before taken.after (fault_line status) × (faults.after ≡ faults.before))
    ⊎ (TakesPrefix taken.before taken.after (fault_line status) × Rose faults.before faults.after)
