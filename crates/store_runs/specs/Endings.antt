-- What each ending of a run says of the file, of the agent and of the output.
-- Source: none.
-- Our own choice: the endings. Want of memory alone is free.
use Rattle.std.specs.Prelude.{◌≡◌, ◌⊎◌, ℕ, List, length}
use Rattle.agent_base.specs.Counts.{Rose}
use Rattle.agent_core.specs.declared.agent.Power.{Power}
use Rattle.agent_core.specs.declared.agent.Power.TheVariants.{Up}
use Rattle.journal.specs.Opening.{IsOfFile}
use Rattle.journal.specs.declared.open_fault.OpenFault.{OpenFault}
use Rattle.journal.specs.declared.open_fault.OpenFault.TheVariants as fault
use Rattle.store_runs.specs.declared.ending.Ending.{Ending}
use Rattle.store_runs.specs.declared.ending.Ending.TheVariants.{Done, Device, Store, Write, Memory}

-- how a run ends whose opening was refused so
abbrev pub ending_of : OpenFault → Ending
ending_of fault.DeviceFault = Device
ending_of fault.NoMemory = Memory
ending_of (fault.NotAStore offset) = Store (fault.NotAStore offset)
ending_of (fault.TooLarge len) = Store (fault.TooLarge len)

-- how a run ends over a file that is over the limit of size: by its length, or by a call of the
-- disk that failed. Neither takes memory, so that want of it is no ending here.
abbrev pub IsLimitEnding : List ℕ → Ending → Type 0
IsLimitEnding file ending = (ending ≡ Store (fault.TooLarge (length file))) ⊎ (ending ≡ Device)

-- what is told of a store is a fault of its file
abbrev pub IsStoreEnding : Ending → Type 0
IsStoreEnding (Store why) = IsOfFile why
IsStoreEnding ending = Unit {0}

-- whether the agent is up afterwards: it is at `Done`, and is not at `Device`
abbrev pub TellsPower : Ending → Power → Type 0
TellsPower Done power = power ≡ Up
TellsPower Device power = power ≡ Up → ⊥
TellsPower ending power = Unit {0}

-- the count of faults of the output: writing failed where it rose, and else it stays
abbrev pub WriteCounts : Ending → (before after : ℕ) → Type 0
WriteCounts Write before after = Rose before after
WriteCounts ending before after = after ≡ before
