-- How a command can end that shows what scripts give a site, what each status means, and what is
-- left alone. Want of memory alone is free.
-- Source: none.
-- Our own choice: such a command reads site, list and scripts in the order of the command `twin` of
-- `replay`, and ends as that does, but that `show` reads one script.
use Rattle.std.specs.Prelude.{◌≡◌, ◌⊎◌, ℕ, false, List, Option, Some, None, option_and_then}
use Rattle.agent_base.specs.Counts.{Rose}
use Rattle.command_line.specs.Shows.{Help, PlainShow, Shows}
use Rattle.command_line.specs.Words as words
use Rattle.command_line.specs.Words.{PlainCommand}
use Rattle.command_line.specs.declared.shows.Shown.{Shown}
use Rattle.command_line.specs.declared.shows.Shown.TheVariants.{Difference, Script as OneScript}
use Rattle.hosts.specs.Hosts.{LeavesStores}
use Rattle.hosts.specs.declared.host.Host.{Ghosts as HostTells}
use Rattle.script_lines.specs.Grammar.{script_of_bytes}
use Rattle.script_lines.specs.Plain.{fault_of}
use Rattle.script_lines.specs.Script.{PlainFault}
use Rattle.script_lines.specs.TwoScripts.{two_of_bytes}
use Rattle.replay.specs.BeforeAfter.{BeforeAfter}
use Rattle.replay.specs.Causes.{ScriptCauseOf}
use Rattle.replay.specs.Endings.{IsOfList, IsOfScript, IsOfTwoScripts}
use Rattle.replay.specs.Words.{IsNoSite, IsSite, list_named}
use Rattle.replay.specs.declared.status.Status.{Status}
use Rattle.replay.specs.declared.status.Status.TheVariants.{Done, Usage, Script, List as ListStatus}
use Rattle.replay.specs.declared.status.Status.TheVariants.{Store, Read, InUse, Write, Device}
use Rattle.replay.specs.declared.status.Status.TheVariants.{Memory}

-- ---- what is named

-- the command of `replay` that names the same site and the same list
abbrev pub alike : Option PlainShow → Option PlainCommand
alike None = None
alike (Some Help) = Some words.Help
alike (Some (Shows what site list batch checkpoint start)) =
    Some (words.Twin site list batch checkpoint start)

-- what a host tells of the list that a command names, from what it tells of each path
abbrev pub list_of_show : (List ℕ → Option (List ℕ)) → Option PlainShow → Option (List ℕ)
list_of_show lists command = option_and_then lists (list_named (alike command))

-- ---- the statuses

-- a fault of the bytes of what is read
abbrev pub IsOf : Shown → PlainFault → Type 0
IsOf OneScript why = IsOfScript why
IsOf Difference why = IsOfTwoScripts why

-- the statuses with which it can be shown what scripts give a site, whose word this is. All but
-- `Usage` and `Memory` come of a site alone, and `Usage` of none.
abbrev pub ShownCanEnd : Shown → (site : List ℕ) → Status → Type 0
ShownCanEnd what site Usage = IsNoSite site
ShownCanEnd what site (Script why) = IsSite site × IsOf what (fault_of why)
ShownCanEnd what site (ListStatus why) = IsSite site × IsOfList why
ShownCanEnd what site (Store why) = ⊥
ShownCanEnd what site InUse = ⊥
ShownCanEnd what site Device = ⊥
ShownCanEnd what site Memory = Unit {0}
ShownCanEnd what site status = IsSite site

-- the statuses with which a command can end; words that are none end with `Usage` alone
abbrev pub CanEnd : Option PlainShow → Status → Type 0
CanEnd (Some (Shows what site list batch checkpoint start)) status = ShownCanEnd what site status
CanEnd (Some Help) Done = Unit {0}
CanEnd (Some Help) Write = Unit {0}
CanEnd (Some Help) status = ⊥
CanEnd None Usage = Unit {0}
CanEnd None status = ⊥

-- ---- causes

-- why what is read is refused: this is the first fault. Every later status shows no fault.
abbrev pub CauseOf : Shown → Status → (told : Option (List ℕ)) → Type 0
CauseOf OneScript status told = ScriptCauseOf (script_of_bytes false) status told
CauseOf Difference status told = ScriptCauseOf two_of_bytes status told

-- the same of a command; the usage line reads none
abbrev pub ScriptCause : Option PlainShow → Status → (told : Option (List ℕ)) → Type 0
ScriptCause (Some (Shows what site list batch checkpoint start)) status told =
    CauseOf what status told
ScriptCause command status told = Unit {0}

-- the counts of faults of host and script: reading failed where one rose, and else both stay
abbrev pub ReadCounts : Status → (host script : BeforeAfter ℕ) → Type 0
ReadCounts Read host script = Rose host.before host.after ⊎ Rose script.before script.after
ReadCounts status host script = (host.after ≡ host.before) × (script.after ≡ script.before)

-- ---- what is left alone

-- No store was opened or closed: what a host tells of stores, of their faults and of the one that
-- is out stands as it stood.
pub record LeavesAllStores {Hosts Lists Stores : Type 0} (H : HostTells Hosts Lists Stores)
    (before after : Hosts) : Type 0 where
  pub stores : LeavesStores (H.stores before) (H.stores after)
  pub faults : H.store_faults after ≡ H.store_faults before
  pub out : H.store_out after ≡ H.store_out before
  pub tells : H.tells_stores after ≡ H.tells_stores before
