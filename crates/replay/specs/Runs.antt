-- What a run reads and writes.
-- A clause on bytes speaks of a source or sink that tells its bytes; one that tells none has
-- `None`.
-- Source: none; these are the words of the promise.
use Rattle.std.specs.Prelude.{◌≡◌, ◌⊎◌, ℕ, Bool, List, [], map, Option, Some, None, IfSome, Ok}
use Rattle.agent_base.specs.Streams.{Gives, Takes, TakesPrefix}
use Rattle.suffix_list.specs.ListText.{RuleList, list_of}
use Rattle.script_actions.specs.Action.{PlainStep}
use Rattle.script_lines.specs.Script.{PlainScript}
use Rattle.script_lines.specs.Grammar.{script_of_bytes}
use Rattle.selftests.specs.Line.{IsLineOf}
use Rattle.store_runs.specs.Disks.{WritesInMemory}
use Rattle.store_runs.specs.declared.ending.Ending.{Ending}
use Rattle.store_runs.specs.declared.ending.Ending.TheVariants as ending
use Rattle.hosts.specs.Hosts.{HasLeft}
use Rattle.command_line.specs.Words.{PlainCommand, Help, Selftest}
use Rattle.replay.specs.BeforeAfter.{BeforeAfter}
use Rattle.replay.specs.FaultLines.{usage_line}
use Rattle.replay.specs.declared.status.Status.{Status}
use Rattle.replay.specs.declared.status.Status.TheVariants.{Done, Store, Write, Device, Memory}

-- ---- what was read

-- The list that the words name, read to its end: the one that the host told, where it told one.
pub record ListRead (told : Option (List ℕ)) : Type 0 where
  pub bytes : List ℕ
  pub list : RuleList
  pub given : HasLeft told (Some bytes)
  pub grammar : list_of bytes ≡ Ok list

-- The script that a source gave, read to its end, where a line with cuts is allowed or is not.
pub record ScriptRead (cuts_allowed : Bool) (left : BeforeAfter (Option (List ℕ))) : Type 0 where
  pub bytes : List ℕ
  pub script : PlainScript
  pub given : Gives left.before left.after bytes
  pub ended : IfSome left.after (λ rest. rest ≡ [])
  pub grammar : script_of_bytes cuts_allowed bytes ≡ Ok script

-- the steps of a script's lines, in their order
abbrev pub steps_in : PlainScript → List PlainStep
steps_in script = map (λ line. line.step) script.lines

-- ---- a run of a script

-- list and script were read, and the run of the script was this
abbrev pub ReadAndRan : (cuts_allowed : Bool) → (told : Option (List ℕ))
    → (left : BeforeAfter (Option (List ℕ))) → (Ran : RuleList → PlainScript → Type 0) → Type 0
ReadAndRan cuts_allowed told left Ran =
    (list : ListRead told) × ((read : ScriptRead cuts_allowed left) × Ran list.list read.script)

-- What holds of a command that ended so: where it came to its work, what is said of that work,
-- which ended so; else this, that nothing was done. Memory may be wanting before.
abbrev pub Written : Status → (Nothing : Type 0) → (Ran : Ending → Type 0) → Type 0
Written Done Nothing Ran = Ran ending.Done
Written Write Nothing Ran = Ran ending.Write
Written Device Nothing Ran = Ran ending.Device
Written (Store why) Nothing Ran = Ran (ending.Store why)
Written Memory Nothing Ran = Nothing ⊎ Ran ending.Memory
Written _ Nothing Ran = Nothing

-- the sink took nothing
abbrev pub TakesNone : (taken : BeforeAfter (Option (List ℕ))) → Type 0
TakesNone taken = Takes taken.before taken.after []

-- the same of a script: list and script were read, and its lines ran so
abbrev pub WritesScript : Status → (cuts_allowed : Bool) → (told : Option (List ℕ))
    → (left : BeforeAfter (Option (List ℕ))) → (Nothing : Type 0)
    → (Ran : Ending → RuleList → PlainScript → Type 0) → Type 0
WritesScript status cuts_allowed told left Nothing Ran =
    Written status Nothing (λ ended. ReadAndRan cuts_allowed told left (Ran ended))

-- the lines ran over a new store in memory, whose power is cut as the script says
abbrev pub RanInMemory : (start batch checkpoint : ℕ) → (taken : BeforeAfter (Option (List ℕ)))
    → Ending → RuleList → PlainScript → Type 0
RanInMemory start batch checkpoint taken ending list script =
    WritesInMemory ending list.rules start batch checkpoint script.cuts (steps_in script)
    taken.before taken.after

-- ---- the usage line

-- what the sink took of the usage line
abbrev pub WritesUsage : Status → (taken : BeforeAfter (Option (List ℕ))) → Type 0
WritesUsage Done taken = Takes taken.before taken.after usage_line
WritesUsage Write taken = TakesPrefix taken.before taken.after usage_line
WritesUsage _ taken = TakesNone taken

-- the same of `--help`, and that nothing was taken where the words are no command; of other
-- commands it says nothing
abbrev pub Helps : Option PlainCommand → Status → (taken : BeforeAfter (Option (List ℕ))) → Type 0
Helps (Some Help) status taken = WritesUsage status taken
Helps None status taken = TakesNone taken
Helps command status taken = Unit {0}

-- ---- a line

-- what the sink took of a command that prints one line, of which this holds
abbrev pub WritesLine : Status → (taken : BeforeAfter (Option (List ℕ)))
    → (Is : List ℕ → Type 0) → Type 0
WritesLine Done taken Is = (line : List ℕ) × Is line × Takes taken.before taken.after line
WritesLine Write taken Is = (line : List ℕ) × Is line × TakesPrefix taken.before taken.after line
WritesLine _ taken Is = Takes taken.before taken.after []

-- ---- the self-test

-- what the sink took of the self-test of a seed: a line of its day
abbrev pub WritesSelftest : (seed : ℕ) → Status → (taken : BeforeAfter (Option (List ℕ))) → Type 0
WritesSelftest seed status taken = WritesLine status taken (IsLineOf seed)

-- the same of a command; of others it says nothing
abbrev pub TestsItself : Option PlainCommand → Status → (taken : BeforeAfter (Option (List ℕ)))
    → Type 0
TestsItself (Some (Selftest seed)) status taken = WritesSelftest seed status taken
TestsItself command status taken = Unit {0}
