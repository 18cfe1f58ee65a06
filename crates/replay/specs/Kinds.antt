-- What a command wrote and left, by its kind. Only private functions see it.
-- Source: none.
use Rattle.std.specs.Prelude.{ℕ, Bool, List, Option, Some, None}
use Rattle.command_line.specs.Words.{PlainCommand}
use Rattle.command_line.specs.Words as words
use Rattle.replay.specs.BeforeAfter.{BeforeAfter}
use Rattle.replay.specs.Openings.{Images}
use Rattle.replay.specs.Runs.{Helps, TestsItself}
use Rattle.replay.specs.Twins.{Compares}
use Rattle.replay.specs.Stores.{Replays}
use Rattle.replay.specs.Dumps.{Dumps}
use Rattle.replay.specs.declared.status.Status.{Status}

-- what a command that ended so wrote and left, whichever it is
abbrev pub Writes : Option PlainCommand → Status → (lists : List ℕ → Option (List ℕ))
    → (tells : Bool) → (before after : List ℕ → Images) → (counts : BeforeAfter ℕ)
    → (left taken : BeforeAfter (Option (List ℕ))) → Type 0
Writes (Some
    (words.Replay list store batch checkpoint
    start)) status lists tells before after counts left taken =
    Replays (Some (words.Replay list store batch checkpoint start)) status lists tells before after
    counts left taken
Writes (Some
    (words.Twin site list batch checkpoint
    start)) status lists tells before after counts left taken =
    Compares (Some (words.Twin site list batch checkpoint start)) status lists left taken
Writes (Some (words.Dump list store)) status lists tells before after counts left taken =
    Dumps (Some (words.Dump list store)) status lists tells before after taken
Writes (Some (words.Selftest seed)) status lists tells before after counts left taken =
    TestsItself (Some (words.Selftest seed)) status taken
Writes (Some words.Help) status lists tells before after counts left taken =
    Helps (Some words.Help) status taken
Writes None status lists tells before after counts left taken = Helps None status taken
