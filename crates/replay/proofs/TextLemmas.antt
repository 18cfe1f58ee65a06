-- What is said of a command, whichever it is, is said of each kind of command.
use Rattle.std.proofs.Common.{◌≡◌, ℕ, Bool, List, Option, Some, None}
use Rattle.command_line.specs.Words.{PlainCommand, Help, Replay, Twin, Dump, Selftest}
use Rattle.replay.specs.BeforeAfter.{BeforeAfter}
use Rattle.replay.specs.Kinds.{Writes}
use Rattle.replay.specs.Openings.{Images}
use Rattle.replay.specs.Runs.{Helps, TestsItself}
use Rattle.replay.specs.Dumps.{Dumps}
use Rattle.replay.specs.Stores.{Replays}
use Rattle.replay.specs.Twins.{Compares}
use Rattle.replay.specs.declared.status.Status.{Status}

module _ (status : Status) (lists : List ℕ → Option (List ℕ)) (tells : Bool) (before after : List ℕ → Images) (counts : BeforeAfter ℕ) (left taken : BeforeAfter (Option (List ℕ))) where
  pub of_replay : (command : Option PlainCommand) → Writes command status lists tells before after counts left taken → Replays command status lists tells before after counts left taken
  of_replay (Some (Replay list store batch checkpoint start)) wrote = wrote
  of_replay (Some (Twin site list batch checkpoint start)) wrote = tt
  of_replay (Some (Dump list store)) wrote = tt
  of_replay (Some (Selftest seed)) wrote = tt
  of_replay (Some Help) wrote = tt
  of_replay None wrote = tt

  pub of_dump : (command : Option PlainCommand) → Writes command status lists tells before after counts left taken → Dumps command status lists tells before after taken
  of_dump (Some (Replay list store batch checkpoint start)) wrote = tt
  of_dump (Some (Twin site list batch checkpoint start)) wrote = tt
  of_dump (Some (Dump list store)) wrote = wrote
  of_dump (Some (Selftest seed)) wrote = tt
  of_dump (Some Help) wrote = tt
  of_dump None wrote = tt

  pub of_twin : (command : Option PlainCommand) → Writes command status lists tells before after counts left taken → Compares command status lists left taken
  of_twin (Some (Replay list store batch checkpoint start)) wrote = tt
  of_twin (Some (Twin site list batch checkpoint start)) wrote = wrote
  of_twin (Some (Dump list store)) wrote = tt
  of_twin (Some (Selftest seed)) wrote = tt
  of_twin (Some Help) wrote = tt
  of_twin None wrote = tt

  pub of_selftest : (command : Option PlainCommand) → Writes command status lists tells before after counts left taken → TestsItself command status taken
  of_selftest (Some (Replay list store batch checkpoint start)) wrote = tt
  of_selftest (Some (Twin site list batch checkpoint start)) wrote = tt
  of_selftest (Some (Dump list store)) wrote = tt
  of_selftest (Some (Selftest seed)) wrote = wrote
  of_selftest (Some Help) wrote = tt
  of_selftest None wrote = tt

  pub of_help : (command : Option PlainCommand) → Writes command status lists tells before after counts left taken → Helps command status taken
  of_help (Some (Replay list store batch checkpoint start)) wrote = tt
  of_help (Some (Twin site list batch checkpoint start)) wrote = tt
  of_help (Some (Dump list store)) wrote = tt
  of_help (Some (Selftest seed)) wrote = tt
  of_help (Some Help) wrote = wrote
  of_help None wrote = wrote
