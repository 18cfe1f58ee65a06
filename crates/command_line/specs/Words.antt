-- The words of the command line, without the program's name, that are a command.
-- Source: none.
-- Our own choice: all of it. Options follow the other words.
use Rattle.std.specs.Prelude.{ℕ, ◌≤◌, ◌&&◌, List, [], ◌∷◌, codes, bytes_eq}
use Rattle.std.specs.Prelude.{Option, Some, None, option_map, if◌then◌else◌}
use Rattle.agent_base.specs.Seconds.{last_moment}
use Rattle.command_line.specs.Options.{Pair, batch_of, checkpoint_of, first_batch, is_path}
use Rattle.command_line.specs.Options.{last_batch, last_checkpoint, number_of}
use Rattle.command_line.specs.Options.{options_of, start_of, storeless_of, value_named}

-- a command: the usage line, a run of a script, what two scripts give a site, the rows of a store,
-- or the self-test of a seed
pub data PlainCommand : Type 0 where
  Help : PlainCommand
  Replay : (list : List ℕ) (store : Option (List ℕ)) (batch checkpoint start : ℕ) → PlainCommand
  Twin : (site list : List ℕ) (batch checkpoint start : ℕ) → PlainCommand
  Dump : (list store : List ℕ) → PlainCommand
  Selftest : (seed : ℕ) → PlainCommand

-- the command takes memory: all but the usage line does
abbrev pub TakesMemory : PlainCommand → Type 0
TakesMemory Help = ⊥
TakesMemory command = Unit {0}

-- the first seed
abbrev pub first_seed : ℕ
first_seed = 0

-- the last seed
abbrev pub last_seed : ℕ
last_seed = 4294967295

-- the numbers of a run are in their ranges
abbrev pub AreInRange : (batch checkpoint start : ℕ) → Type 0
AreInRange batch checkpoint start =
    (first_batch ≤ batch) × (batch ≤ last_batch) × (checkpoint ≤ last_checkpoint)
    × (start ≤ last_moment)

-- the numbers of a command are in their ranges
abbrev pub IsInRange : PlainCommand → Type 0
IsInRange Help = Unit {0}
IsInRange (Replay list store batch checkpoint start) = AreInRange batch checkpoint start
IsInRange (Twin site list batch checkpoint start) = AreInRange batch checkpoint start
IsInRange (Dump list store) = Unit {0}
IsInRange (Selftest seed) = seed ≤ last_seed

-- the run that options give under a list
abbrev pub run_of : List ℕ → List Pair → PlainCommand
run_of list options = Replay list (value_named (codes "--store") options)
    (batch_of (value_named (codes "--batch") options))
    (checkpoint_of (value_named (codes "--checkpoint") options))
    (start_of (value_named (codes "--start") options))

-- the run of these words behind `replay`
abbrev pub replay_of : List ℕ → List (List ℕ) → Option PlainCommand
replay_of list words =
    if is_path list then option_map (run_of list) (options_of words) else None

-- the comparison that options give of a site, under a list
abbrev pub comparison_of : (site list : List ℕ) → List Pair → PlainCommand
comparison_of site list options = Twin site list
    (batch_of (value_named (codes "--batch") options))
    (checkpoint_of (value_named (codes "--checkpoint") options))
    (start_of (value_named (codes "--start") options))

-- The comparison of these words behind `twin`. No text of a site is empty or begins with `-`, so
-- that a word that cannot be a path is none.
abbrev pub twin_of : List ℕ → List (List ℕ) → Option PlainCommand
twin_of site [] = None
twin_of site (list ∷ words) = if is_path site && is_path list
    then option_map (comparison_of site list) (storeless_of words) else None

-- the dump of these words behind `dump`
abbrev pub dump_of : List ℕ → List (List ℕ) → Option PlainCommand
dump_of list [] = None
dump_of list (store ∷ []) =
    if is_path list && is_path store then Some (Dump list store) else None
dump_of list (store ∷ more ∷ words) = None

-- the seed that a text is
abbrev pub seed_of : List ℕ → Option ℕ
seed_of text = number_of first_seed last_seed text

-- the self-test of these words behind `selftest`
abbrev pub selftest_of : List ℕ → List (List ℕ) → Option PlainCommand
selftest_of seed [] = option_map Selftest (seed_of seed)
selftest_of seed (more ∷ words) = None

-- the command that words are
abbrev pub command_of : List (List ℕ) → Option PlainCommand
command_of [] = None
command_of (word ∷ []) = if bytes_eq word (codes "--help") then Some Help else None
command_of (word ∷ next ∷ words) =
    if bytes_eq word (codes "replay") then replay_of next words
    else (if bytes_eq word (codes "twin") then twin_of next words
    else (if bytes_eq word (codes "dump") then dump_of next words
    else (if bytes_eq word (codes "selftest") then selftest_of next words else None)))
