-- The forms of words that are a command, and what is so of each.
use Rattle.std.proofs.Common.{◌≡◌, ℕ, ◌≤◌, Bool, true, false, cond, ◌&&◌, List, [], ◌∷◌, Option, Some, None, IfSome, option_and_then, option_map, unwrap_or, refl, subst, sym}
use Rattle.std.specs.Prelude.{bytes_eq, codes}
use Rattle.std.proofs.lemmas.Bool.{and_parts, leb-true}
use Rattle.std.proofs.lemmas.Slice.Eq.{bytes_eq-Decides}
use Rattle.clap.specs.Words.{Text}
use Rattle.agent_base.specs.Seconds.{last_moment}
use Rattle.command_line.specs.Options.{Pair, batch_of, checkpoint_of, default_batch, default_checkpoint, default_start, first_batch, first_start, is_path, last_batch, last_checkpoint, no_checkpoint, number_of, options_of, start_of, storeless_of, value_named}
use Rattle.command_line.specs.Words.{AreInRange, Dump, Help, IsInRange, PlainCommand, Selftest, command_of, comparison_of, dump_of, first_seed, last_seed, replay_of, run_of, seed_of, selftest_of, twin_of}
use Rattle.command_line.proofs.NumberLemmas.{number_in_range}

-- what is so of each form of command is so of each command
pub record IsSoOfAll (So : List Text → PlainCommand → Type 0) : Type 0 where
  pub help : So (codes "--help" ∷ []) Help
  pub run : (list : Text) (words : List Text) (options : List Pair) → is_path list ≡ true → options_of words ≡ Some options → So (codes "replay" ∷ list ∷ words) (run_of list options)
  pub comparison : (site list : Text) (words : List Text) (options : List Pair) → is_path site ≡ true → is_path list ≡ true → storeless_of words ≡ Some options → So (codes "twin" ∷ site ∷ list ∷ words) (comparison_of site list options)
  pub dump : (list store : Text) → is_path list ≡ true → is_path store ≡ true → So (codes "dump" ∷ list ∷ store ∷ []) (Dump list store)
  pub selftest : (text : Text) (seed : ℕ) → seed_of text ≡ Some seed → So (codes "selftest" ∷ text ∷ []) (Selftest seed)

module _ (So : List Text → PlainCommand → Type 0) (all : IsSoOfAll So) where
  replay_is : (list : Text) (words : List Text) → IfSome (replay_of list words) (So (codes "replay" ∷ list ∷ words))
  replay_is list words = at (is_path list) (options_of words) refl refl
    where
      at : (path : Bool) (options : Option (List Pair)) → is_path list ≡ path → options_of words ≡ options
          → IfSome (cond path (option_map (run_of list) options) None) (So (codes "replay" ∷ list ∷ words))
      at true (Some options) path are = all.run list words options path are
      at true None path are = tt
      at false options path are = tt

  twin_is : (site : Text) (words : List Text) → IfSome (twin_of site words) (So (codes "twin" ∷ site ∷ words))
  twin_is site [] = tt
  twin_is site (list ∷ words) = at (is_path site && is_path list) (storeless_of words) refl refl
    where
      at : (paths : Bool) (options : Option (List Pair)) → (is_path site && is_path list) ≡ paths → storeless_of words ≡ options
          → IfSome (cond paths (option_map (comparison_of site list) options) None) (So (codes "twin" ∷ site ∷ list ∷ words))
      at true (Some options) paths are =
          let parts = and_parts (is_path site) (is_path list) paths in
          all.comparison site list words options parts.0 parts.1 are
      at true None paths are = tt
      at false options paths are = tt

  dump_is : (list : Text) (words : List Text) → IfSome (dump_of list words) (So (codes "dump" ∷ list ∷ words))
  dump_is list [] = tt
  dump_is list (store ∷ []) = at (is_path list && is_path store) refl
    where
      at : (paths : Bool) → (is_path list && is_path store) ≡ paths → IfSome (cond paths (Some (Dump list store)) None) (So (codes "dump" ∷ list ∷ store ∷ []))
      at true paths =
          let parts = and_parts (is_path list) (is_path store) paths in
          all.dump list store parts.0 parts.1
      at false paths = tt
  dump_is list (store ∷ more ∷ words) = tt

  selftest_is : (text : Text) (words : List Text) → IfSome (selftest_of text words) (So (codes "selftest" ∷ text ∷ words))
  selftest_is text [] = at (seed_of text) refl
    where
      at : (seed : Option ℕ) → seed_of text ≡ seed → IfSome (option_map Selftest seed) (So (codes "selftest" ∷ text ∷ []))
      at None is = tt
      at (Some seed) is = all.selftest text seed is
  selftest_is text (more ∷ words) = tt

  pub command_is : (words : List Text) → IfSome (command_of words) (So words)
  command_is [] = tt
  command_is (word ∷ []) = at (bytes_eq word (codes "--help")) refl
    where
      at : (b : Bool) → bytes_eq word (codes "--help") ≡ b → IfSome (cond b (Some Help) None) (So (word ∷ []))
      at true same = subst (λ w. So (w ∷ []) Help) (sym ((bytes_eq-Decides word (codes "--help")).0 same)) all.help
      at false same = tt
  command_is (word ∷ next ∷ words) =
      named (codes "replay") (replay_of next words) _ (replay_is next words)
      (named (codes "twin") (twin_of next words) _ (twin_is next words)
      (named (codes "dump") (dump_of next words) _ (dump_is next words) (named (codes "selftest") (selftest_of next words) None (selftest_is next words) tt)))
    where
      -- the words of a command by its name, or of another
      named : (name : Text) (found other : Option PlainCommand) → IfSome found (So (name ∷ next ∷ words)) → IfSome other (So (word ∷ next ∷ words))
          → IfSome (cond (bytes_eq word name) found other) (So (word ∷ next ∷ words))
      named name found other here there = at (bytes_eq word name) refl
        where
          at : (b : Bool) → bytes_eq word name ≡ b → IfSome (cond b found other) (So (word ∷ next ∷ words))
          at true same = subst (λ w. IfSome found (So (w ∷ next ∷ words))) (sym ((bytes_eq-Decides word name).0 same)) here
          at false differs = there

-- ---- the ranges of numbers

-- a number that a value says, or the usual one, is in its range
value_in_range : (first last usual : ℕ) (value : Option Text) → first ≤ usual → usual ≤ last
    → (first ≤ unwrap_or (option_and_then (number_of first last) value) usual) × (unwrap_or (option_and_then (number_of first last) value) usual ≤ last)
value_in_range first last usual None low high = (low, high)
value_in_range first last usual (Some text) low high = at (number_of first last text) (number_in_range first last text)
  where
    at : (n : Option ℕ) → IfSome n (λ n. (first ≤ n) × (n ≤ last)) → (first ≤ unwrap_or n usual) × (unwrap_or n usual ≤ last)
    at None is = (low, high)
    at (Some n) is = is

numbers_in_range : (options : List Pair) → AreInRange (batch_of (value_named (codes "--batch") options)) (checkpoint_of (value_named (codes "--checkpoint") options)) (start_of (value_named (codes "--start") options))
numbers_in_range options =
    let batch = value_in_range first_batch last_batch default_batch (value_named (codes "--batch") options) (leb-true first_batch default_batch refl) (leb-true default_batch last_batch refl) in
    let checkpoint = value_in_range no_checkpoint last_checkpoint default_checkpoint (value_named (codes "--checkpoint") options) (leb-true no_checkpoint default_checkpoint refl) (leb-true default_checkpoint last_checkpoint refl) in
    let start = value_in_range first_start last_moment default_start (value_named (codes "--start") options) (leb-true first_start default_start refl) (leb-true default_start last_moment refl) in
    (batch.0, batch.1, checkpoint.1, start.1)

pub command_in_range : (words : List Text) → IfSome (command_of words) IsInRange
command_in_range words = command_is (λ words command. IsInRange command) (record {
  help = tt;
  run = λ list words options path are. numbers_in_range options;
  comparison = λ site list words options path other are. numbers_in_range options;
  dump = λ list store path other. tt;
  selftest = λ text seed is. (subst (λ (found : Option ℕ). IfSome found (λ n. (first_seed ≤ n) × (n ≤ last_seed))) is (number_in_range first_seed last_seed text)).1;
}) words
