-- What is shown by the words of a comparison.
use Rattle.std.proofs.Common.{Bool, true, false, cond, List, [], ◌∷◌, Option, Some, None, IfSome, codes, option_and_then}
use Rattle.std.specs.Prelude.{bytes_eq}
use Rattle.clap.specs.Words.{Text}
use Rattle.command_line.specs.Shows.{IsShowInRange, PlainShow, show_of, shown_by, shown_of}
use Rattle.command_line.specs.Shows as show
use Rattle.command_line.specs.Words.{Dump, Help, IsInRange, PlainCommand, Replay, Selftest, Twin, twin_of}
use Rattle.command_line.specs.declared.shows.Shown.{Shown}
use Rattle.command_line.specs.declared.shows.Shown.TheVariants.{Difference, Script}
use Rattle.command_line.proofs.CommandLemmas.{command_in_range}

-- the numbers are those of the comparison
by_comparison : (what : Shown) (command : Option PlainCommand) → IfSome command IsInRange
    → IfSome (option_and_then (shown_by what) command) IsShowInRange
by_comparison what None are = tt
by_comparison what (Some Help) are = tt
by_comparison what (Some (Replay list store batch checkpoint start)) are = tt
by_comparison what (Some (Twin site list batch checkpoint start)) are = are
by_comparison what (Some (Dump list store)) are = tt
by_comparison what (Some (Selftest seed)) are = tt

shown_in_range : (what : Shown) (site : Text) (words : List Text) → IfSome (shown_of what site words) IsShowInRange
shown_in_range what site words = by_comparison what (twin_of site words) (command_in_range (codes "twin" ∷ site ∷ words))

-- and so they are in their ranges
pub show_in_range : (words : List Text) → IfSome (show_of words) IsShowInRange
show_in_range [] = tt
show_in_range (word ∷ []) = at (bytes_eq word (codes "--help"))
  where
    at : (b : Bool) → IfSome (cond b (Some show.Help) None) IsShowInRange
    at true = tt
    at false = tt
show_in_range (word ∷ next ∷ words) =
    either (bytes_eq word (codes "show")) (shown_of Script next words) _ (shown_in_range Script next words)
    (either (bytes_eq word (codes "differ")) (shown_of Difference next words) None (shown_in_range Difference next words) tt)
  where
    either : (b : Bool) (one other : Option PlainShow) → IfSome one IsShowInRange → IfSome other IsShowInRange
        → IfSome (cond b one other) IsShowInRange
    either true one other here there = here
    either false one other here there = there
