-- The words of the program that shows what scripts give a site, without its name, that are a
-- command.
-- Source: none.
-- Our own choice: all of it. What stands behind `show` and `differ` is what stands behind `twin`,
-- and so are the options.
use Rattle.std.specs.Prelude.{ℕ, List, [], ◌∷◌, codes, bytes_eq, Option, Some, None}
use Rattle.std.specs.Prelude.{if◌then◌else◌, option_and_then}
use Rattle.command_line.specs.Words.{AreInRange, PlainCommand, Twin, twin_of}
use Rattle.command_line.specs.declared.shows.Shown.{Shown}
use Rattle.command_line.specs.declared.shows.Shown.TheVariants.{Difference, Script}

-- a command: the usage line, or what is shown of a site, under a list
pub data PlainShow : Type 0 where
  Help : PlainShow
  Shows : (what : Shown) (site list : List ℕ) (batch checkpoint start : ℕ) → PlainShow

-- the numbers of a command are in their ranges
abbrev pub IsShowInRange : PlainShow → Type 0
IsShowInRange Help = Unit {0}
IsShowInRange (Shows what site list batch checkpoint start) = AreInRange batch checkpoint start

-- what is shown by the words of a comparison; no other command has a site
abbrev pub shown_by : Shown → PlainCommand → Option PlainShow
shown_by what (Twin site list batch checkpoint start) =
    Some (Shows what site list batch checkpoint start)
shown_by what command = None

-- what is shown by these words behind `show` or `differ`
abbrev pub shown_of : Shown → (site : List ℕ) → List (List ℕ) → Option PlainShow
shown_of what site words = option_and_then (shown_by what) (twin_of site words)

-- the command that words are
abbrev pub show_of : List (List ℕ) → Option PlainShow
show_of [] = None
show_of (word ∷ []) = if bytes_eq word (codes "--help") then Some Help else None
show_of (word ∷ next ∷ words) =
    if bytes_eq word (codes "show") then shown_of Script next words
    else (if bytes_eq word (codes "differ") then shown_of Difference next words else None)
