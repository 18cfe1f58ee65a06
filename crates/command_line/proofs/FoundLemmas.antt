-- A value that a parse found, by its name.
use Rattle.std.proofs.Common.{◌≡◌, Bool, true, false, cond, List, [], ◌∷◌, Option, Some, None, find, map, option_and_then, option_map, refl, ap, sym, ◌∙◌}
use Rattle.std.specs.Prelude.{Box, bytes_eq, slice_get}
use Rattle.std.specs.Box.{box_value}
use Rattle.std.specs.Borrow.{Bor}
use Rattle.clap.specs.Facts.{Entry}
use Rattle.clap.specs.Walk.{Row, Text, first_of, row_of, rows_of}
use Rattle.clap.specs.Matches.{first_value}
use Rattle.clap.specs.Words.{subcommand_rows}
use Rattle.clap.specs.declared.parser.matches.Found.{Found}
use Rattle.clap.specs.declared.parser.matches.ArgMatches.TheViews.{out-SubCommand}
use Rattle.clap.specs.declared.parser.matches.SubCommand.{SubCommand}
use Rattle.command_line.specs.Program.{found_in}

first_text : (vals : List (Bor Text)) → option_map (λ s. s.now) (slice_get vals 0) ≡ slice_get (map (λ s. s.now) vals) 0
first_text [] = refl
first_text (val ∷ vals) = refl

-- the first value among the entries is that among their rows
first_in : (entries : List Entry) (id : Text)
    → option_and_then (λ a. option_map (λ s. s.now) (slice_get a.vals.items 0)) (option_map (λ e. e.1) (find (λ e. bytes_eq e.0.now id) entries))
    ≡ first_of id (map row_of entries)
first_in [] id = refl
first_in (entry ∷ entries) id = at (bytes_eq entry.0.now id) (first_in entries id)
  where
    at : (b : Bool) → option_and_then (λ a. option_map (λ s. s.now) (slice_get a.vals.items 0)) (option_map (λ e. e.1) (find (λ e. bytes_eq e.0.now id) entries)) ≡ first_of id (map row_of entries)
        → option_and_then (λ a. option_map (λ s. s.now) (slice_get a.vals.items 0)) (option_map (λ e. e.1) (cond b (Some entry) (find (λ e. bytes_eq e.0.now id) entries)))
        ≡ option_and_then (λ r. slice_get r.values 0) (cond b (Some (row_of entry)) (find (λ r. bytes_eq r.id id) (map row_of entries)))
    at true later = first_text entry.1.vals.items
    at false later = later

pub first_value_is : (found : Found) (id : Text) → first_value found id ≡ first_of id (rows_of found)
first_value_is found id = first_in found.entries.items id

-- the command that was met, by its name and its rows
command_met : (name : Text) (rows : List Row) (met : Option (Text × List Row)) → Some name ≡ option_map (λ c. c.0) met → Some rows ≡ option_map (λ c. c.1) met
    → met ≡ Some (name, rows)
command_met name rows None named found = cc
command_met name rows (Some (a, b)) named found = cc

name_met : {Z : Type 0} (met : Option (Box SubCommand Z)) → option_map (λ b. (out-SubCommand (box_value b)).name.now) met ≡ option_map (λ c. c.0) (subcommand_rows met)
name_met None = refl
name_met (Some command) = refl

-- a value among the rows of the command that was met, where it is this one
pub found_by_rows : {Z : Type 0} (command name met : Text) (rows : List Row) (commands : Option (Box SubCommand Z)) → bytes_eq met command ≡ true
    → Some met ≡ option_map (λ b. (out-SubCommand (box_value b)).name.now) commands → Some rows ≡ option_map (λ c. c.1) (subcommand_rows commands)
    → first_of name rows ≡ found_in command name (subcommand_rows commands)
found_by_rows command name met rows commands is named found =
    sym (ap (found_in command name) (command_met met rows (subcommand_rows commands) (named ∙ name_met commands) found)
    ∙ ap (λ b. cond b (first_of name rows) None) is)
