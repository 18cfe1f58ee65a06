-- What a line that is JSON asks for, by the table of lines, and the cuts that the line `disk` has.
-- Source: the script format of docs/FORMATS.md. Our own choice: all of it. The fields of a row come
-- before members that no field has.
use Rattle.std.specs.Prelude.{ℕ, Bool, true, false, not, ◌||◌, List, [], ◌∷◌, map, codes, bytes_eq}
use Rattle.std.specs.Prelude.{find, Option, Some, None, unwrap_or, option_map, option_and_then}
use Rattle.std.specs.Prelude.{Result, Ok, Err}
use Rattle.std.specs.List.{list_any}
use Rattle.serde_json.specs.Data.{Data, Members, no_members, member}
use Rattle.serde_json.specs.Find.{get, as_object, as_str}
use Rattle.case_tables.specs.Rows.{first_value}
use Rattle.disk_model.specs.declared.schedule.Cut.{Cut}
use Rattle.script_actions.specs.Action.{PlainStep}
use Rattle.script_lines.specs.Script.{PlainFault, UnknownAction, BadField}
use Rattle.script_lines.specs.Fields.{then_ok, fields_of, required, cut_list}
use Rattle.script_lines.specs.Rows.{Row}
use Rattle.script_lines.specs.Actions.{table}

-- ---- members

-- the names of an object's members, in byte order
abbrev pub member_names : Members → List (List ℕ)
member_names no_members = []
member_names (member name value members) = name ∷ member_names members

-- the names of a line's members; a line that is no object has none
abbrev pub names_of : Data → List (List ℕ)
names_of line = unwrap_or (option_map member_names (as_object line)) []

-- the name is one of these, or that of the member which names the action
abbrev pub is_known : List (List ℕ) → List ℕ → Bool
is_known known name = bytes_eq name (codes "do") || list_any (λ k. bytes_eq k name) known

-- the first member in byte order that is not known
abbrev pub first_unknown : List (List ℕ) → Data → Option (List ℕ)
first_unknown known line = find (λ name. not (is_known known name)) (names_of line)

-- no member, or the fault of this one
abbrev pub refused : ℕ → Option (List ℕ) → Result (Unit {0}) PlainFault
refused number None = Ok tt
refused number (Some name) = Err (BadField number name)

-- ---- steps

-- what a line gives by a row, or the fault of the first bad member: the first bad one of the
-- fields, else the first that is not known
abbrev pub by_row : {A : Type 0} → ℕ → Row A → Data → Result A PlainFault
by_row number row line =
    then_ok (fields_of number row.fields line) (λ values.
    then_ok (refused number (first_unknown (map (λ field. field.name) row.fields) line)) (λ _.
    Ok (row.gives values)))

-- what a line asks for, by the row of its name
abbrev pub step_by : ℕ → Option (Row PlainStep) → Data → Result PlainStep PlainFault
step_by number None line = Err (UnknownAction number)
step_by number (Some row) line = by_row number row line

-- the first row of a name
abbrev pub row_named : List ℕ → Option (Row PlainStep)
row_named name = first_value (λ other. bytes_eq other name) table

-- what a line asks for, by the text of the member `do`
abbrev pub step_named : ℕ → Option (List ℕ) → Data → Result PlainStep PlainFault
step_named number None line = Err (BadField number (codes "do"))
step_named number (Some name) line = step_by number (row_named name) line

-- the name of a line that is JSON
abbrev pub name_of : Data → Option (List ℕ)
name_of line = option_and_then as_str (get (codes "do") line)

-- what a line that is JSON asks for
abbrev pub step_of_data : ℕ → Data → Result PlainStep PlainFault
step_of_data number line = step_named number (name_of line) line

-- ---- cuts

-- the line `disk` gives the cuts that its one field has
abbrev pub disk_row : Row (List Cut)
disk_row = record { fields = required (codes "cuts") cut_list ∷ []; gives = λ (cuts, _). cuts }

-- the cuts of a line `disk`. Where none are allowed the field is bad, whatever the line has.
abbrev pub cuts_of_data : Bool → ℕ → Data → Result (List Cut) PlainFault
cuts_of_data true number line = by_row number disk_row line
cuts_of_data false number line = Err (BadField number (codes "cuts"))
