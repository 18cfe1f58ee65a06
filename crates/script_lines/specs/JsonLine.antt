-- The data that a line is.
use Rattle.serde_json.specs.Data.{Data, object}
use Rattle.serde_json.specs.View.{view}
use Rattle.script_lines.specs.Flat.{members_of}
use Rattle.script_lines.specs.declared.json_line.JsonLine.{JsonLine}
use Rattle.script_lines.specs.declared.json_line.JsonLine.TheVariants.{Flat, Tree}

-- a line
abbrev pub data_of_line : JsonLine → Data
data_of_line (Flat members) = object (members_of members.items)
data_of_line (Tree value) = view value
