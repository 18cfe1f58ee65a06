-- The head of a response, as a line has it: a list of header fields, each a pair of texts.
-- Source: RFC 9110, "Field Names" and "Field Values", for names as the crate `http_header` takes
-- them.
-- Our own choice: a head has at most 64 fields, and a value lacks U+0000, U+000A and U+000D alone.
use Rattle.std.specs.Prelude.{ℕ, Bool, not, ◌||◌, ◌&&◌, ◌==◌, nat_le, List, length}
use Rattle.std.specs.Prelude.{Option, Some, None, option_and_then, if◌then◌else◌}
use Rattle.std.specs.List.{list_any}
use Rattle.http_header.specs.FieldName.{is_field_name}
use Rattle.serde_json.specs.Data.{Data}
use Rattle.serde_json.specs.Find.{as_array, as_str}
use Rattle.script_actions.specs.Action.{HeadField}
use Rattle.script_lines.specs.Items.{each_of, two_of}
use Rattle.script_lines.specs.declared.heads.TheConstants.{MOST_FIELDS}

-- the most fields of a head
abbrev pub most_fields : ℕ
most_fields = MOST_FIELDS

-- ---- form

-- a field of this name and value, where both are there
abbrev pub field_by : Option (List ℕ) → Option (List ℕ) → Option HeadField
field_by (Some name) (Some value) = Some (record { name = name; value = value })
field_by (Some name) None = None
field_by None value = None

-- the field that a pair of texts is
abbrev pub field_of_pair : Data → Option HeadField
field_of_pair pair =
    option_and_then (λ (name, value). field_by (as_str name) (as_str value)) (two_of pair)

-- no more fields than a head may have
abbrev pub few : List HeadField → Option (List HeadField)
few fields = if nat_le (length fields) most_fields then Some fields else None

-- the head that a value is by its form, whatever its names and values are
abbrev pub head_of_value : Data → Option (List HeadField)
head_of_value value =
    option_and_then few (option_and_then (each_of field_of_pair) (as_array value))

-- ---- names and values

-- a byte that no value of a header field has: U+0000, a line feed, a carriage return
abbrev pub ends_a_value : ℕ → Bool
ends_a_value b = b == 0 || (b == 10 || b == 13)

-- a field whose name is a header name, and whose value has no such byte
abbrev pub is_header : HeadField → Bool
is_header field = is_field_name field.name && not (list_any ends_a_value field.value)
