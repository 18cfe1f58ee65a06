-- The data that values and members of a line are.
use Rattle.std.specs.Prelude.{List, fold, map}
use Rattle.serde_json.specs.Data.{Data, array, boolean, number, string, unsigned}
use Rattle.serde_json.specs.Data.{Items, no_items, item, Members, no_members, put}
use Rattle.serde_json.specs.View.{items_of, view}
use Rattle.script_lines.specs.declared.flat_object.FlatValue.{FlatValue}
use Rattle.script_lines.specs.declared.flat_object.FlatValue.TheVariants as flat
use Rattle.script_lines.specs.declared.flat_object.Member.{Member}
use Rattle.script_lines.specs.declared.json_value.JsonValue.{JsonValue}
use Rattle.script_lines.specs.declared.json_value.JsonValue.TheVariants as json
use Rattle.script_lines.specs.declared.pairs.Pair.{Pair}
use Rattle.script_actions.specs.Action.{HeadField}

-- a pair of texts
abbrev pub pair_data : Pair → Data
pair_data pair = array (item (string pair.name.now) (item (string pair.value.now) no_items))

-- a pair of texts as a field of a head
abbrev pub field_of_texts : Pair → HeadField
field_of_texts pair = record { name = pair.name.now; value = pair.value.now }

-- pairs as the items of a list
abbrev pub items_of_pairs : List Pair → Items
items_of_pairs pairs = items_of (map pair_data pairs)

-- a list of pairs
abbrev pub pairs_data : List Pair → Data
pairs_data pairs = array (items_of_pairs pairs)

-- a value
abbrev pub data_of : JsonValue → Data
data_of (json.Text text) = string text.now
data_of (json.Whole n) = number (unsigned n)
data_of (json.Truth truth) = boolean truth
data_of (json.Pairs pairs) = pairs_data pairs.now
data_of (json.Any value) = view value.now

-- a value that is read token by token
abbrev pub flat_data : FlatValue → Data
flat_data (flat.Text text) = string text.now
flat_data (flat.Whole n) = number (unsigned n)
flat_data (flat.Truth truth) = boolean truth
flat_data (flat.Pairs pairs) = pairs_data pairs.items

-- a member goes to those before it
abbrev pub with_member : Members → Member → Members
with_member found member = put member.name.now (flat_data member.value) found

-- of two members of one name the later counts
abbrev pub members_of : List Member → Members
members_of list = fold with_member no_members list
