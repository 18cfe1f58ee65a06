-- Numbers of 64 bits: those that items in memory have.
-- Source: none; the numbers of a JSON text may be of any size.
use Rattle.std.specs.Prelude.{◌<◌, ◌^◌, pos, negsuc, ⊤}
use Rattle.serde_json.specs.Data.{Num, unsigned, negative, float, Data, null, boolean, number}
use Rattle.serde_json.specs.Data.{string, array, object, Items, no_items, item}
use Rattle.serde_json.specs.Data.{Members, no_members, member}
use Rattle.unwinding.specs.LocalScript.{Happens, Restarts}
use Rattle.local_scripts.specs.Items.{AgentItem}
use Rattle.item_lines.specs.Item.{item_data, end_data}

-- a whole number of 64 bits, with a sign where it is below 0
abbrev pub IsShort : Num → Type 0
IsShort (unsigned n) = n < 2 ^ 64
IsShort (negative (pos n)) = ⊥
IsShort (negative (negsuc n)) = n < 2 ^ 63
IsShort (float x) = ⊥

-- each number of a value is so
abbrev mutual
  pub HasShortNumbers : Data → Type 0
  HasShortNumbers null = ⊤
  HasShortNumbers (boolean b) = ⊤
  HasShortNumbers (number n) = IsShort n
  HasShortNumbers (string s) = ⊤
  HasShortNumbers (array ds) = ItemsHaveShortNumbers ds
  HasShortNumbers (object ms) = MembersHaveShortNumbers ms

  pub ItemsHaveShortNumbers : Items → Type 0
  ItemsHaveShortNumbers no_items = ⊤
  ItemsHaveShortNumbers (item d ds) = HasShortNumbers d × ItemsHaveShortNumbers ds

  pub MembersHaveShortNumbers : Members → Type 0
  MembersHaveShortNumbers no_members = ⊤
  MembersHaveShortNumbers (member k d ms) = HasShortNumbers d × MembersHaveShortNumbers ms

-- each number of an item has 64 bits
abbrev pub IsInRange : AgentItem → Type 0
IsInRange one = HasShortNumbers (item_data 0 one)

-- an item that can be the end of a local script: no entry, and its numbers have 64 bits
abbrev pub IsEnd : AgentItem → Type 0
IsEnd (Happens entry) = ⊥
IsEnd (Restarts moment acknowledged kept) =
    HasShortNumbers (end_data (Restarts moment acknowledged kept))
