-- The text of a local script: the lines of its entries and restarts, numbered from 0, and the line
-- of its end.
-- Source: none. Our own choice: the whole format.
use Rattle.std.specs.Prelude.{ℕ, ◌+◌, List, [], ◌∷◌, ◌++◌}
use Rattle.local_scripts.specs.Items.{AgentItem}
use Rattle.item_lines.specs.Item.{item_text, end_text}

-- the lines of some items, of which the first has this number
unfoldable pub items_text : (number : ℕ) → List AgentItem → List ℕ
items_text number [] = []
items_text number (item ∷ items) = item_text number item ++ items_text (number + 1) items

-- the lines of a local script
abbrev pub script_text : List AgentItem → (end : AgentItem) → List ℕ
script_text items end = items_text 0 items ++ end_text end
