-- Two items, and two local scripts, have the same text exactly where they are equal.
-- Source: none; these laws are about our own definitions.
-- Our own choice: numbers have 64 bits, as those of every item that was printed have.
use Rattle.std.specs.Prelude.{◌≡◌, ◌↔◌, ◌<◌, ◌≤◌, ◌^◌, ℕ, List, length}
use Rattle.std.specs.List.{All}
use Rattle.local_scripts.specs.Items.{AgentItem}
use Rattle.item_lines.specs.Item.{item_text, end_text}
use Rattle.item_lines.specs.Numbers.{IsInRange, IsEnd}
use Rattle.item_lines.specs.Script.{script_text}

-- two items of one number
abbrev pub ItemsDifferAsTheirLines : Type 0
ItemsDifferAsTheirLines = (number : ℕ) (a b : AgentItem) → number < 2 ^ 64
    → IsInRange a → IsInRange b
    → (item_text number a ≡ item_text number b) ↔ (a ≡ b)

-- two ends
abbrev pub EndsDifferAsTheirLines : Type 0
EndsDifferAsTheirLines = (a b : AgentItem) → IsEnd a → IsEnd b → (end_text a ≡ end_text b) ↔ (a ≡ b)

-- two local scripts, of not too many items
abbrev pub ScriptsDifferAsTheirTexts : Type 0
ScriptsDifferAsTheirTexts = (one other : List AgentItem) (end last : AgentItem)
    → length one ≤ 2 ^ 64 → length other ≤ 2 ^ 64
    → All IsInRange one → All IsInRange other → IsEnd end → IsEnd last
    → (script_text one end ≡ script_text other last) ↔ ((one ≡ other) × (end ≡ last))
