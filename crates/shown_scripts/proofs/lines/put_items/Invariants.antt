-- The lines of the items so far stand in the buffer, and their numbers are in range.
use Rattle.std.proofs.Common.{◌≡◌, ◌++◌, map, take}
use Rattle.std.specs.List.{All}
use Rattle.item_lines.specs.Numbers.{IsInRange}
use Rattle.item_lines.specs.Script.{items_text}
use Rattle.local_scripts.specs.Items.{item_of}
use Rattle.shown_scripts.proofs.lines.put_items.Given as goal

abbrev pub invariant-loop-number : goal.invariant-loop-number
invariant-loop-number l = record {
  text : l.text.items ≡ l.fn.text.items ++ items_text 0 (map item_of (take l.number l.items));
  range : All IsInRange (map item_of (take l.number l.items));
}
