use Rattle.std.proofs.Common.{◌≡◌, map, drop}
use Rattle.serde_json.specs.View.{items_view}
use Rattle.script_lines.specs.Heads.{field_of_pair}
use Rattle.script_lines.specs.Items.{each_of}
use Rattle.script_lines.specs.Flat.{field_of_texts}
use Rattle.script_lines.proofs.ItemLemmas.{joined}
use Rattle.script_lines.proofs.heads.each_pair.Given as goal

abbrev pub invariant-loop-item : goal.invariant-loop-item
invariant-loop-item l =
    each_of field_of_pair (items_view l.items) ≡ joined (map field_of_texts l.pairs.items) (each_of field_of_pair (items_view (drop l.item-index l.items)))
