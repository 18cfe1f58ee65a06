use Rattle.std.proofs.Common.{◌≡◌, drop}
use Rattle.serde_json.specs.View.{items_view}
use Rattle.script_lines.specs.Cuts.{cut_of_pair}
use Rattle.script_lines.specs.Items.{each_of}
use Rattle.script_lines.proofs.ItemLemmas.{joined}
use Rattle.script_lines.proofs.cuts.each_cut.Given as goal

abbrev pub invariant-loop-item : goal.invariant-loop-item
invariant-loop-item l =
    each_of cut_of_pair (items_view l.items) ≡ joined l.cuts.items (each_of cut_of_pair (items_view (drop l.item-index l.items)))
