use Rattle.std.proofs.Common.{◌≡◌, map, take}
use Rattle.serde_json.specs.View.{view}
use Rattle.script_lines.specs.Flat.{pair_data}
use Rattle.script_lines.proofs.pairs.tree_of_pairs.Given as goal

abbrev pub invariant-loop-pair : goal.invariant-loop-pair
invariant-loop-pair l = map view l.items.items ≡ map pair_data (take l.pair-index l.pairs)
