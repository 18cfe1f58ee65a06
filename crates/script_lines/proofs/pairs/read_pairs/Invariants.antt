use Rattle.std.proofs.Common.{◌≡◌, ℕ, ◌≤◌, length, map}
use Rattle.json.specs.Json.{items, value}
use Rattle.serde_json.specs.Read.{of_items, converted}
use Rattle.script_lines.specs.Flat.{pair_data}
use Rattle.script_lines.proofs.PairLemmas.{behind}
use Rattle.script_lines.proofs.pairs.read_pairs.Given as goal

abbrev pub invariant-pairs : goal.invariant-pairs
invariant-pairs l =
    (n : ℕ) × (length l.reader ≤ n)
    × (converted of_items (items (value 125) (length l.initial.reader) l.initial.reader) ≡ behind (map pair_data l.found.items) (converted of_items (items (value 125) n l.reader)))

abbrev pub decreases-pairs : goal.decreases-pairs
decreases-pairs l = length l.reader
