-- The keys so far have their row changes.
use Rattle.std.proofs.Common.{◌≡◌, map, take}
use Rattle.storage_key.specs.Plain.{plain_key}
use Rattle.row_changes.specs.Change.{AreaClear}
use Rattle.row_changes.specs.Plain.{plain_change}
use Rattle.agent_memory.proofs.holdings.persistence.clears_of.Given as goal

abbrev pub invariant-loop-key : goal.invariant-loop-key
invariant-loop-key l = map plain_change l.changes.items ≡ map (λ key. AreaClear (plain_key key)) (take l.key-index l.keys)
