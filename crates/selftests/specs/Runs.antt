-- A run over a new store, by how it ended. Only private functions see it.
-- Source: none.
use Rattle.std.specs.Prelude.{ℕ, List, Option}
use Rattle.suffix_list.specs.ListText.{RuleList}
use Rattle.script_actions.specs.Action.{PlainStep}
use Rattle.printed_model.specs.Histories.{EndsUp, begins_at}
use Rattle.store_runs.specs.Runs.{LeavesHistory, Ran}
use Rattle.store_runs.specs.declared.ending.Ending.{Ending}
use Rattle.store_runs.specs.declared.ending.Ending.TheVariants.{Done, Device, Store, Write, Memory}
use Rattle.selftests.specs.Days.{day_start}
use Rattle.selftests.specs.Store.{day_batch}

-- at `Done` the sink took the text of a history of all lines, which leaves these images; no run
-- without cuts ends with a device fault or a store that is refused
abbrev pub RanAnew : Ending → RuleList → List PlainStep → (before after : Option (List ℕ))
    → (images : List ℕ → Type 0) → Type 0
RanAnew Done list steps before after images =
    (ran : Ran list.rules day_batch (begins_at day_start) (Unit {0}) steps before after
    (LeavesHistory list day_batch (begins_at day_start) images))
    × EndsUp ran.history
RanAnew Write list steps before after images = Unit {0}
RanAnew Memory list steps before after images = Unit {0}
RanAnew Device list steps before after images = ⊥
RanAnew (Store why) list steps before after images = ⊥
