-- What private functions leave. No public clause rests on it.
-- Source: none.
use Rattle.std.specs.Prelude.{◌≡◌, ◌⊎◌, ℕ, true, List, if◌then◌else◌}
use Rattle.journal.specs.Frame.{IsSecond}
use Rattle.journal.specs.Region.{StandsForState}
use Rattle.suffix_list.specs.ListText.{RuleList}
use Rattle.durable_model.specs.Migrate.{migrate}
use Rattle.durable_model.specs.Saved.{Saved, nothing_saved}
use Rattle.row_store.specs.Bodies.{Takes}
use Rattle.row_opening.specs.Under.{checkpoint_calls, migrates}

-- a store stays, or its rows are written anew: it stands for its state still, or for what stays of
-- it under the list
abbrev pub IsSettling : RuleList → (kept : List ℕ) → Saved → ℕ → (old new : List ℕ) → Type 0
IsSettling list kept d n old new = (new ≡ old)
    ⊎ ((migrates list kept d ≡ true) × IsSecond new
    × (StandsForState Takes nothing_saved kept new d n
    ⊎ StandsForState Takes nothing_saved list.digest new (migrate list.rules d) n))

-- how many changing calls that takes
abbrev pub settle_calls : RuleList → (kept : List ℕ) → Saved → ℕ
settle_calls list kept d = if migrates list kept d then checkpoint_calls else 0
