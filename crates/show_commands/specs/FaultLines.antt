-- The line that a run writes to standard error, where its status is not 0.
-- Source: none.
-- Our own choice: the usage line names each command; the others are those of `replay`.
use Rattle.std.specs.Prelude.{◌≡◌, ◌⊎◌, ℕ, List, [], ◌∷◌, ◌++◌, codes, Option}
use Rattle.agent_base.specs.Counts.{Rose}
use Rattle.agent_base.specs.Streams.{Takes, TakesPrefix}
use Rattle.replay.specs.BeforeAfter.{BeforeAfter}
use Rattle.replay.specs.FaultLines.{fault_line}
use Rattle.replay.specs.declared.status.Status.{Status}
use Rattle.replay.specs.declared.status.Status.TheVariants.{Usage}

-- the usage line
abbrev pub usage_line : List ℕ
usage_line = codes "usage: show SITE LIST, differ SITE LIST" ++ 10 ∷ []

-- the line of a status, and nothing where the run is done
abbrev pub status_line : Status → List ℕ
status_line Usage = usage_line
status_line status = fault_line status

-- standard error took the line of the status, or a prefix of it where its count of faults rose
abbrev pub TellsLine : Status → (taken : BeforeAfter (Option (List ℕ))) → (faults : BeforeAfter ℕ)
    → Type 0
TellsLine status taken faults =
    (Takes taken.before taken.after (status_line status) × (faults.after ≡ faults.before))
    ⊎ (TakesPrefix taken.before taken.after (status_line status) × Rose faults.before faults.after)
