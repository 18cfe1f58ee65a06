-- The histories that a run may have, where lines are committed in batches.
-- Source: none.
-- Our own choice: a commit that met a fault may have reached the store whole. So an epoch whose
-- interrupted line ends a batch may keep the changes of all lines that were tried.
-- The last epoch is ended by no restart. Lines that wait for their batch at its end are lost,
-- unless the commit at the end succeeded.
use Rattle.std.specs.Prelude.{◌≡◌, ◌⊎◌, ℕ, ◌+◌, ◌*◌, ◌/◌, ◌%◌, Bool, true, false, List, [], ◌∷◌}
use Rattle.std.specs.Prelude.{◌++◌, Option, Some, None, take, length, map}
use Rattle.unwinding.specs.Machine.{Machine, WorldOf}
use Rattle.unwinding.specs.World.{world_after}
use Rattle.unwinding.specs.Durable.{Keeping, DurableOf, restarted}
use Rattle.unwinding.specs.Epochs.{Epoch, Opening, tried, all_changes}
use Rattle.unwinding.specs.Epochs.{next_durable}

-- a line of a script, which acts or opens the store again
pub data Step (Line : Type 0) : Type 0 where
  Acts : (line : Line) → Step Line
  Reopens : Step Line

-- the interrupted line: the first one that was answered with a device fault, unless it reopens
abbrev pub interrupted_line : {Line : Type 0} → List (Step Line) → Option Line
interrupted_line [] = None
interrupted_line (Acts l ∷ more) = Some l
interrupted_line (Reopens ∷ more) = None

-- an epoch, and all lines of it that were answered with a device fault
pub record Stretch (Line : Type 0) : Type 0 where
  pub epoch : Epoch Line
  pub downs : List (Step Line)

-- the stretches that a restart closed, the last one, and whether the commit at its end succeeded
pub record History (Line : Type 0) : Type 0 where
  pub closed : List (Stretch Line)
  pub open_end : Stretch Line
  pub committed : Bool

-- the script of a stretch
abbrev pub stretch_steps : {Line : Type 0} → Stretch Line → List (Step Line)
stretch_steps s = map (λ l. Acts l) s.epoch.executed ++ s.downs

-- the script of closed stretches, each ended by a line that reopens
abbrev pub closed_steps : {Line : Type 0} → List (Stretch Line) → List (Step Line)
closed_steps [] = []
closed_steps (s ∷ ss) = (stretch_steps s ++ Reopens ∷ []) ++ closed_steps ss

-- the script of a history
abbrev pub history_steps : {Line : Type 0} → History Line → List (Step Line)
history_steps h = closed_steps h.closed ++ stretch_steps h.open_end

-- the epochs of some stretches
abbrev pub epochs : {Line : Type 0} → List (Stretch Line) → List (Epoch Line)
epochs [] = []
epochs (s ∷ ss) = s.epoch ∷ epochs ss

-- the epochs of a history
abbrev pub history_epochs : {Line : Type 0} → History Line → List (Epoch Line)
history_epochs h = epochs h.closed ++ h.open_end.epoch ∷ []

-- the lines of whole batches are acknowledged, and no others
abbrev pub WholeBatches : {Line : Type 0} → ℕ → Epoch Line → Type 0
WholeBatches batch e = e.acknowledged ≡ batch * (length e.executed / batch)

-- the interrupted line ends a batch
abbrev pub EndsBatch : {Line : Type 0} → ℕ → Epoch Line → Option Line → Type 0
EndsBatch batch e None = ⊥
EndsBatch batch e (Some l) = (length e.executed + 1) % batch ≡ 0

-- all lines of the last epoch are acknowledged where the commit at its end succeeded
abbrev pub EndsAcknowledged : {Line : Type 0} → ℕ → Bool → Epoch Line → Type 0
EndsAcknowledged batch true e = e.acknowledged ≡ length e.executed
EndsAcknowledged batch false e = WholeBatches batch e

module _ {Site Cell Cells Partition Content Rest Line Event Reply Change : Type 0}
    (m : Machine Site Cell Cells Partition Content Rest Line Event Reply Change) where
  -- the restart finds the durable changes of the acknowledged lines
  abbrev pub KeepsAcknowledged : WorldOf m → Epoch Line → Type 0
  KeepsAcknowledged w e = e.kept ≡ length (all_changes m w (take e.acknowledged e.executed))

  -- the restart finds the durable changes of all lines that were tried
  abbrev pub KeepsTried : ℕ → WorldOf m → Epoch Line → Type 0
  KeepsTried batch w e =
      EndsBatch batch e e.interrupted × (e.kept ≡ length (all_changes m w (tried e)))

module _
    {Site Cell Cells Partition Content Rest Line Event Reply Change KeptPartition KeptCell KeptCells
    : Type 0}
    (m : Machine Site Cell Cells Partition Content Rest Line Event Reply Change)
    (k : Keeping Site Cell Cells Partition Content Rest Change KeptPartition KeptCell KeptCells)
  where
    -- where epochs of this machine begin
    abbrev pub OpeningOf : Type 0
    OpeningOf = Opening Rest (DurableOf k)

    -- where the epoch after a stretch begins
    abbrev pub next_opening : OpeningOf → Stretch Line → OpeningOf
    next_opening x s =
        let w = restarted k x.rest x.state in
        record {
          rest = (world_after m w s.epoch.executed).rest;
          state = next_durable m k w x.state s.epoch;
        }

    -- where the epoch after some stretches begins
    abbrev pub opening_after : OpeningOf → List (Stretch Line) → OpeningOf
    opening_after x [] = x
    opening_after x (s ∷ ss) = opening_after (next_opening x s) ss

    -- a stretch that a restart closed
    abbrev pub IsAdmissibleStretch : ℕ → OpeningOf → Stretch Line → Type 0
    IsAdmissibleStretch batch x s =
        let w = restarted k x.rest x.state in
        (s.epoch.interrupted ≡ interrupted_line s.downs)
        × WholeBatches batch s.epoch
        × (KeepsAcknowledged m w s.epoch ⊎ KeepsTried m batch w s.epoch)

    -- the last stretch, whose count is that of the acknowledged lines; where the waiting lines were
    -- committed at the end, no line met a device fault
    abbrev pub IsAdmissibleEnd : ℕ → OpeningOf → Bool → Stretch Line → Type 0
    IsAdmissibleEnd batch x committed s =
        (s.epoch.interrupted ≡ interrupted_line s.downs)
        × (committed ≡ true → s.downs ≡ [])
        × EndsAcknowledged batch committed s.epoch
        × KeepsAcknowledged m (restarted k x.rest x.state) s.epoch

    -- all stretches that a restart closed
    abbrev pub AreAdmissible : ℕ → OpeningOf → List (Stretch Line) → Type 0
    AreAdmissible batch x [] = Unit {0}
    AreAdmissible batch x (s ∷ ss) =
        IsAdmissibleStretch batch x s × AreAdmissible batch (next_opening x s) ss

    -- a history that a run from the opening may have
    abbrev pub IsAdmissible : ℕ → OpeningOf → History Line → Type 0
    IsAdmissible batch x h =
        AreAdmissible batch x h.closed
        × IsAdmissibleEnd batch (opening_after x h.closed) h.committed h.open_end
