-- What is printed of a history.
-- Source: none.
-- Our own choice: a line that met a device fault has a reply of its own, `down`, and a restart has
-- one that tells how many durable changes were kept. The caller says what these two replies are.
use Rattle.std.specs.Prelude.{ℕ, List, [], ◌∷◌, ◌++◌, map}
use Rattle.unwinding.specs.Machine.{Machine}
use Rattle.unwinding.specs.World.{SiteReply}
use Rattle.unwinding.specs.Durable.{Keeping, restarted}
use Rattle.unwinding.specs.Epochs.{acknowledged_replies}
use Rattle.unwinding.specs.Admissible.{Step, Stretch, History, OpeningOf, next_opening}
use Rattle.unwinding.specs.Admissible.{opening_after}

module _
    {Site Cell Cells Partition Content Rest Line Event Reply Change KeptPartition KeptCell KeptCells
    : Type 0}
    (m : Machine Site Cell Cells Partition Content Rest Line Event Reply Change)
    (k : Keeping Site Cell Cells Partition Content Rest Change KeptPartition KeptCell KeptCells)
  where
    -- what is printed of a stretch: the acknowledged replies, and one reply for each device fault
    abbrev pub open_transcript : (Step Line → SiteReply Site Reply) → OpeningOf m k → Stretch Line
        → List (SiteReply Site Reply)
    open_transcript down x s =
        acknowledged_replies m (restarted k x.rest x.state) s.epoch ++ map down s.downs

    -- and then the reply to the restart, with its number of kept changes
    abbrev pub stretch_transcript : (ℕ → SiteReply Site Reply) → (Step Line → SiteReply Site Reply)
        → OpeningOf m k → Stretch Line → List (SiteReply Site Reply)
    stretch_transcript reopened down x s =
        open_transcript down x s ++ reopened s.epoch.kept ∷ []

    -- what is printed of all stretches that a restart closed
    abbrev pub closed_transcript : (ℕ → SiteReply Site Reply) → (Step Line → SiteReply Site Reply)
        → OpeningOf m k → List (Stretch Line) → List (SiteReply Site Reply)
    closed_transcript reopened down x [] = []
    closed_transcript reopened down x (s ∷ ss) =
        stretch_transcript reopened down x s
        ++ closed_transcript reopened down (next_opening m k x s) ss

    -- what is printed of a history
    abbrev pub transcript : (ℕ → SiteReply Site Reply) → (Step Line → SiteReply Site Reply)
        → OpeningOf m k → History Line → List (SiteReply Site Reply)
    transcript reopened down x h =
        closed_transcript reopened down x h.closed
        ++ open_transcript down (opening_after m k x h.closed) h.open_end
