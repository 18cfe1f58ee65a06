-- The local script of a site: all that it is given of a whole run.
-- Source: none.
-- Our own choice: events of interrupted lines are entries, and cells that they changed count as
-- changed by others. A cell that has to be held stays so over restarts.
use Rattle.std.specs.Prelude.{ℕ, List, [], ◌∷◌, ◌++◌, length}
use Rattle.unwinding.specs.Machine.{Machine}
use Rattle.unwinding.specs.World.{world_after, of_site}
use Rattle.unwinding.specs.LocalEntries.{Entry, local_entries, touched_after}
use Rattle.unwinding.specs.Durable.{Keeping, DurableOf, restarted, changes_of_site}
use Rattle.unwinding.specs.Epochs.{Epoch, Opening, tried, acknowledged_replies, kept_changes}
use Rattle.unwinding.specs.Epochs.{next_durable}

-- an entry, or a restart: the moment, how many of the site's replies were acknowledged, and how
-- many of its durable changes were kept
pub data ScriptItem (Cell Content Event : Type 0) : Type 0 where
  Happens : (entry : Entry Cell Content Event) → ScriptItem Cell Content Event
  Restarts : (moment acknowledged kept : ℕ) → ScriptItem Cell Content Event

-- what is kept of one site at an opening
pub record Beginning (KeptPartition KeptCells : Type 0) : Type 0 where
  pub partition : KeptPartition
  pub cells : KeptCells

-- the beginning and the items
pub record LocalScript (Cell Content Event KeptPartition KeptCells : Type 0) : Type 0 where
  pub beginning : Beginning KeptPartition KeptCells
  pub items : List (ScriptItem Cell Content Event)

-- entries as items
abbrev pub happenings : {Cell Content Event : Type 0} → List (Entry Cell Content Event)
    → List (ScriptItem Cell Content Event)
happenings [] = []
happenings (e ∷ es) = Happens e ∷ happenings es

module _
    {Site Cell Cells Partition Content Rest Line Event Reply Change KeptPartition KeptCell KeptCells
    : Type 0}
    (m : Machine Site Cell Cells Partition Content Rest Line Event Reply Change)
    (k : Keeping Site Cell Cells Partition Content Rest Change KeptPartition KeptCell KeptCells)
  where
    -- the items of a run from an opening, where `touched` are the cells that others have changed.
    -- The last epoch is closed as the others are, so that its moment and counts are the end.
    abbrev pub local_items : Site → List Cell → Rest → DurableOf k → List (Epoch Line)
        → List (ScriptItem Cell Content Event)
    local_items s touched r d [] = []
    local_items s touched r d (e ∷ es) =
        let w = restarted k r d in
        let rest = (world_after m w e.executed).rest in
        happenings (local_entries m s touched w (tried e))
        ++ Restarts (m.moment rest) (length (of_site m s (acknowledged_replies m w e)))
        (length (changes_of_site m s (kept_changes m w e)))
        ∷ local_items s (touched_after m s touched w (tried e)) rest (next_durable m k w d e) es

    -- what is kept of a site's partition, and of the cells that are home to it
    abbrev pub beginning_of : Site → DurableOf k → Beginning KeptPartition KeptCells
    beginning_of s d =
        record { partition = d.partition s; cells = k.kept_restrict (m.is_home s) d.cells }

    -- the local script of a site
    abbrev pub local_script : Site → Opening Rest (DurableOf k) → List (Epoch Line)
        → LocalScript Cell Content Event KeptPartition KeptCells
    local_script s o es =
        record { beginning = beginning_of s o.state; items = local_items s [] o.rest o.state es }
