-- What the machine of one site makes of its entries alone, with no world around it.
-- Source: none.
-- Our own choice: it goes by the cell that an entry holds, and else by its own copy. It keeps a
-- new content where the cell is home to the site.
use Rattle.std.specs.Prelude.{◌&&◌, List, [], ◌∷◌, ◌++◌, Option, Some, None}
use Rattle.unwinding.specs.Machine.{Machine, WorldOf, OutcomeOf}
use Rattle.unwinding.specs.World.{consulted, outcome}
use Rattle.unwinding.specs.LocalEntries.{HeldCell, Entry, EntryOf, local_entries}

-- what the machine of one site keeps: its partition, and its own copy of the shared cells
pub record OwnState (Cells Partition : Type 0) : Type 0 where
  pub partition : Partition
  pub cells : Cells

-- what one site is given of a run without restart: where it begins, and its entries
pub record EpochScript (Cell Cells Partition Content Event : Type 0) : Type 0 where
  pub beginning : OwnState Cells Partition
  pub entries : List (Entry Cell Content Event)

module _ {Site Cell Cells Partition Content Rest Line Event Reply Change : Type 0}
    (m : Machine Site Cell Cells Partition Content Rest Line Event Reply Change) where
  -- the machine's own states
  abbrev pub OwnOf : Type 0
  OwnOf = OwnState Cells Partition

  -- the cells that the machine goes by: the held ones, and else its own
  abbrev pub cells_used : List (HeldCell Cell Content) → Cells → Cells
  cells_used [] own = own
  cells_used (h ∷ hs) own = m.set h.cell h.content (cells_used hs own)

  -- what the event of an entry gives
  abbrev pub own_outcome : Site → OwnOf → EntryOf m → OutcomeOf m
  own_outcome s o e = outcome m s o.partition (cells_used e.held o.cells) e.event

  -- a consulted cell is kept where it is home to the site
  abbrev pub own_cells : Site → OwnOf → EntryOf m → Cells
  own_cells s o e =
      m.merge (λ c. m.is_home s c && consulted m s o.partition e.event c)
      (own_outcome s o e).cells o.cells

  -- the machine after an entry
  unfoldable pub own_step : Site → OwnOf → EntryOf m → OwnOf
  own_step s o e =
      record { partition = (own_outcome s o e).partition; cells = own_cells s o e }

  -- a reply, where there is one
  abbrev pub reply_list : Option Reply → List Reply
  reply_list None = []
  reply_list (Some r) = r ∷ []

  -- the reply to an entry
  unfoldable pub own_reply : Site → OwnOf → EntryOf m → List Reply
  own_reply s o e = reply_list (own_outcome s o e).reply

  -- the replies to the entries
  abbrev pub entry_replies : Site → OwnOf → List (EntryOf m) → List Reply
  entry_replies s o [] = []
  entry_replies s o (e ∷ es) = own_reply s o e ++ entry_replies s (own_step s o e) es

  -- the machine after the entries
  abbrev pub own_after : Site → OwnOf → List (EntryOf m) → OwnOf
  own_after s o [] = o
  own_after s o (e ∷ es) = own_after s (own_step s o e) es

  -- where a site begins: its partition, and the cells that are home to it
  abbrev pub own_beginning : Site → WorldOf m → OwnOf
  own_beginning s w =
      record { partition = w.partition s; cells = m.restrict (m.is_home s) w.cells }

  -- the local script of a site for lines from an opening world, in a run without restart
  abbrev pub epoch_script : Site → WorldOf m → List Line
      → EpochScript Cell Cells Partition Content Event
  epoch_script s w lines =
      record { beginning = own_beginning s w; entries = local_entries m s [] w lines }

  -- the replies of the site's machine, given its local script alone
  abbrev pub epoch_run : Site → EpochScript Cell Cells Partition Content Event → List Reply
  epoch_run s script = entry_replies s script.beginning script.entries
