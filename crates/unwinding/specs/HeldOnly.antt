-- When an event of another site leaves a cell different, and that an entry holds no cell.
-- Source: none; these are the words of the law.
use Rattle.std.specs.Prelude.{◌≡◌, true, false, List, [], ◌∷◌, Option, Some, None}
use Rattle.unwinding.specs.Machine.{Occurrence, Machine, WorldOf}
use Rattle.unwinding.specs.World.{world_step}
use Rattle.unwinding.specs.LocalEntries.{HeldCell, EntryOf}

module _ {Site Cell Cells Partition Content Rest Line Event Reply Change : Type 0}
    (m : Machine Site Cell Cells Partition Content Rest Line Event Reply Change) where
  -- an event finds and leaves the same in a cell, or is of the site itself
  abbrev pub LeavesCell : Site → Cell → Cells → Cells → Option (Occurrence Site Event) → Type 0
  LeavesCell s c old new None = Unit {0}
  LeavesCell s c old new (Some a) =
      m.same_site s a.site ≡ false → m.same_content (m.get old c) (m.get new c) ≡ true

  -- over some lines no event of another site leaves a cell different
  abbrev pub OthersLeaveCell : Site → Cell → WorldOf m → List Line → Type 0
  OthersLeaveCell s c w [] = Unit {0}
  OthersLeaveCell s c w (l ∷ ls) =
      LeavesCell s c w.cells (world_step m w l).cells (m.main w l)
      × OthersLeaveCell s c (world_step m w l) ls

  -- none of some held cells is this one
  abbrev pub IsNotAmong : Cell → List (HeldCell Cell Content) → Type 0
  IsNotAmong c [] = Unit {0}
  IsNotAmong c (h ∷ hs) = (m.same_cell c h.cell ≡ false) × IsNotAmong c hs

  -- no entry holds the cell
  abbrev pub NoneHolds : Cell → List (EntryOf m) → Type 0
  NoneHolds c [] = Unit {0}
  NoneHolds c (e ∷ es) = IsNotAmong c e.held × NoneHolds c es
