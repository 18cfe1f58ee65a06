-- What one site is given of some lines: its events in order, each with the cells that it may not
-- know. The replies to the site depend on nothing else.
-- Source: none.
-- Our own choice: an entry holds a consulted cell that is not home to the site, and one that an
-- event of another site has left different, in the last use of a cookie too.
use Rattle.std.specs.Prelude.{Bool, true, false, not, ◌||◌, List, [], ◌∷◌, ◌++◌, Option, Some, None}
use Rattle.std.specs.Prelude.{if◌then◌else◌}
use Rattle.unwinding.specs.Machine.{Occurrence, Machine, WorldOf}
use Rattle.unwinding.specs.World.{is_in, after_main, world_step, after_sides}

-- a cell, and its content as the event found it
pub record HeldCell (Cell Content : Type 0) : Type 0 where
  pub cell : Cell
  pub content : Content

-- an event of the site, and the cells that it holds
pub record Entry (Cell Content Event : Type 0) : Type 0 where
  pub event : Event
  pub held : List (HeldCell Cell Content)

module _ {Site Cell Cells Partition Content Rest Line Event Reply Change : Type 0}
    (m : Machine Site Cell Cells Partition Content Rest Line Event Reply Change) where
  -- the machine's entries
  abbrev pub EntryOf : Type 0
  EntryOf = Entry Cell Content Event

  -- whether the site has to be given a cell, where `touched` are those that others have changed
  abbrev pub is_held : Site → List Cell → Cell → Bool
  is_held s touched c = not (m.is_home s c) || is_in m.same_cell c touched

  -- the cells that need to be held, with their contents
  abbrev pub held_cells : (Cell → Bool) → Cells → List Cell → List (HeldCell Cell Content)
  held_cells needs cells [] = []
  held_cells needs cells (c ∷ cs) =
      if needs c then record { cell = c; content = m.get cells c } ∷ held_cells needs cells cs
      else held_cells needs cells cs

  -- at a sweep, the site's own cells among those that others have changed
  abbrev pub swept_cells : Bool → Site → List Cell → List Cell
  swept_cells false s touched = []
  swept_cells true s [] = []
  swept_cells true s (c ∷ cs) =
      if m.is_own s c then c ∷ swept_cells true s cs else swept_cells true s cs

  -- the consulted cells that may have to be held, each once and in one order
  abbrev pub candidates : Site → List Cell → Partition → Event → List Cell
  candidates s touched p e = m.listed (m.names p e ++ swept_cells (m.sweeps p e) s touched)

  -- the entry of an event beside the main one, which holds no cell
  abbrev pub side_entries : Option Event → List (EntryOf)
  side_entries None = []
  side_entries (Some e) = record { event = e; held = [] } ∷ []

  -- the entry of the main event, where it is of the site
  abbrev pub main_entries : Site → List Cell → WorldOf m → Option (Occurrence Site Event)
      → List (EntryOf)
  main_entries s touched w None = []
  main_entries s touched w (Some a) =
      let asked = candidates s touched (w.partition a.site) a.event in
      if m.same_site s a.site
      then record { event = a.event; held = held_cells (is_held s touched) w.cells asked } ∷ []
      else []

  -- the cells of a list whose contents differ
  abbrev pub changed_cells : Cells → Cells → List Cell → List Cell
  changed_cells old new [] = []
  changed_cells old new (c ∷ cs) =
      if m.same_content (m.get old c) (m.get new c) then changed_cells old new cs
      else c ∷ changed_cells old new cs

  -- the cells that events of other sites have left different, after the main event too
  abbrev pub main_touched : Site → List Cell → WorldOf m → Option (Occurrence Site Event)
      → List Cell
  main_touched s touched w None = touched
  main_touched s touched w (Some a) =
      let named = m.names (w.partition a.site) a.event in
      if m.same_site s a.site then touched
      else (touched ++ changed_cells w.cells (after_main m w (Some a)).cells named)

  -- the entries of a line: an event beside the main one goes first
  unfoldable pub line_entries : Site → List Cell → WorldOf m → Line → List (EntryOf)
  line_entries s touched w l =
      side_entries (m.side w l s) ++ main_entries s touched (after_sides m w l) (m.main w l)

  -- the cells that events of other sites have left different, after a line too
  unfoldable pub line_touched : Site → List Cell → WorldOf m → Line → List Cell
  line_touched s touched w l = main_touched s touched (after_sides m w l) (m.main w l)

  -- the entries of some lines
  abbrev pub local_entries : Site → List Cell → WorldOf m → List Line → List (EntryOf)
  local_entries s touched w [] = []
  local_entries s touched w (l ∷ ls) =
      line_entries s touched w l
      ++ local_entries s (line_touched s touched w l) (world_step m w l) ls

  -- the cells that events of other sites have left different, after some lines too
  abbrev pub touched_after : Site → List Cell → WorldOf m → List Line → List Cell
  touched_after s touched w [] = touched
  touched_after s touched w (l ∷ ls) =
      touched_after s (line_touched s touched w l) (world_step m w l) ls
