-- An entry holds a cell that is home to its site only where another site has left it different.
use Rattle.std.proofs.Common.{◌≡◌, Bool, true, false, cond, ◌||◌, List, [], ◌∷◌, ◌++◌, Option}
use Rattle.std.proofs.Common.{Some, None, refl, sym, ap, ◌∙◌, arith}
use Rattle.unwinding.specs.Machine.{Occurrence, Machine, WorldOf}
use Rattle.unwinding.specs.World.{is_in, after_sides, after_main, world_step}
use Rattle.unwinding.specs.LocalEntries.{EntryOf, is_held, held_cells, candidates, changed_cells}
use Rattle.unwinding.specs.LocalEntries.{side_entries, main_entries, main_touched, line_entries}
use Rattle.unwinding.specs.LocalEntries.{line_touched, local_entries}
use Rattle.unwinding.specs.Facts.{Facts}
use Rattle.unwinding.specs.HeldOnly.{LeavesCell, OthersLeaveCell, IsNotAmong, NoneHolds}
use Rattle.std.proofs.lemmas.Bool.{true≢false}
use Rattle.unwinding.proofs.HeldCells.{in_append}

module _ {Site Cell Cells Partition Content Rest Line Event Reply Change : Type 0}
    (m : Machine Site Cell Cells Partition Content Rest Line Event Reply Change)
    (IsSound : WorldOf m → Type 0) (f : Facts m IsSound)
    (s : Site) (c : Cell) (home : m.is_home s c ≡ true) where
  -- what is held is not the cell, while others have not changed it
  none_held : (touched : List Cell) → is_in m.same_cell c touched ≡ false → (cells : Cells) (cs : List Cell) → IsNotAmong m c (held_cells m (is_held m s touched) cells cs)
  none_held touched clean cells [] = tt
  none_held touched clean cells (d ∷ ds) = at (is_held m s touched d) refl (none_held touched clean cells ds)
    where
      differs : (b : Bool) → m.same_cell c d ≡ b → is_held m s touched d ≡ true → b ≡ false
      differs false is held = refl
      differs true is held =
          let not_held : is_held m s touched c ≡ false = rw (home, clean) refl in
          absurd (true≢false (sym held ∙ ap (is_held m s touched) (sym (f.cell_same c d is)) ∙ not_held))

      at : (b : Bool) → is_held m s touched d ≡ b → IsNotAmong m c (held_cells m (is_held m s touched) cells ds)
          → IsNotAmong m c (cond b (record { cell = d; content = m.get cells d } ∷ held_cells m (is_held m s touched) cells ds) (held_cells m (is_held m s touched) cells ds))
      at true is later = (differs (m.same_cell c d) refl is, later)
      at false is later = later

  none_append : (es fs : List (EntryOf m)) → NoneHolds m c es → NoneHolds m c fs → NoneHolds m c (es ++ fs)
  none_append [] fs one two = two
  none_append (e ∷ es) fs one two = (one.0, none_append es fs one.1 two)

  side_none : (o : Option Event) → NoneHolds m c (side_entries m o)
  side_none None = tt
  side_none (Some e) = (tt, tt)

  main_none : (touched : List Cell) → is_in m.same_cell c touched ≡ false → (w : WorldOf m) (o : Option (Occurrence Site Event)) → NoneHolds m c (main_entries m s touched w o)
  main_none touched clean w None = tt
  main_none touched clean w (Some a) = at (m.same_site s a.site)
    where
      asked : List Cell
      asked = candidates m s touched (w.partition a.site) a.event

      at : (b : Bool) → NoneHolds m c (cond b (record { event = a.event; held = held_cells m (is_held m s touched) w.cells asked } ∷ []) [])
      at true = (none_held touched clean w.cells asked, tt)
      at false = tt

  -- a cell that is left the same is not among those that were left different
  unchanged : (old new : Cells) → m.same_content (m.get old c) (m.get new c) ≡ true → (cs : List Cell) → is_in m.same_cell c (changed_cells m old new cs) ≡ false
  unchanged old new same [] = refl
  unchanged old new same (d ∷ ds) =
      let later = unchanged old new same ds in
      let alike = f.cell_same c d in
      grind (arith, later, alike, same)

  stays_clean : (touched : List Cell) → is_in m.same_cell c touched ≡ false → (w : WorldOf m) (o : Option (Occurrence Site Event)) → LeavesCell m s c w.cells (after_main m w o).cells o → is_in m.same_cell c (main_touched m s touched w o) ≡ false
  stays_clean touched clean w None leaves = clean
  stays_clean touched clean w (Some a) leaves = at (m.same_site s a.site) refl
    where
      new : Cells
      new = (after_main m w (Some a)).cells

      more : List Cell
      more = changed_cells m w.cells new (m.names (w.partition a.site) a.event)

      at : (b : Bool) → m.same_site s a.site ≡ b → is_in m.same_cell c (cond b touched (touched ++ more)) ≡ false
      at true is = clean
      at false is =
          in_append m IsSound f c touched more
          ∙ (λ i. clean i || unchanged w.cells new (leaves is) (m.names (w.partition a.site) a.event) i)

  line_none : (touched : List Cell) → is_in m.same_cell c touched ≡ false → (w : WorldOf m) (l : Line) → NoneHolds m c (line_entries m s touched w l)
  unfolding line_entries
  line_none touched clean w l = none_append (side_entries m (m.side w l s)) (main_entries m s touched (after_sides m w l) (m.main w l)) (side_none (m.side w l s)) (main_none touched clean (after_sides m w l) (m.main w l))

  pub line_clean : (touched : List Cell) → is_in m.same_cell c touched ≡ false → (w : WorldOf m) (l : Line) → LeavesCell m s c w.cells (world_step m w l).cells (m.main w l) → is_in m.same_cell c (line_touched m s touched w l) ≡ false
  unfolding line_touched world_step
  line_clean touched clean w l leaves = stays_clean touched clean (after_sides m w l) (m.main w l) leaves

  pub none_holds : (touched : List Cell) → is_in m.same_cell c touched ≡ false → (w : WorldOf m) (lines : List Line) → OthersLeaveCell m s c w lines → NoneHolds m c (local_entries m s touched w lines)
  none_holds touched clean w [] leave = tt
  none_holds touched clean w (l ∷ ls) leave =
      none_append (line_entries m s touched w l) (local_entries m s (line_touched m s touched w l) (world_step m w l) ls)
      (line_none touched clean w l) (none_holds (line_touched m s touched w l) (line_clean touched clean w l leave.0) (world_step m w l) ls leave.1)
