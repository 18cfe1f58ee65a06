-- The cells that a site's machine goes by are those that the world's step saw.
use Rattle.std.proofs.Common.{◌≡◌, Bool, true, false, cond, ◌||◌, if◌then◌else◌, List, [], ◌∷◌}
use Rattle.std.proofs.Common.{◌++◌, refl, sym, ap, ◌∙◌, arith}
use Rattle.unwinding.specs.Machine.{Machine, WorldOf}
use Rattle.unwinding.specs.World.{is_in, consulted}
use Rattle.unwinding.specs.LocalEntries.{HeldCell, is_held, held_cells, swept_cells, candidates}
use Rattle.unwinding.specs.OneSite.{cells_used}
use Rattle.unwinding.specs.Facts.{Facts}
use Rattle.std.proofs.lemmas.Bool.{and_parts, or_left, or_right}
use Rattle.unwinding.proofs.Tests.{touched_of, or_true}

module _ {Site Cell Cells Partition Content Rest Line Event Reply Change : Type 0}
    (m : Machine Site Cell Cells Partition Content Rest Line Event Reply Change)
    (IsSound : WorldOf m → Type 0) (f : Facts m IsSound) where
  -- what the held cells have for a cell, and else its own content
  abbrev pub found : Cell → List (HeldCell Cell Content) → Content → Content
  found c [] own = own
  found c (h ∷ hs) own = if m.same_cell c h.cell then h.content else found c hs own

  pub in_append : (c : Cell) (xs ys : List Cell) → is_in m.same_cell c (xs ++ ys) ≡ (is_in m.same_cell c xs || is_in m.same_cell c ys)
  in_append c [] ys = refl
  in_append c (x ∷ xs) ys = at (m.same_cell c x) (in_append c xs ys)
    where
      at : (b : Bool) → is_in m.same_cell c (xs ++ ys) ≡ (is_in m.same_cell c xs || is_in m.same_cell c ys) → cond b true (is_in m.same_cell c (xs ++ ys)) ≡ (cond b true (is_in m.same_cell c xs) || is_in m.same_cell c ys)
      at true h = refl
      at false h = h

  -- what a sweep consults and others have changed
  in_swept : (s : Site) (c : Cell) (b : Bool) → b ≡ true → m.is_own s c ≡ true → (cs : List Cell) → is_in m.same_cell c cs ≡ true → is_in m.same_cell c (swept_cells m b s cs) ≡ true
  in_swept s c false e own cs i = cc
  in_swept s c true e own [] i = cc
  in_swept s c true e own (d ∷ cs) i =
      let rest = in_swept s c true refl own cs in
      let same = f.cell_same c d in
      grind (arith, rest, same)

  -- what is held is what stood there
  pub found_held : (needs : Cell → Bool) (cells : Cells) (c : Cell) (own : Content) → own ≡ m.get cells c → (cs : List Cell) → found c (held_cells m needs cells cs) own ≡ m.get cells c
  found_held needs cells c own e [] = e
  found_held needs cells c own e (d ∷ cs) =
      let rest = found_held needs cells c own e cs in
      let same = f.cell_same c d in
      grind (arith, rest, same)

  -- what has to be held is there
  pub found_needed : (needs : Cell → Bool) (cells : Cells) (c : Cell) (own : Content) → needs c ≡ true → (cs : List Cell) → is_in m.same_cell c cs ≡ true → found c (held_cells m needs cells cs) own ≡ m.get cells c
  found_needed needs cells c own n [] i = cc
  found_needed needs cells c own n (d ∷ cs) i =
      let rest = found_needed needs cells c own n cs in
      let same = f.cell_same c d in
      grind (arith, rest, same)

  -- cells that are held from a container
  get_cells_used : (c : Cell) (needs : Cell → Bool) (from own : Cells) (cs : List Cell) → m.get (cells_used m (held_cells m needs from cs) own) c ≡ found c (held_cells m needs from cs) (m.get own c)
  get_cells_used c needs from own [] = refl
  get_cells_used c needs from own (d ∷ cs) = at (needs d) (get_cells_used c needs from own cs)
    where
      more : List (HeldCell Cell Content)
      more = held_cells m needs from cs

      all : Bool → List (HeldCell Cell Content)
      all b = cond b (record { cell = d; content = m.get from d } ∷ more) more

      at : (b : Bool) → m.get (cells_used m more own) c ≡ found c more (m.get own c) → m.get (cells_used m (all b) own) c ≡ found c (all b) (m.get own c)
      at true later = f.get_set c d from (cells_used m more own) ∙ ap (λ x. cond (m.same_cell c d) (m.get from d) x) later
      at false later = later

  -- a consulted cell that has to be held is a candidate
  in_candidates : (s : Site) (touched : List Cell) (p : Partition) (e : Event) (c : Cell) → consulted m s p e c ≡ true → is_held m s touched c ≡ true → is_in m.same_cell c (candidates m s touched p e) ≡ true
  in_candidates s touched p e c asks held = f.in_listed (m.names p e ++ swept_cells m (m.sweeps p e) s touched) c ∙ in_append c (m.names p e) (swept_cells m (m.sweeps p e) s touched) ∙ at (is_in m.same_cell c (m.names p e)) refl
    where
      at : (b : Bool) → is_in m.same_cell c (m.names p e) ≡ b → (is_in m.same_cell c (m.names p e) || is_in m.same_cell c (swept_cells m (m.sweeps p e) s touched)) ≡ true
      at true is = or_left (is_in m.same_cell c (m.names p e)) _ is
      at false is =
          let both = and_parts (m.sweeps p e) (m.is_own s c) (or_true (is_in m.same_cell c (m.names p e)) _ is asks) in
          or_right (is_in m.same_cell c (m.names p e)) _ (in_swept s c (m.sweeps p e) both.0 both.1 touched (touched_of (m.is_home s c) _ (f.own_home s c both.1) held))

  -- the cells that the machine goes by are those of the world
  pub used_seen : (s : Site) (touched : List Cell) (cells own : Cells) (p : Partition) (e : Event) → ((c : Cell) → is_held m s touched c ≡ false → m.get own c ≡ m.get cells c) →
      m.restrict (consulted m s p e) (cells_used m (held_cells m (is_held m s touched) cells (candidates m s touched p e)) own) ≡ m.restrict (consulted m s p e) cells
  used_seen s touched cells own p e agree = f.same_cells _ _ (λ c.
      f.get_restrict (consulted m s p e) (cells_used m (held_cells m (is_held m s touched) cells (candidates m s touched p e)) own) c ∙ at c (is_held m s touched c) refl (consulted m s p e c) refl ∙ sym (f.get_restrict (consulted m s p e) cells c))
    where
      at : (c : Cell) (h : Bool) → is_held m s touched c ≡ h → (i : Bool) → consulted m s p e c ≡ i → cond (consulted m s p e c) (m.get (cells_used m (held_cells m (is_held m s touched) cells (candidates m s touched p e)) own) c) m.blank ≡ cond (consulted m s p e c) (m.get cells c) m.blank
      at c h is_h false is_i = rw is_i refl
      at c true is_h true is_i = rw is_i (get_cells_used c (is_held m s touched) cells own (candidates m s touched p e) ∙ found_needed (is_held m s touched) cells c (m.get own c) is_h (candidates m s touched p e) (in_candidates s touched p e c is_i is_h))
      at c false is_h true is_i = rw is_i (get_cells_used c (is_held m s touched) cells own (candidates m s touched p e) ∙ found_held (is_held m s touched) cells c (m.get own c) (agree c is_h) (candidates m s touched p e))
