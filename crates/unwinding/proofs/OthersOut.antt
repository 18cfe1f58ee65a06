-- What a line gives a site of a group goes by the partitions of the group's sites, its cells and the
-- rest, so that lines of other sites can be left out.
use Rattle.std.proofs.Common.{◌≡◌, Bool, true, false, cond, not, ◌&&◌, ◌||◌, List, [], ◌∷◌, ◌++◌, Option, Some, None}
use Rattle.std.proofs.Common.{refl, sym, ap, subst, ◌∙◌, arith}
use Rattle.std.proofs.lemmas.Bool.{true≢false, and_parts, or_left, or_parts, or_right}
use Rattle.std.proofs.Math.Bool.{and-false, or-false}
use Rattle.unwinding.specs.Machine.{Occurrence, Machine, WorldOf}
use Rattle.unwinding.specs.World.{is_in, consulted, outcome, after_side, after_sides, after_main, world_step}
use Rattle.unwinding.specs.LocalEntries.{is_held, held_cells, candidates, changed_cells, swept_cells}
use Rattle.unwinding.specs.LocalEntries.{side_entries, main_entries, main_touched, line_entries}
use Rattle.unwinding.specs.LocalEntries.{line_touched, local_entries}
use Rattle.unwinding.specs.OneSite.{own_beginning, epoch_script}
use Rattle.unwinding.specs.Facts.{Facts}
use Rattle.unwinding.specs.LeftOut.{Group, lines_without, ConsultsWithin, IsGroup, IsAlike, OwnFacts, IsOutside, ApartFacts}
use Rattle.unwinding.proofs.HeldCells.{in_append}
use Rattle.unwinding.proofs.Tests.{or_true}

module _ {Site Cell Cells Partition Content Rest Line Event Reply Change : Type 0}
    (m : Machine Site Cell Cells Partition Content Rest Line Event Reply Change)
    (IsSound : WorldOf m → Type 0) (f : Facts m IsSound) (g : Group Site Cell) (own : OwnFacts m g) where
  -- what an event that sees no cell makes of a partition
  side_same : (x y : Cells) (o : Option Event) (p : Partition) → after_side m x o p ≡ after_side m y o p
  side_same x y None p = refl
  side_same x y (Some e) p = ap (λ z. (m.step p z e).partition) (f.same_cells _ _ (λ c. f.get_restrict (λ d. false) x c ∙ sym (f.get_restrict (λ d. false) y c)))

  -- whether an event names a cell
  abbrev named : WorldOf m → Occurrence Site Event → Cell → Bool
  named w a c = is_in m.same_cell c (m.names (w.partition a.site) a.event)

  -- whether an event consults a cell
  abbrev asked : WorldOf m → Occurrence Site Event → Cell → Bool
  asked w a c = consulted m a.site (w.partition a.site) a.event c

  -- what the event of a site of the group consults is of the group
  asked_inside : (w : WorldOf m) (l : Line) (a : Occurrence Site Event) → ConsultsWithin m g w l (Some a) → g.has_site a.site ≡ true → (c : Cell) → asked (after_sides m w l) a c ≡ true → g.has_cell c ≡ true
  asked_inside w l a within inside c is =
      let same = within c is in
      grind (arith, same, inside)

  -- a sweep takes the own cells of a list
  swept_is : (s : Site) (cs : List Cell) (c : Cell) → is_in m.same_cell c (swept_cells m true s cs) ≡ (is_in m.same_cell c cs && m.is_own s c)
  swept_is s [] c = refl
  swept_is s (d ∷ ds) c =
      let later = swept_is s ds c in
      let same = f.cell_same c d in
      grind (arith, later, same)

  -- an own cell is consulted where the event sweeps
  swept_asked : (a : Occurrence Site Event) (p : Partition) (c : Cell) → m.sweeps p a.event ≡ true → m.is_own a.site c ≡ true → consulted m a.site p a.event c ≡ true
  swept_asked a p c sweeps is = or_right (is_in m.same_cell c (m.names p a.event)) _ (rw (sweeps, is) refl)

  -- what is named or swept is consulted
  candidate_asked : (s : Site) (a : Occurrence Site Event) (p : Partition) (touched : List Cell) → s ≡ a.site → (c : Cell) (b : Bool) → m.sweeps p a.event ≡ b
      → (is_in m.same_cell c (m.names p a.event) || is_in m.same_cell c (swept_cells m b s touched)) ≡ true → consulted m a.site p a.event c ≡ true
  candidate_asked s a p touched same c false none is = or_left (is_in m.same_cell c (m.names p a.event)) _ (sym (or-false (is_in m.same_cell c (m.names p a.event))) ∙ is)
  candidate_asked s a p touched same c true sweeps is = at (is_in m.same_cell c (m.names p a.event)) refl
    where
      at : (b : Bool) → is_in m.same_cell c (m.names p a.event) ≡ b → consulted m a.site p a.event c ≡ true
      at true named = or_left (is_in m.same_cell c (m.names p a.event)) _ named
      at false unnamed =
          let both = and_parts (is_in m.same_cell c touched) (m.is_own s c) (sym (swept_is s touched c) ∙ or_true (is_in m.same_cell c (m.names p a.event)) _ unnamed is) in
          swept_asked a p c sweeps (ap (λ t. m.is_own t c) (sym same) ∙ both.1)

  -- ---- the event of a site outside

  site_apart : (t u : Site) → g.has_site t ≡ true → g.has_site u ≡ false → m.same_site t u ≡ false
  site_apart t u of far = at (m.same_site t u) refl
    where
      at : (b : Bool) → m.same_site t u ≡ b → b ≡ false
      at true is = absurd (true≢false (sym of ∙ ap g.has_site (f.site_same t u is) ∙ far))
      at false is = refl

  -- it consults no cell of the group
  unasked : (w : WorldOf m) (l : Line) (a : Occurrence Site Event) → ConsultsWithin m g w l (Some a) → g.has_site a.site ≡ false → (c : Cell) → g.has_cell c ≡ true → asked (after_sides m w l) a c ≡ false
  unasked w l a within far c of = at (asked (after_sides m w l) a c) refl
    where
      at : (b : Bool) → asked (after_sides m w l) a c ≡ b → b ≡ false
      at true is =
          let same = within c is in
          grind (arith, same, of, far)
      at false is = refl

  -- and names none
  unnamed : (w : WorldOf m) (l : Line) (a : Occurrence Site Event) → ConsultsWithin m g w l (Some a) → g.has_site a.site ≡ false → (c : Cell) → g.has_cell c ≡ true → named (after_sides m w l) a c ≡ false
  unnamed w l a within far c of = (or_parts (named (after_sides m w l) a c) _ (unasked w l a within far c of)).0

  -- it leaves the partitions of the group's sites
  outside_partition : (w : WorldOf m) (o : Option (Occurrence Site Event)) → IsOutside m g o → (t : Site) → g.has_site t ≡ true → (after_main m w o).partition t ≡ w.partition t
  outside_partition w None far t of = refl
  outside_partition w (Some a) far t of = ap (λ b. cond b (outcome m a.site (w.partition a.site) w.cells a.event).partition (w.partition t)) (site_apart t a.site of far)

  -- and its cells
  outside_cell : (w : WorldOf m) (l : Line) (o : Option (Occurrence Site Event)) → ConsultsWithin m g w l o → IsOutside m g o → (c : Cell) → g.has_cell c ≡ true
      → m.get (after_main m (after_sides m w l) o).cells c ≡ m.get w.cells c
  outside_cell w l None within far c of = refl
  outside_cell w l (Some a) within far c of =
      let here = after_sides m w l in
      let new = (outcome m a.site (here.partition a.site) w.cells a.event).cells in
      f.get_merge (consulted m a.site (here.partition a.site) a.event) new w.cells c
      ∙ ap (λ b. cond b (m.get new c) (m.get w.cells c)) (unasked w l a within far c of)

  -- a cell is left different where it is named and its contents differ
  changed_is : (old new : Cells) (c : Cell) (cs : List Cell) → is_in m.same_cell c (changed_cells m old new cs) ≡ (is_in m.same_cell c cs && not (m.same_content (m.get old c) (m.get new c)))
  changed_is old new c [] = refl
  changed_is old new c (d ∷ ds) =
      let later = changed_is old new c ds in
      let same = f.cell_same c d in
      grind (arith, later, same)

  -- cells of the group are among these where they are among those
  abbrev SameTouched : List Cell → List Cell → Type 0
  SameTouched before after = (c : Cell) → g.has_cell c ≡ true → is_in m.same_cell c before ≡ is_in m.same_cell c after

  -- ---- a line in two worlds

  module _ (v w : WorldOf m) (l : Line) (alike : IsAlike m g v w) where
    -- the two worlds after the events beside the main one
    abbrev one : WorldOf m
    one = after_sides m v l

    abbrev two : WorldOf m
    two = after_sides m w l

    sides_alike : IsAlike m g one two
    sides_alike = record {
      partition = λ t of. side_same v.cells w.cells (m.side v l t) (v.partition t) ∙ (λ i. after_side m w.cells (own.own_side v w l alike t of i) (alike.partition t of i));
      cell = alike.cell;
      rest = alike.rest;
    }

    -- what is within in one world is so in the other, where that holds of the sites outside
    other_within : ConsultsWithin m g v l (m.main v l)
        → ((a : Occurrence Site Event) → m.main w l ≡ Some a → g.has_site a.site ≡ false → ConsultsWithin m g w l (Some a))
        → ConsultsWithin m g w l (m.main w l)
    other_within within out = at (m.main w l) refl
      where
        by : (a : Occurrence Site Event) (b : Bool) → m.main w l ≡ Some a → g.has_site a.site ≡ b → ConsultsWithin m g w l (Some a)
        by a true is inside c there =
            subst (ConsultsWithin m g v l) (own.own_main v w l alike ∙ is) within c
            (ap (λ p. consulted m a.site p a.event c) (sides_alike.partition a.site inside) ∙ there)
        by a false is far c there = out a is far c there

        at : (o : Option (Occurrence Site Event)) → m.main w l ≡ o → ConsultsWithin m g w l o
        at None is = tt
        at (Some a) is = by a (g.has_site a.site) is refl

    -- ---- the same main event in both

    module _ (a : Occurrence Site Event) (within : ConsultsWithin m g v l (Some a)) (inside : g.has_site a.site ≡ true) where
      abbrev asks : Cell → Bool
      asks = consulted m a.site (one.partition a.site) a.event

      seen_same : m.restrict asks v.cells ≡ m.restrict asks w.cells
      seen_same = f.same_cells _ _ (λ c. f.get_restrict asks v.cells c ∙ at c (asks c) refl ∙ sym (f.get_restrict asks w.cells c))
        where
          at : (c : Cell) (b : Bool) → asks c ≡ b → cond b (m.get v.cells c) m.blank ≡ cond b (m.get w.cells c) m.blank
          at c true is = alike.cell c (asked_inside v l a within inside c is)
          at c false is = refl

      outcome_same : outcome m a.site (one.partition a.site) v.cells a.event ≡ outcome m a.site (two.partition a.site) w.cells a.event
      outcome_same = ap (λ z. m.step (one.partition a.site) z a.event) seen_same ∙ ap (λ p. outcome m a.site p w.cells a.event) (sides_alike.partition a.site inside)

      inside_cell : (c : Cell) → g.has_cell c ≡ true → m.get (after_main m one (Some a)).cells c ≡ m.get (after_main m two (Some a)).cells c
      inside_cell c of =
          f.get_merge asks (outcome m a.site (one.partition a.site) v.cells a.event).cells v.cells c
          ∙ (λ i. cond (consulted m a.site (sides_alike.partition a.site inside i) a.event c) (m.get (outcome_same i).cells c) (alike.cell c of i))
          ∙ sym (f.get_merge (consulted m a.site (two.partition a.site) a.event) (outcome m a.site (two.partition a.site) w.cells a.event).cells w.cells c)

      inside_alike : IsAlike m g (after_main m one (Some a)) (after_main m two (Some a))
      inside_alike = record {
        partition = λ t of i. cond (m.same_site t a.site) (outcome_same i).partition (sides_alike.partition t of i);
        cell = inside_cell;
        rest = alike.rest;
      }

    main_alike : (o : Option (Occurrence Site Event)) → ConsultsWithin m g v l o → ConsultsWithin m g w l o → IsAlike m g (after_main m one o) (after_main m two o)
    main_alike None in_v in_w = sides_alike
    main_alike (Some a) in_v in_w = at (g.has_site a.site) refl
      where
        at : (b : Bool) → g.has_site a.site ≡ b → IsAlike m g (after_main m one (Some a)) (after_main m two (Some a))
        at true inside = inside_alike a in_v inside
        at false far = record {
          partition = λ t of. outside_partition one (Some a) far t of ∙ sides_alike.partition t of ∙ sym (outside_partition two (Some a) far t of);
          cell = λ c of. outside_cell v l (Some a) in_v far c of ∙ alike.cell c of ∙ sym (outside_cell w l (Some a) in_w far c of);
          rest = alike.rest;
        }

    -- it leaves different the same cells of the group
    touched_alike : (s : Site) (before after : List Cell) → SameTouched before after → (o : Option (Occurrence Site Event)) → ConsultsWithin m g v l o → ConsultsWithin m g w l o
        → SameTouched (main_touched m s before one o) (main_touched m s after two o)
    touched_alike s before after h None in_v in_w c of = h c of
    touched_alike s before after h (Some a) in_v in_w c of = at (m.same_site s a.site)
      where
        added : WorldOf m → List Cell
        added x = changed_cells m x.cells (after_main m x (Some a)).cells (m.names (x.partition a.site) a.event)

        same : (b : Bool) → g.has_site a.site ≡ b → named one a c ≡ named two a c
        same true inside = ap (λ p. is_in m.same_cell c (m.names p a.event)) (sides_alike.partition a.site inside)
        same false far = unnamed v l a in_v far c of ∙ sym (unnamed w l a in_w far c of)

        changed : is_in m.same_cell c (added one) ≡ is_in m.same_cell c (added two)
        changed =
            changed_is v.cells (after_main m one (Some a)).cells c (m.names (one.partition a.site) a.event)
            ∙ (λ i. same (g.has_site a.site) refl i && not (m.same_content (alike.cell c of i) ((main_alike (Some a) in_v in_w).cell c of i)))
            ∙ sym (changed_is w.cells (after_main m two (Some a)).cells c (m.names (two.partition a.site) a.event))

        at : (b : Bool) → is_in m.same_cell c (cond b before (before ++ added one)) ≡ is_in m.same_cell c (cond b after (after ++ added two))
        at true = h c of
        at false = in_append m IsSound f c before (added one) ∙ (λ i. h c of i || changed i) ∙ sym (in_append m IsSound f c after (added two))

    -- cells of the group are held alike
    held_alike : (s : Site) (before after : List Cell) → SameTouched before after → (cs : List Cell) → ((c : Cell) → is_in m.same_cell c cs ≡ true → g.has_cell c ≡ true)
        → held_cells m (is_held m s before) v.cells cs ≡ held_cells m (is_held m s after) w.cells cs
    held_alike s before after h [] each = refl
    held_alike s before after h (d ∷ ds) each =
        let of = each d (ap (λ b. cond b true (is_in m.same_cell d ds)) (own.cell_itself d)) in
        let later = held_alike s before after h ds (λ c there. each c (more c (m.same_cell c d) there)) in
        λ i. cond (not (m.is_home s d) || h d of i) (record { cell = d; content = alike.cell d of i } ∷ later i) (later i)
      where
        more : (c : Cell) (b : Bool) → is_in m.same_cell c ds ≡ true → cond b true (is_in m.same_cell c ds) ≡ true
        more c true there = refl
        more c false there = there

    main_same : (s : Site) → g.has_site s ≡ true → (before after : List Cell) → SameTouched before after → (o : Option (Occurrence Site Event)) → ConsultsWithin m g w l o
        → main_entries m s before one o ≡ main_entries m s after two o
    main_same s member before after h None within = refl
    main_same s member before after h (Some a) within = at (m.same_site s a.site) refl
      where
        here : Partition
        here = two.partition a.site

        -- both lists of touched cells have the same own cells, where the event sweeps these
        no_more : (s ≡ a.site) → (b : Bool) → m.sweeps here a.event ≡ b → (c : Cell) → is_in m.same_cell c (swept_cells m b s before) ≡ is_in m.same_cell c (swept_cells m b s after)
        no_more same false none c = refl
        no_more same true sweeps c =
            swept_is s before c
            ∙ own_cells (m.is_own s c) refl
            ∙ sym (swept_is s after c)
          where
            own_cells : (b : Bool) → m.is_own s c ≡ b → (is_in m.same_cell c before && b) ≡ (is_in m.same_cell c after && b)
            own_cells true is = ap (λ b. b && true) (h c (asked_inside w l a within (ap g.has_site (sym same) ∙ member) c (swept_asked a here c sweeps (ap (λ t. m.is_own t c) (sym same) ∙ is))))
            own_cells false is = and-false (is_in m.same_cell c before) ∙ sym (and-false (is_in m.same_cell c after))

        -- so the candidates are the same
        same_candidates : (s ≡ a.site) → (b : Bool) → m.sweeps here a.event ≡ b
            → m.listed (m.names here a.event ++ swept_cells m b s before) ≡ m.listed (m.names here a.event ++ swept_cells m b s after)
        same_candidates same false none = refl
        same_candidates same true sweeps = own.listed_same here a.event sweeps _ _ (λ c.
            in_append m IsSound f c (m.names here a.event) (swept_cells m true s before)
            ∙ ap (λ b. is_in m.same_cell c (m.names here a.event) || b) (no_more same true sweeps c)
            ∙ sym (in_append m IsSound f c (m.names here a.event) (swept_cells m true s after)))

        asked_of : (s ≡ a.site) → (c : Cell) → is_in m.same_cell c (candidates m s after here a.event) ≡ true → g.has_cell c ≡ true
        asked_of same c is =
            asked_inside w l a within (ap g.has_site (sym same) ∙ member) c
            (candidate_asked s a here after same c (m.sweeps here a.event) refl (sym (f.in_listed (m.names here a.event ++ swept_cells m (m.sweeps here a.event) s after) c ∙ in_append m IsSound f c (m.names here a.event) (swept_cells m (m.sweeps here a.event) s after)) ∙ is))

        held_same : (s ≡ a.site)
            → held_cells m (is_held m s before) v.cells (candidates m s before (one.partition a.site) a.event)
            ≡ held_cells m (is_held m s after) w.cells (candidates m s after here a.event)
        held_same same =
            ap (λ p. held_cells m (is_held m s before) v.cells (candidates m s before p a.event)) (sides_alike.partition a.site (ap g.has_site (sym same) ∙ member))
            ∙ ap (held_cells m (is_held m s before) v.cells) (same_candidates same (m.sweeps here a.event) refl)
            ∙ held_alike s before after h (candidates m s after here a.event) (asked_of same)

        at : (b : Bool) → m.same_site s a.site ≡ b → main_entries m s before one (Some a) ≡ main_entries m s after two (Some a)
        at true is = rw is (ap (λ hs. record { event = a.event; held = hs } ∷ []) (held_same (f.site_same s a.site is)))
        at false is = rw is refl

    -- ---- the line

    -- it gives a site of the group the same in two worlds that the group cannot tell apart
    pub same_entries : (s : Site) → g.has_site s ≡ true → (before after : List Cell) → SameTouched before after → ConsultsWithin m g w l (m.main w l)
        → line_entries m s before v l ≡ line_entries m s after w l
    unfolding line_entries
    same_entries s member before after h in_w =
        (λ i. side_entries m (own.own_side v w l alike s member i) ++ main_entries m s before one (own.own_main v w l alike i))
        ∙ ap (λ es. side_entries m (m.side w l s) ++ es) (main_same s member before after h (m.main w l) in_w)

    module _ (in_v : ConsultsWithin m g v l (m.main v l)) (in_w : ConsultsWithin m g w l (m.main w l)) where
      -- the event of either world is within in the first one
      both_within : ConsultsWithin m g v l (m.main w l)
      both_within = subst (ConsultsWithin m g v l) (own.own_main v w l alike) in_v

      same_touched : (s : Site) (before after : List Cell) → SameTouched before after → SameTouched (line_touched m s before v l) (line_touched m s after w l)
      unfolding line_touched
      same_touched s before after h c of =
          ap (λ o. is_in m.same_cell c (main_touched m s before one o)) (own.own_main v w l alike)
          ∙ touched_alike s before after h (m.main w l) both_within in_w c of

      -- and leaves two that it cannot tell apart
      pub step_alike : IsAlike m g (world_step m v l) (world_step m w l)
      unfolding world_step
      step_alike =
          let d = main_alike (m.main w l) both_within in_w in
          record {
            partition = λ t of. ap (λ o. (after_main m one o).partition t) (own.own_main v w l alike) ∙ d.partition t of;
            cell = λ c of. ap (λ o. m.get (after_main m one o).cells c) (own.own_main v w l alike) ∙ d.cell c of;
            rest = own.own_later v w l alike;
          }

  -- ---- lines that are left out

  main_none : (s : Site) → g.has_site s ≡ true → (touched : List Cell) (w : WorldOf m) (o : Option (Occurrence Site Event)) → IsOutside m g o → main_entries m s touched w o ≡ []
  main_none s member touched w None far = refl
  main_none s member touched w (Some a) far = rw (site_apart s a.site member far) refl

  main_untouched : (s : Site) → g.has_site s ≡ true → (touched : List Cell) (w : WorldOf m) (l : Line) (o : Option (Occurrence Site Event)) → ConsultsWithin m g w l o → IsOutside m g o
      → SameTouched (main_touched m s touched (after_sides m w l) o) touched
  main_untouched s member touched w l None within far c of = refl
  main_untouched s member touched w l (Some a) within far c of =
      let here = after_sides m w l in
      let new = (after_main m here (Some a)).cells in
      let names = m.names (here.partition a.site) a.event in
      ap (λ b. is_in m.same_cell c (cond b touched (touched ++ changed_cells m w.cells new names))) (site_apart s a.site member far)
      ∙ in_append m IsSound f c touched (changed_cells m w.cells new names)
      ∙ ap (λ b. is_in m.same_cell c touched || b) (changed_is w.cells new c names ∙ ap (λ b. b && not (m.same_content (m.get w.cells c) (m.get new c))) (unnamed w l a within far c of))
      ∙ or-false (is_in m.same_cell c touched)

  module _ (s : Site) (member : g.has_site s ≡ true) (is_apart : WorldOf m → Line → Bool) (h : ApartFacts m g IsSound is_apart) where
    -- such a line gives the site nothing
    no_entries : (touched : List Cell) (v : WorldOf m) (l : Line) → is_apart v l ≡ true → line_entries m s touched v l ≡ []
    unfolding line_entries
    no_entries touched v l is =
        ap (λ o. side_entries m o ++ main_entries m s touched (after_sides m v l) (m.main v l)) (h.no_side v l is s member)
        ∙ main_none s member touched (after_sides m v l) (m.main v l) (h.no_main v l is)

    untouched : (touched : List Cell) (v : WorldOf m) (l : Line) → ConsultsWithin m g v l (m.main v l) → is_apart v l ≡ true → SameTouched (line_touched m s touched v l) touched
    unfolding line_touched
    untouched touched v l within is = main_untouched s member touched v l (m.main v l) within (h.no_main v l is)

    -- and the group cannot tell that it happened
    apart_alike : (v w : WorldOf m) (l : Line) → ConsultsWithin m g v l (m.main v l) → is_apart v l ≡ true → IsAlike m g v w → IsAlike m g (world_step m v l) w
    unfolding world_step
    apart_alike v w l within is alike = record {
      partition = λ t of.
          outside_partition (after_sides m v l) (m.main v l) (h.no_main v l is) t of
          ∙ ap (λ o. after_side m v.cells o (v.partition t)) (h.no_side v l is t of) ∙ alike.partition t of;
      cell = λ c of. outside_cell v l (m.main v l) within (h.no_main v l is) c of ∙ alike.cell c of;
      rest = h.no_later v l is ∙ alike.rest;
    }

    -- a line that stays is within in the other world too
    stays_within : (v w : WorldOf m) (l : Line) → IsSound w → IsAlike m g v w → is_apart v l ≡ false → ConsultsWithin m g v l (m.main v l) → ConsultsWithin m g w l (m.main w l)
    stays_within v w l sound alike is within = other_within v w l alike within (λ a main far. h.stays_out w l a sound (sym (h.same_test v w l alike) ∙ is) main far)

    entries_left : (before after : List Cell) → SameTouched before after → (v w : WorldOf m) → IsSound w → IsAlike m g v w → (ls : List Line) → IsGroup m g v ls
        → local_entries m s before v ls ≡ local_entries m s after w (lines_without m is_apart v ls)
    entries_left before after t v w sound alike [] group = refl
    entries_left before after t v w sound alike (l ∷ ls) group =
        at (is_apart v l) refl (λ more u ok ready same. entries_left (line_touched m s before v l) more ready (world_step m v l) u ok same ls group.1)
      where
        fewer : List Line
        fewer = lines_without m is_apart (world_step m v l) ls

        rest : List Cell → WorldOf m → Type 0
        rest more u = local_entries m s (line_touched m s before v l) (world_step m v l) ls ≡ local_entries m s more u fewer

        at : (b : Bool) → is_apart v l ≡ b
            → ((more : List Cell) (u : WorldOf m) → IsSound u → SameTouched (line_touched m s before v l) more → IsAlike m g (world_step m v l) u → rest more u)
            → local_entries m s before v (l ∷ ls) ≡ local_entries m s after w (cond b fewer (l ∷ fewer))
        at true is later =
            (λ i. no_entries before v l is i ++ local_entries m s (line_touched m s before v l) (world_step m v l) ls)
            ∙ later after w sound (λ c of. untouched before v l group.0 is c of ∙ t c of) (apart_alike v w l group.0 is alike)
        at false is later =
            let in_w = stays_within v w l sound alike is group.0 in
            (λ i. same_entries v w l alike s member before after t in_w i ++ local_entries m s (line_touched m s before v l) (world_step m v l) ls)
            ∙ ap (λ es. line_entries m s after w l ++ es)
            (later (line_touched m s after w l) (world_step m w l) (f.sound w l sound) (same_touched v w l alike group.0 in_w s before after t) (step_alike v w l alike group.0 in_w))

    pub left_out : (w : WorldOf m) (lines : List Line) → IsSound w → IsGroup m g w lines → epoch_script m s w lines ≡ epoch_script m s w (lines_without m is_apart w lines)
    left_out w lines sound group =
        let same : IsAlike m g w w = record { partition = λ t of. refl; cell = λ c of. refl; rest = refl } in
        ap (λ es. record { beginning = own_beginning m s w; entries = es }) (entries_left [] [] (λ c of. refl) w w sound same lines group)
