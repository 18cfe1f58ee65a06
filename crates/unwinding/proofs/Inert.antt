-- Durable changes of other sites leave a site's kept partition, and each cell that they have not
-- left different.
use Rattle.std.proofs.Common.{◌≡◌, ℕ, zero, suc, Bool, true, false, cond, List, [], ◌∷◌, ◌++◌}
use Rattle.std.proofs.Common.{Option, Some, None, take, refl, sym, ap, subst, ◌∙◌}
use Rattle.unwinding.specs.Machine.{Occurrence, Machine, WorldOf}
use Rattle.unwinding.specs.World.{is_in, consulted, outcome, after_sides, after_main, world_step}
use Rattle.unwinding.specs.LocalEntries.{main_touched, line_touched, touched_after}
use Rattle.unwinding.specs.Durable.{Keeping, DurableOf, DurableChange, partition_changes}
use Rattle.unwinding.specs.Durable.{cell_changes, cells_changes, apply_changes, apply_all}
use Rattle.unwinding.specs.Durable.{durable_change, main_changes, line_changes, when_of_site}
use Rattle.unwinding.specs.Durable.{changes_of_site}
use Rattle.unwinding.specs.Epochs.{Epoch, tried, all_changes, next_durable}
use Rattle.unwinding.specs.SiteRun.{rows_of, own_partition_changes, own_cells_changes}
use Rattle.unwinding.specs.Facts.{Facts, KeepingFacts}
use Rattle.std.proofs.lemmas.Bool.{or_parts}
use Rattle.unwinding.proofs.HeldCells.{in_append}
use Rattle.unwinding.proofs.EpochReplies.{other_kept}

module _
    {Site Cell Cells Partition Content Rest Line Event Reply Change KeptPartition KeptCell KeptCells
    : Type 0}
    (m : Machine Site Cell Cells Partition Content Rest Line Event Reply Change)
    (k : Keeping Site Cell Cells Partition Content Rest Change KeptPartition KeptCell KeptCells)
    (IsSound : WorldOf m → Type 0) (f : Facts m IsSound)
    (IsValid : DurableOf k → Type 0)
    (h : KeepingFacts m k IsSound IsValid) where
  -- changes of other sites leave the partition
  abbrev pub PartitionInert : Site → List (DurableChange Site Change) → Type 0
  PartitionInert s [] = Unit {0}
  PartitionInert s (a ∷ ms) = (m.same_site s a.site ≡ false → (p : KeptPartition) → partition_changes k s a.changes p ≡ p) × PartitionInert s ms

  pub partition_inert_append : (s : Site) (xs ys : List (DurableChange Site Change)) → PartitionInert s xs → PartitionInert s ys → PartitionInert s (xs ++ ys)
  partition_inert_append s [] ys i j = j
  partition_inert_append s (x ∷ xs) ys i j = (i.0, partition_inert_append s xs ys i.1 j)

  pub partition_front : (s : Site) (n : ℕ) (ms : List (DurableChange Site Change)) (d : DurableOf k) → PartitionInert s ms → (apply_all k (take n ms) d).partition s ≡ own_partition_changes m k s (rows_of (changes_of_site m s (take n ms))) (d.partition s)
  partition_front s zero ms d i = refl
  partition_front s (suc n) [] d i = refl
  partition_front s (suc n) (a ∷ ms) d i = partition_front s n ms (apply_changes k a.changes d) i.1 ∙ at (m.same_site s a.site) refl
    where
      at : (b : Bool) → m.same_site s a.site ≡ b → own_partition_changes m k s (rows_of (changes_of_site m s (take n ms))) (partition_changes k s a.changes (d.partition s)) ≡ own_partition_changes m k s (rows_of (when_of_site m (m.same_site s a.site) a ++ changes_of_site m s (take n ms))) (d.partition s)
      at true is = rw is refl
      at false is = rw (is, i.0 is (d.partition s)) refl

  pub made_of_inert : (s t : Site) (cs : List Change) → (m.same_site s t ≡ false → (p : KeptPartition) → partition_changes k s cs p ≡ p) → PartitionInert s (durable_change m t cs)
  made_of_inert s t [] i = tt
  made_of_inert s t (c ∷ cs) i = (i, tt)

  pub line_partition_inert : (s : Site) (w : WorldOf m) (l : Line) → IsSound w → PartitionInert s (line_changes m w l)
  unfolding line_changes
  line_partition_inert s w l ok = at (m.main w l) refl
    where
      at : (o : Option (Occurrence Site Event)) → m.main w l ≡ o → PartitionInert s (main_changes m (after_sides m w l) o)
      at None is = tt
      at (Some a) is = made_of_inert s a.site (outcome m a.site ((after_sides m w l).partition a.site) w.cells a.event).changes (λ differ p. h.other_partition w l a ok is s differ p)

  pub partition_inert : (s : Site) (w : WorldOf m) → IsSound w → (ls : List Line) → PartitionInert s (all_changes m w ls)
  partition_inert s w ok [] = tt
  partition_inert s w ok (l ∷ ls) = partition_inert_append s (line_changes m w l) (all_changes m (world_step m w l) ls) (line_partition_inert s w l ok) (partition_inert s (world_step m w l) (f.sound w l ok) ls)

  -- changes of other sites leave a cell that they have not touched
  abbrev pub cell_fold : Cell → KeptCell → List (DurableChange Site Change) → KeptCell
  cell_fold c x [] = x
  cell_fold c x (a ∷ ms) = cell_fold c (cell_changes k c a.changes x) ms

  abbrev pub cell_all : Cell → List (List Change) → KeptCell → KeptCell
  cell_all c [] x = x
  cell_all c (cs ∷ css) x = cell_all c css (cell_changes k c cs x)

  abbrev pub CellInert : Site → Cell → KeptCell → List (DurableChange Site Change) → Type 0
  CellInert s c x [] = Unit {0}
  CellInert s c x (a ∷ ms) = (m.same_site s a.site ≡ false → cell_changes k c a.changes x ≡ x) × CellInert s c (cell_changes k c a.changes x) ms

  pub get_changes : (test : Cell → Bool) (c : Cell) (cs : List Change) (x : KeptCells) → k.kept_get (cells_changes k test cs x) c ≡ cond (test c) (cell_changes k c cs (k.kept_get x c)) (k.kept_get x c)
  get_changes test c [] x = at (test c)
    where
      at : (b : Bool) → k.kept_get x c ≡ cond b (k.kept_get x c) (k.kept_get x c)
      at true = refl
      at false = refl
  get_changes test c (g ∷ cs) x = get_changes test c cs (k.cells_change test g x) ∙ at (test c) refl
    where
      at : (b : Bool) → test c ≡ b → cond (test c) (cell_changes k c cs (k.kept_get (k.cells_change test g x) c)) (k.kept_get (k.cells_change test g x) c) ≡ cond (test c) (cell_changes k c cs (k.cell_change c g (k.kept_get x c))) (k.kept_get x c)
      at true is = rw (is, h.get_change test g x c, is) refl
      at false is = rw (is, h.get_change test g x c, is) refl

  pub get_apply : (c : Cell) (cs : List Change) (d : DurableOf k) → k.kept_get (apply_changes k cs d).cells c ≡ cell_changes k c cs (k.kept_get d.cells c)
  get_apply c cs d = get_changes (λ e. true) c cs d.cells

  pub get_own : (s : Site) (c : Cell) (css : List (List Change)) (x : KeptCells) → m.is_home s c ≡ true → k.kept_get (own_cells_changes m k s css x) c ≡ cell_all c css (k.kept_get x c)
  get_own s c [] x home = refl
  get_own s c (cs ∷ css) x home = get_own s c css (cells_changes k (m.is_home s) cs x) home ∙ ap (λ y. cell_all c css y) (get_changes (m.is_home s) c cs x ∙ rw home refl)

  pub cell_inert_append : (s : Site) (c : Cell) (xs ys : List (DurableChange Site Change)) (x : KeptCell) → CellInert s c x xs → CellInert s c (cell_fold c x xs) ys → CellInert s c x (xs ++ ys)
  cell_inert_append s c [] ys x i j = j
  cell_inert_append s c (a ∷ xs) ys x i j = (i.0, cell_inert_append s c xs ys (cell_changes k c a.changes x) i.1 j)

  pub cell_front : (s : Site) (c : Cell) (n : ℕ) (ms : List (DurableChange Site Change)) (d : DurableOf k) → CellInert s c (k.kept_get d.cells c) ms → k.kept_get (apply_all k (take n ms) d).cells c ≡ cell_all c (rows_of (changes_of_site m s (take n ms))) (k.kept_get d.cells c)
  cell_front s c zero ms d i = refl
  cell_front s c (suc n) [] d i = refl
  cell_front s c (suc n) (a ∷ ms) d i =
      cell_front s c n ms (apply_changes k a.changes d) (subst (λ y. CellInert s c y ms) (sym (get_apply c a.changes d)) i.1)
      ∙ ap (λ y. cell_all c (rows_of (changes_of_site m s (take n ms))) y) (get_apply c a.changes d) ∙ at (m.same_site s a.site) refl
    where
      at : (b : Bool) → m.same_site s a.site ≡ b → cell_all c (rows_of (changes_of_site m s (take n ms))) (cell_changes k c a.changes (k.kept_get d.cells c)) ≡ cell_all c (rows_of (when_of_site m (m.same_site s a.site) a ++ changes_of_site m s (take n ms))) (k.kept_get d.cells c)
      at true is = rw is refl
      at false is = rw (is, i.0 is) refl

  pub main_untouched : (s : Site) (touched : List Cell) (w : WorldOf m) (o : Option (Occurrence Site Event)) (c : Cell) → is_in m.same_cell c (main_touched m s touched w o) ≡ false → is_in m.same_cell c touched ≡ false
  main_untouched s touched w None c e = e
  main_untouched s touched w (Some a) c e = at (m.same_site s a.site) refl
    where
      at : (b : Bool) → m.same_site s a.site ≡ b → is_in m.same_cell c touched ≡ false
      at true is = rw is at e
      at false is = (or_parts (is_in m.same_cell c touched) _ (sym (in_append m IsSound f c touched _) ∙ (rw is at e))).0

  pub line_untouched : (s : Site) (touched : List Cell) (w : WorldOf m) (l : Line) (c : Cell) → is_in m.same_cell c (line_touched m s touched w l) ≡ false → is_in m.same_cell c touched ≡ false
  unfolding line_touched
  line_untouched s touched w l c e = main_untouched s touched (after_sides m w l) (m.main w l) c e

  pub untouched_before : (s : Site) (touched : List Cell) (w : WorldOf m) (ls : List Line) (c : Cell) → is_in m.same_cell c (touched_after m s touched w ls) ≡ false → is_in m.same_cell c touched ≡ false
  untouched_before s touched w [] c e = e
  untouched_before s touched w (l ∷ ls) c e = line_untouched s touched w l c (untouched_before s (line_touched m s touched w l) (world_step m w l) ls c e)

  -- what a line's changes make of what is kept of a cell is what is kept of the new cell
  pub main_cell : (w : WorldOf m) (l : Line) (a : Occurrence Site Event) → IsSound w → m.main w l ≡ Some a → (c : Cell) →
      cell_changes k c (outcome m a.site ((after_sides m w l).partition a.site) w.cells a.event).changes (k.cell_kept c (m.get w.cells c)) ≡ k.cell_kept c (m.get (after_main m (after_sides m w l) (Some a)).cells c)
  main_cell w l a ok is c = at (consulted m a.site ((after_sides m w l).partition a.site) a.event c) refl
    where
      at : (b : Bool) → consulted m a.site ((after_sides m w l).partition a.site) a.event c ≡ b → cell_changes k c (outcome m a.site ((after_sides m w l).partition a.site) w.cells a.event).changes (k.cell_kept c (m.get w.cells c)) ≡ k.cell_kept c (m.get (after_main m (after_sides m w l) (Some a)).cells c)
      at true i = h.new_cell w l a ok is c i ∙ ap (λ y. k.cell_kept c y) (sym (f.get_merge _ _ w.cells c ∙ rw i refl))
      at false i = h.other_cell w l a ok is c i (k.cell_kept c (m.get w.cells c)) ∙ ap (λ y. k.cell_kept c y) (sym (f.get_merge _ _ w.cells c ∙ rw i refl))

  pub fold_made_of : (s : Site) (c : Cell) (cs : List Change) (x : KeptCell) → cell_fold c x (durable_change m s cs) ≡ cell_changes k c cs x
  fold_made_of s c [] x = refl
  fold_made_of s c (d ∷ cs) x = refl

  pub inert_made_of : (s t : Site) (c : Cell) (cs : List Change) (x : KeptCell) → (m.same_site s t ≡ false → cell_changes k c cs x ≡ x) → CellInert s c x (durable_change m t cs)
  inert_made_of s t c [] x i = tt
  inert_made_of s t c (d ∷ cs) x i = (i, tt)

  pub line_fold : (w : WorldOf m) (l : Line) → IsSound w → (c : Cell) → cell_fold c (k.cell_kept c (m.get w.cells c)) (line_changes m w l) ≡ k.cell_kept c (m.get (world_step m w l).cells c)
  unfolding line_changes world_step
  line_fold w l ok c = at (m.main w l) refl
    where
      at : (o : Option (Occurrence Site Event)) → m.main w l ≡ o → cell_fold c (k.cell_kept c (m.get w.cells c)) (main_changes m (after_sides m w l) o) ≡ k.cell_kept c (m.get (after_main m (after_sides m w l) o).cells c)
      at None is = refl
      at (Some a) is = fold_made_of a.site c (outcome m a.site ((after_sides m w l).partition a.site) w.cells a.event).changes (k.cell_kept c (m.get w.cells c)) ∙ main_cell w l a ok is c

  pub line_inert : (s : Site) (touched : List Cell) (w : WorldOf m) (l : Line) → IsSound w → (c : Cell) → m.is_home s c ≡ true → is_in m.same_cell c (line_touched m s touched w l) ≡ false → CellInert s c (k.cell_kept c (m.get w.cells c)) (line_changes m w l)
  unfolding line_changes line_touched
  line_inert s touched w l ok c home e = at (m.main w l) refl e
    where
      at : (o : Option (Occurrence Site Event)) → m.main w l ≡ o → is_in m.same_cell c (main_touched m s touched (after_sides m w l) o) ≡ false → CellInert s c (k.cell_kept c (m.get w.cells c)) (main_changes m (after_sides m w l) o)
      at None is g = tt
      at (Some a) is g =
          inert_made_of s a.site c (outcome m a.site ((after_sides m w l).partition a.site) w.cells a.event).changes (k.cell_kept c (m.get w.cells c))
          (λ differ. main_cell w l a ok is c ∙ ap (λ x. k.cell_kept c x) (sym (other_kept m IsSound f s (after_sides m w l) a.site a.event differ c home (or_parts (is_in m.same_cell c touched) _ (sym (in_append m IsSound f c touched _) ∙ (rw differ at g))).1)))

  pub cell_inert : (s : Site) (touched : List Cell) (w : WorldOf m) → IsSound w → (c : Cell) → m.is_home s c ≡ true → (ls : List Line) → is_in m.same_cell c (touched_after m s touched w ls) ≡ false → CellInert s c (k.cell_kept c (m.get w.cells c)) (all_changes m w ls)
  cell_inert s touched w ok c home [] e = tt
  cell_inert s touched w ok c home (l ∷ ls) e =
      cell_inert_append s c (line_changes m w l) (all_changes m (world_step m w l) ls) (k.cell_kept c (m.get w.cells c))
      (line_inert s touched w l ok c home (untouched_before s (line_touched m s touched w l) (world_step m w l) ls c e))
      (rw (line_fold w l ok c) (cell_inert s (line_touched m s touched w l) (world_step m w l) (f.sound w l ok) c home ls e))

  pub all_valid : (ms : List (DurableChange Site Change)) (d : DurableOf k) → IsValid d → IsValid (apply_all k ms d)
  all_valid [] d v = v
  all_valid (a ∷ ms) d v = all_valid ms (apply_changes k a.changes d) (h.valid d a.changes v)

  pub next_valid : (w : WorldOf m) (d : DurableOf k) (e : Epoch Line) → IsValid d → IsValid (next_durable m k w d e)
  unfolding next_durable
  next_valid w d e v = all_valid (take e.kept (all_changes m w (tried e))) d v
