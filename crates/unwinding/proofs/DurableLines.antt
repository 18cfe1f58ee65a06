-- The durable state follows the world: a line's row changes make of what is kept of the world what
-- is kept of the next world.
use Rattle.std.proofs.Common.{◌≡◌, Bool, true, false, cond, List, [], ◌∷◌, Option, Some, None, refl}
use Rattle.std.proofs.Common.{sym, ap, subst, ◌∙◌}
use Rattle.unwinding.specs.Machine.{Occurrence, Machine, WorldOf}
use Rattle.unwinding.specs.World.{outcome, after_sides, after_main, world_step, world_after}
use Rattle.unwinding.specs.Durable.{Keeping, DurableOf, DurableChange, IsKeptOf, partition_changes}
use Rattle.unwinding.specs.Durable.{apply_changes, apply_all, restarted, durable_change}
use Rattle.unwinding.specs.Durable.{main_changes, line_changes}
use Rattle.unwinding.specs.Epochs.{all_changes}
use Rattle.unwinding.specs.Facts.{Facts, KeepingFacts, DurableFacts}
use Rattle.unwinding.proofs.Fronts.{apply_append}
use Rattle.unwinding.proofs.Inert.{cell_fold, line_fold, get_apply}

module _
    {Site Cell Cells Partition Content Rest Line Event Reply Change KeptPartition KeptCell KeptCells
    : Type 0}
    (m : Machine Site Cell Cells Partition Content Rest Line Event Reply Change)
    (k : Keeping Site Cell Cells Partition Content Rest Change KeptPartition KeptCell KeptCells)
    (IsSound : WorldOf m → Type 0) (f : Facts m IsSound)
    (IsValid : DurableOf k → Type 0)
    (h : KeepingFacts m k IsSound IsValid) (q : DurableFacts m k IsSound IsValid) where
  -- a kept partition after durable changes
  abbrev pub partition_fold : Site → KeptPartition → List (DurableChange Site Change) → KeptPartition
  partition_fold s x [] = x
  partition_fold s x (a ∷ ms) = partition_fold s (partition_changes k s a.changes x) ms

  partition_fold_change : (s t : Site) (cs : List Change) (x : KeptPartition) → partition_fold s x (durable_change m t cs) ≡ partition_changes k s cs x
  partition_fold_change s t [] x = refl
  partition_fold_change s t (d ∷ cs) x = refl

  by_site : (w : WorldOf m) (l : Line) → IsSound w → (s : Site) (a : Occurrence Site Event) → m.main w l ≡ Some a → (b : Bool) → m.same_site s a.site ≡ b →
      partition_changes k s (outcome m a.site ((after_sides m w l).partition a.site) w.cells a.event).changes (k.partition_kept ((after_sides m w l).partition s)) ≡ k.partition_kept ((after_main m (after_sides m w l) (Some a)).partition s)
  by_site w l ok s a is true here =
      subst (λ t. partition_changes k t (outcome m a.site ((after_sides m w l).partition a.site) w.cells a.event).changes (k.partition_kept ((after_sides m w l).partition t)) ≡ k.partition_kept (outcome m a.site ((after_sides m w l).partition a.site) w.cells a.event).partition) (sym (f.site_same s a.site here)) (q.new_partition w l a ok is)
      ∙ ap (λ b. k.partition_kept (cond b (outcome m a.site ((after_sides m w l).partition a.site) w.cells a.event).partition ((after_sides m w l).partition s))) (sym here)
  by_site w l ok s a is false there =
      h.other_partition w l a ok is s there (k.partition_kept ((after_sides m w l).partition s))
      ∙ ap (λ b. k.partition_kept (cond b (outcome m a.site ((after_sides m w l).partition a.site) w.cells a.event).partition ((after_sides m w l).partition s))) (sym there)

  pub line_partition : (w : WorldOf m) (l : Line) → IsSound w → (s : Site) → partition_fold s (k.partition_kept (w.partition s)) (line_changes m w l) ≡ k.partition_kept ((world_step m w l).partition s)
  unfolding line_changes world_step
  line_partition w l ok s = at (m.main w l) refl
    where
      at : (o : Option (Occurrence Site Event)) → m.main w l ≡ o → partition_fold s (k.partition_kept (w.partition s)) (main_changes m (after_sides m w l) o) ≡ k.partition_kept ((after_main m (after_sides m w l) o).partition s)
      at None is = sym (q.side_partition w l s ok)
      at (Some a) is = partition_fold_change s a.site (outcome m a.site ((after_sides m w l).partition a.site) w.cells a.event).changes (k.partition_kept (w.partition s)) ∙ ap (λ x. partition_changes k s (outcome m a.site ((after_sides m w l).partition a.site) w.cells a.event).changes x) (sym (q.side_partition w l s ok)) ∙ by_site w l ok s a is (m.same_site s a.site) refl

  all_partition : (s : Site) (ms : List (DurableChange Site Change)) (d : DurableOf k) → (apply_all k ms d).partition s ≡ partition_fold s (d.partition s) ms
  all_partition s [] d = refl
  all_partition s (a ∷ ms) d = all_partition s ms (apply_changes k a.changes d)

  all_cell : (c : Cell) (ms : List (DurableChange Site Change)) (d : DurableOf k) → k.kept_get (apply_all k ms d).cells c ≡ cell_fold m k IsSound f IsValid h c (k.kept_get d.cells c) ms
  all_cell c [] d = refl
  all_cell c (a ∷ ms) d = all_cell c ms (apply_changes k a.changes d) ∙ ap (λ y. cell_fold m k IsSound f IsValid h c y ms) (get_apply m k IsSound f IsValid h c a.changes d)

  -- a line
  pub line_kept : (w : WorldOf m) (l : Line) (d : DurableOf k) → IsSound w → IsKeptOf m k w d → IsKeptOf m k (world_step m w l) (apply_all k (line_changes m w l) d)
  line_kept w l d ok is =
      record {
        partition = λ s. all_partition s (line_changes m w l) d ∙ ap (λ p. partition_fold s p (line_changes m w l)) (is.partition s) ∙ line_partition w l ok s;
        cell = λ c. all_cell c (line_changes m w l) d ∙ ap (λ y. cell_fold m k IsSound f IsValid h c y (line_changes m w l)) (is.cell c) ∙ line_fold m k IsSound f IsValid h w l ok c;
      }

  -- some lines
  pub lines_kept : (w : WorldOf m) (ls : List Line) (d : DurableOf k) → IsSound w → IsKeptOf m k w d → IsKeptOf m k (world_after m w ls) (apply_all k (all_changes m w ls) d)
  lines_kept w [] d ok is = is
  lines_kept w (l ∷ ls) d ok is =
      subst (λ e. IsKeptOf m k (world_after m w (l ∷ ls)) e) (sym (apply_append k (line_changes m w l) (all_changes m (world_step m w l) ls) d))
      (lines_kept (world_step m w l) ls (apply_all k (line_changes m w l) d) (f.sound w l ok) (line_kept w l d ok is))

  -- the world that a restart opens
  pub restarted_kept : (r : Rest) (d : DurableOf k) → IsValid d → IsKeptOf m k (restarted k r d) d
  restarted_kept r d v =
      record {
        partition = λ s. sym (q.opened_partition d s v);
        cell = λ c. sym (ap (λ y. k.cell_kept c y) (h.get_again d.cells c) ∙ h.opened d c v);
      }
