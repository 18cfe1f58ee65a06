-- What holds of each site's partition stays so in a line of which no event changes it.
use Rattle.std.proofs.Common.{◌≡◌, Bool, true, false, cond, Option, Some, None, refl, sym, subst}
use Rattle.unwinding.specs.Machine.{Occurrence, Machine, WorldOf}
use Rattle.unwinding.specs.World.{no_cells, outcome, after_side, after_sides, after_main, world_step}

module _ {Site Cell Cells Partition Content Rest Line Event Reply Change : Type 0}
    (m : Machine Site Cell Cells Partition Content Rest Line Event Reply Change)
    (site_same : (s t : Site) → m.same_site s t ≡ true → s ≡ t)
    (Holds : Site → Partition → Type 0) where
  -- an event leaves it so, whatever cells it sees
  abbrev pub LeavesSo : Site → Event → Type 0
  LeavesSo s e = (p : Partition) (cells : Cells) → Holds s p → Holds s (m.step p cells e).partition

  side_holds : (s : Site) (cells : Cells) (p : Partition) (o : Option Event) → ((e : Event) → o ≡ Some e → LeavesSo s e) → Holds s p → Holds s (after_side m cells o p)
  side_holds s cells p None each so = so
  side_holds s cells p (Some e) each so = each e refl p (no_cells m cells) so

  main_holds : (v : WorldOf m) (o : Option (Occurrence Site Event)) → ((a : Occurrence Site Event) → o ≡ Some a → LeavesSo a.site a.event)
      → ((s : Site) → Holds s (v.partition s)) → (s : Site) → Holds s ((after_main m v o).partition s)
  main_holds v None each so s = so s
  main_holds v (Some a) each so s = at (m.same_site s a.site) refl
    where
      done : Partition
      done = (outcome m a.site (v.partition a.site) v.cells a.event).partition

      at : (b : Bool) → m.same_site s a.site ≡ b → Holds s (cond b done (v.partition s))
      at true is = subst (λ t. Holds t done) (sym (site_same s a.site is)) (each a refl (v.partition a.site) _ (so a.site))
      at false is = so s

  -- after the events beside the main one
  pub sides_hold : (w : WorldOf m) (l : Line) → ((s : Site) (e : Event) → m.side w l s ≡ Some e → LeavesSo s e)
      → ((s : Site) → Holds s (w.partition s)) → (s : Site) → Holds s ((after_sides m w l).partition s)
  sides_hold w l sides so s = side_holds s w.cells (w.partition s) (m.side w l s) (sides s) (so s)

  -- and after the line
  pub partitions_hold : (w : WorldOf m) (l : Line)
      → ((s : Site) (e : Event) → m.side w l s ≡ Some e → LeavesSo s e)
      → ((a : Occurrence Site Event) → m.main w l ≡ Some a → LeavesSo a.site a.event)
      → ((s : Site) → Holds s (w.partition s)) → (s : Site) → Holds s ((world_step m w l).partition s)
  unfolding world_step
  partitions_hold w l sides main so = main_holds (after_sides m w l) (m.main w l) main (sides_hold w l sides so)
