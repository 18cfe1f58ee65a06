-- Over restarts too, the replies to a site are those of its own machine on its local script.
use Rattle.std.proofs.Common.{◌≡◌, true, false, cond, List, [], ◌∷◌, ◌++◌, take, refl, sym, ap}
use Rattle.std.proofs.Common.{subst, ◌∙◌}
use Rattle.unwinding.specs.Machine.{Machine, WorldOf}
use Rattle.unwinding.specs.World.{is_in, replies, world_after, of_site}
use Rattle.unwinding.specs.LocalEntries.{is_held, local_entries, touched_after}
use Rattle.unwinding.specs.Durable.{Keeping, DurableOf, restarted, changes_of_site}
use Rattle.unwinding.specs.Epochs.{Epoch, tried, all_changes, kept_changes, acknowledged_replies}
use Rattle.unwinding.specs.Epochs.{next_durable, world_replies}
use Rattle.unwinding.specs.LocalScript.{Beginning, local_items, beginning_of, local_script}
use Rattle.unwinding.specs.SiteRun.{rows_of, begun, own_partition_changes, found_again}
use Rattle.unwinding.specs.SiteRun.{item_replies, site_run}
use Rattle.unwinding.specs.Admissible.{OpeningOf}
use Rattle.unwinding.specs.Facts.{Facts, KeepingFacts}
use Rattle.unwinding.proofs.Tests.{home_of, held_was, not_touched}
use Rattle.unwinding.proofs.EpochReplies.{Agrees, epoch_replies}
use Rattle.unwinding.proofs.Fronts.{tried_replies, front_changes}
use Rattle.unwinding.proofs.SiteChanges.{run_happenings, after_replies, after_changes, after_base}
use Rattle.unwinding.proofs.SiteChanges.{epoch_changes}
use Rattle.unwinding.proofs.Inert.{cell_all, CellInert, partition_front, partition_inert}
use Rattle.unwinding.proofs.Inert.{cell_front, cell_inert, untouched_before, get_own, next_valid}

module _
    {Site Cell Cells Partition Content Rest Line Event Reply Change KeptPartition KeptCell KeptCells
    : Type 0}
    (m : Machine Site Cell Cells Partition Content Rest Line Event Reply Change)
    (k : Keeping Site Cell Cells Partition Content Rest Change KeptPartition KeptCell KeptCells)
    (IsSound : WorldOf m → Type 0) (f : Facts m IsSound)
    (IsValid : DurableOf k → Type 0)
    (h : KeepingFacts m k IsSound IsValid) where
  -- what the site's machine has kept is the store's, as far as nobody else has changed it
  pub record Stands (s : Site) (touched : List Cell) (d : DurableOf k) (b : Beginning KeptPartition KeptCells) : Type 0 where
    pub partition : b.partition ≡ d.partition s
    pub cell : (c : Cell) → is_held m s touched c ≡ false → k.kept_get b.cells c ≡ k.kept_get d.cells c

  pub begun_agrees : (s : Site) (touched : List Cell) (r : Rest) (d : DurableOf k) (b : Beginning KeptPartition KeptCells) → Stands s touched d b → Agrees m IsSound f s touched (restarted k r d) (begun m k s b).own
  begun_agrees s touched r d b st =
      record {
        partition = ap (λ q. k.partition_again s q) st.partition;
        cell = λ c g. h.get_again b.cells c ∙ ap (λ q. k.cell_again c q) (st.cell c g) ∙ sym (h.get_again d.cells c);
      }

  -- the kept partition that a restart finds is that of the site's own kept changes
  pub next_partition : (s : Site) (w : WorldOf m) (d : DurableOf k) (e : Epoch Line) → IsSound w → (next_durable m k w d e).partition s ≡ own_partition_changes m k s (rows_of (changes_of_site m s (kept_changes m w e))) (d.partition s)
  unfolding next_durable
  next_partition s w d e ok = partition_front m k IsSound f IsValid h s e.kept (all_changes m w (tried e)) d (partition_inert m k IsSound f IsValid h s w ok (tried e))

  -- and so is each kept home cell that nobody else has changed
  pub next_cell : (s : Site) (touched : List Cell) (r : Rest) (d : DurableOf k) (e : Epoch Line) → IsValid d → (c : Cell) → m.is_home s c ≡ true → is_in m.same_cell c (touched_after m s touched (restarted k r d) (tried e)) ≡ false →
      k.kept_get (next_durable m k (restarted k r d) d e).cells c ≡ cell_all m k IsSound f IsValid h c (rows_of (changes_of_site m s (kept_changes m (restarted k r d) e))) (k.kept_get d.cells c)
  unfolding next_durable
  next_cell s touched r d e v c home g =
      let w = restarted k r d in
      cell_front m k IsSound f IsValid h s c e.kept (all_changes m w (tried e)) d
      (subst (λ y. CellInert m k IsSound f IsValid h s c y (all_changes m w (tried e))) (ap (λ y. k.cell_kept c y) (h.get_again d.cells c) ∙ h.opened d c v) (cell_inert m k IsSound f IsValid h s touched w (h.opens r d v) c home (tried e) g))

  pub next_stands : (s : Site) (touched : List Cell) (r : Rest) (d : DurableOf k) (b : Beginning KeptPartition KeptCells) (e : Epoch Line) → IsValid d → Stands s touched d b →
      let w = restarted k r d in
      Stands s (touched_after m s touched w (tried e)) (next_durable m k w d e) (found_again m k s (rows_of (changes_of_site m s (kept_changes m w e))) b)
  next_stands s touched r d b e v st =
      let w = restarted k r d in
      let css = rows_of (changes_of_site m s (kept_changes m w e)) in
      record {
        partition = ap (λ q. own_partition_changes m k s css q) st.partition ∙ sym (next_partition s w d e (h.opens r d v));
        cell = λ c g.
            let now = is_in m.same_cell c (touched_after m s touched w (tried e)) in
            let home = home_of (m.is_home s c) now g in
            get_own m k IsSound f IsValid h s c css b.cells home
            ∙ ap (λ q. cell_all m k IsSound f IsValid h c css q) (st.cell c (held_was (m.is_home s c) (is_in m.same_cell c touched) now (untouched_before m k IsSound f IsValid h s touched w (tried e) c) g))
            ∙ sym (next_cell s touched r d e v c home (not_touched (m.is_home s c) now home g));
      }

  -- over every history, from any state of the site's machine that stands where the store does
  pub item_replies_are : (s : Site) (touched : List Cell) (r : Rest) (d : DurableOf k) (b : Beginning KeptPartition KeptCells) (es : List (Epoch Line)) → IsValid d → Stands s touched d b → item_replies m k s (begun m k s b) (local_items m k s touched r d es) ≡ world_replies m k s r d es
  unfolding acknowledged_replies
  item_replies_are s touched r d b [] v st = refl
  item_replies_are s touched r d b (e ∷ es) v st =
      let w = restarted k r d in
      let entries = local_entries m s touched w (tried e) in
      let a = begun_agrees s touched r d b st in
      let start = begun m k s b in
      run_happenings m k s start entries _
      ∙ rw (after_replies m k s start entries, after_changes m k s start entries, after_base m k s start entries, epoch_replies m IsSound f s touched w start.own (h.opens r d v) a (tried e), epoch_changes m IsSound f s touched w start.own (h.opens r d v) a (tried e), tried_replies m s w e.acknowledged e.executed e.interrupted, front_changes m s e.kept (all_changes m w (tried e)))
      (ap (λ r. of_site m s (take e.acknowledged (replies m w e.executed)) ++ r)
      (item_replies_are s (touched_after m s touched w (tried e)) (world_after m w e.executed).rest (next_durable m k w d e) _ es (next_valid m k IsSound f IsValid h w d e v) (next_stands s touched r d b e v st)))

  beginning_stands : (s : Site) (d : DurableOf k) → Stands s [] d (beginning_of m k s d)
  beginning_stands s d =
      record {
        partition = refl;
        cell = λ c g. h.get_kept_restrict (m.is_home s) d.cells c ∙ ap (λ b. cond b (k.kept_get d.cells c) (k.cell_kept c m.blank)) (home_of (m.is_home s c) false g);
      }

  -- over every history, the replies to a site are those of its machine on its local script
  pub history_replies : (s : Site) (x : OpeningOf m k) (es : List (Epoch Line)) → IsValid x.state → world_replies m k s x.rest x.state es ≡ site_run m k s (local_script m k s x es)
  history_replies s x es v = sym (item_replies_are s [] x.rest x.state (beginning_of m k s x.state) es v (beginning_stands s x.state))

  -- a restart of the world, seen at a site, is the restart of what the site has kept itself
  pub restart_agrees : (s : Site) (r next : Rest) (d : DurableOf k) (e : Epoch Line) → IsValid d →
      let w = restarted k r d in
      Agrees m IsSound f s (touched_after m s [] w (tried e)) (restarted k next (next_durable m k w d e))
      (begun m k s (found_again m k s (rows_of (changes_of_site m s (kept_changes m w e))) (beginning_of m k s d))).own
  restart_agrees s r next d e v =
      let w = restarted k r d in
      begun_agrees s (touched_after m s [] w (tried e)) next (next_durable m k w d e) _ (next_stands s [] r d (beginning_of m k s d) e v (beginning_stands s d))
