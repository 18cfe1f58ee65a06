-- The replies to a site of a machine that shares no cell and has no event beside the main one.
use Rattle.std.proofs.Common.{◌≡◌, Bool, true, false, List, [], ◌∷◌, ◌++◌, Option, Some, None, refl}
use Rattle.std.proofs.Common.{sym, ap, ◌∙◌}
use Rattle.unwinding.specs.Machine.{Occurrence, Machine, WorldOf}
use Rattle.unwinding.specs.World.{consulted, outcome, no_cells, after_side, after_sides, after_main}
use Rattle.unwinding.specs.World.{world_step, reply_at, main_reply, line_reply, replies}
use Rattle.unwinding.specs.World.{reply_of_site, of_site}
use Rattle.unwinding.specs.LocalEntries.{EntryOf, side_entries, main_entries, line_entries}
use Rattle.unwinding.specs.LocalEntries.{line_touched, local_entries}
use Rattle.unwinding.specs.OneSite.{OwnOf, cells_used, own_outcome, own_step, own_reply, reply_list}
use Rattle.unwinding.specs.OneSite.{entry_replies, own_after, own_beginning, epoch_script}
use Rattle.unwinding.specs.OneSite.{epoch_run}
use Rattle.unwinding.specs.Facts.{UnsharedFacts}
use Rattle.unwinding.proofs.Runs.{run_append}

module _ {Site Cell Cells Partition Content Rest Line Event Reply Change : Type 0}
    (m : Machine Site Cell Cells Partition Content Rest Line Event Reply Change)
    (f : UnsharedFacts m) where
  -- no event consults a cell
  never : (s : Site) (p : Partition) (e : Event) (c : Cell) → consulted m s p e c ≡ false
  never s p e c = rw (f.names_none p e, f.sweeps_none p e) refl

  all_blank : (s : Site) (p : Partition) (e : Event) (x : Cells) → m.restrict (consulted m s p e) x ≡ no_cells m x
  all_blank s p e x = ap (λ t. m.restrict t x) (λ i c. never s p e c i)

  -- so an event gives the same whatever the cells are
  unshared_outcome : (s : Site) (p : Partition) (x y : Cells) (e : Event) → outcome m s p x e ≡ outcome m s p y e
  unshared_outcome s p x y e = ap (λ z. m.step p z e) (all_blank s p e x ∙ f.blank_same x y ∙ sym (all_blank s p e y))

  sides_same : (w : WorldOf m) (l : Line) (s : Site) → (after_sides m w l).partition s ≡ w.partition s
  sides_same w l s = ap (λ o. after_side m w.cells o (w.partition s)) (f.side_none w l s)

  module _ (s : Site) (touched : List Cell) (v : WorldOf m) (own : OwnOf m) (agrees : own.partition ≡ v.partition s) where
    -- the machine gives for an entry what the world's step gives
    same_outcome : (e : EntryOf m) → own_outcome m s own e ≡ outcome m s (v.partition s) v.cells e.event
    same_outcome e = ap (λ p. outcome m s p (cells_used m e.held own.cells) e.event) agrees ∙ unshared_outcome s (v.partition s) _ v.cells e.event

    main_agrees : (o : Option (Occurrence Site Event)) → (own_after m s own (main_entries m s touched v o)).partition ≡ (after_main m v o).partition s
    unfolding own_step
    main_agrees None = agrees
    main_agrees (Some a) = at (m.same_site s a.site) refl
      where
        at : (b : Bool) → m.same_site s a.site ≡ b → (own_after m s own (main_entries m s touched v (Some a))).partition ≡ (after_main m v (Some a)).partition s
        at true is = rw (← f.site_same s a.site is, f.site_itself s) (ap (λ o. o.partition) (same_outcome _))
        at false is = rw is agrees

    main_replies : (refusal : Reply) (o : Option (Occurrence Site Event)) → entry_replies m s own (main_entries m s touched v o) ≡ (let t = main_reply m v refusal o in reply_of_site m s t.site t.reply)
    unfolding own_reply
    main_replies refusal None = refl
    main_replies refusal (Some a) = at (m.same_site s a.site) refl
      where
        mine : (r : Option Reply) → reply_list m r ++ [] ≡ reply_of_site m s (reply_at m s refusal r).site (reply_at m s refusal r).reply
        mine None = refl
        mine (Some r) = rw (f.site_itself s) refl

        others : m.same_site s a.site ≡ false → (r : Option Reply) → [] ≡ reply_of_site m s (reply_at m a.site refusal r).site (reply_at m a.site refusal r).reply
        others is None = refl
        others is (Some r) = rw is refl

        at : (b : Bool) → m.same_site s a.site ≡ b → entry_replies m s own (main_entries m s touched v (Some a)) ≡ (let t = main_reply m v refusal (Some a) in reply_of_site m s t.site t.reply)
        at true is = rw (← f.site_same s a.site is, f.site_itself s) (ap (λ o. reply_list m o.reply ++ []) (same_outcome _) ∙ mine (outcome m s (v.partition s) v.cells a.event).reply)
        at false is = rw is (others is (outcome m a.site (v.partition a.site) v.cells a.event).reply)

  entries_are : (s : Site) (touched : List Cell) (w : WorldOf m) (l : Line) → line_entries m s touched w l ≡ main_entries m s touched (after_sides m w l) (m.main w l)
  unfolding line_entries
  entries_are s touched w l = ap (λ o. side_entries m o ++ main_entries m s touched (after_sides m w l) (m.main w l)) (f.side_none w l s)

  line_agrees : (s : Site) (touched : List Cell) (w : WorldOf m) (l : Line) (own : OwnOf m) → own.partition ≡ w.partition s → (own_after m s own (line_entries m s touched w l)).partition ≡ (world_step m w l).partition s
  unfolding world_step
  line_agrees s touched w l own a = ap (λ es. (own_after m s own es).partition) (entries_are s touched w l) ∙ main_agrees s touched (after_sides m w l) own (a ∙ sym (sides_same w l s)) (m.main w l)

  line_replies : (s : Site) (touched : List Cell) (w : WorldOf m) (l : Line) (own : OwnOf m) → own.partition ≡ w.partition s → entry_replies m s own (line_entries m s touched w l) ≡ (let t = line_reply m w l in reply_of_site m s t.site t.reply)
  unfolding line_reply
  line_replies s touched w l own a = ap (entry_replies m s own) (entries_are s touched w l) ∙ main_replies s touched (after_sides m w l) own (a ∙ sym (sides_same w l s)) (m.refusal w l) (m.main w l)

  unshared_entries : (s : Site) (touched : List Cell) (w : WorldOf m) (own : OwnOf m) → own.partition ≡ w.partition s → (ls : List Line) → entry_replies m s own (local_entries m s touched w ls) ≡ of_site m s (replies m w ls)
  unshared_entries s touched w own a [] = refl
  unshared_entries s touched w own a (l ∷ ls) =
      run_append m s own (line_entries m s touched w l) _
      ∙ ap (λ x. x ++ entry_replies m s (own_after m s own (line_entries m s touched w l)) (local_entries m s (line_touched m s touched w l) (world_step m w l) ls)) (line_replies s touched w l own a)
      ∙ ap (λ x. reply_of_site m s (line_reply m w l).site (line_reply m w l).reply ++ x) (unshared_entries s (line_touched m s touched w l) (world_step m w l) (own_after m s own (line_entries m s touched w l)) (line_agrees s touched w l own a) ls)

  -- over lines from any world
  pub unshared_replies : (s : Site) (w : WorldOf m) (ls : List Line) → of_site m s (replies m w ls) ≡ epoch_run m s (epoch_script m s w ls)
  unshared_replies s w ls = sym (unshared_entries s [] w (own_beginning m s w) refl ls)
