-- The replies to a site are those of its own machine, in a run without restart.
use Rattle.std.proofs.Common.{◌≡◌, Bool, true, false, cond, not, ◌&&◌, ◌||◌, List, [], ◌∷◌, ◌++◌}
use Rattle.std.proofs.Common.{Option, Some, None, refl, sym, ap, ◌∙◌, arith}
use Rattle.unwinding.specs.Machine.{Occurrence, Machine, WorldOf}
use Rattle.unwinding.specs.World.{is_in, consulted, outcome, no_cells, after_side, after_sides}
use Rattle.unwinding.specs.World.{after_main, world_step, reply_at, main_reply, line_reply, replies}
use Rattle.unwinding.specs.World.{reply_of_site, of_site}
use Rattle.unwinding.specs.LocalEntries.{EntryOf, is_held, held_cells, candidates, changed_cells}
use Rattle.unwinding.specs.LocalEntries.{side_entries, main_entries, main_touched, line_entries}
use Rattle.unwinding.specs.LocalEntries.{line_touched, local_entries}
use Rattle.unwinding.specs.OneSite.{OwnOf, own_outcome, own_step, reply_list, own_reply}
use Rattle.unwinding.specs.OneSite.{entry_replies, own_after, own_beginning, epoch_script}
use Rattle.unwinding.specs.OneSite.{epoch_run}
use Rattle.unwinding.specs.Facts.{IsQuiet, Facts}
use Rattle.std.proofs.lemmas.Bool.{true≢false, and_parts}
use Rattle.unwinding.proofs.Tests.{home_of, held_before, added_before}
use Rattle.unwinding.proofs.Runs.{run_append, after_append}
use Rattle.unwinding.proofs.HeldCells.{in_append, used_seen}

module _ {Site Cell Cells Partition Content Rest Line Event Reply Change : Type 0}
    (m : Machine Site Cell Cells Partition Content Rest Line Event Reply Change)
    (IsSound : WorldOf m → Type 0) (f : Facts m IsSound) where
  -- The site's own machine stands where the world does, as far as nobody else has changed it.
  pub record Agrees (s : Site) (touched : List Cell) (w : WorldOf m) (own : OwnOf m) : Type 0 where
    pub partition : own.partition ≡ w.partition s
    pub cell : (c : Cell) → is_held m s touched c ≡ false → m.get own.cells c ≡ m.get w.cells c

  -- the machine gives for an entry what the world's step gives
  pub same_outcome : (s : Site) (touched : List Cell) (w : WorldOf m) (own : OwnOf m) (e : Event) → Agrees s touched w own → own_outcome m s own (record { event = e; held = held_cells m (is_held m s touched) w.cells (candidates m s touched (w.partition s) e) }) ≡ outcome m s (w.partition s) w.cells e
  same_outcome s touched w own e a =
      rw a.partition (ap (λ x. m.step (w.partition s) x e) (used_seen m IsSound f s touched w.cells own.cells (w.partition s) e a.cell))

  pub never_asks : (s : Site) (p : Partition) (e : Event) (c : Cell) → m.names p e ≡ [] → m.sweeps p e ≡ false → consulted m s p e c ≡ false
  never_asks s p e c n w = rw (n, w) refl

  pub quiet_outcome : (s : Site) (cells : Cells) (p : Partition) (x : Cells) (e : Event) → IsQuiet m cells p e → outcome m s p x e ≡ m.step p (no_cells m cells) e
  quiet_outcome s cells p x e q = ap (λ y. m.step p y e) (f.same_cells _ _ (λ c.
      f.get_restrict (consulted m s p e) x c ∙ ap (λ b. cond b (m.get x c) m.blank) (never_asks s p e c q.names_none q.sweeps_none) ∙ sym (f.get_restrict (λ d. false) cells c)))

  -- the event beside the main one
  pub side_agrees : (s : Site) (touched : List Cell) (w : WorldOf m) (l : Line) (own : OwnOf m) (o : Option Event) → IsSound w → m.side w l s ≡ o → Agrees s touched w own → Agrees s touched (after_sides m w l) (own_after m s own (side_entries m o))
  unfolding own_step
  side_agrees s touched w l own None ok is a = record { partition = a.partition ∙ ap (λ x. after_side m w.cells x (w.partition s)) (sym is); cell = a.cell }
  side_agrees s touched w l own (Some e) ok is a =
      let q = f.side_quiet w l s e ok is in
      record {
        partition = rw (a.partition, is, quiet_outcome s w.cells (w.partition s) own.cells e q) refl;
        cell = λ c h.
            f.get_merge (λ d. m.is_home s d && consulted m s own.partition e d) (own_outcome m s own (record { event = e; held = [] })).cells own.cells c
            ∙ rw (home_of (m.is_home s c) (is_in m.same_cell c touched) h, a.partition, q.names_none, q.sweeps_none) (a.cell c h);
      }

  pub side_replies : (s : Site) (touched : List Cell) (w : WorldOf m) (l : Line) (own : OwnOf m) (o : Option Event) → IsSound w → m.side w l s ≡ o → Agrees s touched w own → entry_replies m s own (side_entries m o) ≡ []
  unfolding own_reply
  side_replies s touched w l own None ok is a = refl
  side_replies s touched w l own (Some e) ok is a =
      let q = f.side_quiet w l s e ok is in
      rw (a.partition, quiet_outcome s w.cells (w.partition s) own.cells e q, q.no_reply) refl

  -- a named cell that an event of another site left different is among those
  is_differing : (old new : Cells) (c : Cell) (cs : List Cell) → is_in m.same_cell c cs ≡ true → is_in m.same_cell c (changed_cells m old new cs) ≡ false → m.get old c ≡ m.get new c
  is_differing old new c [] i d = cc
  is_differing old new c (x ∷ xs) i d =
      let rest = is_differing old new c xs in
      let same = f.cell_same c x in
      let alike = f.content_same (m.get old x) (m.get new x) in
      grind (arith, rest, same, alike)

  -- what an event of another site leaves of a home cell that is not told as touched
  pub other_kept : (s : Site) (w : WorldOf m) (t : Site) (e : Event) → m.same_site s t ≡ false → (c : Cell) → m.is_home s c ≡ true → is_in m.same_cell c (changed_cells m w.cells (after_main m w (Some (record { site = t; event = e }))).cells (m.names (w.partition t) e)) ≡ false →
      m.get w.cells c ≡ m.get (after_main m w (Some (record { site = t; event = e }))).cells c
  other_kept s w t e is c home clean = at (is_in m.same_cell c (m.names (w.partition t) e)) refl (m.sweeps (w.partition t) e && m.is_own t c) refl
    where
      at : (n : Bool) → is_in m.same_cell c (m.names (w.partition t) e) ≡ n → (b : Bool) → (m.sweeps (w.partition t) e && m.is_own t c) ≡ b → m.get w.cells c ≡ m.get (after_main m w (Some (record { site = t; event = e }))).cells c
      at true n b is_b = is_differing w.cells (after_main m w (Some (record { site = t; event = e }))).cells c (m.names (w.partition t) e) n clean
      at false n true is_b = absurd (true≢false (sym (f.own_alone s t c (and_parts (m.sweeps (w.partition t) e) (m.is_own t c) is_b).1 home) ∙ is))
      at false n false is_b = sym (f.get_merge (consulted m t (w.partition t) e) (outcome m t (w.partition t) w.cells e).cells w.cells c ∙ rw (n, is_b) refl)

  module _ (s : Site) (touched : List Cell) (w : WorldOf m) (own : OwnOf m) (a : Agrees s touched w own) where
    mine : (t : Site) (e : Event) → s ≡ t → Agrees s (main_touched m s touched w (Some (record { site = t; event = e }))) (after_main m w (Some (record { site = t; event = e }))) (own_after m s own (main_entries m s touched w (Some (record { site = t; event = e }))))
    unfolding own_step
    mine t e is =
        rw (← is, f.site_itself s) (record {
          partition = rw (f.site_itself s) (ap (λ x. x.partition) (same_outcome s touched w own e a));
          cell = λ c h.
              let o : EntryOf m = record { event = e; held = held_cells m (is_held m s touched) w.cells (candidates m s touched (w.partition s) e) } in
              f.get_merge (λ d. m.is_home s d && consulted m s own.partition e d) (own_outcome m s own o).cells own.cells c
              ∙ rw (home_of (m.is_home s c) (is_in m.same_cell c touched) h, same_outcome s touched w own e a, a.partition, a.cell c h) refl
              ∙ sym (f.get_merge (consulted m s (w.partition s) e) (outcome m s (w.partition s) w.cells e).cells w.cells c);
        })

    others : (t : Site) (e : Event) → m.same_site s t ≡ false → Agrees s (main_touched m s touched w (Some (record { site = t; event = e }))) (after_main m w (Some (record { site = t; event = e }))) (own_after m s own (main_entries m s touched w (Some (record { site = t; event = e }))))
    others t e is =
        rw is (record {
          partition = rw is a.partition;
          cell = λ c h.
              let d = changed_cells m w.cells (after_main m w (Some (record { site = t; event = e }))).cells (m.names (w.partition t) e) in
              let k : (not (m.is_home s c) || (is_in m.same_cell c touched || is_in m.same_cell c d)) ≡ false = ap (λ b. not (m.is_home s c) || b) (sym (in_append m IsSound f c touched d)) ∙ h in
              a.cell c (held_before (m.is_home s c) (is_in m.same_cell c touched) (is_in m.same_cell c d) k)
              ∙ other_kept s w t e is c (home_of (m.is_home s c) _ k) (added_before (m.is_home s c) (is_in m.same_cell c touched) (is_in m.same_cell c d) k);
        })

    my_replies : (t : Site) (e : Event) (none : Reply) → s ≡ t → entry_replies m s own (main_entries m s touched w (Some (record { site = t; event = e }))) ≡ (let r = main_reply m w none (Some (record { site = t; event = e })) in reply_of_site m s r.site r.reply)
    unfolding own_reply
    my_replies t e none is = rw (← is, f.site_itself s, same_outcome s touched w own e a) (replied (outcome m s (w.partition s) w.cells e).reply)
      where
        replied : (r : Option Reply) → reply_list m r ++ [] ≡ reply_of_site m s (reply_at m s none r).site (reply_at m s none r).reply
        replied None = refl
        replied (Some r) = rw (f.site_itself s) refl

    other_replies : (t : Site) (e : Event) (none : Reply) → m.same_site s t ≡ false → entry_replies m s own (main_entries m s touched w (Some (record { site = t; event = e }))) ≡ (let r = main_reply m w none (Some (record { site = t; event = e })) in reply_of_site m s r.site r.reply)
    other_replies t e none is = rw is (replied (outcome m t (w.partition t) w.cells e).reply)
      where
        replied : (r : Option Reply) → [] ≡ reply_of_site m s (reply_at m t none r).site (reply_at m t none r).reply
        replied None = refl
        replied (Some r) = rw is refl

  pub main_agrees : (s : Site) (touched : List Cell) (w : WorldOf m) (own : OwnOf m) (o : Option (Occurrence Site Event)) → Agrees s touched w own → Agrees s (main_touched m s touched w o) (after_main m w o) (own_after m s own (main_entries m s touched w o))
  main_agrees s touched w own None a = a
  main_agrees s touched w own (Some d) a = at (m.same_site s d.site) refl
    where
      at : (b : Bool) → m.same_site s d.site ≡ b → Agrees s (main_touched m s touched w (Some d)) (after_main m w (Some d)) (own_after m s own (main_entries m s touched w (Some d)))
      at true is = mine s touched w own a d.site d.event (f.site_same s d.site is)
      at false is = others s touched w own a d.site d.event is

  pub main_replies : (s : Site) (touched : List Cell) (w : WorldOf m) (own : OwnOf m) (none : Reply) (o : Option (Occurrence Site Event)) → Agrees s touched w own → entry_replies m s own (main_entries m s touched w o) ≡ (let t = main_reply m w none o in reply_of_site m s t.site t.reply)
  main_replies s touched w own none None a = refl
  main_replies s touched w own none (Some d) a = at (m.same_site s d.site) refl
    where
      at : (b : Bool) → m.same_site s d.site ≡ b → entry_replies m s own (main_entries m s touched w (Some d)) ≡ (let t = main_reply m w none (Some d) in reply_of_site m s t.site t.reply)
      at true is = my_replies s touched w own a d.site d.event none (f.site_same s d.site is)
      at false is = other_replies s touched w own a d.site d.event none is

  pub line_agrees : (s : Site) (touched : List Cell) (w : WorldOf m) (l : Line) (own : OwnOf m) → IsSound w → Agrees s touched w own → Agrees s (line_touched m s touched w l) (world_step m w l) (own_after m s own (line_entries m s touched w l))
  unfolding line_touched world_step line_entries
  line_agrees s touched w l own ok a =
      let b = side_agrees s touched w l own (m.side w l s) ok refl a in
      let d = main_agrees s touched (after_sides m w l) (own_after m s own (side_entries m (m.side w l s))) (m.main w l) b in
      rw (after_append m) (record { partition = d.partition; cell = d.cell })

  pub line_replies : (s : Site) (touched : List Cell) (w : WorldOf m) (l : Line) (own : OwnOf m) → IsSound w → Agrees s touched w own → entry_replies m s own (line_entries m s touched w l) ≡ (let t = line_reply m w l in reply_of_site m s t.site t.reply)
  unfolding line_reply line_entries
  line_replies s touched w l own ok a =
      let b = side_agrees s touched w l own (m.side w l s) ok refl a in
      rw (run_append m, side_replies s touched w l own (m.side w l s) ok refl a) (main_replies s touched (after_sides m w l) (own_after m s own (side_entries m (m.side w l s))) (m.refusal w l) (m.main w l) b)

  -- one epoch
  pub epoch_replies : (s : Site) (touched : List Cell) (w : WorldOf m) (own : OwnOf m) → IsSound w → Agrees s touched w own → (ls : List Line) → entry_replies m s own (local_entries m s touched w ls) ≡ of_site m s (replies m w ls)
  epoch_replies s touched w own ok a [] = refl
  epoch_replies s touched w own ok a (l ∷ ls) =
      rw (run_append m, line_replies s touched w l own ok a)
      (ap (λ x. reply_of_site m s (line_reply m w l).site (line_reply m w l).reply ++ x) (epoch_replies s (line_touched m s touched w l) (world_step m w l) (own_after m s own (line_entries m s touched w l)) (f.sound w l ok) (line_agrees s touched w l own ok a) ls))

  -- where a site begins it stands where the world does
  begins_agreed : (s : Site) (w : WorldOf m) → Agrees s [] w (own_beginning m s w)
  begins_agreed s w =
      record {
        partition = refl;
        cell = λ c g. f.get_restrict (m.is_home s) w.cells c ∙ ap (λ b. cond b (m.get w.cells c) m.blank) (home_of (m.is_home s c) false g);
      }

  -- over lines from an opening
  pub lines_replies : (s : Site) (w : WorldOf m) → IsSound w → (ls : List Line) → of_site m s (replies m w ls) ≡ epoch_run m s (epoch_script m s w ls)
  lines_replies s w ok ls = sym (epoch_replies s [] w (own_beginning m s w) ok (begins_agreed s w) ls)
