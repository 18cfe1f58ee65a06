-- The durable changes of a site are those that its own machine makes.
use Rattle.std.proofs.Common.{◌≡◌, Bool, true, false, List, [], ◌∷◌, ◌++◌, Option, Some, None, refl}
use Rattle.std.proofs.Common.{sym, ap, ◌∙◌, append_assoc, append-nil}
use Rattle.unwinding.specs.Machine.{Occurrence, Machine, WorldOf}
use Rattle.unwinding.specs.World.{outcome, after_sides, world_step}
use Rattle.unwinding.specs.LocalEntries.{EntryOf, side_entries, main_entries, line_entries}
use Rattle.unwinding.specs.LocalEntries.{line_touched, local_entries}
use Rattle.unwinding.specs.OneSite.{OwnOf, own_outcome, own_step, own_reply, entry_replies}
use Rattle.unwinding.specs.OneSite.{own_after}
use Rattle.unwinding.specs.Durable.{Keeping, durable_change, main_changes, line_changes}
use Rattle.unwinding.specs.Durable.{changes_of_site}
use Rattle.unwinding.specs.Epochs.{all_changes}
use Rattle.unwinding.specs.LocalScript.{ScriptItem, happenings}
use Rattle.unwinding.specs.SiteRun.{SinceOf, some_changes, rows_of, after_entry, item_replies}
use Rattle.unwinding.specs.Facts.{Facts}
use Rattle.unwinding.proofs.EpochReplies.{quiet_outcome, same_outcome, Agrees, side_agrees}
use Rattle.unwinding.proofs.EpochReplies.{line_agrees}
use Rattle.unwinding.proofs.Fronts.{rows_append, changes_append}

module _ {Site Cell Cells Partition Content Rest Line Event Reply Change : Type 0}
    (m : Machine Site Cell Cells Partition Content Rest Line Event Reply Change) where
  abbrev pub own_changes : Site → OwnOf m → List (EntryOf m) → List (List Change)
  own_changes s o [] = []
  own_changes s o (e ∷ es) = some_changes (own_outcome m s o e).changes ++ own_changes s (own_step m s o e) es

  pub own_changes_append : (s : Site) (o : OwnOf m) (es fs : List (EntryOf m)) → own_changes s o (es ++ fs) ≡ own_changes s o es ++ own_changes s (own_after m s o es) fs
  own_changes_append s o [] fs = refl
  own_changes_append s o (e ∷ es) fs = ap (λ r. some_changes (own_outcome m s o e).changes ++ r) (own_changes_append s (own_step m s o e) es fs) ∙ sym (append_assoc (some_changes (own_outcome m s o e).changes) (own_changes s (own_step m s o e) es) _)

module _ {Site Cell Cells Partition Content Rest Line Event Reply Change : Type 0}
    (m : Machine Site Cell Cells Partition Content Rest Line Event Reply Change)
    (IsSound : WorldOf m → Type 0) (f : Facts m IsSound) where
  pub side_changes : (s : Site) (touched : List Cell) (w : WorldOf m) (l : Line) (own : OwnOf m) (o : Option Event) → IsSound w → m.side w l s ≡ o → Agrees m IsSound f s touched w own → own_changes m s own (side_entries m o) ≡ []
  side_changes s touched w l own None ok is a = refl
  side_changes s touched w l own (Some e) ok is a =
      let q = f.side_quiet w l s e ok is in
      rw (a.partition, quiet_outcome m IsSound f s w.cells (w.partition s) own.cells e q, q.no_changes) refl

  pub some_made : (s t : Site) (cs : List Change) → m.same_site s t ≡ true → some_changes cs ++ [] ≡ rows_of (changes_of_site m s (durable_change m t cs))
  some_made s t [] is = refl
  some_made s t (c ∷ cs) is = rw is refl

  pub none_made : (s t : Site) (cs : List Change) → m.same_site s t ≡ false → [] ≡ rows_of (changes_of_site m s (durable_change m t cs))
  none_made s t [] is = refl
  none_made s t (c ∷ cs) is = rw is refl

  pub main_changes_own : (s : Site) (touched : List Cell) (w : WorldOf m) (own : OwnOf m) (o : Option (Occurrence Site Event)) → Agrees m IsSound f s touched w own → own_changes m s own (main_entries m s touched w o) ≡ rows_of (changes_of_site m s (main_changes m w o))
  main_changes_own s touched w own None a = refl
  main_changes_own s touched w own (Some d) a = at (m.same_site s d.site) refl
    where
      at : (b : Bool) → m.same_site s d.site ≡ b → own_changes m s own (main_entries m s touched w (Some d)) ≡ rows_of (changes_of_site m s (main_changes m w (Some d)))
      at true is = rw (is, ← f.site_same s d.site is, same_outcome m IsSound f s touched w own d.event a) (some_made s s (outcome m s (w.partition s) w.cells d.event).changes (f.site_itself s))
      at false is = rw is (none_made s d.site (outcome m d.site (w.partition d.site) w.cells d.event).changes is)

  pub line_changes_own : (s : Site) (touched : List Cell) (w : WorldOf m) (l : Line) (own : OwnOf m) → IsSound w → Agrees m IsSound f s touched w own → own_changes m s own (line_entries m s touched w l) ≡ rows_of (changes_of_site m s (line_changes m w l))
  unfolding line_changes line_entries
  line_changes_own s touched w l own ok a =
      let b = side_agrees m IsSound f s touched w l own (m.side w l s) ok refl a in
      rw (own_changes_append, side_changes s touched w l own (m.side w l s) ok refl a) (main_changes_own s touched (after_sides m w l) (own_after m s own (side_entries m (m.side w l s))) (m.main w l) b)

  pub epoch_changes : (s : Site) (touched : List Cell) (w : WorldOf m) (own : OwnOf m) → IsSound w → Agrees m IsSound f s touched w own → (ls : List Line) → own_changes m s own (local_entries m s touched w ls) ≡ rows_of (changes_of_site m s (all_changes m w ls))
  epoch_changes s touched w own ok a [] = refl
  epoch_changes s touched w own ok a (l ∷ ls) =
      rw (own_changes_append, line_changes_own s touched w l own ok a, changes_append m, rows_append)
      (ap (λ x. rows_of (changes_of_site m s (line_changes m w l)) ++ x) (epoch_changes s (line_touched m s touched w l) (world_step m w l) (own_after m s own (line_entries m s touched w l)) (f.sound w l ok) (line_agrees m IsSound f s touched w l own ok a) ls))

module _
    {Site Cell Cells Partition Content Rest Line Event Reply Change KeptPartition KeptCell KeptCells
    : Type 0}
    (m : Machine Site Cell Cells Partition Content Rest Line Event Reply Change)
    (k : Keeping Site Cell Cells Partition Content Rest Change KeptPartition KeptCell KeptCells)
  where
    -- the machine after the entries of an epoch
    abbrev pub after_entries : Site → SinceOf m k → List (EntryOf m) → SinceOf m k
    after_entries s a [] = a
    after_entries s a (e ∷ es) = after_entries s (after_entry m k s a e) es

    pub run_happenings : (s : Site) (a : SinceOf m k) (es : List (EntryOf m)) (is : List (ScriptItem Cell Content Event)) → item_replies m k s a (happenings es ++ is) ≡ item_replies m k s (after_entries s a es) is
    run_happenings s a [] is = refl
    run_happenings s a (e ∷ es) is = run_happenings s (after_entry m k s a e) es is

    pub after_replies : (s : Site) (a : SinceOf m k) (es : List (EntryOf m)) → (after_entries s a es).replies ≡ a.replies ++ entry_replies m s a.own es
    after_replies s a [] = sym (append-nil a.replies)
    after_replies s a (e ∷ es) = after_replies s (after_entry m k s a e) es ∙ append_assoc a.replies (own_reply m s a.own e) _

    pub after_changes : (s : Site) (a : SinceOf m k) (es : List (EntryOf m)) → (after_entries s a es).changes ≡ a.changes ++ own_changes m s a.own es
    after_changes s a [] = sym (append-nil a.changes)
    after_changes s a (e ∷ es) = after_changes s (after_entry m k s a e) es ∙ append_assoc a.changes (some_changes (own_outcome m s a.own e).changes) _

    pub after_base : (s : Site) (a : SinceOf m k) (es : List (EntryOf m)) → (after_entries s a es).base ≡ a.base
    after_base s a [] = refl
    after_base s a (e ∷ es) = after_base s (after_entry m k s a e) es
