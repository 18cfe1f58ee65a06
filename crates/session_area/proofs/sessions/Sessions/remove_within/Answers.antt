-- The areas of the tab without that of the key.
use Rattle.std.proofs.Common.{◌∙◌, ap, refl, sym, subst, []}
use Rattle.std.specs.Prelude.{unwrap_or}
use Rattle.key_map.specs.Entries.{map_remove}
use Rattle.session_area.specs.Sessions.{areas_of, ChangesTab}
use Rattle.session_area.proofs.SessionsLemmas.{ChangesTab-set, ChangesTab-same, empty_length}
use Rattle.session_area.proofs.sessions.Sessions.remove_within.Goals as goal
use Rattle.session_area.proofs.sessions.Sessions.remove_within.Goals.{in-Some, in-None}

pub returns-clause-removed : goal.returns-clause-removed
returns-clause-removed g c = elim c.match-get_mut.branch [
  | in-Some w ↦
      rw (w.self-inside-is, ← c.self.view_is)
      (subst (λ areas. ChangesTab c.args.tab areas c.self.inside.tabs.entries (c.get_mut.follows.lender w.remove_area.new.areas).entries)
      (w.remove_area.ensures.removed ∙ ap (λ o. map_remove g.K.Ord.cmp c.args.key.now (unwrap_or o [])) w.in-Some.ensures.value)
      (ChangesTab-set c.args.tab w.in-Some.areas.now w.remove_area.new.areas c.self.inside.tabs.entries _ w.in-Some.ensures.value
      (c.get_mut.follows.holds w.remove_area.new.areas).0))
  | in-None w ↦
      rw (w.self-inside-is, ← c.self.view_is)
      (ChangesTab-same c.args.tab _ c.self.inside.tabs.entries _ (λ tab. ap (λ m. areas_of tab m.entries) c.get_mut.follows.holds-at-none)
      (rw (← w.in-None.ensures.value) refl))
]

pub returns-clause-none : goal.returns-clause-none
returns-clause-none g c = elim c.match-get_mut.branch [
  | in-Some w ↦ λ is.
      rw w.self-inside-is
      ((ChangesTab-set c.args.tab w.in-Some.areas.now w.remove_area.new.areas c.self.inside.tabs.entries (c.get_mut.follows.lender w.remove_area.new.areas).entries
      w.in-Some.ensures.value (c.get_mut.follows.holds w.remove_area.new.areas).0).here
      ∙ empty_length w.remove_area.new.areas (sym w.remove_area.ensures.left ∙ sym w.result-is ∙ is))
  | in-None w ↦ λ is.
      rw w.self-inside-is (ap (λ m. areas_of c.args.tab m.entries) c.get_mut.follows.holds-at-none ∙ ap (λ o. unwrap_or o []) (sym w.in-None.ensures.value))
]
