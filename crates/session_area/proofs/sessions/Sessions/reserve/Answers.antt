-- A tab is made first, and then an area in it.
use Rattle.std.proofs.Common.{◌∙◌, ap, subst, []}
use Rattle.std.specs.Prelude.{unwrap_or}
use Rattle.std.proofs.lemmas.Result.{on_ok_weaker, on_err_weaker}
use Rattle.session_area.specs.Sessions.{areas_of, made_area, ChangesTab}
use Rattle.session_area.proofs.SessionsLemmas.{ChangesTab-set, ChangesTab-after, SameAreas-changed}
use Rattle.session_area.proofs.sessions.Sessions.reserve.Goals as goal
use Rattle.session_area.proofs.sessions.Sessions.reserve.Goals.{in-Some, in-None}

pub returns-clause-made : goal.returns-clause-made
returns-clause-made g c = elim c.match-get_mut.branch [
  | in-Some w ↦
      rw (w.result-is, w.self-inside-is, ← c.self.view_is)
      (on_ok_weaker w.make_area.result (λ is.
      subst (λ areas. ChangesTab c.args.tab areas c.self.inside.tabs.entries (c.get_mut.follows.lender w.make_area.new.areas).entries)
      (is ∙ ap (λ o. made_area g.K.Ord.cmp c.args.key (unwrap_or o [])) w.in-Some.ensures.value ∙ ap (made_area g.K.Ord.cmp c.args.key) (c.make_tab.ensures.same c.args.tab))
      (ChangesTab-after c.args.tab w.make_area.new.areas c.self.inside.tabs.entries c.make_tab.new.tabs.entries _ c.make_tab.ensures.same
      (ChangesTab-set c.args.tab w.in-Some.areas.now w.make_area.new.areas c.make_tab.new.tabs.entries _ w.in-Some.ensures.value
      (c.get_mut.follows.holds w.make_area.new.areas).0)))
      w.make_area.ensures.made)
  | in-None w ↦ rw w.result-is tt
]

pub returns-clause-unchanged : goal.returns-clause-unchanged
returns-clause-unchanged g c = elim c.match-get_mut.branch [
  | in-Some w ↦
      rw (w.result-is, w.self-inside-is, ← c.self.view_is)
      (on_err_weaker w.make_area.result (λ is tab.
      SameAreas-changed c.args.tab w.make_area.new.areas c.make_tab.new.tabs.entries (c.get_mut.follows.lender w.make_area.new.areas).entries
      (ChangesTab-set c.args.tab w.in-Some.areas.now w.make_area.new.areas c.make_tab.new.tabs.entries _ w.in-Some.ensures.value
      (c.get_mut.follows.holds w.make_area.new.areas).0)
      (is ∙ ap (λ o. unwrap_or o []) w.in-Some.ensures.value) tab
      ∙ c.make_tab.ensures.same tab)
      w.make_area.ensures.unchanged)
  | in-None w ↦
      rw (w.result-is, w.self-inside-is, ← c.self.view_is)
      (λ tab. ap (λ m. areas_of tab m.entries) c.get_mut.follows.holds-at-none ∙ c.make_tab.ensures.same tab)
]
