-- A tab without areas is closed.
use Rattle.std.proofs.Common.{subst, sym, ◌∙◌, []}
use Rattle.session_area.specs.Sessions.{ChangesTab}
use Rattle.session_area.proofs.SessionsLemmas.{ChangesTab-twice}
use Rattle.session_area.proofs.sessions.Sessions.remove.Goals as goal

pub returns-then-not-remove_within : goal.returns-then-not-remove_within
returns-then-not-remove_within g c = record {
  removed =
      subst (λ areas. ChangesTab c.args.tab areas c.args.self.now c.close.new.self)
      (sym (c.remove_within.ensures.none c.if-not-remove_within.true) ∙ c.remove_within.ensures.removed.here)
      (ChangesTab-twice c.args.tab _ [] c.args.self.now c.remove_within.new.self c.close.new.self c.remove_within.ensures.removed c.close.ensures.closed);
}
