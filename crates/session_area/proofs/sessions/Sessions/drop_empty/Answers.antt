-- An area that is empty is taken out, and every other stays.
use Rattle.std.proofs.Common.{ap, refl, subst, sym, ◌∙◌}
use Rattle.std.specs.Prelude.{if◌then◌else◌}
use Rattle.key_map.specs.Entries.{map_remove}
use Rattle.session_area.specs.Sessions.{areas_of, ChangesTab}
use Rattle.session_area.proofs.SessionsLemmas.{ChangesTab-same}
use Rattle.session_area.proofs.sessions.Sessions.drop_empty.Goals as goal

pub returns-then-has_empty : goal.returns-then-has_empty
returns-then-has_empty g c = record {
  dropped =
      subst (λ b. ChangesTab c.args.tab
      (if b then map_remove g.K.Ord.cmp c.args.key.now (areas_of c.args.tab c.args.self.now) else areas_of c.args.tab c.args.self.now)
      c.args.self.now c.remove.new.self)
      (sym (sym c.has_empty.ensures.empty ∙ c.if-has_empty.true)) c.remove.ensures.removed;
}

pub returns-else-has_empty : goal.returns-else-has_empty
returns-else-has_empty g c = record {
  dropped =
      ChangesTab-same c.args.tab _ c.args.self.now _ (λ tab. refl)
      (ap (λ b. if b then map_remove g.K.Ord.cmp c.args.key.now (areas_of c.args.tab c.args.self.now) else areas_of c.args.tab c.args.self.now)
      (sym c.has_empty.ensures.empty ∙ c.if-has_empty.false));
}
