-- The key is looked for among the areas of the tab.
use Rattle.std.proofs.Common.{◌∙◌, ap, []}
use Rattle.std.specs.Prelude.{unwrap_or, is_some}
use Rattle.key_map.specs.Entries.{map_get}
use Rattle.session_area.specs.Sessions.{session_area}
use Rattle.session_area.proofs.sessions.Sessions.contains.Goals as goal

pub returns-in-Some : goal.returns-in-Some
returns-in-Some g c = record {
  contains =
      c.contains.ensures.contains
      ∙ ap (λ areas. is_some (map_get g.K.Ord.cmp c.args.key.now (unwrap_or areas []))) c.in-Some.ensures.value
      ∙ ap (λ sessions. is_some (session_area g.K.Ord.cmp c.args.tab c.args.key.now sessions)) c.self.view_is;
}

pub returns-in-None : goal.returns-in-None
returns-in-None g c = record {
  contains =
      ap (λ areas. is_some (map_get g.K.Ord.cmp c.args.key.now (unwrap_or areas []))) c.in-None.ensures.value
      ∙ ap (λ sessions. is_some (session_area g.K.Ord.cmp c.args.tab c.args.key.now sessions)) c.self.view_is;
}
