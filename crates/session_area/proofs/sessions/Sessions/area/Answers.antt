-- The area of the key among those of the tab.
use Rattle.std.proofs.Common.{◌∙◌, ap, []}
use Rattle.std.specs.Prelude.{unwrap_or}
use Rattle.key_map.specs.Entries.{map_get}
use Rattle.session_area.specs.Sessions.{session_area}
use Rattle.session_area.proofs.sessions.Sessions.area.Goals as goal

pub returns-in-Some : goal.returns-in-Some
returns-in-Some g c = record {
  area =
      c.area_at.ensures.area
      ∙ ap (λ areas. map_get g.K.Ord.cmp c.args.key.now (unwrap_or areas [])) c.in-Some.ensures.value
      ∙ ap (session_area g.K.Ord.cmp c.args.tab c.args.key.now) c.self.view_is;
}

pub returns-in-None : goal.returns-in-None
returns-in-None g c = record {
  area =
      ap (λ areas. map_get g.K.Ord.cmp c.args.key.now (unwrap_or areas [])) c.in-None.ensures.value
      ∙ ap (session_area g.K.Ord.cmp c.args.tab c.args.key.now) c.self.view_is;
}
