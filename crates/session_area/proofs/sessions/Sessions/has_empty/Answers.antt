-- The key is looked for among the areas of the tab.
use Rattle.std.proofs.Common.{◌∙◌, ap, []}
use Rattle.std.specs.Prelude.{unwrap_or}
use Rattle.session_area.specs.Sessions.{areas_of, has_empty}
use Rattle.session_area.proofs.sessions.Sessions.has_empty.Goals as goal

pub returns-in-Some : goal.returns-in-Some
returns-in-Some g c = record {
  empty =
      c.has_empty.ensures.empty
      ∙ ap (λ o. has_empty g.K.Ord.cmp c.args.key.now (unwrap_or o [])) c.in-Some.ensures.value
      ∙ ap (λ tabs. has_empty g.K.Ord.cmp c.args.key.now (areas_of c.args.tab tabs)) c.self.view_is;
}

pub returns-in-None : goal.returns-in-None
returns-in-None g c = record {
  empty =
      ap (λ o. has_empty g.K.Ord.cmp c.args.key.now (unwrap_or o [])) c.in-None.ensures.value
      ∙ ap (λ tabs. has_empty g.K.Ord.cmp c.args.key.now (areas_of c.args.tab tabs)) c.self.view_is;
}
