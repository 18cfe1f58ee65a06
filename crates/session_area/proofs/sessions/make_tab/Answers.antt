-- A tab that is made has no areas.
use Rattle.std.proofs.Common.{ap, ◌∙◌, Some, cond}
use Rattle.std.specs.Ordering.{nat_cmp, is_eq}
use Rattle.key_map.specs.Entries.{map_get}
use Rattle.session_area.proofs.SessionsLemmas.{SameAreas-made, none_from}
use Rattle.session_area.proofs.sessions.make_tab.Goals as goal

pub returns-in-Ok : goal.returns-in-Ok
returns-in-Ok g c = record {
  same = SameAreas-made c.args.tab c.args.tabs.now.entries c.insert.new.self.entries
      (λ q. c.in-Ok.ensures.updates.0 q
      ∙ ap (λ areas. cond (is_eq (nat_cmp c.args.tab q)) (Some areas) (map_get nat_cmp q c.args.tabs.now.entries)) c.new.ensures.empty)
      (none_from _ c.if-contains_key.ensures);
  memory = tt;
}
