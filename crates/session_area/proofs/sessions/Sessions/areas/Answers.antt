-- The areas of a tab that has a map, and none where there is no map.
use Rattle.std.specs.Ordering.{nat_cmp}
use Rattle.key_map.specs.Entries.{map_get}
use Rattle.session_area.proofs.SessionsLemmas.{areas_lent}
use Rattle.session_area.proofs.sessions.Sessions.areas.Goals as goal

pub returns : goal.returns
returns g c = rw (← c.self.view_is) (record {
  areas = areas_lent c.get.result (map_get nat_cmp c.args.tab c.self.inside.tabs.entries) c.get.ensures.value;
})
