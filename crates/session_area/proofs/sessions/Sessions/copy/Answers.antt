-- Each tab's map is cloned.
use Rattle.std.proofs.Common.{◌≡◌}
use Rattle.key_map.proofs.EntriesLemmas.{map_get-copy}
use Rattle.session_area.proofs.SessionsLemmas.{areas_of-clone}
use Rattle.session_area.proofs.sessions.Sessions.copy.Goals as goal

pub returns-in-Ok-clause-copied : goal.returns-in-Ok-clause-copied
returns-in-Ok-clause-copied g c =
    rw (← c.self.view_is) (areas_of-clone g.K.Clone.is_clone c.self.inside.tabs.entries c.in-Ok.tabs.entries c.in-Ok.ensures.cases)

pub returns-in-Ok-clause-same : goal.returns-in-Ok-clause-same
returns-in-Ok-clause-same g c = λ ties tab.
    rw (← c.self.view_is)
    (map_get-copy g.K.Ord.cmp g.met.K.Ord.total g.K.Clone.is_clone ties (λ area clone. clone ≡ area) (λ value clone is. is) _ _
    (areas_of-clone g.K.Clone.is_clone c.self.inside.tabs.entries c.in-Ok.tabs.entries c.in-Ok.ensures.cases tab))
