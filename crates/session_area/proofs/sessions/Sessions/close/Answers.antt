-- The tab has no areas, and other tabs keep theirs.
use Rattle.std.proofs.Common.{None}
use Rattle.session_area.proofs.SessionsLemmas.{ChangesTab-found}
use Rattle.session_area.proofs.sessions.Sessions.close.Goals as goal

pub returns : goal.returns
returns g c = record {
  closed = rw (← c.self.view_is) (ChangesTab-found c.args.tab None c.self.inside.tabs.entries c.remove.new.self.entries c.remove.ensures.updates.0);
}
