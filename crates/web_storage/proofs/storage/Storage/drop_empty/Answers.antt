-- What stands for an empty area holds nothing.
use Rattle.std.proofs.Common.{ap, ◌∙◌}
use Rattle.session_area.specs.Sessions.{areas_of, without_empty}
use Rattle.web_storage.specs.Stored.{areas_in, keys_in}
use Rattle.web_storage.proofs.OrderOfKeys.{order, alike}
use Rattle.web_storage.proofs.WriteLemmas.{dropped_same}
use Rattle.web_storage.proofs.SessionWrites.{sessions_alike, dropped_alike}
use Rattle.web_storage.proofs.HeldLemmas.{local_kept, session_kept}
use Rattle.web_storage.proofs.storage.Storage.drop_empty.Goals as goal

pub returns-in-Local : goal.returns-in-Local
returns-in-Local c = rw (← c.self.view_is) (record {
  same = λ beside. local_kept beside (record { local = c.self.inside.local; session = c.self.inside.session })
      c.drop_fresh.new.self
      (ap areas_in c.drop_fresh.ensures.dropped ∙ (dropped_same order alike c.args.key.now c.self.inside.local).0)
      (ap keys_in c.drop_fresh.ensures.dropped ∙ (dropped_same order alike c.args.key.now c.self.inside.local).1);
})

pub returns-in-Session : goal.returns-in-Session
returns-in-Session c = rw (← c.self.view_is) (record {
  same = λ beside. session_kept beside
      (record { local = c.self.inside.local; session = c.self.inside.session }) c.drop_empty.new.self
      (sessions_alike c.args.tab (without_empty order c.args.key.now
      (areas_of c.args.tab c.self.inside.session)) c.self.inside.session c.drop_empty.new.self
      c.drop_empty.ensures.dropped (dropped_alike order alike c.args.key.now (areas_of c.args.tab c.self.inside.session)));
})
