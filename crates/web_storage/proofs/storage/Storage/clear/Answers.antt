-- A local area is emptied, and a session area is taken out.
use Rattle.storage_key.specs.Plain.{plain_key}
use Rattle.std.specs.Prelude.{[]}
use Rattle.web_storage.proofs.OrderOfKeys.{order, alike}
use Rattle.web_storage.proofs.HeldLemmas.{local_held, session_held_with}
use Rattle.web_storage.proofs.SessionWrites.{sessions_removed}
use Rattle.web_storage.proofs.storage.Storage.clear.Goals as goal

pub returns-in-Local : goal.returns-in-Local
returns-in-Local c = rw (← c.self.view_is) (record {
  cleared = λ beside. local_held beside c.args.kind c.args.tab (plain_key c.args.key.now) c.in-Local.is []
      (record { local = c.self.inside.local; session = c.self.inside.session }) c.clear_local.new.shed
      c.clear_local.ensures.areas c.clear_local.ensures.modes;
})

pub returns-in-Session : goal.returns-in-Session
returns-in-Session c = rw (← c.self.view_is) (record {
  cleared = λ beside. session_held_with beside c.args.kind c.args.tab (plain_key c.args.key.now) c.in-Session.is []
      (record { local = c.self.inside.local; session = c.self.inside.session }) c.remove.new.self
      (sessions_removed order alike c.args.tab c.args.key.now c.self.inside.session c.remove.new.self
      c.remove.ensures.removed);
})
