use Rattle.web_storage.specs.Stored.{held_with}
use Rattle.web_storage.proofs.storage.Storage.has_session.Goals as goal

pub returns : goal.returns
unfolding held_with
returns c = rw (← c.self.view_is) (record { session = λ beside. c.has_session_under.ensures })
