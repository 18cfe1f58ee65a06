use Rattle.web_storage.specs.Stored.{held_with}
use Rattle.web_storage.proofs.storage.Storage.is_persistent.Goals as goal

pub returns : goal.returns
unfolding held_with
returns c = rw (← c.self.view_is) (record { mode = λ beside. c.is_persistent.ensures })
