use Rattle.web_storage.specs.Stored.{held_with}
use Rattle.web_storage.proofs.storage.Storage.stored_keys.Goals as goal

pub returns : goal.returns
unfolding held_with
returns c = rw (← c.self.view_is) (record { keys = λ beside. c.keys_stored.ensures.keys })
