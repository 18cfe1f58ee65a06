-- Both halves are copied.
use Rattle.web_storage.specs.Stored.{held_with}
use Rattle.web_storage.proofs.StorageCopies.{areas_copied, keys_copied, sessions_cloned}
use Rattle.web_storage.proofs.storage.Storage.copy.Goals as goal

pub returns : goal.returns
unfolding held_with
returns c = rw (← c.self.view_is) (record {
  same = λ beside i. record beside {
    areas = areas_copied c.self.inside.local c.in_ok-local.local c.in_ok-local.ensures.copied i;
    persistent = keys_copied c.self.inside.local c.in_ok-local.local c.in_ok-local.ensures.copied i;
    sessions = sessions_cloned c.self.inside.session c.in_ok-session.session c.in_ok-session.ensures.copied i;
  };
})
