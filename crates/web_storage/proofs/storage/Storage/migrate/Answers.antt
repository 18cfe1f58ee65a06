-- The local buckets change, and session areas stay.
use Rattle.web_storage.specs.Stored.{held_with, sessions_in}
use Rattle.web_storage.proofs.storage.Storage.migrate.Goals as goal

pub returns-clause-state : goal.returns-clause-state
unfolding held_with
returns-clause-state c = rw (← c.self.view_is) (λ beside i. record beside {
  areas = c.migrate_local.ensures.areas i;
  persistent = c.migrate_local.ensures.modes i;
  sessions =
      sessions_in c.self.inside.session;
})

pub returns-clause-went : goal.returns-clause-went
unfolding held_with
returns-clause-went c = rw (← c.self.view_is) (λ beside. c.migrate_local.ensures.went)
