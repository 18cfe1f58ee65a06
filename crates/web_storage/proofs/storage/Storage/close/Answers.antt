use Rattle.web_storage.specs.Stored.{held_with, areas_in, keys_in}
use Rattle.web_storage.proofs.SessionWrites.{sessions_closed}
use Rattle.web_storage.proofs.storage.Storage.close.Goals as goal

pub returns : goal.returns
unfolding held_with
returns c = rw (← c.self.view_is) (record {
  closed = λ beside i. record beside {
    areas = areas_in c.self.inside.local;
    persistent = keys_in c.self.inside.local;
    sessions = sessions_closed c.args.tab c.self.inside.session c.close.new.self c.close.ensures.closed i;
  };
})
