use Rattle.hosts.proofs.StoreLemmas.{others_left}
use Rattle.hosts.proofs.memory_host.MemHostHost.open_store.Goals as goal

pub returns-clause-others : goal.returns-clause-others
returns-clause-others c = others_left c.args.self.now.stores.items c.take_store.new.stores.items c.args.path.now c.in_ok-name.ensures.rest
