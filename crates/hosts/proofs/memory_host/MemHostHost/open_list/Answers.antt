use Rattle.std.proofs.Common.{rules}
use Rattle.hosts.proofs.EntryLemmas.{bytes_stay}
use Rattle.hosts.proofs.memory_host.MemHostHost.open_list.Goals as goal

pub returns-in-Some-clause-others : goal.returns-in-Some-clause-others
returns-in-Some-clause-others c = bytes_stay c.args.self.now.lists.items _ c.args.path.now (search rules)
