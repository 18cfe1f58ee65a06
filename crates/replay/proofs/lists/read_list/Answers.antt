use Rattle.replay.proofs.ScriptLemmas.{list_is}
use Rattle.replay.proofs.lists.read_list.Goals as goal

pub returns-in-Ok-read-clause-list : goal.returns-in-Ok-read-clause-list
returns-in-Ok-read-clause-list g c =
    let given = c.in-Ok-read.ensures.given in
    (given.0, (list_is (g.H.Host.lists c.args.host.now c.args.path.now) _ _ given.0 c.in-Ok.ensures.told given.1 c.in-Ok-read.ensures.end, given.2))
