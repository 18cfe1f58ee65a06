-- A group that is made has one number.
use Rattle.std.proofs.lemmas.Result.{on_ok_weaker}
use Rattle.web_locks.proofs.GroupLemmas.{made_first, none_from}
use Rattle.web_locks.proofs.groups.Groups.add.Goals as goal

pub returns-clause-added : goal.returns-clause-added
returns-clause-added g c =
    rw (← c.self.view_is)
    (on_ok_weaker c.insert.result (λ is.
    made_first g.G.Ord.cmp g.met.G.Ord.total c.args.group c.args.number c.in_ok-numbers.numbers c.self.inside.by_group c.insert.new.self
    (none_from _ c.if-contains.ensures.contains) c.in_ok-numbers.ensures.one is)
    c.insert.ensures.inserted)
