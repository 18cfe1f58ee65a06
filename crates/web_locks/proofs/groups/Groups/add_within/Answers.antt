-- The numbers of the group are written in their place.
use Rattle.std.proofs.Common.{◌∙◌, ap}
use Rattle.std.proofs.lemmas.Result.{on_ok_weaker, on_err_weaker}
use Rattle.key_map.specs.Entries.{map_set}
use Rattle.web_locks.specs.Groups.{group_of}
use Rattle.web_locks.specs.Numbers.{with_number}
use Rattle.web_locks.proofs.GroupLemmas.{written, written_same}
use Rattle.web_locks.proofs.groups.Groups.add_within.Goals as goal
use Rattle.web_locks.proofs.groups.Groups.add_within.Goals.{in-Some, in-None}

pub returns-clause-added : goal.returns-clause-added
returns-clause-added g c = elim c.match-get_mut.branch [
  | in-Some w ↦
      rw (w.result-is, w.self-inside-is, ← c.self.view_is)
      (on_ok_weaker w.add.result (λ is q.
      written g.G.Ord.cmp g.met.G.Ord.total c.args.group.now q (with_number c.args.number) w.in-Some.numbers.now c.self.inside.by_group _
      w.in-Some.ensures.value
      ((rw w.in-Some.is at (c.get_mut.follows.holds w.add.new.self)) ∙ ap (λ ns. map_set g.G.Ord.cmp c.args.group.now ns c.self.inside.by_group) is))
      w.add.ensures.added)
  | in-None w ↦ rw w.result-is tt
]

pub returns-clause-unchanged : goal.returns-clause-unchanged
returns-clause-unchanged g c = elim c.match-get_mut.branch [
  | in-Some w ↦
      rw (w.result-is, w.self-inside-is, ← c.self.view_is)
      (on_err_weaker w.add.result (λ is q.
      written_same g.G.Ord.cmp g.met.G.Ord.total c.args.group.now q w.in-Some.numbers.now c.self.inside.by_group _
      w.in-Some.ensures.value
      ((rw w.in-Some.is at (c.get_mut.follows.holds w.add.new.self)) ∙ ap (λ ns. map_set g.G.Ord.cmp c.args.group.now ns c.self.inside.by_group) is))
      w.add.ensures.unchanged)
  | in-None w ↦
      rw (w.result-is, w.self-inside-is, ← c.self.view_is)
      (λ q. ap (group_of g.G.Ord.cmp q) c.get_mut.follows.holds-at-none)
]
