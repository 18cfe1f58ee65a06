-- The numbers of the group are written in their place.
use Rattle.std.proofs.Common.{◌∙◌, ap, sym}
use Rattle.std.specs.Prelude.{unwrap_or, []}
use Rattle.key_map.specs.Entries.{map_set}
use Rattle.web_locks.specs.Groups.{group_of}
use Rattle.web_locks.specs.Numbers.{without_number}
use Rattle.web_locks.proofs.GroupLemmas.{empty_numbers, removes_none, written, written_here}
use Rattle.web_locks.proofs.groups.Groups.remove_within.Goals as goal
use Rattle.web_locks.proofs.groups.Groups.remove_within.Goals.{in-Some, in-None}

pub returns-clause-removed : goal.returns-clause-removed
returns-clause-removed g c = elim c.match-get_mut.branch [
  | in-Some w ↦
      rw (w.self-inside-is, ← c.self.view_is)
      (λ q.
      written g.G.Ord.cmp g.met.G.Ord.total c.args.group.now q (without_number c.args.number) w.in-Some.numbers.now c.self.inside.by_group _
      w.in-Some.ensures.value
      ((rw w.in-Some.is at (c.get_mut.follows.holds w.remove.new.self))
      ∙ ap (λ ns. map_set g.G.Ord.cmp c.args.group.now ns c.self.inside.by_group) w.remove.ensures.removed))
  | in-None w ↦
      rw (w.self-inside-is, ← c.self.view_is)
      (λ q.
      ap (group_of g.G.Ord.cmp q) c.get_mut.follows.holds-at-none
      ∙ removes_none g.G.Ord.cmp g.met.G.Ord.total c.args.group.now c.args.number c.self.inside.by_group (sym w.in-None.ensures.value) q)
]

pub returns-clause-none : goal.returns-clause-none
returns-clause-none g c = elim c.match-get_mut.branch [
  | in-Some w ↦ λ is.
      rw w.self-inside-is
      (written_here g.G.Ord.cmp g.met.G.Ord.total c.args.group.now w.in-Some.numbers.now w.remove.new.self c.self.inside.by_group _
      w.in-Some.ensures.value (rw w.in-Some.is at (c.get_mut.follows.holds w.remove.new.self))
      ∙ empty_numbers w.remove.new.self (sym w.remove.ensures.left ∙ sym w.result-is ∙ is))
  | in-None w ↦ λ is.
      rw w.self-inside-is
      (ap (group_of g.G.Ord.cmp c.args.group.now) c.get_mut.follows.holds-at-none ∙ ap (λ o. unwrap_or o []) (sym w.in-None.ensures.value))
]
