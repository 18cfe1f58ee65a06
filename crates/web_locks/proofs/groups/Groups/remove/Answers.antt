-- A group without numbers goes.
use Rattle.std.proofs.Common.{refl}
use Rattle.std.specs.Ordering.{is_eq}
use Rattle.web_locks.specs.Groups.{Removes}
use Rattle.web_locks.proofs.GroupLemmas.{emptied}
use Rattle.web_locks.proofs.groups.Groups.remove.Goals as goal
use Rattle.web_locks.proofs.groups.Groups.remove.Goals.{in-Some-1, in-None-1}

pub returns-then-not-remove_within : goal.returns-then-not-remove_within
returns-then-not-remove_within g c =
    let removes : Removes g.G.Ord.cmp (λ q. is_eq (g.G.Ord.cmp c.args.group.now q)) c.args.number c.args.self.now c.remove.new.self =
    emptied g.G.Ord.cmp g.met.G.Ord.total c.args.group.now c.args.number c.args.self.now c.self.inside.by_group c.remove.new.self
    (rw c.self.view_is c.remove_within.ensures.removed) (rw c.self.view_is (c.if-not-remove_within.ensures.none refl)) c.remove.ensures.removed in
    elim c.match-remove.branch [
      | in-Some-1 w ↦ rw w.self-is (record { removed = removes })
      | in-None-1 w ↦ rw w.self-is (record { removed = removes })
    ]
