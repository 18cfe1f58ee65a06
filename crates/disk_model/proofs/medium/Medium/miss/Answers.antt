use Rattle.std.proofs.Common.{subst}
use Rattle.disk_model.specs.History.{Past, held, Grows, missed}
use Rattle.disk_model.proofs.Records.{kept_miss, grown}
use Rattle.disk_model.proofs.medium.Medium.miss.Goals as goal

pub invariant_of-self : goal.invariant_of-self
invariant_of-self c =
    let i = c.self.inside in (
      rw c.then-self-inside.ensures (kept_miss i.contents.items i.synced.items i.fresh i.ranges.items i.history.first i.history.events c.self.invariant.0),
      c.self.invariant.1,
    )

pub returns-clause-grows : goal.returns-clause-grows
returns-clause-grows c =
    let i = c.self.inside in
    let new : Past = record { first = c.then-self-inside.result.first; events = c.then-self-inside.result.events; room_end = i.room_end; room_writes = i.room_writes } in
    let P : Past → Type 0 = λ p. Grows p new (held p) in
    subst P c.self.view_is (rw c.then-self-inside.ensures (grown i.history.first i.history.events i.room_end i.room_writes i.room_end i.room_writes missed))
