-- One channel of the owner goes after another. What is left of the others is what was.
use Rattle.std.proofs.Common.{◌≡◌, length}
use Rattle.broadcast_channel.specs.Channel.{without_owner}
use Rattle.broadcast_channel.proofs.channels.Channels.drop_owner.Given as goal

abbrev pub invariant-loop-id : goal.invariant-loop-id
invariant-loop-id g l = without_owner g.O.Ord.cmp l.owner l.self ≡ without_owner g.O.Ord.cmp l.owner l.initial.self

abbrev pub decreases-loop-id : goal.decreases-loop-id
decreases-loop-id g l = length l.self
