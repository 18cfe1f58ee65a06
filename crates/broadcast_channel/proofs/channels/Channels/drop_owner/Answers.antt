-- Each turn drops one channel of the owner, and none of another.
use Rattle.std.proofs.Common.{ap, ◌∙◌, subst, sym, length, ◌<◌}
use Rattle.broadcast_channel.specs.Channel.{without_owner, is_channel_of}
use Rattle.broadcast_channel.proofs.OwnerLemmas.{others-left, fewer_left}
use Rattle.broadcast_channel.proofs.channels.Channels.drop_owner.Goals as goal

pub loop-id-preserved : goal.loop-id-preserved
loop-id-preserved g c =
    ap (without_owner g.O.Ord.cmp c.args.owner) c.forget.ensures.forgotten
    ∙ others-left g.O.Ord.cmp c.args.owner c.in-Some.id c.loop-id.self
    ∙ c.loop-id.invariant

pub loop-id-smaller : goal.loop-id-smaller
loop-id-smaller g c =
    subst (λ channels. length channels < length c.loop-id.self) (sym c.forget.ensures.forgotten)
    (fewer_left (is_channel_of g.O.Ord.cmp c.args.owner c.in-Some.id) c.loop-id.self c.in-Some.ensures.first)
