-- A channel that is there leaves its line.
use Rattle.std.proofs.Common.{ap, sym, ◌∙◌, ◌≡◌, subst, refl}
use Rattle.broadcast_channel.specs.Channel.{channel_at, closed, changed_at, shut}
use Rattle.broadcast_channel.proofs.ViewLemmas.{view-closed, view-unchanged, is_found, is_missing}
use Rattle.broadcast_channel.proofs.channels.Channels.close.Goals as goal

pub returns-in-Some-clause-closed : goal.returns-in-Some-clause-closed
returns-in-Some-clause-closed g c =
    view-closed _ g.O.Ord.cmp g.met.O.Ord.total g.K.Ord.cmp g.met.K.Ord.total c.in-Some.line.now _ c.self.inside.own c.self.inside.lines c.leave.new.lines c.get.ensures.ordered
    (sym c.in-Some.ensures.value) c.leave.ensures.left
    ∙ ap (closed g.O.Ord.cmp c.args.owner c.args.id) c.self.view_is

pub returns-in-Some-clause-no_channel : goal.returns-in-Some-clause-no_channel
returns-in-Some-clause-no_channel g c = (
  (λ never. absurd (cc never)),
  (λ none. absurd (cc (sym none ∙ ap (channel_at g.O.Ord.cmp c.args.owner c.args.id) (sym c.self.view_is)
      ∙ (is_found _ g.O.Ord.cmp g.met.O.Ord.total g.K.Ord.cmp g.met.K.Ord.total (record { owner = c.args.owner; id = c.args.id }) c.self.inside.own c.self.inside.lines c.in-Some.line.now (sym c.in-Some.ensures.value)).found))),
)

pub returns-in-None-clause-closed : goal.returns-in-None-clause-closed
returns-in-None-clause-closed g c =
    subst (λ v. v ≡ changed_at g.O.Ord.cmp shut c.args.owner c.args.id v) c.self.view_is
    (view-unchanged _ g.O.Ord.cmp g.met.O.Ord.total g.K.Ord.cmp g.met.K.Ord.total shut (record { owner = c.args.owner; id = c.args.id }) c.self.inside.own c.self.inside.lines
    (sym c.in-None.ensures.value))

pub returns-in-None-clause-no_channel : goal.returns-in-None-clause-no_channel
returns-in-None-clause-no_channel g c = (
  (λ said. ap (channel_at g.O.Ord.cmp c.args.owner c.args.id) (sym c.self.view_is)
      ∙ is_missing _ g.O.Ord.cmp g.met.O.Ord.total g.K.Ord.cmp g.met.K.Ord.total (record { owner = c.args.owner; id = c.args.id }) c.self.inside.own c.self.inside.lines (sym c.in-None.ensures.value)),
  (λ none. refl),
)
