-- What waits in a channel that is there is given.
use Rattle.std.proofs.Common.{ap, sym, ◌∙◌, ◌≡◌, subst, refl, Some}
use Rattle.broadcast_channel.specs.Channel.{channel_at, received, changed_at, emptied, waits_at}
use Rattle.broadcast_channel.specs.Hearers.{by_id, by_line}
use Rattle.broadcast_channel.proofs.LineLemmas.{owned-fewer}
use Rattle.broadcast_channel.proofs.OwnedLemmas.{fewer-received}
use Rattle.broadcast_channel.proofs.ViewLemmas.{by_id_total, by_line_total, view-received, view-unchanged, is_found, is_missing, waits_found}
use Rattle.broadcast_channel.proofs.channels.Channels.receive.Goals as goal

pub returns-in-Some-clause-given : goal.returns-in-Some-clause-given
returns-in-Some-clause-given g c =
    ap Some c.take.ensures.given
    ∙ sym (waits_found _ g.O.Ord.cmp g.met.O.Ord.total g.K.Ord.cmp g.met.K.Ord.total (record { owner = c.args.owner; id = c.args.id }) c.self.inside.own c.self.inside.lines c.in-Some.line.now
    (sym c.in-Some.ensures.value))
    ∙ ap (waits_at g.O.Ord.cmp c.args.owner c.args.id) c.self.view_is

pub returns-in-Some-clause-received : goal.returns-in-Some-clause-received
returns-in-Some-clause-received g c =
    view-received _ g.O.Ord.cmp g.met.O.Ord.total g.K.Ord.cmp g.met.K.Ord.total c.in-Some.line.now _ c.self.inside.own c.self.inside.lines c.take.new.lines c.get.ensures.ordered
    (sym c.in-Some.ensures.value) c.take.ensures.emptied
    ∙ ap (received g.O.Ord.cmp c.args.owner c.args.id) c.self.view_is

pub returns-in-Some-clause-no_channel : goal.returns-in-Some-clause-no_channel
returns-in-Some-clause-no_channel g c = (
  (λ never. absurd (cc never)),
  (λ none. absurd (cc (sym none ∙ ap (channel_at g.O.Ord.cmp c.args.owner c.args.id) (sym c.self.view_is)
      ∙ (is_found _ g.O.Ord.cmp g.met.O.Ord.total g.K.Ord.cmp g.met.K.Ord.total (record { owner = c.args.owner; id = c.args.id }) c.self.inside.own c.self.inside.lines c.in-Some.line.now (sym c.in-Some.ensures.value)).found))),
)

pub returns-in-None-clause-received : goal.returns-in-None-clause-received
returns-in-None-clause-received g c =
    subst (λ v. v ≡ changed_at g.O.Ord.cmp emptied c.args.owner c.args.id v) c.self.view_is
    (view-unchanged _ g.O.Ord.cmp g.met.O.Ord.total g.K.Ord.cmp g.met.K.Ord.total emptied (record { owner = c.args.owner; id = c.args.id }) c.self.inside.own c.self.inside.lines
    (sym c.in-None.ensures.value))

pub returns-in-None-clause-no_channel : goal.returns-in-None-clause-no_channel
returns-in-None-clause-no_channel g c = (
  (λ said. ap (channel_at g.O.Ord.cmp c.args.owner c.args.id) (sym c.self.view_is)
      ∙ is_missing _ g.O.Ord.cmp g.met.O.Ord.total g.K.Ord.cmp g.met.K.Ord.total (record { owner = c.args.owner; id = c.args.id }) c.self.inside.own c.self.inside.lines (sym c.in-None.ensures.value)),
  (λ none. refl),
)

pub invariant_of-self : goal.invariant_of-self
invariant_of-self g c =
    let rows = by_line g.K.Ord.cmp in
    let ids = by_id g.O.Ord.cmp in
    let rows_total = by_line_total _ g.K.Ord.cmp g.met.K.Ord.total in
    let ids_total = by_id_total g.O.Ord.cmp g.met.O.Ord.total in
    owned-fewer rows rows_total ids ids_total c.self.inside.own c.self.inside.lines c.take.new.lines
    (fewer-received rows rows_total ids ids_total c.in-Some.line.now _ c.self.inside.lines c.take.new.lines c.take.ensures.emptied) c.self.invariant
