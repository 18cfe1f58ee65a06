-- The first entry from the owner's least id on is the owner's, or no entry is.
use Rattle.std.proofs.Common.{ap, sym, ◌∙◌, subst, ◌≡◌}
use Rattle.std.specs.Prelude.{is_some}
use Rattle.std.specs.Ordering.{is_eq, is_le}
use Rattle.key_map.proofs.EntriesLemmas.{eq-flip}
use Rattle.broadcast_channel.specs.Channel.{channel_at, without_owner}
use Rattle.broadcast_channel.specs.Hearers.{by_id}
use Rattle.broadcast_channel.specs.declared.hearers.ChannelId.{ChannelId}
use Rattle.broadcast_channel.proofs.MapLemmas.{of_none}
use Rattle.broadcast_channel.proofs.ViewLemmas.{is_there, view-kept}
use Rattle.broadcast_channel.proofs.OwnerLemmas.{tied, first-there, others-first, others-none}
use Rattle.broadcast_channel.proofs.channels.Channels.first_of.Goals as goal

pub returns-in-Some : goal.returns-in-Some
returns-in-Some g c =
    let q : ChannelId g.row.O.Denot = record { owner = c.args.owner; id = c.in-Some.channel.now.id } in
    record {
      first =
          ap (λ v. is_some (channel_at g.O.Ord.cmp c.args.owner c.in-Some.channel.now.id v)) (sym c.self.view_is)
          ∙ is_there _ g.O.Ord.cmp g.met.O.Ord.total g.K.Ord.cmp g.met.K.Ord.total q c.self.inside.own c.self.inside.lines
          ∙ first-there g.O.Ord.cmp g.met.O.Ord.total c.args.owner q (λ e. is_le (by_id g.O.Ord.cmp (record { owner = c.args.owner; id = 0 }) e.0)) c.self.inside.own _ _
          (sym c.range_from.ensures.entries ∙ c.in-Some.ensures.steps)
          (tied g.O.Ord.cmp g.met.O.Ord.total c.args.owner c.in-Some.channel.now
          (eq-flip g.O.Ord.cmp g.met.O.Ord.total c.args.owner c.in-Some.channel.now.owner ∙ ap is_eq (sym c.cmp.ensures) ∙ sym c.is_eq.ensures ∙ c.if-is_eq.true));
    }

pub returns-in_default : goal.returns-in_default
returns-in_default g c = record {
  first =
      subst (λ v. without_owner g.O.Ord.cmp c.args.owner v ≡ v) c.self.view_is
      (view-kept _ g.O.Ord.cmp g.met.O.Ord.total g.K.Ord.cmp g.met.K.Ord.total c.args.owner c.self.inside.own c.self.inside.lines
      (others-first g.O.Ord.cmp g.met.O.Ord.total c.args.owner c.self.inside.own _ _ c.range_from.ensures.ordered
      (sym c.range_from.ensures.entries ∙ c.in-Some.ensures.steps)
      (eq-flip g.O.Ord.cmp g.met.O.Ord.total c.args.owner c.in-Some.channel.now.owner ∙ ap is_eq (sym c.cmp.ensures) ∙ sym c.is_eq.ensures ∙ c.if-is_eq.false)));
}

pub returns-in_default-2 : goal.returns-in_default-2
returns-in_default-2 g c = record {
  first =
      subst (λ v. without_owner g.O.Ord.cmp c.args.owner v ≡ v) c.self.view_is
      (view-kept _ g.O.Ord.cmp g.met.O.Ord.total g.K.Ord.cmp g.met.K.Ord.total c.args.owner c.self.inside.own c.self.inside.lines
      (others-none g.O.Ord.cmp g.met.O.Ord.total c.args.owner c.self.inside.own (sym c.range_from.ensures.entries ∙ (of_none _ c.next.result c.in_default.is c.next.ensures.steps).0)));
}
