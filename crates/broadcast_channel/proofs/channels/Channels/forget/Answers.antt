-- A channel goes from its owner, and from its line where it is open.
use Rattle.std.proofs.Common.{ap, sym, ◌∙◌, subst, filter, not, refl, None}
use Rattle.key_map.proofs.EntriesLemmas.{map_remove-apart}
use Rattle.broadcast_channel.proofs.MapLemmas.{apart-missing}
use Rattle.broadcast_channel.specs.Channel.{is_channel_of}
use Rattle.broadcast_channel.specs.Hearers.{by_id, by_line, channels_of, AreOwned}
use Rattle.broadcast_channel.proofs.OwnedLemmas.{owned-dropped}
use Rattle.broadcast_channel.proofs.ViewLemmas.{by_id_total, by_line_total, view-dropped, others-same}
use Rattle.broadcast_channel.proofs.channels.Channels.forget.Goals as goal

pub invariant_of-self : goal.invariant_of-self
invariant_of-self g c =
    let rows = by_line g.K.Ord.cmp in
    let ids = by_id g.O.Ord.cmp in
    subst (λ own. AreOwned rows ids own c.leave.new.lines) (sym c.in-Some.ensures.removed)
    (owned-dropped rows (by_line_total _ g.K.Ord.cmp g.met.K.Ord.total) ids (by_id_total g.O.Ord.cmp g.met.O.Ord.total) c.in-Some.line c.args.channel c.self.inside.own
    c.self.inside.lines c.leave.new.lines (sym c.in-Some.ensures.value) c.leave.ensures.left c.self.invariant)

pub returns-in-Some : goal.returns-in-Some
returns-in-Some g c = record {
  forgotten =
      ap (λ own. channels_of g.O.Ord.cmp g.K.Ord.cmp own c.leave.new.lines) c.in-Some.ensures.removed
      ∙ view-dropped _ g.O.Ord.cmp g.met.O.Ord.total g.K.Ord.cmp g.met.K.Ord.total c.args.channel c.self.inside.own c.self.inside.lines c.leave.new.lines
      (others-same _ g.O.Ord.cmp g.met.O.Ord.total g.K.Ord.cmp g.met.K.Ord.total c.in-Some.line c.args.channel None c.self.inside.lines c.leave.new.lines c.leave.ensures.left)
      ∙ ap (filter (λ d. not (is_channel_of g.O.Ord.cmp c.args.channel.owner c.args.channel.id d))) c.self.view_is;
}

pub invariant_of-self-in_default : goal.invariant_of-self-in_default
invariant_of-self-in_default g c =
    let rows = by_line g.K.Ord.cmp in
    let ids = by_id g.O.Ord.cmp in
    let ids_total = by_id_total g.O.Ord.cmp g.met.O.Ord.total in
    subst (λ own. AreOwned rows ids own c.self.inside.lines)
    (sym (c.remove.ensures.removed
    ∙ map_remove-apart ids ids_total c.args.channel c.self.inside.own (apart-missing ids ids_total c.args.channel c.self.inside.own (sym c.remove.ensures.value ∙ c.in_default.is))))
    c.self.invariant

pub returns-in_default : goal.returns-in_default
returns-in_default g c = record {
  forgotten =
      ap (λ own. channels_of g.O.Ord.cmp g.K.Ord.cmp own c.self.inside.lines) c.remove.ensures.removed
      ∙ view-dropped _ g.O.Ord.cmp g.met.O.Ord.total g.K.Ord.cmp g.met.K.Ord.total c.args.channel c.self.inside.own c.self.inside.lines c.self.inside.lines (λ l i apart. refl)
      ∙ ap (filter (λ d. not (is_channel_of g.O.Ord.cmp c.args.channel.owner c.args.channel.id d))) c.self.view_is;
}
