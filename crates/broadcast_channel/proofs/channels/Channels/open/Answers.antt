-- An id is used where its owner holds a channel of it.
use Rattle.std.proofs.Common.{sym, ◌∙◌, refl}
use Rattle.broadcast_channel.proofs.MapLemmas.{none_from}
use Rattle.broadcast_channel.proofs.ViewLemmas.{used_found}
use Rattle.broadcast_channel.proofs.channels.Channels.open.Goals as goal

pub returns-then-contains-clause-id_used : goal.returns-then-contains-clause-id_used
returns-then-contains-clause-id_used g c =
    let used =
    used_found _ g.O.Ord.cmp g.met.O.Ord.total g.K.Ord.cmp g.met.K.Ord.total (record { owner = c.args.owner; id = c.args.id }) c.self.inside.own c.self.inside.lines _ _
    c.self.view_is c.if-contains.ensures.contains in
    ((λ said. used), (λ there. refl))

pub returns-in_default-clause-id_used : goal.returns-in_default-clause-id_used
returns-in_default-clause-id_used g c =
    let unused =
    used_found _ g.O.Ord.cmp g.met.O.Ord.total g.K.Ord.cmp g.met.K.Ord.total (record { owner = c.args.owner; id = c.args.id }) c.self.inside.own c.self.inside.lines _ _
    c.self.view_is c.if-contains.ensures.contains in
    ((λ never. absurd (cc never)), (λ there. absurd (cc (sym unused ∙ there))))

pub returns-in-Ok-admit-clause-id_used : goal.returns-in-Ok-admit-clause-id_used
returns-in-Ok-admit-clause-id_used g c =
    let unused =
    used_found _ g.O.Ord.cmp g.met.O.Ord.total g.K.Ord.cmp g.met.K.Ord.total (record { owner = c.args.owner; id = c.args.id }) c.self.inside.own c.self.inside.lines _ _
    c.self.view_is c.if-contains.ensures.contains in
    ((λ never. absurd (cc never)), (λ there. absurd (cc (sym unused ∙ there))))

pub returns-in-Err-clause-id_used : goal.returns-in-Err-clause-id_used
returns-in-Err-clause-id_used g c =
    let unused =
    used_found _ g.O.Ord.cmp g.met.O.Ord.total g.K.Ord.cmp g.met.K.Ord.total (record { owner = c.args.owner; id = c.args.id }) c.self.inside.own c.self.inside.lines _ _
    c.self.view_is c.if-contains.ensures.contains in
    ((λ never. absurd (cc never)), (λ there. absurd (cc (sym unused ∙ there))))

pub admit-requires : goal.admit-requires
admit-requires g c = record {
  unused =
      none_from _ (sym (used_found _ g.O.Ord.cmp g.met.O.Ord.total g.K.Ord.cmp g.met.K.Ord.total (record { owner = c.args.owner; id = c.args.id }) c.self.inside.own c.self.inside.lines _ _
      c.self.view_is c.if-contains.ensures.contains));
}
