-- A text comes to those that hear it, where the channel is held and open.
use Rattle.std.proofs.Common.{ap, sym, ◌∙◌, refl}
use Rattle.std.specs.Prelude.{option_copied}
use Rattle.broadcast_channel.specs.Channel.{posted, reached, reached_by}
use Rattle.broadcast_channel.specs.Hearers.{by_id, by_line, channels_of, waiting_at}
use Rattle.broadcast_channel.proofs.OwnedLemmas.{count-told}
use Rattle.broadcast_channel.proofs.ViewLemmas.{is_found, open_found, open_missing, view-posted}
use Rattle.broadcast_channel.proofs.channels.Channels.post.Goals as goal
use Rattle.broadcast_channel.proofs.channels.Channels.post.Goals.{in-Ok, in-Err}

pub returns-in_default-clause-no_channel : goal.returns-in_default-clause-no_channel
returns-in_default-clause-no_channel g c =
    let none =
    open_missing _ g.O.Ord.cmp g.met.O.Ord.total g.K.Ord.cmp g.met.K.Ord.total (record { owner = c.args.owner; id = c.args.id }) c.self.inside.own c.self.inside.lines _
    c.self.view_is (sym c.get.ensures.value ∙ ap option_copied c.in_default.is) in
    ((λ said. none), (λ is. refl))

pub returns-in_default-clause-closed : goal.returns-in_default-clause-closed
returns-in_default-clause-closed g c =
    let none =
    open_missing _ g.O.Ord.cmp g.met.O.Ord.total g.K.Ord.cmp g.met.K.Ord.total (record { owner = c.args.owner; id = c.args.id }) c.self.inside.own c.self.inside.lines _
    c.self.view_is (sym c.get.ensures.value ∙ ap option_copied c.in_default.is) in
    ((λ never. absurd (cc never)), (λ is. absurd (cc (sym none ∙ is))))

pub returns-then-not-is_open-clause-no_channel : goal.returns-then-not-is_open-clause-no_channel
returns-then-not-is_open-clause-no_channel g c =
    let shut =
    open_found _ g.O.Ord.cmp g.met.O.Ord.total g.K.Ord.cmp g.met.K.Ord.total (record { owner = c.args.owner; id = c.args.id }) c.self.inside.own c.self.inside.lines c.in-Some.line.now _ _
    c.self.view_is (sym c.in-Some.ensures.value) c.if-not-is_open.ensures.there in
    ((λ never. absurd (cc never)), (λ none. absurd (cc (sym shut ∙ none))))

pub returns-then-not-is_open-clause-closed : goal.returns-then-not-is_open-clause-closed
returns-then-not-is_open-clause-closed g c =
    let shut =
    open_found _ g.O.Ord.cmp g.met.O.Ord.total g.K.Ord.cmp g.met.K.Ord.total (record { owner = c.args.owner; id = c.args.id }) c.self.inside.own c.self.inside.lines c.in-Some.line.now _ _
    c.self.view_is (sym c.in-Some.ensures.value) c.if-not-is_open.ensures.there in
    ((λ said. shut), (λ is. refl))

pub returns-clause-posted : goal.returns-clause-posted
returns-clause-posted g c =
    elim c.match-post.branch [
      | in-Ok w ↦
          rw w.result-is
          (view-posted _ g.O.Ord.cmp g.met.O.Ord.total g.K.Ord.cmp g.met.K.Ord.total c.args.message.now c.in-Some.line.now (record { owner = c.args.owner; id = c.args.id })
          c.self.inside.own c.self.inside.lines c.post.new.lines (sym c.in-Some.ensures.value) c.if-not-is_open.ensures.there w.in-Ok.ensures.told
          ∙ ap (posted g.O.Ord.cmp g.K.Ord.cmp c.args.owner c.args.id c.args.message.now) c.self.view_is)
      | in-Err w ↦ rw w.result-is tt
    ]

pub returns-clause-reached : goal.returns-clause-reached
returns-clause-reached g c =
    let here =
    is_found _ g.O.Ord.cmp g.met.O.Ord.total g.K.Ord.cmp g.met.K.Ord.total (record { owner = c.args.owner; id = c.args.id }) c.self.inside.own c.self.inside.lines c.in-Some.line.now
    (sym c.in-Some.ensures.value) in
    elim c.match-post.branch [
      | in-Ok w ↦
          rw w.result-is
          (w.in-Ok.ensures.reached
          ∙ count-told _ g.O.Ord.cmp g.met.O.Ord.total g.K.Ord.cmp g.met.K.Ord.total c.in-Some.line.now (record { owner = c.args.owner; id = c.args.id }) here.stored
          (waiting_at (by_line g.K.Ord.cmp) (by_id g.O.Ord.cmp) c.in-Some.line.now here.stored c.self.inside.lines)
          c.self.inside.own c.self.inside.lines here.same c.get.ensures.ordered c.self.invariant w.in-Ok.ensures.ordered
          ∙ sym (ap (λ found. reached_by g.O.Ord.cmp g.K.Ord.cmp found (channels_of g.O.Ord.cmp g.K.Ord.cmp c.self.inside.own c.self.inside.lines)) here.found)
          ∙ ap (reached g.O.Ord.cmp g.K.Ord.cmp c.args.owner c.args.id) c.self.view_is)
      | in-Err w ↦ rw w.result-is tt
    ]

pub returns-clause-no_channel : goal.returns-clause-no_channel
returns-clause-no_channel g c =
    let opens =
    open_found _ g.O.Ord.cmp g.met.O.Ord.total g.K.Ord.cmp g.met.K.Ord.total (record { owner = c.args.owner; id = c.args.id }) c.self.inside.own c.self.inside.lines c.in-Some.line.now _ _
    c.self.view_is (sym c.in-Some.ensures.value) c.if-not-is_open.ensures.there in
    elim c.match-post.branch [
      | in-Ok w ↦ ((λ said. absurd (cc (sym w.result-is ∙ said))), (λ none. absurd (cc (sym opens ∙ none))))
      | in-Err w ↦ ((λ said. absurd (cc (sym w.result-is ∙ said))), (λ none. absurd (cc (sym opens ∙ none))))
    ]

pub returns-clause-closed : goal.returns-clause-closed
returns-clause-closed g c =
    let opens =
    open_found _ g.O.Ord.cmp g.met.O.Ord.total g.K.Ord.cmp g.met.K.Ord.total (record { owner = c.args.owner; id = c.args.id }) c.self.inside.own c.self.inside.lines c.in-Some.line.now _ _
    c.self.view_is (sym c.in-Some.ensures.value) c.if-not-is_open.ensures.there in
    elim c.match-post.branch [
      | in-Ok w ↦ ((λ said. absurd (cc (sym w.result-is ∙ said))), (λ shut. absurd (cc (sym opens ∙ shut))))
      | in-Err w ↦ ((λ said. absurd (cc (sym w.result-is ∙ said))), (λ shut. absurd (cc (sym opens ∙ shut))))
    ]
