use Rattle.std.proofs.Common.{◌≡◌, [], refl, sym, subst, ◌∙◌, take, rules}
use Rattle.agent_base.specs.Streams.{Gives}
use Rattle.agent_base.proofs.Pieces.{takes_none}
use Rattle.served_lines.specs.Steps.{StandsAt}
use Rattle.served_lines.proofs.ServedLemmas.{begins, failed_to_read, given, wants_memory}
use Rattle.served_lines.proofs.serving.serve.Goals as goal

pub pieces-init : goal.pieces-init
pieces-init g c =
    let view = g.D.Disk.view in
    let s = c.args.session.now in
    let left = g.I.Source.left c.args.source.now in
    let taken = g.O.Sink.taken c.args.out.now in
    let line = c.new-place.result.line in
    record {
      printed = c.requires.printed;
      wrote = refl;
      read = refl;
      stands = subst (λ n. StandsAt view s s left left taken taken line n []) (sym c.new-place.ensures.1)
          (begins view s left taken line c.new-place.ensures.0);
    }

pub returns-in-Err-clause-served : goal.returns-in-Err-clause-served
returns-in-Err-clause-served g c =
    let view = g.D.Disk.view in
    let before = g.I.Source.left c.args.source.now in
    let later = g.I.Source.left c.read.new.self in
    let taken = g.O.Sink.taken c.args.out.now in
    let took = g.O.Sink.taken c.pieces.out in
    let place = c.pieces.place in
    failed_to_read view c.args.session.now c.pieces.session before later taken took place.line place.number []
    (given view c.args.session.now c.pieces.session before (g.I.Source.left c.pieces.source) taken took place.line place.number
    c.pieces.invariant.stands later [] c.in-Err.ensures.bytes)

pub returns-then-n-eq0-clause-served : goal.returns-then-n-eq0-clause-served
returns-then-n-eq0-clause-served g c =
    let view = g.D.Disk.view in
    let before = g.I.Source.left c.args.source.now in
    let after = g.I.Source.left c.pieces.source in
    let later = g.I.Source.left c.read.new.self in
    let taken = g.O.Sink.taken c.args.out.now in
    let took = g.O.Sink.taken c.pieces.out in
    let place = c.pieces.place in
    let none : c.in-Ok.n ≡ 0 = search rules in
    c.serve_last.ensures.serves c.args.session.now before later taken (c.in-Ok.ensures.end none)
    (given view c.args.session.now c.pieces.session before after taken took place.line place.number c.pieces.invariant.stands later []
    (subst (λ n. Gives after later (take n c.read.new.into)) none c.in-Ok.ensures.bytes))

pub returns-in-Err-serve_piece-clause-served : goal.returns-in-Err-serve_piece-clause-served
returns-in-Err-serve_piece-clause-served g c =
    let view = g.D.Disk.view in
    let before = g.I.Source.left c.args.source.now in
    let after = g.I.Source.left c.pieces.source in
    let later = g.I.Source.left c.read.new.self in
    let taken = g.O.Sink.taken c.args.out.now in
    let took = g.O.Sink.taken c.pieces.out in
    let place = c.pieces.place in
    c.in-Err-serve_piece.ensures.stops c.args.session.now before later taken
    (given view c.args.session.now c.pieces.session before after taken took place.line place.number c.pieces.invariant.stands later
    (take c.in-Ok.n c.read.new.into) c.in-Ok.ensures.bytes)

pub pieces-preserved : goal.pieces-preserved
pieces-preserved g c =
    let view = g.D.Disk.view in
    let before = g.I.Source.left c.args.source.now in
    let after = g.I.Source.left c.pieces.source in
    let later = g.I.Source.left c.read.new.self in
    let taken = g.O.Sink.taken c.args.out.now in
    let took = g.O.Sink.taken c.pieces.out in
    let place = c.pieces.place in
    let was = c.pieces.invariant in
    let done = c.in-Ok-serve_piece.ensures in
    record {
      printed = done.printed;
      wrote = done.counts ∙ was.wrote;
      read = c.in-Ok.ensures.cause.still ∙ was.read;
      stands = done.stands c.args.session.now before later taken
          (given view c.args.session.now c.pieces.session before after taken took place.line place.number was.stands later
          (take c.in-Ok.n c.read.new.into) c.in-Ok.ensures.bytes);
    }

pub returns-clause-served : goal.returns-clause-served
returns-clause-served g c =
    let took = g.O.Sink.taken c.pieces.out in
    wants_memory g.D.Disk.view c.args.session.now c.pieces.session (g.I.Source.left c.args.source.now)
    (g.I.Source.left c.pieces.source) (g.O.Sink.taken c.args.out.now) took c.pieces.place.line c.pieces.place.number []
    c.pieces.invariant.stands took (takes_none took)
