use Rattle.std.proofs.Common.{◌≡◌, ◌+◌, ◌≤◌, ℕ, List, Option, Err, IfErr, [], ◌∷◌, length, take, drop, sym, subst, ◌∙◌, append-nil, arith, length-drop, rules}
use Rattle.agent_base.proofs.Pieces.{same_piece, takes_none}
use Rattle.script_lines.specs.Grammar.{lines_of}
use Rattle.line_session.specs.SessionView.{SessionView}
use Rattle.served_lines.specs.Serving.{Serves}
use Rattle.served_lines.specs.Steps.{StandsAt}
use Rattle.served_lines.specs.declared.ending.Served.{Served}
use Rattle.served_lines.specs.declared.ending.Served.TheVariants.{NoMemory}
use Rattle.served_lines.proofs.ServedLemmas.{answered_line, cut_at_feed, pushed, stopped_line, wants_memory}
use Rattle.served_lines.proofs.WaitingLemmas.{all_one_line, at_feed, front_one_line}
use Rattle.served_lines.proofs.serving.serve_piece.Goals as goal

pub push-requires : goal.push-requires
push-requires g c = record { one = front_one_line c.lines.rest.now c.in-Some.end c.in-Some.ensures }

pub push-requires-in-None : goal.push-requires-in-None
push-requires-in-None g c = record { one = all_one_line c.lines.rest.now c.in-None.ensures }

pub overflow_add-rest : goal.overflow_add-rest
overflow_add-rest g c = omega (arith, c.in-Some.ensures.0.high, c.lines.invariant.shorter)

pub returns-in_err-push-in-Some-clause-stops : goal.returns-in_err-push-in-Some-clause-stops
returns-in_err-push-in-Some-clause-stops g c =
    let view = g.D.Disk.view in
    let old = g.O.Sink.taken c.args.out.now in
    let took = g.O.Sink.taken c.lines.out in
    let same : c.from_residual.result ≡ Err NoMemory = search rules in
    subst (λ r. IfErr r (λ (e : Served). (first : SessionView _) → (before : Option (List ℕ)) → (after : Option (List ℕ))
    → (taken : Option (List ℕ))
    → StandsAt view first c.args.session.now before after taken old c.args.place.now.line c.args.place.now.number c.args.piece.now
    → Serves view e first c.lines.session before after taken took)) (sym same)
    (λ first before after taken stands.
    wants_memory view first c.lines.session before after taken took c.lines.place.line c.lines.place.number c.lines.rest.now
    (c.lines.invariant.stands first before after taken stands) took (takes_none took))

pub returns-in_err-push-in-None-clause-stops : goal.returns-in_err-push-in-None-clause-stops
returns-in_err-push-in-None-clause-stops g c =
    let view = g.D.Disk.view in
    let old = g.O.Sink.taken c.args.out.now in
    let took = g.O.Sink.taken c.lines.out in
    let same : c.from_residual-in_err-push-in-None.result ≡ Err NoMemory = search rules in
    subst (λ r. IfErr r (λ (e : Served). (first : SessionView _) → (before : Option (List ℕ)) → (after : Option (List ℕ))
    → (taken : Option (List ℕ))
    → StandsAt view first c.args.session.now before after taken old c.args.place.now.line c.args.place.now.number c.args.piece.now
    → Serves view e first c.lines.session before after taken took)) (sym same)
    (λ first before after taken stands.
    wants_memory view first c.lines.session before after taken took c.lines.place.line c.lines.place.number c.lines.rest.now
    (c.lines.invariant.stands first before after taken stands) took (takes_none took))

pub returns-in-None-clause-stands : goal.returns-in-None-clause-stands
returns-in-None-clause-stands g c = λ first before after taken stands.
    let view = g.D.Disk.view in
    let took = g.O.Sink.taken c.lines.out in
    let rest = c.lines.rest.now in
    let s = subst (StandsAt view first c.lines.session before after taken took c.lines.place.line c.lines.place.number)
    (sym (append-nil rest)) (c.lines.invariant.stands first before after taken stands) in
    pushed view first c.lines.session before after taken took c.lines.place.line c.lines.place.number rest [] c.push-in-None.new.self
    s (c.in_ok-push-in-None.ensures s.line s.waits)

pub returns-in_err-serve_line-in-Some-clause-stops : goal.returns-in_err-serve_line-in-Some-clause-stops
returns-in_err-serve_line-in-Some-clause-stops g c =
    let view = g.D.Disk.view in
    let old = g.O.Sink.taken c.args.out.now in
    let took = g.O.Sink.taken c.lines.out in
    let later = g.O.Sink.taken c.serve_line.new.out in
    let rest = c.lines.rest.now in
    let end = c.in-Some.end in
    let ending = c.in_err-serve_line-in-Some.field-0.0 in
    let same : c.from_residual-in_err-serve_line-in-Some.result ≡ Err ending = search rules in
    subst (λ r. IfErr r (λ (e : Served). (first : SessionView _) → (before : Option (List ℕ)) → (after : Option (List ℕ))
    → (taken : Option (List ℕ))
    → StandsAt view first c.args.session.now before after taken old c.args.place.now.line c.args.place.now.number c.args.piece.now
    → Serves view e first c.serve_line.new.session before after taken later)) (sym same)
    (λ first before after taken stands.
    let s = subst (StandsAt view first c.lines.session before after taken took c.lines.place.line c.lines.place.number)
    (at_feed rest end c.in-Some.ensures) (c.lines.invariant.stands first before after taken stands) in
    let p = pushed view first c.lines.session before after taken took c.lines.place.line c.lines.place.number (take end rest)
    (10 ∷ drop (end + 1) rest) c.push.new.self s (c.in_ok-push-in-Some.ensures s.line s.waits) in
    stopped_line view first c.lines.session before after taken took c.push.new.self c.lines.place.number
    (10 ∷ drop (end + 1) rest) p c.serve_line.new.session later (lines_of (drop (end + 1) rest))
    (cut_at_feed p.line (drop (end + 1) rest) p.waits.one) ending (c.in_err-serve_line-in-Some.ensures.stopped p.line p.waits))

pub lines-preserved : goal.lines-preserved
lines-preserved g c =
    let view = g.D.Disk.view in
    let took = g.O.Sink.taken c.lines.out in
    let later = g.O.Sink.taken c.serve_line.new.out in
    let rest = c.lines.rest.now in
    let end = c.in-Some.end in
    let done = c.in_ok-serve_line-in-Some.ensures in
    let place = c.serve_line.new.place in
    record {
      printed = done.printed;
      still = done.counts ∙ c.lines.invariant.still;
      shorter = subst (λ u. length u ≤ length c.args.piece.now) (sym (same_piece rest (end + 1)))
          (omega (arith, length-drop (end + 1) rest, c.lines.invariant.shorter));
      stands = λ first before after taken stands.
          let s = subst (StandsAt view first c.lines.session before after taken took c.lines.place.line c.lines.place.number)
          (at_feed rest end c.in-Some.ensures) (c.lines.invariant.stands first before after taken stands) in
          let p = pushed view first c.lines.session before after taken took c.lines.place.line c.lines.place.number (take end rest)
          (10 ∷ drop (end + 1) rest) c.push.new.self s (c.in_ok-push-in-Some.ensures s.line s.waits) in
          subst (StandsAt view first c.serve_line.new.session before after taken later place.line place.number)
          (sym (same_piece rest (end + 1)))
          (answered_line view first c.lines.session before after taken took c.push.new.self c.lines.place.number
          (drop (end + 1) rest) p c.serve_line.new.session later place.line place.number (done.answered p.line p.waits)
          done.next.0 done.next.1);
    }
