use Rattle.std.proofs.Common.{◌≡◌, ℕ, List, Err, IfErr, inl, inr, subst, sym, rules}
use Rattle.served_lines.specs.Steps.{Stopped}
use Rattle.served_lines.specs.Waiting.{Waits}
use Rattle.served_lines.proofs.AnswerLemmas.{was_answered, was_stopped}
use Rattle.served_lines.proofs.answering.answer.Goals as goal

pub returns-in_err-write_answer-clause-stopped : goal.returns-in_err-write_answer-clause-stopped
returns-in_err-write_answer-clause-stopped g c =
    let ending = c.in_err-write_answer.field-0.0 in
    let same : c.from_residual.result ≡ Err ending = search rules in
    let took = g.O.Sink.taken c.write_answer.new.out in
    subst (λ r. IfErr r (λ e. (line : List ℕ) → Waits line c.args.waiting.now
    → Stopped g.D.Disk.view e c.args.session.now c.give-given.new.session c.args.number line (g.O.Sink.taken c.args.out.now) took))
    (sym same)
    (λ line waits. was_stopped g.D.Disk.view c.args.session.now c.give-given.new.session c.args.number line c.give-given.result
    (c.give-given.ensures.gave line waits) c.requires.few (g.O.Sink.taken c.args.out.now) took ending
    c.in_err-write_answer.ensures.writes)

pub returns-in-Err-NoMemory-clause-stopped : goal.returns-in-Err-NoMemory-clause-stopped
returns-in-Err-NoMemory-clause-stopped g c = λ line waits.
    inr (inl (was_answered g.D.Disk.view c.args.session.now c.give-given.new.session c.args.number line c.give-given.result
    (c.give-given.ensures.gave line waits) c.requires.few (g.O.Sink.taken c.args.out.now) (g.O.Sink.taken c.write_answer.new.out)
    c.tend.new.self _ c.in_ok-write_answer.ensures.writes c.tend.ensures.means c.tend.ensures.counts))

pub returns-in-Ok-clause-answered : goal.returns-in-Ok-clause-answered
returns-in-Ok-clause-answered g c = λ line waits.
    was_answered g.D.Disk.view c.args.session.now c.give-given.new.session c.args.number line c.give-given.result
    (c.give-given.ensures.gave line waits) c.requires.few (g.O.Sink.taken c.args.out.now) (g.O.Sink.taken c.write_answer.new.out)
    c.tend.new.self _ c.in_ok-write_answer.ensures.writes c.tend.ensures.means c.tend.ensures.counts

pub returns-in-Ok-2-clause-answered : goal.returns-in-Ok-2-clause-answered
returns-in-Ok-2-clause-answered g c = λ line waits.
    was_answered g.D.Disk.view c.args.session.now c.give-given.new.session c.args.number line c.give-given.result
    (c.give-given.ensures.gave line waits) c.requires.few (g.O.Sink.taken c.args.out.now) (g.O.Sink.taken c.write_answer.new.out)
    c.tend.new.self _ c.in_ok-write_answer.ensures.writes c.tend.ensures.means c.tend.ensures.counts
