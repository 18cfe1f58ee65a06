use Rattle.served_lines.proofs.AnswerLemmas.{gave_too_long}
use Rattle.served_lines.proofs.answering.give.Goals as goal

pub returns-then-not-waiting-clause-gave : goal.returns-then-not-waiting-clause-gave
returns-then-not-waiting-clause-gave g c = λ line waits.
    gave_too_long g.D.Disk.view line c.args.waiting.now waits c.args.session.now c.if-waiting.true c.if-not-waiting.true
