use Rattle.std.proofs.Common.{true, false, arith}
use Rattle.journal.proofs.Found.{plain, listed}
use Rattle.journal.proofs.fields.whole_frame.Goals as goal

pub returns-then-kind-eq1 : goal.returns-then-kind-eq1
returns-then-kind-eq1 c =
    plain c.args.bytes.now c.args.at c.args.size c.number_at-last.result c.args.fresh false c.requires (omega arith) (omega arith) (omega arith) c.number_at-last.ensures (λ body long. omega arith)

pub returns-then-fresh : goal.returns-then-fresh
returns-then-fresh c =
    plain c.args.bytes.now c.args.at c.args.size c.number_at-last.result c.args.fresh true c.requires (omega arith) (omega arith) (omega arith) c.number_at-last.ensures (λ body long. c.if-fresh.true)

pub returns-then-bytes-ne1 : goal.returns-then-bytes-ne1
returns-then-bytes-ne1 c =
    listed c.args.bytes.now c.args.at c.args.size c.number_at-last.result c.args.fresh c.requires (omega arith) (omega arith) (omega arith) (omega arith) c.number_at-last.ensures c.if-fresh-2.true (λ e. absurd (omega arith))
