use Rattle.std.proofs.Common.{OnErr, subst, sym}
use Rattle.agent_base.specs.Streams.{TakesPrefix}
use Rattle.replay.specs.Twins.{twin_line}
use Rattle.twins.specs.Plain.{plain_twin}
use Rattle.replay.proofs.pairs.write_answer.Goals as goal

pub returns-in-LocalDiffer-clause-prefix : goal.returns-in-LocalDiffer-clause-prefix
returns-in-LocalDiffer-clause-prefix g c =
    let wrote = c.write_numbered-in-LocalDiffer in
    subst (λ a. OnErr wrote.result (TakesPrefix (g.O.Sink.taken c.args.out.now) (g.O.Sink.taken wrote.new.out) (twin_line (plain_twin a)))) (sym c.in-LocalDiffer.is) wrote.ensures.prefix
