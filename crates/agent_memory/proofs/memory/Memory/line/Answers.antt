-- What memory was wanting for is cut off.
use Rattle.std.proofs.Common.{take, ap, ◌∙◌}
use Rattle.agent_memory.proofs.WritesLemmas.{cut_back}
use Rattle.agent_memory.proofs.memory.Memory.line.Goals as goal

pub returns-in-Err-clause-unwritten : goal.returns-in-Err-clause-unwritten
returns-in-Err-clause-unwritten c =
    c.truncate.ensures.bytes ∙ ap (λ n. take n c.run.new.body.bytes) c.len-before.ensures.len
    ∙ cut_back c.args.body.now.bytes c.run.new.body.bytes c.in-Err.ensures.written
