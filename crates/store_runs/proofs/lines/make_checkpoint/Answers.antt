use Rattle.std.proofs.Common.{[], refl}
use Rattle.agent_core.specs.declared.outcome.Outcome.TheVariants.{Replies, Held, Down, NoMemory}
use Rattle.store_runs.proofs.AgentLemmas.{checkpoint_ends, down_ends, held_ends, memory_ends}
use Rattle.store_runs.proofs.PowerLemmas.{call_counts_on}
use Rattle.store_runs.proofs.lines.make_checkpoint.Goals as goal

pub returns-in-Replies-clause-ends : goal.returns-in-Replies-clause-ends
returns-in-Replies-clause-ends g c =
    checkpoint_ends g.D.Disk.view c.args.agent.now c.flush.new.self (Replies c.in-Replies._none)
    c.in-Replies.ensures.means c.in-Replies.ensures.device c.flush.ensures.idle c.in-Replies.ensures.tidy c.flush.ensures.off [] [] c.in-Replies._none refl c.requires

pub returns-in-Down-clause-ends : goal.returns-in-Down-clause-ends
returns-in-Down-clause-ends g c = down_ends g.D.Disk.view c.args.agent.now c.flush.new.self Down
    c.in-Down.ensures.means c.in-Down.ensures.device c.flush.ensures.idle c.in-Down.ensures.tidy c.flush.ensures.off [] [] refl refl

pub returns-in-Held-clause-ends : goal.returns-in-Held-clause-ends
returns-in-Held-clause-ends g c = held_ends g.D.Disk.view c.args.agent.now c.flush.new.self Held
    c.in-Held.ensures.means c.in-Held.ensures.device c.flush.ensures.idle c.in-Held.ensures.tidy c.flush.ensures.off [] [] refl

pub returns-in-NoMemory-clause-ends : goal.returns-in-NoMemory-clause-ends
returns-in-NoMemory-clause-ends g c = memory_ends g.D.Disk.view c.args.agent.now c.flush.new.self NoMemory
    c.in-NoMemory.ensures.means c.in-NoMemory.ensures.device c.flush.ensures.idle c.in-NoMemory.ensures.tidy c.flush.ensures.off [] [] refl refl

pub returns-in-Replies-clause-counts : goal.returns-in-Replies-clause-counts
returns-in-Replies-clause-counts g c =
    call_counts_on g.D.Disk.view c.args.agent.now c.flush.new.self (Replies c.in-Replies._none) c.in-Replies.ensures.device c.in-Replies.ensures.power c.flush.ensures.off

pub returns-in-Down-clause-counts : goal.returns-in-Down-clause-counts
returns-in-Down-clause-counts g c =
    call_counts_on g.D.Disk.view c.args.agent.now c.flush.new.self Down c.in-Down.ensures.device c.in-Down.ensures.power c.flush.ensures.off

pub returns-in-Held-clause-counts : goal.returns-in-Held-clause-counts
returns-in-Held-clause-counts g c =
    call_counts_on g.D.Disk.view c.args.agent.now c.flush.new.self Held c.in-Held.ensures.device c.in-Held.ensures.power c.flush.ensures.off

pub returns-in-NoMemory-clause-counts : goal.returns-in-NoMemory-clause-counts
returns-in-NoMemory-clause-counts g c =
    call_counts_on g.D.Disk.view c.args.agent.now c.flush.new.self NoMemory c.in-NoMemory.ensures.device c.in-NoMemory.ensures.power c.flush.ensures.off
