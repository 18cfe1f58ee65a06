use Rattle.std.proofs.Common.{refl, sym, ap, subst, ◌∙◌}
use Rattle.reply_lines.specs.Reply.{reply_text}
use Rattle.agent_model.specs.Isolation.{printed}
use Rattle.script_actions.specs.Plain.{action_of}
use Rattle.unwinding.specs.Admissible.{Acts}
use Rattle.agent_core.specs.declared.outcome.Outcome.TheVariants.{Replies, Held, Down, NoMemory}
use Rattle.printed_model.specs.Histories.{down_reply}
use Rattle.store_runs.specs.Moments.{AnyMoment, StopsBefore}
use Rattle.store_runs.specs.declared.ending.Ending.TheVariants.{Memory}
use Rattle.store_runs.proofs.AgentLemmas.{called_as, line_called, line_text}
use Rattle.store_runs.proofs.PowerLemmas.{call_counts_on}
use Rattle.store_runs.proofs.line.act.Goals as goal

pub returns-in-Replies-clause-ran : goal.returns-in-Replies-clause-ran
returns-in-Replies-clause-ran g c =
    let l = action_of c.args.action.now in
    let told = Replies c.in-Replies.replies in
    called_as g.D.Disk.view c.args.agent.now c.line.new.self _ (Acts l) (line_text l told) _ c.requires refl
    (line_called g.D.Disk.view c.args.agent.now c.line.new.self l told c.in-Replies.ensures.means c.in-Replies.ensures.device c.line.ensures.idle c.in-Replies.ensures.waits
    c.line.ensures.off)

pub returns-in-Held-clause-ran : goal.returns-in-Held-clause-ran
returns-in-Held-clause-ran g c =
    let l = action_of c.args.action.now in
    called_as g.D.Disk.view c.args.agent.now c.line.new.self _ (Acts l) (line_text l Held) _ c.requires refl
    (line_called g.D.Disk.view c.args.agent.now c.line.new.self l Held c.in-Held.ensures.means c.in-Held.ensures.device c.line.ensures.idle c.in-Held.ensures.waits
    c.line.ensures.off)

pub returns-in-Down-clause-ran : goal.returns-in-Down-clause-ran
returns-in-Down-clause-ran g c =
    let l = action_of c.args.action.now in
    called_as g.D.Disk.view c.args.agent.now c.line.new.self _ (Acts l) (line_text l Down) _ c.requires
    (ap reply_text (c.down.ensures ∙ ap (λ step. printed (down_reply step)) c.requires))
    (line_called g.D.Disk.view c.args.agent.now c.line.new.self l Down c.in-Down.ensures.means c.in-Down.ensures.device c.line.ensures.idle c.in-Down.ensures.waits c.line.ensures.off)

pub returns-in-NoMemory-clause-stops : goal.returns-in-NoMemory-clause-stops
returns-in-NoMemory-clause-stops g c =
    let l = action_of c.args.action.now in
    subst (λ s. StopsBefore g.D.Disk.view c.args.agent.now c.line.new.self s Memory) (sym c.requires)
    (line_called g.D.Disk.view c.args.agent.now c.line.new.self l NoMemory c.in-NoMemory.ensures.means
    c.in-NoMemory.ensures.device c.line.ensures.idle c.in-NoMemory.ensures.waits
    c.line.ensures.off)

-- ---- moments

pub returns-in-Replies-clause-any_moment : goal.returns-in-Replies-clause-any_moment
returns-in-Replies-clause-any_moment g c =
    subst (AnyMoment g.D.Disk.view c.args.agent.now c.line.new.self) (sym c.requires) c.line.ensures.any_moment

pub returns-in-Held-clause-any_moment : goal.returns-in-Held-clause-any_moment
returns-in-Held-clause-any_moment g c =
    subst (AnyMoment g.D.Disk.view c.args.agent.now c.line.new.self) (sym c.requires) c.line.ensures.any_moment

pub returns-in-Down-clause-any_moment : goal.returns-in-Down-clause-any_moment
returns-in-Down-clause-any_moment g c =
    subst (AnyMoment g.D.Disk.view c.args.agent.now c.line.new.self) (sym c.requires) c.line.ensures.any_moment

pub returns-in-NoMemory-clause-any_moment : goal.returns-in-NoMemory-clause-any_moment
returns-in-NoMemory-clause-any_moment g c =
    subst (AnyMoment g.D.Disk.view c.args.agent.now c.line.new.self) (sym c.requires) c.line.ensures.any_moment

-- ---- the count of faults

pub returns-in-Replies-clause-counts : goal.returns-in-Replies-clause-counts
returns-in-Replies-clause-counts g c =
    call_counts_on g.D.Disk.view c.args.agent.now c.line.new.self (Replies c.in-Replies.replies)
    c.in-Replies.ensures.device c.in-Replies.ensures.power c.line.ensures.off

pub returns-in-Held-clause-counts : goal.returns-in-Held-clause-counts
returns-in-Held-clause-counts g c =
    call_counts_on g.D.Disk.view c.args.agent.now c.line.new.self Held
    c.in-Held.ensures.device c.in-Held.ensures.power c.line.ensures.off

pub returns-in-Down-clause-counts : goal.returns-in-Down-clause-counts
returns-in-Down-clause-counts g c =
    call_counts_on g.D.Disk.view c.args.agent.now c.line.new.self Down
    c.in-Down.ensures.device c.in-Down.ensures.power c.line.ensures.off

pub returns-in-NoMemory-clause-counts : goal.returns-in-NoMemory-clause-counts
returns-in-NoMemory-clause-counts g c =
    call_counts_on g.D.Disk.view c.args.agent.now c.line.new.self NoMemory
    c.in-NoMemory.ensures.device c.in-NoMemory.ensures.power c.line.ensures.off
