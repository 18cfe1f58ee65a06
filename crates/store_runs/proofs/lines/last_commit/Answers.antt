use Rattle.std.proofs.Common.{rules, [], ◌++◌, map, refl, sym, ap, ◌∙◌, append-nil}
use Rattle.reply_lines.specs.Plain.{reply_of}
use Rattle.agent_core.specs.declared.outcome.Outcome.TheVariants.{Replies, Held, Down, NoMemory}
use Rattle.store_runs.specs.Waiting.{replies_text}
use Rattle.store_runs.proofs.AgentLemmas.{down_ends, held_ends, memory_ends, owed_ends, replies_end, replies_lost}
use Rattle.store_runs.proofs.PowerLemmas.{call_counts_on, counts_still}
use Rattle.store_runs.proofs.lines.last_commit.Goals as goal

pub returns-in-Ok-clause-ends : goal.returns-in-Ok-clause-ends
returns-in-Ok-clause-ends g c =
    let before = c.args.waiting.now.items in
    let now = c.hold_all.new.waiting.items in
    replies_end g.D.Disk.view c.args.agent.now c.flush.new.self (Replies c.in-Replies.replies)
    c.in-Replies.ensures.means c.in-Replies.ensures.device c.flush.ensures.idle c.in-Replies.ensures.tidy c.flush.ensures.off before now c.in-Replies.replies refl
    (c.in-Ok.ensures.text ∙ ap (λ items. before ++ replies_text (map reply_of items)) c.deref.ensures.value)

pub returns-in-Replies-clause-ends : goal.returns-in-Replies-clause-ends
returns-in-Replies-clause-ends g c =
    replies_lost g.D.Disk.view c.args.agent.now c.flush.new.self (Replies c.in-Replies.replies)
    c.in-Replies.ensures.means c.in-Replies.ensures.device c.flush.ensures.idle c.in-Replies.ensures.tidy c.flush.ensures.off c.args.waiting.now.items
    c.hold_all.new.waiting.items c.in-Replies.replies refl (search rules)

pub returns-in-Down-clause-ends : goal.returns-in-Down-clause-ends
returns-in-Down-clause-ends g c =
    down_ends g.D.Disk.view c.args.agent.now c.flush.new.self Down c.in-Down.ensures.means
    c.in-Down.ensures.device c.flush.ensures.idle c.in-Down.ensures.tidy c.flush.ensures.off c.args.waiting.now.items c.args.waiting.now.items refl refl

pub returns-in-Held-clause-ends : goal.returns-in-Held-clause-ends
returns-in-Held-clause-ends g c = held_ends g.D.Disk.view c.args.agent.now c.flush.new.self Held
    c.in-Held.ensures.means c.in-Held.ensures.device c.flush.ensures.idle c.in-Held.ensures.tidy c.flush.ensures.off c.args.waiting.now.items c.args.waiting.now.items refl

pub returns-clause-ends : goal.returns-clause-ends
returns-clause-ends g c = memory_ends g.D.Disk.view c.args.agent.now c.flush.new.self NoMemory
    c.in-NoMemory.ensures.means c.in-NoMemory.ensures.device c.flush.ensures.idle c.in-NoMemory.ensures.tidy c.flush.ensures.off c.args.waiting.now.items
    c.args.waiting.now.items refl refl

pub returns-then-owes_checkpoint-clause-ends : goal.returns-then-owes_checkpoint-clause-ends
returns-then-owes_checkpoint-clause-ends g c = owed_ends g.D.Disk.view c.args.agent.now
    c.args.waiting.now.items (sym c.owes_checkpoint.ensures.owes ∙ c.if-owes_checkpoint.true)

pub returns-in-Ok-clause-counts : goal.returns-in-Ok-clause-counts
returns-in-Ok-clause-counts g c =
    call_counts_on g.D.Disk.view c.args.agent.now c.flush.new.self (Replies c.in-Replies.replies) c.in-Replies.ensures.device c.in-Replies.ensures.power c.flush.ensures.off

pub returns-in-Replies-clause-counts : goal.returns-in-Replies-clause-counts
returns-in-Replies-clause-counts g c =
    call_counts_on g.D.Disk.view c.args.agent.now c.flush.new.self (Replies c.in-Replies.replies) c.in-Replies.ensures.device c.in-Replies.ensures.power c.flush.ensures.off

pub returns-in-Down-clause-counts : goal.returns-in-Down-clause-counts
returns-in-Down-clause-counts g c =
    call_counts_on g.D.Disk.view c.args.agent.now c.flush.new.self Down c.in-Down.ensures.device c.in-Down.ensures.power c.flush.ensures.off

pub returns-in-Held-clause-counts : goal.returns-in-Held-clause-counts
returns-in-Held-clause-counts g c =
    call_counts_on g.D.Disk.view c.args.agent.now c.flush.new.self Held c.in-Held.ensures.device c.in-Held.ensures.power c.flush.ensures.off

pub returns-clause-counts : goal.returns-clause-counts
returns-clause-counts g c =
    call_counts_on g.D.Disk.view c.args.agent.now c.flush.new.self NoMemory c.in-NoMemory.ensures.device c.in-NoMemory.ensures.power c.flush.ensures.off

pub returns-then-owes_checkpoint-clause-counts : goal.returns-then-owes_checkpoint-clause-counts
returns-then-owes_checkpoint-clause-counts g c = counts_still g.D.Disk.view c.args.agent.now

-- ---- what waits

pub returns-in-Ok-clause-lengthens : goal.returns-in-Ok-clause-lengthens
returns-in-Ok-clause-lengthens g c = (_, c.in-Ok.ensures.text)

pub returns-in-Replies-clause-lengthens : goal.returns-in-Replies-clause-lengthens
returns-in-Replies-clause-lengthens g c = ([], search rules ∙ sym (append-nil c.args.waiting.now.items))

pub returns-in-Down-clause-lengthens : goal.returns-in-Down-clause-lengthens
returns-in-Down-clause-lengthens g c = ([], sym (append-nil c.args.waiting.now.items))

pub returns-in-Held-clause-lengthens : goal.returns-in-Held-clause-lengthens
returns-in-Held-clause-lengthens g c = ([], sym (append-nil c.args.waiting.now.items))

pub returns-clause-lengthens : goal.returns-clause-lengthens
returns-clause-lengthens g c = ([], sym (append-nil c.args.waiting.now.items))

pub returns-then-owes_checkpoint-clause-lengthens : goal.returns-then-owes_checkpoint-clause-lengthens
returns-then-owes_checkpoint-clause-lengthens g c = ([], sym (append-nil c.args.waiting.now.items))
