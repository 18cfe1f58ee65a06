use Rattle.std.proofs.Common.{◌≡◌, ◌++◌, arith, rules, length, map, ap, ◌∙◌, take, take_all}
use Rattle.reply_lines.specs.Plain.{reply_of}
use Rattle.store_runs.specs.Waiting.{replies_text}
use Rattle.store_runs.proofs.TextLemmas.{cut_back, waits_more, waits_none}
use Rattle.store_runs.proofs.waiting.hold_all.Goals as goal

pub loop-reply-init : goal.loop-reply-init
loop-reply-init c = record { text = waits_none c.args.waiting.now.items }

pub loop-reply-preserved : goal.loop-reply-preserved
loop-reply-preserved c = record {
  text = waits_more c.args.waiting.now.items c.hold.new.waiting.items c.args.replies.now
      c.loop-reply.reply-index c.reply-item.result c.loop-reply.waiting.items c.loop-reply-test.true
      c.reply-item.is c.loop-reply.invariant.text c.in-Ok.ensures.text;
}

pub returns-in_default-clause-unchanged : goal.returns-in_default-clause-unchanged
returns-in_default-clause-unchanged c =
    let all : c.len-before.result ≡ length c.args.waiting.now.items = search rules in
    cut_back c.args.waiting.now.items
    (replies_text (map reply_of (take c.loop-reply.reply-index c.args.replies.now)))
    c.truncate.new.self.items c.len-before.result all
    (c.truncate.ensures.items ∙ ap (take c.len-before.result) (c.in_default.ensures.unchanged ∙ c.loop-reply.invariant.text))

pub returns-clause-text : goal.returns-clause-text
returns-clause-text c = c.loop-reply.invariant.text
    ∙ ap (λ rs. c.args.waiting.now.items ++ replies_text (map reply_of rs))
    (take_all c.loop-reply.reply-index c.args.replies.now (omega (arith, c.loop-reply-test.false)))
