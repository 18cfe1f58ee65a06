use Rattle.std.proofs.Common.{length, ap, ◌∙◌}
use Rattle.std.specs.Prelude.{filter}
use Rattle.origin_site.specs.Plain.{plain_site}
use Rattle.storage_key.specs.Context.{is_of}
use Rattle.script_actions.specs.Plain.{action_of}
use Rattle.reply_lines.specs.Plain.{reply_of}
use Rattle.twins.proofs.LeadLemmas.{leads_on, leads_replied}
use Rattle.twins.proofs.lines.act.Goals as goal

pub returns-in-Held : goal.returns-in-Held
returns-in-Held c = record {
  leads = leads_on (plain_site c.args.site.now) c.args.agent.now c.line.new.self c.args.found.now
      (action_of c.args.action.now) c.in_ok-before.before c.in-Held.ensures.rules c.in_ok-before.ensures.before
      c.take_in.result c.in-Held.ensures.means c.in-Held.ensures.device c.take_in.new.found c.take_in.ensures.taken;
}

pub returns-in_ok-take_in-in-Replies : goal.returns-in_ok-take_in-in-Replies
returns-in_ok-take_in-in-Replies c =
    let site = plain_site c.args.site.now in
    record {
      leads = leads_replied site c.args.agent.now c.line.new.self c.args.found.now
          (action_of c.args.action.now) c.in_ok-before.before c.in-Replies.ensures.rules c.in_ok-before.ensures.before
          c.in-Replies.given c.in-Replies.ensures.means c.in-Replies.ensures.device
          c.take_in-in-Replies.new.found c.commit.new.self c.replies_of.result c.in_ok-take_in-in-Replies.ensures.taken
          (c.replies_of.ensures.count ∙ ap (λ items. length
          (filter (λ reply. is_of site (reply_of reply).site) items)) c.deref.ensures.value) c.commit.ensures.committed;
    }
