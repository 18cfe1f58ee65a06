use Rattle.std.proofs.Common.{length, refl, ap, ◌∙◌}
use Rattle.std.specs.Prelude.{filter}
use Rattle.origin_site.specs.Plain.{plain_site}
use Rattle.storage_key.specs.Context.{is_of}
use Rattle.reply_lines.specs.Plain.{reply_of}
use Rattle.twins.proofs.LeadLemmas.{leads_end}
use Rattle.twins.proofs.lines.close.Goals as goal

pub returns-in-Replies : goal.returns-in-Replies
returns-in-Replies c =
    let site = plain_site c.args.site.now in
    record {
      ends = leads_end site c.args.agent.now c.flush.new.self c.args.found c.commit.new.self
          (record { entries = c.commit.new.self.items; end = c.closing.result })
          c.in-Replies.given c.now-moment.result c.replies_of.result
          c.in-Replies.ensures.means c.now-moment.ensures
          (c.replies_of.ensures.count ∙ ap (λ items. length
          (filter (λ reply. is_of site (reply_of reply).site) items)) c.deref.ensures.value)
          c.commit.ensures.committed refl c.closing.ensures.closing;
    }
