-- The document is there or not, and has storage access by what the answers go by.
use Rattle.std.proofs.Common.{refl, sym, ap, ◌∙◌}
use Rattle.frame_tree.specs.Plain.{plain_document}
use Rattle.frame_tree.specs.Tree.{document_of}
use Rattle.live_state.specs.Tabs.{tab_at}
use Rattle.access_grants.specs.Request.{has_access}
use Rattle.reply_lines.specs.Plain.{body_of}
use Rattle.reply_lines.specs.Reply.{Truth}
use Rattle.agent_model.specs.Effects.{answers}
use Rattle.agent_model.specs.StorageAccess.{access_facts}
use Rattle.agent_memory.proofs.AccessLemmas.{found_done}
use Rattle.agent_memory.proofs.DoneLemmas.{stays_done}
use Rattle.agent_memory.proofs.FoundLemmas.{frames_are}
use Rattle.agent_memory.proofs.RequestLemmas.{missing_done}
use Rattle.agent_memory.proofs.holdings.Holdings.has.Goals as goal

pub returns-in_default : goal.returns-in_default
returns-in_default c = record {
  acts = λ tab site found top.
      let frames = frames_are (tab_at c.args.at.tab c.args.self.now.live.tabs) c.tab-tab.result.now tab
      (sym c.tab-tab.ensures.tab) found in
      missing_done c.args.at c.args.self.now.live.tabs tab found
      (λ document. answers (Truth (has_access (access_facts c.args.input.now.list.now.rules c.args.input.now.clock c.args.at.frame
      tab.frames document)))) c.args.self.now (body_of c.answer.result)
      (ap (document_of c.args.at.frame) frames ∙ sym c.in_default.ensures.document) c.answer.ensures;
}

pub facts_of-facts-requires : goal.facts_of-facts-requires
facts_of-facts-requires c = record { document = sym c.in-Some.ensures.document }

pub returns : goal.returns
returns c = record {
  acts = λ tab site found top.
      let rules = c.args.input.now.list.now.rules in
      let old = c.args.self.now in
      let document = plain_document c.in-Some.document.now in
      let frames = frames_are (tab_at c.args.at.tab old.live.tabs) c.tab-tab.result.now tab (sym c.tab-tab.ensures.tab) found in
      let facts = c.facts_of-facts.ensures.facts rules c.in_ok-site.ensures.site
      ∙ ap (λ frames. access_facts rules c.args.input.now.clock c.args.at.frame frames document) (sym frames) in
      found_done c.args.at tab document (λ document. answers
      (Truth (has_access (access_facts rules c.args.input.now.clock c.args.at.frame tab.frames document)))) old old _
      (ap (document_of c.args.at.frame) frames ∙ sym c.in-Some.ensures.document)
      (stays_done old old (record { held = refl; cells = refl; places = refl }) _ _
      (ap Truth (c.has_access.ensures.access ∙ ap has_access facts)));
}
