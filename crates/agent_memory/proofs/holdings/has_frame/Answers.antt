use Rattle.std.proofs.Common.{ap, sym, ◌∙◌}
use Rattle.std.specs.Prelude.{is_some, option_copied}
use Rattle.frame_tree.specs.Plain.{plain_document}
use Rattle.live_state.proofs.ListLemmas.{is_some-map}
use Rattle.frame_tree.proofs.ShapeLemmas.{document_there}
use Rattle.agent_memory.proofs.holdings.has_frame.Goals as goal

pub returns : goal.returns
returns c = record {
  there = c.is_some.ensures
      ∙ sym (is_some-map (λ d. d.now) c.document.result) ∙ sym (is_some-map plain_document (option_copied c.document.result))
      ∙ ap is_some c.document.ensures.document ∙ document_there c.args.frame c.args.tab.now;
}
