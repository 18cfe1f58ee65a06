use Rattle.std.proofs.Common.{sym, ◌∙◌}
use Rattle.agent_memory.proofs.FoundLemmas.{has_found}
use Rattle.agent_memory.proofs.holdings.Holdings.has_document.Goals as goal

pub returns : goal.returns
returns c = record {
  there = c.has_frame.ensures.there
      ∙ sym (has_found c.args.at c.args.self.now.live.tabs c.tab.result.now (sym c.tab.ensures.tab));
}
