use Rattle.std.proofs.Common.{ap, sym, ◌∙◌}
use Rattle.std.proofs.lemmas.Bool.{true≢false}
use Rattle.std.specs.Prelude.{is_some}
use Rattle.frame_tree.specs.Tree.{has_frame}
use Rattle.live_state.specs.Tabs.{tab_at}
use Rattle.frame_tree.proofs.ShapeLemmas.{document_there}
use Rattle.agent_memory.proofs.FoundLemmas.{frames_found}
use Rattle.agent_memory.proofs.holdings.Holdings.url.Goals as goal

pub unreachable-requires : goal.unreachable-requires
unreachable-requires c =
    let at = c.args.at in
    let tab = c.tab.result.now in
    let there = ap (has_frame at.frame)
    (sym (frames_found (tab_at at.tab c.args.self.now.live.tabs) tab (sym c.tab.ensures.tab))) ∙ c.requires in
    true≢false (sym (ap is_some c.in-None.ensures.document ∙ document_there at.frame tab ∙ there))
