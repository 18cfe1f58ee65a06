-- The document is there.
use Rattle.std.proofs.Common.{ap, sym, ◌∙◌}
use Rattle.std.proofs.lemmas.Bool.{true≢false}
use Rattle.std.specs.Prelude.{is_some}
use Rattle.frame_tree.proofs.ShapeLemmas.{document_there}
use Rattle.agent_memory.proofs.holdings.requests.script_use.Goals as goal

pub unreachable-requires : goal.unreachable-requires
unreachable-requires c =
    true≢false (sym (ap is_some c.in-None.ensures.document ∙ document_there c.args.at.frame c.args.tab.now ∙ c.requires.there))
