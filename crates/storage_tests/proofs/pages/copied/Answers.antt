use Rattle.std.proofs.Common.{ap, ◌∙◌}
use Rattle.agent_model.specs.Partition.{no_holdings}
use Rattle.agent_model.specs.Sessions.{has_session}
use Rattle.web_storage.proofs.CloseLemmas.{none_after}
use Rattle.storage_tests.proofs.pages.copied.Goals as goal

pub copy_tab-requires : goal.copy_tab-requires
copy_tab-requires c = ap (has_session 2) (c.close.ensures.closed no_holdings) ∙ none_after 2 _
