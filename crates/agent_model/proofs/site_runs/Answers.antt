use Rattle.agent_model.proofs.SiteRunLemmas.{are_run_replies, are_site_answers}
use Rattle.agent_model.proofs.site_runs.Goals as goal

pub returns : goal.returns
returns c = record { replies = are_run_replies; answers = are_site_answers }
