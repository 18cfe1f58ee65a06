use Rattle.std.proofs.Common.{◌≡◌, ap, subst, ◌∙◌}
use Rattle.std.specs.Prelude.{IfOk}
use Rattle.std.proofs.lemmas.Result.{IfOk-weaker}
use Rattle.row_changes.specs.Body.{rows_bytes}
use Rattle.row_store.specs.Kept.{kept_of}
use Rattle.row_store.specs.Listing.{listed}
use Rattle.row_store.specs.Stored.{saved_in}
use Rattle.agent_core.specs.AgentView.{AgentView}
use Rattle.agent_core.specs.Standing.{kept_in}
use Rattle.agent_core.proofs.agent.Agent.snapshot.Goals as goal

pub returns-clause-bytes : goal.returns-clause-bytes
returns-clause-bytes g c =
    let memory = c.self.inside.memory in
    let same : saved_in c.storage.result.now c.cookies.result.now c.grants-grants.result.now
    ≡ saved_in memory.entries memory.cookies (record { rows = memory.grants; spare = 0 }) =
    λ i. saved_in (c.storage.ensures.storage i) (c.cookies.ensures.cookies i)
    (record { rows = c.grants-grants.ensures.grants i; spare = 0 }) in
    subst (λ (v : AgentView _). IfOk c.snapshot.result
    (λ body. body.items ≡ rows_bytes (listed (kept_in v.memory)))) c.self.view_is
    (IfOk-weaker c.snapshot.result _ _
    (λ body is. is ∙ ap (λ saved. rows_bytes (listed (kept_of saved))) same)
    c.snapshot.ensures.bytes)
