use Rattle.std.proofs.Common.{◌≡◌, ap, map, subst, ◌∙◌}
use Rattle.std.specs.Prelude.{IfOk}
use Rattle.std.proofs.lemmas.Result.{IfOk-weaker}
use Rattle.row_changes.specs.Plain.{plain_change}
use Rattle.row_store.specs.Kept.{kept_of}
use Rattle.row_store.specs.Listing.{listed}
use Rattle.row_store.specs.Stored.{saved_in}
use Rattle.agent_core.specs.AgentView.{AgentView}
use Rattle.agent_core.specs.Standing.{kept_in}
use Rattle.agent_core.proofs.agent.Agent.listing.Goals as goal

pub returns-clause-rows : goal.returns-clause-rows
returns-clause-rows g c =
    let memory = c.self.inside.memory in
    let same : saved_in c.storage.result.now c.cookies.result.now c.grants.result.now
    ≡ saved_in memory.entries memory.cookies (record { rows = memory.grants; spare = 0 }) =
    λ i. saved_in (c.storage.ensures.storage i) (c.cookies.ensures.cookies i)
    (record { rows = c.grants.ensures.grants i; spare = 0 }) in
    subst (λ (v : AgentView _). IfOk c.snapshot_rows.result
    (λ rows. map plain_change rows.items ≡ listed (kept_in v.memory))) c.self.view_is
    (IfOk-weaker c.snapshot_rows.result _ _
    (λ rows is. is ∙ ap (λ saved. listed (kept_of saved)) same)
    c.snapshot_rows.ensures.rows)
