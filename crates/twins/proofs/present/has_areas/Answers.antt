-- A site has session areas of a tab where the storage has some of it under the site.
use Rattle.std.proofs.Common.{sym, ap, subst, ◌∙◌}
use Rattle.origin_site.specs.Plain.{plain_site}
use Rattle.script_actions.specs.Plain.{action_of}
use Rattle.script_actions.specs.declared.action.Action.{Action}
use Rattle.web_storage.specs.SiteSessions.{has_session_under}
use Rattle.web_storage.specs.Stored.{Entries, held_with}
use Rattle.local_scripts.specs.Events.{HasAreas}
use Rattle.agent_memory.specs.AgentState.{beside_storage, world_of}
use Rattle.twins.proofs.PresentLemmas.{areas_are}
use Rattle.twins.proofs.present.has_areas.Goals as goal

pub returns-in-Close : goal.returns-in-Close
returns-in-Close c =
    let site = plain_site c.args.site.now in
    let tab = c.in-Close.tab in
    let state = c.args.memory.now in
    let beside = beside_storage state.tabs state.cookies state.grants in
    record {
      areas =
          subst (λ (line : Action). HasAreas (action_of line) site (world_of state) c.has_session.result) (sym c.in-Close.is)
          (areas_are state site tab
          ∙ ap (λ (entries : Entries). has_session_under site tab (held_with beside entries).sessions)
          (sym c.storage.ensures.storage)
          ∙ sym (c.has_session.ensures.session beside));
    }
