-- What the agent has is what its world is read off.
use Rattle.std.proofs.Common.{subst}
use Rattle.std.specs.Prelude.{IfOk}
use Rattle.std.proofs.lemmas.Result.{IfOk-weaker}
use Rattle.origin_site.specs.Plain.{plain_site}
use Rattle.script_actions.specs.Plain.{action_of}
use Rattle.local_scripts.specs.Present.{PlainPresent}
use Rattle.local_scripts.specs.Seen.{IsGiven, IsGivenAt}
use Rattle.agent_memory.specs.AgentState.{world_of}
use Rattle.twins.proofs.PresentLemmas.{present_of, stands_for}
use Rattle.twins.proofs.present.seen_line.Goals as goal

pub returns : goal.returns
returns c =
    let state = c.args.memory.now in
    let site = plain_site c.args.site.now in
    let action = action_of c.args.action.now in
    let areas = c.has_areas-areas in
    let given : IfOk c.seen.result (IsGiven (present_of state) action site c.args.touched areas.result) =
    subst (λ (present : PlainPresent). IfOk c.seen.result (IsGiven present action site c.args.touched areas.result))
    (λ i. record {
      rules = c.list.ensures.rules i;
      now = c.now.ensures.now i;
      tabs =
          c.live.ensures.tabs i;
      cookies = c.cookies.ensures.cookies i;
    })
    c.seen.ensures.given in
    record {
      given =
          IfOk-weaker c.seen.result (IsGiven (present_of state) action site c.args.touched areas.result)
          (IsGivenAt state.rules site c.args.touched (world_of state) action)
          (λ seen told. told (world_of state) (stands_for state) areas.ensures.areas)
          given;
    }
