-- No tab is open, and the storage, the cookies and the permissions are those that were given.
use Rattle.std.proofs.Common.{◌≤◌, ℕ, ap, subst, sym, ◌∙◌}
use Rattle.agent_base.specs.Seconds.{last_moment}
use Rattle.web_storage.specs.Stored.{Entries, held_with}
use Rattle.agent_memory.specs.AgentState.{beside_storage}
use Rattle.agent_memory.proofs.StandingLemmas.{stands_alone}
use Rattle.agent_memory.proofs.memory.Memory.resume.Goals as goal

pub invariant_of-result : goal.invariant_of-result
invariant_of-result c =
    let held = c.resume.result in
    stands_alone _ c.resume.ensures.tabs
    (subst (λ (now : ℕ). now ≤ last_moment) (sym c.new-clock.ensures.moment) c.requires.now)
    (ap (λ (entries : Entries). (held_with (beside_storage held.live.tabs held.cookies held.grants)
    entries).sessions) c.resume.ensures.storage
    ∙ c.requires.sessions (beside_storage held.live.tabs held.cookies held.grants))

pub returns : goal.returns
returns c = record {
  state = λ i. record {
    rules = c.args.list.now.rules;
    now = c.new-clock.ensures.moment i;
    tabs = c.resume.ensures.tabs i;
    entries = c.resume.ensures.storage i;
    cookies = c.resume.ensures.cookies i;
    grants = c.resume.ensures.grants i;
  };
}
