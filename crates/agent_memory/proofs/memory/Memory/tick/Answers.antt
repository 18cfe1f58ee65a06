use Rattle.std.proofs.Common.{◌≡◌, ℕ, [], Ok, ap, subst, sym, ◌∙◌}
use Rattle.unwinding.specs.Durable.{line_changes}
use Rattle.std.specs.Prelude.{pos}
use Rattle.reply_lines.specs.Reply.{Now}
use Rattle.script_actions.specs.Action.{Tick}
use Rattle.agent_model.specs.Isolation.{printed}
use Rattle.one_store.specs.Store.{null_reply}
use Rattle.agent_model.specs.TheMachine.{machine}
use Rattle.agent_memory.specs.AgentState.{AgentState, world_of}
use Rattle.agent_memory.specs.Lines.{Runs}
use Rattle.agent_memory.proofs.StandingLemmas.{runs_from}
use Rattle.agent_memory.proofs.RunsLemmas.{changes_ticked, runs_ticked}
use Rattle.agent_memory.proofs.memory.Memory.tick.Goals as goal

pub returns-clause-runs : goal.returns-clause-runs
returns-clause-runs c =
    let here = c.self.inside in
    let old : AgentState = record {
      rules = here.input.list.now.rules;
      now = here.input.clock;
      tabs =
          here.held.live.tabs;
      entries = here.held.storage;
      cookies = here.held.cookies;
      grants = here.held.grants;
    } in
    let later = c.after-now.ensures.later in
    runs_from c.self.view_is
    (subst (λ now. Runs (Tick c.args.s) old (record old { now = now }) (Ok c.ticked.result)) (sym later)
    (runs_ticked old c.self.invariant c.args.s c.ticked.result
    (c.ticked.ensures ∙ ap (λ (now : ℕ). printed (null_reply (Tick c.args.s) (Now (pos now)))) later)))

pub returns-clause-changes : goal.returns-clause-changes
returns-clause-changes c = subst (λ (o : AgentState). line_changes (machine o.rules) (world_of o)
    (Tick c.args.s) ≡ []) c.self.view_is (changes_ticked _ c.self.invariant c.args.s)
