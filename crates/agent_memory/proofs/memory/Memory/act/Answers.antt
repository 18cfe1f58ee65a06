use Rattle.std.proofs.Common.{◌≡◌, ℕ, List, Some, None, refl, sym, ap, subst, ◌∙◌}
use Rattle.std.specs.Prelude.{IfSome, codes, is_some, option_map}
use Rattle.unwinding.specs.Durable.{line_changes}
use Rattle.origin_site.specs.Plain.{plain_site}
use Rattle.origin_site.specs.Site.{PlainSite}
use Rattle.script_actions.specs.Plain.{action_of}
use Rattle.reply_lines.specs.Plain.{body_of}
use Rattle.reply_lines.specs.Reply.{Plain}
use Rattle.script_actions.specs.Action.{PlainAction, Act}
use Rattle.live_state.specs.Tabs.{PlainTab, tab_at}
use Rattle.frame_tree.specs.Tree.{top_site}
use Rattle.agent_model.specs.SiteStep.{act_in}
use Rattle.agent_model.specs.TheMachine.{machine}
use Rattle.script_actions.proofs.LabelLemmas.{IsActOf, act_of}
use Rattle.agent_memory.specs.AgentState.{places_in}
use Rattle.agent_memory.specs.HoldingsView.{cells_of, held_of}
use Rattle.agent_memory.specs.ActionKinds.{document_action}
use Rattle.agent_memory.specs.Actions.{IsDone, Stays}
use Rattle.agent_memory.proofs.StandingLemmas.{HasEvent, NeedsTab, changes_without_tab, reply_as, runs_from, runs_still, runs_without_tab, shown_is, top_is}
use Rattle.agent_memory.proofs.RunsLemmas.{changes_acted, runs_acted, runs_stays, runs_unchanged, standing_acted, standing_stays}
use Rattle.agent_memory.specs.AgentState.{world_of}
use Rattle.row_changes.specs.Appended.{IsAppended, IsFront}
use Rattle.agent_memory.specs.Written.{AreWritten}
use Rattle.agent_memory.proofs.WritesLemmas.{line_none, line_wanting, line_written}
use Rattle.agent_memory.proofs.memory.Memory.act.Goals as goal

pub returns-in_default-clause-runs : goal.returns-in_default-clause-runs
returns-in_default-clause-runs c =
    let own = act_of (action_of c.args.action.now) c.args.at c.requires.named in
    let nowhere = sym c.in_ok-site.ensures.site ∙ ap (option_map plain_site) c.in_default.is in
    runs_still c.self.view_is
    (runs_without_tab (action_of c.args.action.now) _ c.self.invariant c.refused.result
    (subst (λ (line : PlainAction). NeedsTab line (places_in c.self.inside.held.live.tabs)) (sym own.act) nowhere)
    (c.refused.ensures ∙ ap (λ (name : List ℕ). record {
      name = name;
      site = None;
      body =
          Plain (codes "no-tab");
    }) c.name-name.ensures.name))

pub returns-in_err-site-clause-runs : goal.returns-in_err-site-clause-runs
returns-in_err-site-clause-runs c =
    let own = act_of (action_of c.args.action.now) c.args.at c.requires.named in
    let event = subst (λ (line : PlainAction). HasEvent line (places_in c.self.inside.held.live.tabs))
    (sym own.act) c.in_err-site.ensures.memory in
    runs_still c.self.view_is (runs_unchanged _ (action_of c.args.action.now)
    event c.from_residual.result c.from_residual.ensures.0)

pub act-requires-clause-open : goal.act-requires-clause-open
act-requires-clause-open c =
    let place = sym c.in_ok-site.ensures.site ∙ ap (option_map plain_site) c.in-Some.is in
    ap is_some (shown_is _ c.args.at.tab c.self.invariant (plain_site c.in-Some.site) place).1

-- memory was wanting for the action in its tab
failed : (c : goal.After-drop-site) → Stays c.self.inside.held c.act.new.self
failed c =
    let own = act_of (action_of c.args.action.now) c.args.at c.requires.named in
    let place = sym c.in_ok-site.ensures.site ∙ ap (option_map plain_site) c.in-Some.is in
    let shown = shown_is _ c.args.at.tab c.self.invariant (plain_site c.in-Some.site) place in
    subst (λ (line : PlainAction). IfSome (document_action line)
    (λ does. (tab : PlainTab) (site : PlainSite)
    → tab_at c.args.at.tab c.self.inside.held.live.tabs ≡ Some tab → top_site tab.frames ≡ Some site
    → Stays c.self.inside.held c.act.new.self))
    own.act c.in_err-told.ensures.acts shown.0 (plain_site c.in-Some.site) shown.1
    (top_is _ c.args.at.tab c.self.invariant shown.0 shown.1 ∙ place)

pub invariant_of-self : goal.invariant_of-self
invariant_of-self c = standing_stays _ c.self.invariant _ _ _ _ (failed c).places (failed c).cells (failed c).held

pub returns-in_err-told-clause-runs : goal.returns-in_err-told-clause-runs
returns-in_err-told-clause-runs c =
    let own = act_of (action_of c.args.action.now) c.args.at c.requires.named in
    let place = ap is_some (sym c.in_ok-site.ensures.site ∙ ap (option_map plain_site) c.in-Some.is) in
    let event = subst (λ (line : PlainAction). HasEvent line (places_in c.self.inside.held.live.tabs)) (sym own.act) place in
    runs_from c.self.view_is
    (runs_stays _ c.self.invariant _ _ _ _ (failed c).places (failed c).cells (failed c).held
    (action_of c.args.action.now) event c.from_residual-in_err-told.result c.from_residual-in_err-told.ensures.0)

-- what was done in the tab
did : (c : goal.After-replied) (own : IsActOf c.args.at (action_of c.args.action.now)) (tab : PlainTab)
    (site : PlainSite) → tab_at c.args.at.tab c.self.inside.held.live.tabs ≡ Some tab → top_site tab.frames ≡ Some site
    → IsDone (act_in c.self.inside.input.list.now.rules c.self.inside.input.clock site c.args.at own.done tab
    (cells_of c.self.inside.held) (held_of c.self.inside.held)) c.self.inside.held c.act.new.self (body_of c.in_ok-told.told)
did c own =
    subst (λ (line : PlainAction). IfSome (document_action line)
    (λ does. (tab : PlainTab) (site : PlainSite)
    → tab_at c.args.at.tab c.self.inside.held.live.tabs ≡ Some tab → top_site tab.frames ≡ Some site
    → IsDone (act_in c.self.inside.input.list.now.rules c.self.inside.input.clock site c.args.at does tab
    (cells_of c.self.inside.held) (held_of c.self.inside.held)) c.self.inside.held c.act.new.self
    (body_of c.in_ok-told.told)))
    own.act c.in_ok-told.ensures.acts

pub invariant_of-self-2 : goal.invariant_of-self-2
invariant_of-self-2 c =
    let own = act_of (action_of c.args.action.now) c.args.at c.requires.named in
    let site = plain_site c.in-Some.site in
    let place = sym c.in_ok-site.ensures.site ∙ ap (option_map plain_site) c.in-Some.is in
    let shown = shown_is _ c.args.at.tab c.self.invariant site place in
    let done = did c own shown.0 site shown.1 (top_is _ c.args.at.tab c.self.invariant shown.0 shown.1 ∙ place) in
    standing_acted _ c.self.invariant c.args.at own.done shown.0 site shown.1 place _ _ _ _ done.places done.cells done.held

pub returns-clause-runs : goal.returns-clause-runs
returns-clause-runs c =
    let own = act_of (action_of c.args.action.now) c.args.at c.requires.named in
    let site = plain_site c.in-Some.site in
    let place = sym c.in_ok-site.ensures.site ∙ ap (option_map plain_site) c.in-Some.is in
    let shown = shown_is _ c.args.at.tab c.self.invariant site place in
    let done = did c own shown.0 site shown.1 (top_is _ c.args.at.tab c.self.invariant shown.0 shown.1 ∙ place) in
    let replies = ap (λ (name : List ℕ). record {
      name = name;
      site = Some site;
      body =
          body_of c.in_ok-told.told;
    }) c.name-name.ensures.name in
    runs_from c.self.view_is
    (runs_acted _ c.self.invariant c.args.at own.done shown.0 site shown.1 place _ _ _ _ done.places
    done.cells done.held (action_of c.args.action.now) own.act c.replied.result
    (reply_as (action_of c.args.action.now) c.replied.result (c.replied.ensures ∙ replies) refl done.answer))

pub returns-in_default-clause-written : goal.returns-in_default-clause-written
returns-in_default-clause-written c =
    let own = act_of (action_of c.args.action.now) c.args.at c.requires.named in
    let nowhere = sym c.in_ok-site.ensures.site ∙ ap (option_map plain_site) c.in_default.is in
    line_none (action_of c.args.action.now) _ _ c.self.view_is
    (changes_without_tab (action_of c.args.action.now) _ c.self.invariant
    (subst (λ (line : PlainAction). NeedsTab line (places_in c.self.inside.held.live.tabs)) (sym own.act)
    nowhere)) c.args.body.now.bytes

pub returns-in_err-told-clause-written : goal.returns-in_err-told-clause-written
returns-in_err-told-clause-written c =
    let own = act_of (action_of c.args.action.now) c.args.at c.requires.named in
    let place = sym c.in_ok-site.ensures.site ∙ ap (option_map plain_site) c.in-Some.is in
    let shown = shown_is _ c.args.at.tab c.self.invariant (plain_site c.in-Some.site) place in
    line_wanting (action_of c.args.action.now) c.args.self.now c.args.body.now.bytes c.act.new.body.bytes
    c.from_residual-in_err-told.result c.from_residual-in_err-told.ensures.0
    (subst (λ (line : PlainAction). IfSome (document_action line)
    (λ does. (tab : PlainTab) (site : PlainSite)
    → tab_at c.args.at.tab c.self.inside.held.live.tabs ≡ Some tab → top_site tab.frames ≡ Some site
    → IsFront c.args.body.now.bytes c.act.new.body.bytes))
    own.act c.in_err-told.ensures.changes shown.0 (plain_site c.in-Some.site) shown.1
    (top_is _ c.args.at.tab c.self.invariant shown.0 shown.1 ∙ place))

pub returns-clause-written : goal.returns-clause-written
returns-clause-written c =
    let own = act_of (action_of c.args.action.now) c.args.at c.requires.named in
    let site = plain_site c.in-Some.site in
    let place = sym c.in_ok-site.ensures.site ∙ ap (option_map plain_site) c.in-Some.is in
    let shown = shown_is _ c.args.at.tab c.self.invariant site place in
    let here = c.self.inside in
    let wrote =
    subst (λ (line : PlainAction). IfSome (document_action line)
    (λ does. (tab : PlainTab) (site : PlainSite) → tab_at c.args.at.tab here.held.live.tabs ≡ Some tab
    → top_site tab.frames ≡ Some site
    → IsAppended (act_in here.input.list.now.rules here.input.clock site c.args.at does tab (cells_of here.held)
    (held_of here.held)).changes c.args.body.now.bytes c.act.new.body.bytes))
    own.act c.in_ok-told.ensures.changes shown.0 site shown.1 (top_is _ c.args.at.tab c.self.invariant shown.0 shown.1 ∙ place) in
    subst (λ (line : PlainAction). AreWritten (line_changes (machine c.args.self.now.rules)
    (world_of c.args.self.now) line) c.args.body.now.bytes c.act.new.body.bytes) (sym own.act)
    (line_written (Act c.args.at own.done) _ _ c.self.view_is site _
    (changes_acted _ c.self.invariant c.args.at own.done shown.0 site shown.1 place)
    c.args.body.now.bytes c.act.new.body.bytes wrote)
