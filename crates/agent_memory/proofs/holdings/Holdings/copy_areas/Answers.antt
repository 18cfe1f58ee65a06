-- The copies are made under the site of the opener's top document.
use Rattle.std.proofs.Common.{◌≡◌, Some, ap, sym, ◌∙◌}
use Rattle.std.proofs.lemmas.Result.{on_ok_weaker}
use Rattle.origin_site.specs.Plain.{plain_site}
use Rattle.frame_tree.specs.Tree.{top_site}
use Rattle.live_state.specs.Queues.{frames_by}
use Rattle.live_state.specs.Tabs.{tab_at}
use Rattle.agent_model.specs.Sessions.{copy_sessions, has_session}
use Rattle.web_storage.specs.Stored.{held_with}
use Rattle.agent_memory.specs.AgentState.{beside_storage}
use Rattle.agent_memory.specs.HoldingsView.{HoldingsView, held_of}
use Rattle.agent_memory.specs.Lines.{copied_under, with_copies}
use Rattle.agent_memory.proofs.FoundLemmas.{frames_found}
use Rattle.agent_memory.proofs.holdings.Holdings.copy_areas.Goals as goal

pub copy_tab-requires : goal.copy_tab-requires
unfolding held_with
copy_tab-requires c =
    ap (λ (h : HoldingsView). has_session c.args.tab (held_of h)) c.self.view_is ∙ c.requires.fresh c.in-Some.opener c.in-Some.is

pub returns-clause-held : goal.returns-clause-held
returns-clause-held c =
    let old : HoldingsView = c.args.self.now in
    let from = c.in-Some.opener in
    let found = tab_at from old.live.tabs in
    let placed : Some (plain_site c.in_ok-site.site) ≡ top_site (frames_by found) =
    ap Some c.in_ok-site.ensures.same ∙ sym c.top_site.ensures.site
    ∙ ap top_site (sym (frames_found found c.tab.result.now (sym c.tab.ensures.tab))) in
    on_ok_weaker c.copy_tab.result
    (λ copied. copied ∙ ap (λ (h : HoldingsView). copy_sessions (plain_site c.in_ok-site.site) from c.args.tab
    (held_of h)) c.self.view_is
    ∙ ap (λ here. copied_under here from c.args.tab (held_of old)) placed
    ∙ ap (λ opener. with_copies opener c.args.tab old.live.tabs (held_of old)) (sym c.in-Some.is))
    (c.copy_tab.ensures.copied (beside_storage c.self.inside.live.tabs c.self.inside.cookies c.self.inside.grants.rows))
