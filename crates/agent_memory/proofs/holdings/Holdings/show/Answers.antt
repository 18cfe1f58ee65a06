-- The tab shows the address alone, after the session areas were copied.
use Rattle.std.proofs.Common.{List, ap, ◌∙◌}
use Rattle.origin_site.specs.Plain.{plain_address}
use Rattle.origin_site.specs.Site.{site_of_address}
use Rattle.live_state.specs.Tabs.{PlainLive, PlainTab}
use Rattle.web_storage.specs.Stored.{held_with}
use Rattle.agent_model.specs.Lines.{placed}
use Rattle.agent_model.specs.Sessions.{show}
use Rattle.agent_memory.specs.HoldingsView.{HoldingsView, held_of}
use Rattle.agent_memory.specs.AgentState.{beside_storage, places_in}
use Rattle.agent_memory.specs.Lines.{with_copies}
use Rattle.agent_memory.proofs.DoneLemmas.{put_opened, shown_held, shown_places, shown_trees}
use Rattle.agent_memory.proofs.holdings.Holdings.show.Goals as goal

pub invariant_of-self-3 : goal.invariant_of-self-3
invariant_of-self-3 c =
    let rules = c.args.input.now.list.now.rules in
    let url = plain_address c.args.url.now in
    shown_trees rules c.args.tab url _ _
    (put_opened rules c.args.tab url _ _ _ _ c.in_ok-made.ensures.opened c.in_ok-copy.ensures.same
    c.put_tab.ensures.put) c.self-2.invariant

pub returns-clause-held : goal.returns-clause-held
returns-clause-held c =
    let rules = c.args.input.now.list.now.rules in
    let url = plain_address c.args.url.now in
    shown_held rules c.args.tab url _ _
    (put_opened rules c.args.tab url _ _ _ _ c.in_ok-made.ensures.opened c.in_ok-copy.ensures.same
    c.put_tab.ensures.put) c.self-2.inside.cookies c.self-2.inside.grants.rows c.self-2.inside.storage
    ∙ ap (λ h. show rules c.args.tab url h)
    (ap held_of c.self-2.view_is ∙ c.in_ok-copy_areas.ensures.held
    ∙ ap (λ (tabs : List PlainTab). with_copies c.args.opener c.args.tab tabs
    (held_with (beside_storage tabs c.self.inside.cookies c.self.inside.grants.rows)
    c.self.inside.storage)) c.in_ok-reserve.ensures.same.0
    ∙ ap (λ (h : HoldingsView). with_copies c.args.opener c.args.tab h.live.tabs (held_of h)) c.self.view_is)

pub returns-clause-places : goal.returns-clause-places
returns-clause-places c =
    let rules = c.args.input.now.list.now.rules in
    let url = plain_address c.args.url.now in
    shown_places rules c.args.tab url _ _ (put_opened rules c.args.tab url _ _ _ _ c.in_ok-made.ensures.opened
    c.in_ok-copy.ensures.same c.put_tab.ensures.put)
    ∙ ap (λ (tabs : List PlainTab). placed c.args.tab (site_of_address rules url) (places_in tabs))
    (ap (λ (h : HoldingsView). h.live.tabs) c.self-2.view_is ∙ ap (λ (l : PlainLive). l.tabs) c.in_ok-copy_areas.ensures.live
    ∙ c.in_ok-reserve.ensures.same.0 ∙ ap (λ (h : HoldingsView). h.live.tabs) c.self.view_is)
