-- The tab at the place has the number, or no tab has it.
use Rattle.std.proofs.Common.{List, Some, ap, sym, subst, ◌∙◌, rules}
use Rattle.std.specs.Prelude.{IfSome, option_map}
use Rattle.live_state.specs.ExistingQueues.{PlainOpenTab}
use Rattle.live_state.specs.Tabs.{HasQueues, tab_at}
use Rattle.live_state.specs.TabPlaces.{IsAt, IsGap}
use Rattle.live_state.proofs.TabPlaceLemmas.{found-gap}
use Rattle.live_state.proofs.SearchLemmas.{plain_of}
use Rattle.live_state.proofs.StepLemmas.{tab-here}
use Rattle.live_state.proofs.live.Live.tab.Goals as goal

pub returns-in-Ok-clause-tab : goal.returns-in-Ok-clause-tab
returns-in-Ok-clause-tab c =
    let items : List PlainOpenTab = c.self.inside.tabs.items in
    let at : IsAt c.args.tab (plain_of items) c.in-Ok.place = c.in-Ok.ensures.place in
    ap Some c.tab.ensures.tab
    ∙ sym (ap (option_map (λ t. t.frames)) (tab-here c.args.tab items c.in-Ok.place at c.at.result.now (search rules) (search rules)))
    ∙ ap (λ live. option_map (λ t. t.frames) (tab_at c.args.tab live.tabs)) c.self.view_is

pub returns-in-Err-clause-tab : goal.returns-in-Err-clause-tab
returns-in-Err-clause-tab c =
    let items : List PlainOpenTab = c.self.inside.tabs.items in
    let gap : IsGap c.args.tab (plain_of items) c.in-Err.field-0 = c.in-Err.ensures.place in
    sym (ap (option_map (λ t. t.frames)) (found-gap c.args.tab (plain_of items) c.in-Err.field-0 gap))
    ∙ ap (λ live. option_map (λ t. t.frames) (tab_at c.args.tab live.tabs)) c.self.view_is

pub returns-in-Ok-clause-queues : goal.returns-in-Ok-clause-queues
returns-in-Ok-clause-queues c =
    let items : List PlainOpenTab = c.self.inside.tabs.items in
    let at : IsAt c.args.tab (plain_of items) c.in-Ok.place = c.in-Ok.ensures.place in
    let found = ap (λ live. tab_at c.args.tab live.tabs) (sym c.self.view_is)
    ∙ tab-here c.args.tab items c.in-Ok.place at c.at.result.now (search rules) (search rules) in
    subst (λ o. IfSome o HasQueues) (sym found) c.tab.ensures.queues

pub returns-in-Err-clause-queues : goal.returns-in-Err-clause-queues
returns-in-Err-clause-queues c =
    let items : List PlainOpenTab = c.self.inside.tabs.items in
    let gap : IsGap c.args.tab (plain_of items) c.in-Err.field-0 = c.in-Err.ensures.place in
    let found = ap (λ live. tab_at c.args.tab live.tabs) (sym c.self.view_is) ∙ found-gap c.args.tab (plain_of items) c.in-Err.field-0 gap in
    subst (λ o. IfSome o HasQueues) (sym found) tt
