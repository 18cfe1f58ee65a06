-- The search of the slots finds the number, or the gap for it.
use Rattle.std.proofs.Common.{◌≡◌, ◌≤◌, List, length, ap, subst, ◌∙◌, rules, MatchResult}
use Rattle.std.proofs.lemmas.Fn.{always_returns_same}
use Rattle.live_state.specs.ExistingQueues.{PlainOpenTab}
use Rattle.live_state.specs.OpenTabs.{PlainTabList, in_slots, in_slot}
use Rattle.live_state.specs.TabPlaces.{IsAt, IsGap}
use Rattle.live_state.specs.Tabs.{is_rising}
use Rattle.live_state.proofs.SearchLemmas.{plain_of}
use Rattle.live_state.proofs.TabListLemmas.{few-tabs, searched-slots}
use Rattle.live_state.proofs.tab_list.TabList.place_of.Goals as goal

pub returns-clause-place : goal.returns-clause-place
returns-clause-place c =
    let slots : List PlainOpenTab = c.as_slice-slots.result.now in
    let facts = c.binary_search_by_key.ensures in
    let seen : in_slots c.deref.result.now slots ≡ c.args.self.now.items =
    ap (λ order. in_slots order slots) c.deref.ensures.value
    ∙ ap (in_slots c.self.inside.order.items) c.as_slice-slots.ensures.value
    ∙ ap (λ list. list.items) c.self.view_is in
    let by_number = facts.position (λ s. (in_slot slots s).plain.number) (always_returns_same _ _ _ (λ a r f called. search rules)) in
    subst (λ ts. MatchResult c.binary_search_by_key.result (IsAt c.args.number (plain_of ts)) (IsGap c.args.number (plain_of ts))) seen
    (searched-slots c.args.number c.deref.result.now slots (ap (λ ts. is_rising (plain_of ts)) seen ∙ c.requires.rising) c.binary_search_by_key.result facts.bound by_number)

pub returns-clause-few : goal.returns-clause-few
returns-clause-few c =
    subst (λ (list : PlainTabList). length list.items ≤ 65536) c.self.view_is
    (few-tabs c.self.inside.order c.self.inside.slots c.self.inside.room c.self.invariant)
