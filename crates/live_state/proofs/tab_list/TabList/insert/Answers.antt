-- The tab is in a slot behind the others, and stands at the place.
use Rattle.std.proofs.Common.{◌≡◌, ◌≤◌, ◌++◌, ◌∷◌, [], ℕ, List, length, ap, sym, subst, ◌∙◌, arith, rules}
use Rattle.std.specs.List.{insert}
use Rattle.std.proofs.lemmas.List.{length-map}
use Rattle.live_state.specs.ExistingQueues.{PlainOpenTab}
use Rattle.live_state.specs.OpenTabs.{in_slots, in_slot}
use Rattle.live_state.proofs.TabListLemmas.{order-inserted, slots-inserted}
use Rattle.live_state.proofs.tab_list.TabList.insert.Goals as goal

pub invariant_of-self : goal.invariant_of-self
invariant_of-self c =
    let order : List ℕ = c.self.inside.order.items in
    let slots : List PlainOpenTab = c.self.inside.slots.items in
    let long : length (in_slots order slots) ≡ length c.args.self.now.items = ap (λ list. length list.items) c.self.view_is in
    let low : c.args.place ≤ length order = subst (λ n. c.args.place ≤ n) (sym long ∙ length-map order (in_slot slots)) c.requires.within in
    let slot : c.len-slot.result ≡ length slots = c.len-slot.ensures ∙ c.self.inside.slots.ok.0 in
    slots-inserted c.self.inside.order c.insert_slot.new.order c.self.inside.slots c.push_tab.new.slots c.self.inside.room c.args.place c.args.opened
    c.self.invariant (search rules) low
    (c.insert_slot.ensures.inserted ∙ ap (insert order c.args.place) slot) c.insert_slot.ensures.capacity c.push_tab.ensures.pushed c.push_tab.ensures.capacity

pub returns-clause-inserted : goal.returns-clause-inserted
returns-clause-inserted c =
    let order : List ℕ = c.self.inside.order.items in
    let slots : List PlainOpenTab = c.self.inside.slots.items in
    let long : length (in_slots order slots) ≡ length c.args.self.now.items = ap (λ list. length list.items) c.self.view_is in
    let low : c.args.place ≤ length order = subst (λ n. c.args.place ≤ n) (sym long ∙ length-map order (in_slot slots)) c.requires.within in
    let slot : c.len-slot.result ≡ length slots = c.len-slot.ensures ∙ c.self.inside.slots.ok.0 in
    ap (λ l. in_slots l c.push_tab.new.slots.items) (c.insert_slot.ensures.inserted ∙ ap (insert order c.args.place) slot)
    ∙ ap (in_slots (insert order c.args.place (length slots))) c.push_tab.ensures.pushed
    ∙ order-inserted slots c.args.opened order c.args.place low c.self.invariant.there
    ∙ ap (λ list. insert list.items c.args.place c.args.opened) c.self.view_is
