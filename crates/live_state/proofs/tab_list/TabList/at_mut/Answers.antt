-- A write to the slot is a write at its place.
use Rattle.std.proofs.Common.{◌≡◌, ◌<◌, ℕ, true, List, length, get_or, set, refl, ap, sym, subst, ◌∙◌, arith, rules}
use Rattle.std.proofs.lemmas.List.{get_or_default, length-map}
use Rattle.live_state.specs.ExistingQueues.{PlainOpenTab}
use Rattle.live_state.specs.OpenTabs.{in_slots, in_slot, no_tab}
use Rattle.live_state.specs.TabLists.{with_open_tab}
use Rattle.live_state.specs.Tabs.{is_rising}
use Rattle.live_state.proofs.SearchLemmas.{plain_of}
use Rattle.live_state.proofs.TabListLemmas.{list_of, order-at, order-set}
use Rattle.live_state.proofs.tab_list.TabList.at_mut.Goals as goal

pub returns : goal.returns
returns c =
    let order : List ℕ = c.self.inside.order.items in
    let slots : List PlainOpenTab = c.self.inside.slots.items in
    let rising : is_rising (plain_of (in_slots order slots)) ≡ true = ap (λ list. is_rising (plain_of list.items)) c.self.view_is ∙ c.requires.rising in
    let long : length (in_slots order slots) ≡ length c.args.self.now.items = ap (λ list. length list.items) c.self.view_is in
    let within : c.args.place < length order = subst (λ n. c.args.place < n) (sym long ∙ length-map order (in_slot slots)) c.requires.within in
    let read : c.index.result.now ≡ get_or order c.args.place c.index.result.now = search rules in
    let same : c.from-slot.result ≡ c.index.result.now = search rules in
    let slot : c.from-slot.result ≡ get_or order c.args.place 0 = same ∙ read ∙ get_or_default order c.args.place c.index.result.now 0 within in
    let there : get_or order c.args.place 0 < length slots = c.self.invariant.there c.args.place 0 within in (
      (
        refl,
        λ w.
            ap (λ s. list_of c.self.inside.room (in_slots order (set slots s w))) slot
            ∙ ap (list_of c.self.inside.room) (order-set order slots rising c.args.place w within there)
            ∙ ap (λ list. with_open_tab list c.args.place w) c.self.view_is,
      ),
      record {
        writes_back = tt;
        value =
            c.index_mut.ensures.value
            ∙ ap (λ s. get_or slots s c.index_mut.result.now) slot
            ∙ get_or_default slots (get_or order c.args.place 0) c.index_mut.result.now no_tab there
            ∙ sym (order-at order slots c.args.place c.index_mut.result.now within)
            ∙ ap (λ list. get_or list.items c.args.place c.index_mut.result.now) c.self.view_is;
      },
    )
