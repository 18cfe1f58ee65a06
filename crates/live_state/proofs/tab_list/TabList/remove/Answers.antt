-- The tab in the last slot is found by its number, and is in the slot of the tab that went.
use Rattle.std.proofs.Common.{◌≡◌, ◌<◌, ◌+◌, ◌-◌, ℕ, true, List, length, get_or, refl, ap, sym, subst, ◌∙◌, arith, rules, MatchResult}
use Rattle.std.specs.Prelude.{◌≢◌}
use Rattle.std.specs.List.{remove}
use Rattle.std.specs.List.Sorted.{IsSearchInRange}
use Rattle.std.proofs.lemmas.List.{get_or_default, length-map}
use Rattle.live_state.specs.ExistingQueues.{PlainOpenTab}
use Rattle.live_state.specs.OpenTabs.{in_slots, in_slot, no_tab, renamed}
use Rattle.live_state.specs.TabPlaces.{IsAt, IsGap}
use Rattle.live_state.specs.Tabs.{is_rising}
use Rattle.live_state.proofs.SearchLemmas.{plain_of}
use Rattle.live_state.proofs.TabListLemmas.{last-only, order-removed, slots-removed}
use Rattle.live_state.proofs.tab_list.TabList.remove.Goals as goal

pub rename_slot-requires-clause-only : goal.rename_slot-requires-clause-only
rename_slot-requires-clause-only c = λ k low own.
    let order : List ℕ = c.self.inside.order.items in
    let slots : List PlainOpenTab = c.self.inside.slots.items in
    let long : length (in_slots order slots) ≡ length c.args.self.now.items = ap (λ list. length list.items) c.self.view_is in
    let within : c.args.place < length order = subst (λ n. c.args.place < n) (sym long ∙ length-map order (in_slot slots)) c.requires.within in
    let rising : is_rising (plain_of (in_slots order slots)) ≡ true = ap (λ list. is_rising (plain_of list.items)) c.self.view_is ∙ c.requires.rising in
    let there : get_or order c.args.place 0 < length slots = c.self.invariant.there c.args.place 0 within in
    let count : c.len.result ≡ length slots = c.len.ensures ∙ c.self.inside.slots.ok.0 in
    let n : ℕ = c.number.result in
    let r = c.place_of-last_at.result in
    let back = ap (λ list. list.items) (sym c.self.view_is) in
    last-only order slots rising (c.len.result - 1) n c.index.result.now r (omega arith) (search rules) c.number.ensures.number
    (subst (λ ts. MatchResult r (IsAt n (plain_of ts)) (IsGap n (plain_of ts))) back c.place_of-last_at.ensures.place)
    (subst (λ (ts : List PlainOpenTab). IsSearchInRange r (length ts)) back c.place_of-last_at.ensures.fits)
    k (subst (λ n. k < n) c.self.inside.order.ok.0 low) own

pub invariant_of-self : goal.invariant_of-self
invariant_of-self c =
    let order : List ℕ = c.self.inside.order.items in
    let slots : List PlainOpenTab = c.self.inside.slots.items in
    let long : length (in_slots order slots) ≡ length c.args.self.now.items = ap (λ list. length list.items) c.self.view_is in
    let within : c.args.place < length order = subst (λ n. c.args.place < n) (sym long ∙ length-map order (in_slot slots)) c.requires.within in
    let rising : is_rising (plain_of (in_slots order slots)) ≡ true = ap (λ list. is_rising (plain_of list.items)) c.self.view_is ∙ c.requires.rising in
    let there : get_or order c.args.place 0 < length slots = c.self.invariant.there c.args.place 0 within in
    let count : c.len.result ≡ length slots = c.len.ensures ∙ c.self.inside.slots.ok.0 in
    let last : ℕ = c.len.result - 1 in
    let ends : c.len.result - 1 + 1 ≡ length slots = omega arith in
    let read : c.index-slot.result.now ≡ get_or order c.args.place c.index-slot.result.now = search rules in
    let slot : c.index-slot.result.now ≡ get_or order c.args.place 0 = read ∙ get_or_default order c.args.place c.index-slot.result.now 0 within in
    let same : c.from-2.result ≡ c.index-slot.result.now = search rules in
    let index : c.from-2.result ≡ get_or order c.args.place 0 = same ∙ slot in
    let filled : get_or order c.args.place 0 < last → get_or c.swap_remove.new.self.items (get_or order c.args.place 0) no_tab ≡ get_or slots last no_tab =
    λ less.
    ap (λ s. get_or c.swap_remove.new.self.items s no_tab) (sym index)
    ∙ c.swap_remove.ensures.by_index.0 no_tab (let counted = c.len.ensures in omega arith)
    ∙ ap (λ n. get_or slots (n - 1) no_tab) (sym c.len.ensures) in
    let others : (k : ℕ) → k ≢ get_or order c.args.place 0 → k < last → get_or c.swap_remove.new.self.items k no_tab ≡ get_or slots k no_tab =
    λ k differ less.
    c.swap_remove.ensures.by_index.1 k no_tab (λ same. differ (same ∙ index)) (let counted = c.len.ensures in omega arith) in
    let removed : c.remove.new.self.items ≡ remove (renamed last (get_or order c.args.place 0) order) c.args.place =
    c.remove.ensures.items ∙ ap (λ l. remove l c.args.place) (c.rename_slot.ensures.renamed ∙ ap (λ s. renamed last s order) slot) in
    let less : length c.swap_remove.new.self.items ≡ last =
    (let more = c.swap_remove.ensures.len in let was = c.len.ensures in let is = c.swap_remove.new.self.ok.0 in omega arith) in
    slots-removed order slots c.swap_remove.new.self.items c.args.place last rising within c.self.invariant.each c.self.invariant.there ends filled others
    c.self.inside.order c.remove.new.self c.self.inside.slots c.swap_remove.new.self c.self.inside.room c.self.invariant refl refl
    removed (c.remove.ensures.capacity ∙ c.rename_slot.ensures.capacity) less c.swap_remove.ensures.capacity

pub returns-clause-removed : goal.returns-clause-removed
returns-clause-removed c =
    let order : List ℕ = c.self.inside.order.items in
    let slots : List PlainOpenTab = c.self.inside.slots.items in
    let long : length (in_slots order slots) ≡ length c.args.self.now.items = ap (λ list. length list.items) c.self.view_is in
    let within : c.args.place < length order = subst (λ n. c.args.place < n) (sym long ∙ length-map order (in_slot slots)) c.requires.within in
    let rising : is_rising (plain_of (in_slots order slots)) ≡ true = ap (λ list. is_rising (plain_of list.items)) c.self.view_is ∙ c.requires.rising in
    let there : get_or order c.args.place 0 < length slots = c.self.invariant.there c.args.place 0 within in
    let count : c.len.result ≡ length slots = c.len.ensures ∙ c.self.inside.slots.ok.0 in
    let last : ℕ = c.len.result - 1 in
    let ends : c.len.result - 1 + 1 ≡ length slots = omega arith in
    let read : c.index-slot.result.now ≡ get_or order c.args.place c.index-slot.result.now = search rules in
    let slot : c.index-slot.result.now ≡ get_or order c.args.place 0 = read ∙ get_or_default order c.args.place c.index-slot.result.now 0 within in
    let same : c.from-2.result ≡ c.index-slot.result.now = search rules in
    let index : c.from-2.result ≡ get_or order c.args.place 0 = same ∙ slot in
    let filled : get_or order c.args.place 0 < last → get_or c.swap_remove.new.self.items (get_or order c.args.place 0) no_tab ≡ get_or slots last no_tab =
    λ less.
    ap (λ s. get_or c.swap_remove.new.self.items s no_tab) (sym index)
    ∙ c.swap_remove.ensures.by_index.0 no_tab (let counted = c.len.ensures in omega arith)
    ∙ ap (λ n. get_or slots (n - 1) no_tab) (sym c.len.ensures) in
    let others : (k : ℕ) → k ≢ get_or order c.args.place 0 → k < last → get_or c.swap_remove.new.self.items k no_tab ≡ get_or slots k no_tab =
    λ k differ less.
    c.swap_remove.ensures.by_index.1 k no_tab (λ same. differ (same ∙ index)) (let counted = c.len.ensures in omega arith) in
    let removed : c.remove.new.self.items ≡ remove (renamed last (get_or order c.args.place 0) order) c.args.place =
    c.remove.ensures.items ∙ ap (λ l. remove l c.args.place) (c.rename_slot.ensures.renamed ∙ ap (λ s. renamed last s order) slot) in
    ap (λ l. in_slots l c.swap_remove.new.self.items) removed
    ∙ order-removed order slots c.swap_remove.new.self.items c.args.place last rising within c.self.invariant.each c.self.invariant.there ends filled others
    ∙ ap (λ list. remove list.items c.args.place) c.self.view_is
