-- There is room at the site, and the tab is open or room is made for it.
use Rattle.std.proofs.Common.{◌≡◌, ◌-◌, ℕ, Bool, true, false, refl, List, length, map, ap, sym, ◌∙◌, arith}
use Rattle.agent_base.proofs.Logic.{on_err}
use Rattle.std.specs.Prelude.{◌||◌, nat_lt, vec_capacity}
use Rattle.std.proofs.lemmas.Bool.Decides.{nat_tests}
use Rattle.origin_site.specs.Plain.{plain_site}
use Rattle.origin_site.specs.Site.{PlainSite}
use Rattle.live_state.specs.ExistingQueues.{PlainOpenTab, ready_tab}
use Rattle.live_state.specs.SiteTabs.{site_rooms}
use Rattle.live_state.specs.Tabs.{has_site_room, is_open}
use Rattle.live_state.proofs.IndexLemmas.{not-reserved-site, not-reserved-tab, reserved-from, room-seen}
use Rattle.live_state.proofs.SearchLemmas.{plain_of}
use Rattle.live_state.proofs.StepLemmas.{closed-found, open-found}
use Rattle.live_state.proofs.live.Live.reserve.Goals as goal

pub returns-in_err-reserve-clause-kept : goal.returns-in_err-reserve-clause-kept
returns-in_err-reserve-clause-kept c = λ site is.
    room-seen (plain_site site) c.reserve.new.self.numbers.entries
    ∙ c.reserve.ensures.kept site
    (sym (room-seen (plain_site site) c.self.inside.sites.numbers.entries) ∙ ap (has_site_room (plain_site site)) c.self.view_is ∙ is)

pub returns-in_err-reserve-clause-memory : goal.returns-in_err-reserve-clause-memory
returns-in_err-reserve-clause-memory c =
    let site : PlainSite = plain_site c.top_site.result.now in
    on_err c.from_residual.result
    (not-reserved-site c.args.tab c.args.made.now site c.top_site.ensures.site c.args.self.now
    (sym (ap (has_site_room site) c.self.view_is)
    ∙ room-seen site c.self.inside.sites.numbers.entries
    ∙ c.in_err-reserve.ensures.memory))

pub returns-in_err-reserve-2-clause-kept : goal.returns-in_err-reserve-2-clause-kept
returns-in_err-reserve-2-clause-kept c = λ site is.
    room-seen (plain_site site) c.reserve.new.self.numbers.entries
    ∙ c.reserve.ensures.kept site
    (sym (room-seen (plain_site site) c.self.inside.sites.numbers.entries) ∙ ap (has_site_room (plain_site site)) c.self.view_is ∙ is)

pub returns-in_err-reserve-2-clause-memory : goal.returns-in_err-reserve-2-clause-memory
returns-in_err-reserve-2-clause-memory c =
    let items : List PlainOpenTab = c.self.inside.tabs.items in
    let closed : is_open c.args.tab (plain_of items) ≡ false =
    closed-found c.args.tab items c.place_of.result (c.place_of.ensures.place) (sym c.if-is_err.ensures.value) in
    let full : nat_lt 0 c.self.inside.tabs.room ≡ false = ap (nat_lt 0) c.in_err-reserve-2.ensures.memory in
    on_err c.from_residual-in_err-reserve-2.result
    (not-reserved-tab c.args.tab c.args.made.now (plain_site c.top_site.result.now) c.top_site.ensures.site c.args.self.now
    (sym (ap (λ live. is_open c.args.tab live.tabs) c.self.view_is) ∙ closed)
    (sym (ap (λ live. nat_lt 0 live.room) c.self.view_is) ∙ full))

pub returns-in_ok-reserve-2-clause-reserved : goal.returns-in_ok-reserve-2-clause-reserved
returns-in_ok-reserve-2-clause-reserved c =
    let site : PlainSite = plain_site c.top_site.result.now in
    let made = c.reserve-then-is_err.new.self in
    let room : nat_lt 0 made.room ≡ true = grind (arith, nat_tests, c.in_ok-reserve-2.ensures.reserved) in
    reserved-from c.args.tab c.args.made.now site c.top_site.ensures.site
    (record { tabs = plain_of made.items; ready = map ready_tab made.items; room = made.room; sites = site_rooms c.reserve.new.self.numbers.entries })
    (or_right (is_open c.args.tab (plain_of made.items)) (nat_lt 0 made.room) room)
    (room-seen site c.reserve.new.self.numbers.entries ∙ c.in_ok-reserve.ensures.reserved)
  where
    or_right : (a b : Bool) → b ≡ true → (a || b) ≡ true
    or_right true b is = refl
    or_right false b is = is

pub returns-in_ok-reserve-2-clause-open : goal.returns-in_ok-reserve-2-clause-open
returns-in_ok-reserve-2-clause-open c = λ opened.
    let items : List PlainOpenTab = c.self.inside.tabs.items in
    let no : false ≡ true =
    sym (closed-found c.args.tab items c.place_of.result (c.place_of.ensures.place) (sym c.if-is_err.ensures.value))
    ∙ ap (λ live. is_open c.args.tab live.tabs) c.self.view_is
    ∙ opened in absurd (cc no)

pub returns-in_ok-reserve-2-clause-kept : goal.returns-in_ok-reserve-2-clause-kept
returns-in_ok-reserve-2-clause-kept c = λ site is.
    room-seen (plain_site site) c.reserve.new.self.numbers.entries
    ∙ c.reserve.ensures.kept site
    (sym (room-seen (plain_site site) c.self.inside.sites.numbers.entries) ∙ ap (has_site_room (plain_site site)) c.self.view_is ∙ is)

pub returns-else-is_err-clause-reserved : goal.returns-else-is_err-clause-reserved
returns-else-is_err-clause-reserved c =
    let items : List PlainOpenTab = c.self.inside.tabs.items in
    let site : PlainSite = plain_site c.top_site.result.now in
    let opened : is_open c.args.tab (plain_of items) ≡ true =
    open-found c.args.tab items c.place_of.result (c.place_of.ensures.place) (sym c.if-is_err.ensures.value) in
    reserved-from c.args.tab c.args.made.now site c.top_site.ensures.site
    (record { tabs = plain_of items; ready = map ready_tab items; room = c.self.inside.tabs.room; sites = site_rooms c.reserve.new.self.numbers.entries })
    (ap (λ b. b || nat_lt 0 c.self.inside.tabs.room) opened)
    (room-seen site c.reserve.new.self.numbers.entries ∙ c.in_ok-reserve.ensures.reserved)

pub returns-else-is_err-clause-kept : goal.returns-else-is_err-clause-kept
returns-else-is_err-clause-kept c = λ site is.
    room-seen (plain_site site) c.reserve.new.self.numbers.entries
    ∙ c.reserve.ensures.kept site
    (sym (room-seen (plain_site site) c.self.inside.sites.numbers.entries) ∙ ap (has_site_room (plain_site site)) c.self.view_is ∙ is)
