-- The lists stay, and none has less room.
use Rattle.std.proofs.Common.{ap, ◌∙◌, sym, Some, length}
use Rattle.std.specs.Prelude.{nat_lt, vec_capacity}
use Rattle.live_state.specs.SiteTabs.{takes_one}
use Rattle.live_state.proofs.SiteTabsLemmas.{listed-written, room-stays, write-updates}
use Rattle.live_state.proofs.site_tabs.SiteTabs.reserve.Goals as goal

pub returns-in_err-reserve-in-Some-clause-same : goal.returns-in_err-reserve-in-Some-clause-same
returns-in_err-reserve-in-Some-clause-same c =
    listed-written c.args.site.now c.args.self.now.numbers (c.get_mut.follows.lender c.reserve.new.self) c.in-Some.numbers.now c.reserve.new.self
    (sym c.in-Some.ensures.value) (c.get_mut.follows.holds c.reserve.new.self) c.reserve.ensures.items

pub returns-in_err-reserve-in-Some-clause-kept : goal.returns-in_err-reserve-in-Some-clause-kept
returns-in_err-reserve-in-Some-clause-kept c = λ other is.
    let v = c.in-Some.numbers.now in
    let w = c.reserve.new.self in
    let updates = write-updates c.args.site.now c.args.self.now.numbers (c.get_mut.follows.lender w) v w
    (sym c.in-Some.ensures.value) (c.get_mut.follows.holds w) in
    room-stays c.args.site.now c.args.self.now.numbers (c.get_mut.follows.lender w) (Some w) updates
    (λ was. ap (λ items. nat_lt (length items) (vec_capacity w)) c.reserve.ensures.items
    ∙ ap (nat_lt (length v.items)) c.in_err-reserve-in-Some.ensures.err
    ∙ ap takes_one c.in-Some.ensures.value
    ∙ was) other is

pub returns-in_ok-reserve-in-Some-clause-same : goal.returns-in_ok-reserve-in-Some-clause-same
returns-in_ok-reserve-in-Some-clause-same c =
    listed-written c.args.site.now c.args.self.now.numbers (c.get_mut.follows.lender c.reserve.new.self) c.in-Some.numbers.now c.reserve.new.self
    (sym c.in-Some.ensures.value) (c.get_mut.follows.holds c.reserve.new.self) c.reserve.ensures.items
