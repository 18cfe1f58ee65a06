-- The list of the site is without the number.
use Rattle.std.proofs.Common.{ap, ◌∙◌, sym, not, Some, rules}
use Rattle.std.specs.Prelude.{◌==◌}
use Rattle.std.proofs.lemmas.Fn.{filter_same}
use Rattle.live_state.specs.SiteTabs.{numbers_of, without_number}
use Rattle.live_state.proofs.SiteTabsLemmas.{listed-updated, room-apart, write-updates}
use Rattle.live_state.proofs.site_tabs.SiteTabs.is_emptied.Goals as goal

pub returns-in-Some-clause-dropped : goal.returns-in-Some-clause-dropped
returns-in-Some-clause-dropped c = λ other.
    let w = c.retain.new.self in
    let updates = write-updates c.args.site.now c.args.self.now.numbers (c.get_mut.follows.lender w) c.in-Some.numbers.now w
    (sym c.in-Some.ensures.value) (c.get_mut.follows.holds w) in
    listed-updated c.args.site.now c.args.self.now.numbers (c.get_mut.follows.lender w) (Some w) updates (without_number c.args.number)
    (filter_same _ (λ n. not (n == c.args.number)) _ (λ x b f' k. search rules) _ _ c.retain.ensures.filtered
    ∙ ap (λ o. without_number c.args.number (numbers_of o)) c.in-Some.ensures.value) other

pub returns-in-Some-clause-kept : goal.returns-in-Some-clause-kept
returns-in-Some-clause-kept c = λ other apart.
    let w = c.retain.new.self in
    let updates = write-updates c.args.site.now c.args.self.now.numbers (c.get_mut.follows.lender w) c.in-Some.numbers.now w
    (sym c.in-Some.ensures.value) (c.get_mut.follows.holds w) in
    room-apart c.args.site.now c.args.self.now.numbers (c.get_mut.follows.lender w) (Some w) updates other apart
