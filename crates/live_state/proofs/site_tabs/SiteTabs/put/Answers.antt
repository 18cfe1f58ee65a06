-- The list of the site has the number.
use Rattle.std.proofs.Common.{ap, ◌∙◌, sym, Some}
use Rattle.live_state.specs.SiteTabs.{numbers_of, with_number}
use Rattle.live_state.proofs.SiteTabsLemmas.{listed-updated, write-updates}
use Rattle.live_state.proofs.site_tabs.SiteTabs.put.Goals as goal

pub returns-in-Some : goal.returns-in-Some
returns-in-Some c =
    let w = c.insert_number.new.numbers in
    let updates = write-updates c.args.site.now c.args.self.now.numbers (c.get_mut.follows.lender w) c.in-Some.numbers.now w
    (sym c.in-Some.ensures.value) (c.get_mut.follows.holds w) in record {
      put = λ other.
          listed-updated c.args.site.now c.args.self.now.numbers (c.get_mut.follows.lender w) (Some w) updates (with_number c.args.number)
          (c.insert_number.ensures.inserted ∙ ap (λ o. with_number c.args.number (numbers_of o)) c.in-Some.ensures.value) other;
    }
