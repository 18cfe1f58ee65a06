-- The site has an entry, with room for one number.
use Rattle.std.proofs.Common.{◌≡◌, [], ap, sym, ◌∙◌, true, Some, length, arith}
use Rattle.std.specs.Prelude.{nat_lt, vec_capacity}
use Rattle.std.proofs.lemmas.Bool.Decides.{nat_tests}
use Rattle.live_state.specs.SiteTabs.{has_room, listed_at}
use Rattle.live_state.proofs.SiteTabsLemmas.{listed-same, room-here}
use Rattle.live_state.proofs.site_tabs.SiteTabs.add_site.Goals as goal

pub returns-in-Ok-clause-reserved : goal.returns-in-Ok-clause-reserved
returns-in-Ok-clause-reserved c =
    let made = c.reserve.new.self in
    let none : made.items ≡ [] = c.reserve.ensures.items ∙ c.new-numbers.ensures.items in
    let room : nat_lt (length made.items) (vec_capacity made) ≡ true = grind (arith, nat_tests) in
    ap (λ s. has_room s c.insert.new.self) (sym c.in_ok-copy.ensures.same)
    ∙ room-here c.in_ok-copy.field-0 c.args.self.now.numbers c.insert.new.self (Some made) c.in-Ok.ensures.updates room

pub returns-in-Ok-clause-same : goal.returns-in-Ok-clause-same
returns-in-Ok-clause-same c = λ other.
    let made = c.reserve.new.self in
    let none : made.items ≡ [] = c.reserve.ensures.items ∙ c.new-numbers.ensures.items in
    listed-same c.in_ok-copy.field-0 c.args.self.now.numbers c.insert.new.self (Some made) c.in-Ok.ensures.updates
    (none ∙ sym c.requires.absent ∙ ap (λ s. listed_at s c.args.self.now.numbers) (sym c.in_ok-copy.ensures.same)) other
