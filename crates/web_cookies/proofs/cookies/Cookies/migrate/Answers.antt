-- The cells stay that the list has.
use Rattle.std.proofs.Common.{◌∙◌, ap, not, rules, subst, sym}
use Rattle.web_cookies.specs.Cells.{HaveKinds}
use Rattle.web_cookies.specs.Stored.{partitioned_in, shared_in}
use Rattle.web_cookies.proofs.MigrateLemmas.{all_stay_by, kinds_left, partitioned_left, shared_left, test}
use Rattle.web_cookies.proofs.cookies.Cookies.migrate.Goals as goal

pub invariant_of-self : goal.invariant_of-self
invariant_of-self c =
    subst HaveKinds (sym (c.retain.ensures.retained (test c.args.list.now.rules) (λ key jar told says. search rules)))
    (kinds_left c.args.list.now.rules c.self.inside.cells c.retain.ensures.ordered c.self.invariant)

pub returns-clause-shared : goal.returns-clause-shared
returns-clause-shared c = rw (← c.self.view_is)
    (ap shared_in (c.retain.ensures.retained (test c.args.list.now.rules) (λ key jar told says. search rules))
    ∙ shared_left c.args.list.now.rules c.self.inside.cells c.retain.ensures.ordered)

pub returns-clause-partitioned : goal.returns-clause-partitioned
returns-clause-partitioned c = rw (← c.self.view_is)
    (ap partitioned_in (c.retain.ensures.retained (test c.args.list.now.rules) (λ key jar told says. search rules))
    ∙ partitioned_left c.args.list.now.rules c.self.inside.cells c.retain.ensures.ordered)

pub returns-clause-went : goal.returns-clause-went
returns-clause-went c = rw (← c.self.view_is)
    (c.retain.ensures.went (test c.args.list.now.rules) (λ key jar told says. search rules)
    ∙ ap not (all_stay_by c.args.list.now.rules c.self.inside.cells c.retain.ensures.ordered))
