-- A jar that is there becomes what the change says, and else nothing has to become different.
use Rattle.std.proofs.Common.{ap, sym, subst, ◌∙◌}
use Rattle.std.specs.Prelude.{is_some}
use Rattle.std.specs.Option.{option_copied_mut}
use Rattle.web_cookies.specs.Cells.{HaveKinds, cookies_at, jar_at}
use Rattle.web_cookies.proofs.ChangeLemmas.{change_none, change_set, kept_set, kind_set}
use Rattle.web_cookies.proofs.PreparedLemmas.{kinds_set}
use Rattle.web_cookies.proofs.cookies.Cookies.change.Goals as goal

pub returns-in_default-clause-changed : goal.returns-in_default-clause-changed
returns-in_default-clause-changed c = rw (← c.self.view_is) (λ ready q.
    ap (cookies_at q) c.get_mut.follows.holds-at-none
    ∙ change_none c.args.key.now c.args.becomes c.self.inside.cells ready
    (sym c.get_mut.ensures.value ∙ ap option_copied_mut c.in_default.is) q)

pub invariant_of-self-2 : goal.invariant_of-self-2
invariant_of-self-2 c =
    let there = sym c.in-Some.ensures.value in
    let is = rw c.in-Some.is at (c.get_mut.follows.holds c.write.new.jar) in
    subst HaveKinds (sym is)
    (kinds_set c.args.key.now c.write.new.jar c.self.inside.cells c.self.invariant
    (kind_set c.args.key.now c.args.becomes c.self.inside.cells c.in-Some.jar.now c.write.new.jar there c.self.invariant c.requires.fits c.write.ensures.kind)
    (ap is_some there))

pub returns-clause-changed : goal.returns-clause-changed
returns-clause-changed c = rw (← c.self.view_is) (λ ready q.
    let is = rw c.in-Some.is at (c.get_mut.follows.holds c.write.new.jar) in
    ap (cookies_at q) is
    ∙ change_set c.args.key.now c.args.becomes c.self.inside.cells c.in-Some.jar.now c.write.new.jar (sym c.in-Some.ensures.value) c.self.invariant c.write.ensures.cookies q)

pub returns-clause-kept : goal.returns-clause-kept
returns-clause-kept c = rw (← c.self.view_is) (λ q has.
    let is = rw c.in-Some.is at (c.get_mut.follows.holds c.write.new.jar) in
    ap (λ es. is_some (jar_at q es)) is
    ∙ kept_set c.args.key.now c.args.becomes c.self.inside.cells c.in-Some.jar.now c.write.new.jar (sym c.in-Some.ensures.value) q has)
