use Rattle.std.proofs.Common.{rules, ◌≡◌, ◌∙◌, ap, length, map, sym, subst, w64, to_z, of_z}
use Rattle.cookie_jar.specs.Cookie.{PlainJar, IsCell}
use Rattle.cookie_jar.specs.Persistent.{persistent_part}
use Rattle.cookie_jar.specs.Sending.{marked}
use Rattle.cookie_jar.specs.Plain.{plain_cookie}
use Rattle.cookie_jar.proofs.MarkLemmas.{kept_marked, mark_leaves, marked_cell}
use Rattle.cookie_jar.proofs.jar.Jar.mark.Goals as goal

pub returns-clause-cookies : goal.returns-clause-cookies
returns-clause-cookies c =
    let xs = c.self.inside.cookies.items in
    let long : c.self.inside.cookies.len ≡ length xs = search (rules, c.deref_mut.ensures.len, c.deref_mut.ensures.value) in
    let e : to_z w64 (of_z w64 c.args.now) ≡ c.args.now = search rules in
    mark_leaves c.self.inside.cookies.len xs c.deref_mut.result.now c.mark_all.new.cookies c.args.places.now _ c.args.now long c.deref_mut.ensures.value e c.mark_all.ensures
    ∙ ap (λ (j : PlainJar). marked c.args.places.now c.args.now j.cookies) c.self.view_is

pub returns-clause-persistent : goal.returns-clause-persistent
returns-clause-persistent c = ap persistent_part (returns-clause-cookies c) ∙ kept_marked c.args.places.now c.args.now c.args.self.now.cookies

pub invariant_of-self : goal.invariant_of-self
invariant_of-self c =
    let xs = c.self.inside.cookies.items in
    let long : c.self.inside.cookies.len ≡ length xs = search (rules, c.deref_mut.ensures.len, c.deref_mut.ensures.value) in
    let e : to_z w64 (of_z w64 c.args.now) ≡ c.args.now = search rules in
    let left = mark_leaves c.self.inside.cookies.len xs c.deref_mut.result.now c.mark_all.new.cookies c.args.places.now _ c.args.now long c.deref_mut.ensures.value e c.mark_all.ensures in
    subst (IsCell c.self.inside.kind c.self.inside.tally) (sym left) (marked_cell c.self.inside.kind c.self.inside.tally c.args.places.now c.args.now (map plain_cookie xs) c.self.invariant)
