use Rattle.std.proofs.Common.{◌≤◌, ◌<◌, ◌∙◌, ap, sym, arith, map, length, subst}
use Rattle.std.specs.List.{remove}
use Rattle.std.proofs.lemmas.List.Sums.{get_or-le-sum_by}
use Rattle.cookie_jar.specs.Cookie.{counted, PlainJar}
use Rattle.cookie_jar.specs.Plain.{plain_cookie}
use Rattle.cookie_jar.proofs.CellLemmas.{map-remove, removed_cell, read_at, counted_small}
use Rattle.cookie_jar.proofs.jar.Jar.remove_at.Goals as goal

pub counted-requires : goal.counted-requires
counted-requires c =
    let lt : c.args.place < length (map plain_cookie c.self.inside.cookies.items) = rw (ap (λ (j : PlainJar). length j.cookies) c.self.view_is) c.requires.place in
    let is = c.borrowed.ensures ∙ read_at c.self.inside.cookies.items c.args.place c.remove-gone.result c.remove-gone.ensures.value in
    subst (λ d. counted c.self.inside.kind d ≤ 10240) (sym is) (counted_small _ _ _ _ _ c.self.invariant.within lt)

pub returns-clause-cookies : goal.returns-clause-cookies
returns-clause-cookies c = ap (map plain_cookie) c.remove-gone.ensures.items ∙ map-remove plain_cookie _ c.args.place ∙ ap (λ (j : PlainJar). remove j.cookies c.args.place) c.self.view_is

pub overflow_sub-self-2 : goal.overflow_sub-self-2
overflow_sub-self-2 c =
    let lt : c.args.place < length (map plain_cookie c.self.inside.cookies.items) = rw (ap (λ (j : PlainJar). length j.cookies) c.self.view_is) c.requires.place in
    let is = c.borrowed.ensures ∙ read_at c.self.inside.cookies.items c.args.place c.remove-gone.result c.remove-gone.ensures.value in
    let e = c.counted.ensures ∙ ap (counted c.self.inside.kind) is in
    let le = get_or-le-sum_by (counted c.self.inside.kind) (map plain_cookie c.self.inside.cookies.items) c.args.place (plain_cookie c.remove-gone.result) lt in
    omega (arith, e, le, c.self.invariant.bytes)

pub invariant_of-self : goal.invariant_of-self
invariant_of-self c =
    let lt : c.args.place < length (map plain_cookie c.self.inside.cookies.items) = rw (ap (λ (j : PlainJar). length j.cookies) c.self.view_is) c.requires.place in
    let is = c.borrowed.ensures ∙ read_at c.self.inside.cookies.items c.args.place c.remove-gone.result c.remove-gone.ensures.value in
    let e = c.counted.ensures ∙ ap (counted c.self.inside.kind) is in
    rw (c.remove-gone.ensures.items, map-remove, e) (removed_cell _ _ _ _ _ c.self.invariant lt)
