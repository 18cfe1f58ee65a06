use Rattle.std.proofs.Common.{◌≡◌, ◌<◌, ◌∙◌, ap, map, length, get_or, true}
use Rattle.std.specs.Prelude.{slice_set}
use Rattle.std.proofs.lemmas.List.{map-set, get_or_default}
use Rattle.cookie_jar.specs.Cookie.{PlainJar, counted, keeps_limits, same}
use Rattle.cookie_jar.specs.Plain.{plain_cookie}
use Rattle.cookie_jar.proofs.CellLemmas.{read_at, replaced_cell}
use Rattle.cookie_jar.proofs.jar.Jar.replace_at.Goals as goal

pub returns-clause-cookies : goal.returns-clause-cookies
returns-clause-cookies c = map-set plain_cookie _ c.args.place c.args.cookie ∙ ap (λ (j : PlainJar). slice_set j.cookies c.args.place (plain_cookie c.args.cookie)) c.self.view_is

pub invariant_of-self : goal.invariant_of-self
invariant_of-self c =
    let cs = map plain_cookie c.self.inside.cookies.items in
    let new = plain_cookie c.args.cookie in
    let old = plain_cookie c.index.result.now in
    let lt : c.args.place < length cs = rw (ap (λ (j : PlainJar). length j.cookies) c.self.view_is) c.requires.place in
    let is = read_at c.self.inside.cookies.items c.args.place c.index.result.now c.index.ensures in
    let gone = c.counted-old.ensures ∙ ap (counted c.self.inside.kind) (c.borrowed-2.ensures ∙ is) in
    let alike : same new (get_or cs c.args.place old) ≡ true =
    ap (same new) (get_or_default cs c.args.place old new lt) ∙ ap (λ (j : PlainJar). same new (get_or j.cookies c.args.place new)) c.self.view_is ∙ c.requires.same in
    let within = ap (λ (j : PlainJar). keeps_limits j.kind (slice_set j.cookies c.args.place new)) c.self.view_is ∙ c.requires.limits in
    rw (map-set, gone, c.counted-new.ensures, c.borrowed.ensures) (replaced_cell _ _ cs _ _ old c.self.invariant lt alike within)
