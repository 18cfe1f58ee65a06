use Rattle.std.proofs.Common.{◌≡◌, ◌∙◌, ap, arith, map, length}
use Rattle.std.specs.List.{insert}
use Rattle.cookie_jar.specs.Cookie.{PlainJar, copies, keeps_limits}
use Rattle.cookie_jar.specs.Plain.{plain_cookie}
use Rattle.cookie_jar.proofs.CellLemmas.{map-insert, inserted_cell, ok_then}
use Rattle.cookie_jar.proofs.jar.Jar.insert_at.Goals as goal
use Rattle.cookie_jar.proofs.jar.Jar.insert_at.Goals.{Joined-insert}

-- the cookies after the insert, as contracts see them
inserted : (c : Joined-insert) → map plain_cookie c.insert.new.self.items ≡ insert (map plain_cookie c.self.inside.cookies.items) c.args.place (plain_cookie c.args.cookie)
inserted c =
    let room = ap (λ (j : PlainJar). j.spare) c.self.view_is in
    let done = ok_then c.insert.result _ _ _ (c.insert.ensures.succeeds (omega (arith, room, c.requires.room))) c.insert.ensures.items in
    ap (map plain_cookie) done ∙ map-insert plain_cookie _ c.args.place c.args.cookie

pub returns-clause-cookies : goal.returns-clause-cookies
returns-clause-cookies c = inserted c ∙ ap (λ (j : PlainJar). insert j.cookies c.args.place (plain_cookie c.args.cookie)) c.self.view_is

pub invariant_of-self : goal.invariant_of-self
invariant_of-self c =
    let cs = map plain_cookie c.self.inside.cookies.items in
    let new = plain_cookie c.args.cookie in
    let long = ap (λ (j : PlainJar). length j.cookies) c.self.view_is in
    let absent = ap (λ (j : PlainJar). copies new j.cookies) c.self.view_is ∙ c.requires.absent in
    let within = ap (λ (j : PlainJar). keeps_limits j.kind (insert j.cookies c.args.place new)) c.self.view_is ∙ c.requires.limits in
    rw (inserted c, c.counted.ensures, c.borrowed.ensures) (inserted_cell _ _ cs _ _ c.self.invariant (omega (arith, long, c.requires.place)) absent within)
