-- The cookie at the place is the same one, and another stands there within the limits.
use Rattle.std.proofs.Common.{◌+◌, ◌-◌, arith, sym, ◌∙◌}
use Rattle.partition_limits.specs.Limits.{fits}
use Rattle.cookie_jar.specs.Plain.{plain_cookie}
use Rattle.web_cookies.proofs.LimitLemmas.{counted_there, replace_other, replace_valid}
use Rattle.web_cookies.proofs.rows.may_replace.Goals as goal

pub returns-then-not-is_same : goal.returns-then-not-is_same
returns-then-not-is_same c =
    let jar = c.args.jar.now in
    replace_other jar.kind jar.cookies c.args.place (plain_cookie c.args.cookie.now) (plain_cookie c.in-Some.old.now) (sym c.in-Some.ensures.value)
    (sym c.is_same.ensures ∙ c.if-not-is_same.true)

pub overflow_sub-bytes : goal.overflow_sub-bytes
overflow_sub-bytes c =
    let jar = c.args.jar.now in
    let le = counted_there jar.kind jar.cookies c.args.place (plain_cookie c.args.cookie.now) (plain_cookie c.in-Some.old.now) (sym c.in-Some.ensures.value) in
    omega (arith, le, c.counted.ensures.value, c.bytes_of.ensures.value)

pub returns : goal.returns
returns c =
    let jar = c.args.jar.now in
    replace_valid jar.kind jar.cookies c.args.place (plain_cookie c.args.cookie.now) (plain_cookie c.in-Some.old.now) (sym c.in-Some.ensures.value)
    c.fits.result (sym c.is_same.ensures ∙ c.if-not-is_same.false)
    (c.fits.ensures
    ∙ (λ i. fits jar.kind (c.len.ensures.value i) (c.bytes_of.ensures.value i - c.counted.ensures.value i + c.counted-2.ensures.value i)))
