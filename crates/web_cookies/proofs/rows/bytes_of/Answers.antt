-- What counts up to each place is no more than what counts in the whole jar.
use Rattle.std.proofs.Common.{add-one, arith}
use Rattle.cookie_jar.specs.Cookie.{counted}
use Rattle.web_cookies.proofs.LimitLemmas.{light, sum_below, sum_more}
use Rattle.web_cookies.proofs.rows.bytes_of.Goals as goal

pub overflow_add-bytes : goal.overflow_add-bytes
overflow_add-bytes c =
    let jar = c.args.jar.now in
    let below = sum_below (counted jar.kind) jar.cookies c.loop-place.place in
    let all = light jar.kind jar.cookies c.len-place-end.ensures.within in
    omega (arith, below, all, c.loop-place.invariant, c.counted_at-bytes.ensures)

pub loop-place-preserved : goal.loop-place-preserved
loop-place-preserved c =
    let jar = c.args.jar.now in
    let more = sum_more (counted jar.kind) jar.cookies c.loop-place.place in
    rw add-one (omega (arith, more, c.loop-place.invariant, c.counted_at-bytes.ensures))

pub returns-clause-small : goal.returns-clause-small
returns-clause-small c =
    let jar = c.args.jar.now in
    let below = sum_below (counted jar.kind) jar.cookies c.loop-place.place in
    let all = light jar.kind jar.cookies c.len-place-end.ensures.within in
    omega (arith, below, all, c.loop-place.invariant)
