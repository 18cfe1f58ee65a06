use Rattle.std.proofs.Common.{rules, ◌≡◌, ◌∙◌, ap, sym, map, length, arith}
use Rattle.cookie_jar.specs.Steps.{weigh}
use Rattle.cookie_jar.specs.Borrowed.{plain_borrowed}
use Rattle.cookie_jar.specs.Plain.{plain_cookie}
use Rattle.cookie_jar.proofs.RemovalLemmas.{rows_there, rows_last, map_both}
use Rattle.cookie_jar.proofs.steps.weigh_put.Goals as goal
use Rattle.cookie_jar.proofs.steps.weigh_put.Goals.{then-place-len, else-place-len+in_ok-push}

pub returns : goal.returns
returns c =
    let cs = map plain_cookie c.args.cookies.now in
    let f = plain_borrowed c.args.fresh.now in
    let all : c.in_ok-rows.rows.items ≡ map (λ x. weigh c.args.kind c.args.now (plain_cookie x)) c.args.cookies.now = search (rules, c.in_ok-rows.ensures) in
    let rows : c.in_ok-rows.rows.items ≡ map (weigh c.args.kind c.args.now) cs = all ∙ sym (map_both plain_cookie (weigh c.args.kind c.args.now) c.args.cookies.now) in
    let row : c.weigh-row.result ≡ weigh c.args.kind c.args.now f = search (rules, c.weigh-row.ensures) in
    elim c.if-place-len.branch [
      | then-place-len w ↦ rw (w.rows-is, rows, row) (rows_there c.args.kind c.args.now f cs c.args.place c.requires.place (omega (arith, w.if-place-len.true, c.len.ensures, ap length rows)))
      | else-place-len+in_ok-push w ↦ rw (w.rows-is, w.in_ok-push.ensures.items, rows, row) (rows_last c.args.kind c.args.now f cs c.args.place c.requires.place (omega (arith, w.if-place-len.false, c.len.ensures, ap length rows)))
    ]
