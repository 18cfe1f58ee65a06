use Rattle.cookie_jar.specs.Key.{plain_key as plain_cell}
use Rattle.cookie_jar.specs.Plain.{plain_cookie}
use Rattle.std.proofs.lemmas.Result.{on_ok_weaker}
use Rattle.row_changes.specs.Spelling.{cell_bytes, cookie_bytes}
use Rattle.row_changes.proofs.WritingLemmas.{placed_joined}
use Rattle.row_changes.proofs.writing.put_change.Goals as goal

pub returns-in_ok-put_placed-in-CookieInsert-clause-bytes : goal.returns-in_ok-put_placed-in-CookieInsert-clause-bytes
returns-in_ok-put_placed-in-CookieInsert-clause-bytes c =
    let put = c.in-CookieInsert in
    rw put.is
    (on_ok_weaker c.put_cookie.result
    (λ last. placed_joined c.args.out.now.items c.put_placed.new.out.items c.put_cookie.new.out.items (cell_bytes (plain_cell put.cell.now)) (cookie_bytes (plain_cookie put.cookie.now)) 5 put.place
    c.in_ok-put_placed-in-CookieInsert.ensures.bytes last)
    c.put_cookie.ensures.bytes)

pub returns-in_ok-put_placed-in-CookieReplace-clause-bytes : goal.returns-in_ok-put_placed-in-CookieReplace-clause-bytes
returns-in_ok-put_placed-in-CookieReplace-clause-bytes c =
    let put = c.in-CookieReplace in
    rw put.is
    (on_ok_weaker c.put_cookie-in-CookieReplace.result
    (λ last. placed_joined c.args.out.now.items c.put_placed-in-CookieReplace.new.out.items c.put_cookie-in-CookieReplace.new.out.items (cell_bytes (plain_cell put.cell.now))
    (cookie_bytes (plain_cookie put.cookie.now)) 6 put.place c.in_ok-put_placed-in-CookieReplace.ensures.bytes last)
    c.put_cookie-in-CookieReplace.ensures.bytes)
