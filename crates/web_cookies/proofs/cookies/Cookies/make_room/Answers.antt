-- An empty jar is put where there is none.
use Rattle.std.proofs.Common.{◌≡◌, true, false, ap, sym, subst, ◌∙◌}
use Rattle.std.specs.Prelude.{is_some}
use Rattle.std.proofs.lemmas.Result.{on_ok_weaker, on_err_weaker}
use Rattle.cookie_jar.specs.Key.{plain_key}
use Rattle.web_cookies.specs.Cells.{HaveKinds, cell_order, cookies_at, jar_at, kind_of}
use Rattle.web_cookies.proofs.OrderOfCells.{alike, cell_order_total, order}
use Rattle.key_map.proofs.PlainKeyLemmas.{found-key}
use Rattle.web_cookies.proofs.CellLemmas.{either_way, room_kept, room_same, room_there}
use Rattle.web_cookies.proofs.PreparedLemmas.{kinds_put}
use Rattle.web_cookies.proofs.RowsLemmas.{at_key}
use Rattle.web_cookies.proofs.cookies.Cookies.make_room.Goals as goal

pub returns-then-contains-clause-there : goal.returns-then-contains-clause-there
returns-then-contains-clause-there c = rw (← c.self.view_is)
    (ap is_some (sym (found-key plain_key cell_order cell_order_total order alike c.args.key.now c.self.inside.cells)) ∙ sym c.if-contains.ensures.contains)

pub invariant_of-self-2 : goal.invariant_of-self-2
invariant_of-self-2 c = either_way c.insert.result
    (on_ok_weaker c.insert.result (λ is. subst HaveKinds (sym is)
    (kinds_put c.in_ok-copy.field-0 c.new.result c.self.inside.cells c.self.invariant
    (c.new.ensures.kind ∙ c.requires.kind ∙ ap kind_of (sym c.in_ok-copy.ensures.same)))) c.insert.ensures.inserted)
    (on_err_weaker c.insert.result (λ is. subst HaveKinds (sym is) c.self.invariant) c.insert.ensures.unchanged)

pub returns-clause-same : goal.returns-clause-same
returns-clause-same c = rw (← c.self.view_is) (λ q. either_way c.insert.result
    (on_ok_weaker c.insert.result (λ is. ap (cookies_at q) is
    ∙ room_same c.args.key.now c.in_ok-copy.field-0 c.in_ok-copy.ensures.same c.new.result c.self.inside.cells c.new.ensures.cookies (sym c.if-contains.ensures.contains) q) c.insert.ensures.inserted)
    (on_err_weaker c.insert.result (λ is. ap (cookies_at q) is) c.insert.ensures.unchanged))

pub returns-clause-kept : goal.returns-clause-kept
returns-clause-kept c = rw (← c.self.view_is) (λ q there. either_way c.insert.result
    (on_ok_weaker c.insert.result (λ is. ap (λ es. is_some (jar_at q es)) is
    ∙ room_kept c.args.key.now c.in_ok-copy.field-0 c.in_ok-copy.ensures.same c.new.result c.self.inside.cells q there) c.insert.ensures.inserted)
    (on_err_weaker c.insert.result (λ is. ap (λ es. is_some (jar_at q es)) is ∙ there) c.insert.ensures.unchanged))

pub returns-clause-there : goal.returns-clause-there
returns-clause-there c = on_ok_weaker c.insert.result (λ is. ap (λ es. is_some (jar_at (plain_key c.args.key.now) es)) is
    ∙ room_there c.args.key.now c.in_ok-copy.field-0 c.in_ok-copy.ensures.same c.new.result c.self.inside.cells) c.insert.ensures.inserted

pub returns-in_err-copy-clause-ready : goal.returns-in_err-copy-clause-ready
returns-in_err-copy-clause-ready c = rw (← c.self.view_is) (λ there.
    let no : false ≡ true = c.if-contains.ensures.contains ∙ ap is_some (at_key c.args.key.now c.self.inside.cells) ∙ there in cc)

pub returns-clause-ready : goal.returns-clause-ready
returns-clause-ready c = rw (← c.self.view_is) (λ there.
    let no : false ≡ true = c.if-contains.ensures.contains ∙ ap is_some (at_key c.args.key.now c.self.inside.cells) ∙ there in cc)
