-- A key has what its plain key has.
use Rattle.std.proofs.Common.{◌∙◌}
use Rattle.cookie_jar.specs.Key.{plain_key}
use Rattle.web_cookies.specs.Cells.{cell_order}
use Rattle.web_cookies.proofs.OrderOfCells.{alike, cell_order_total, order}
use Rattle.key_map.proofs.PlainKeyLemmas.{found-key}
use Rattle.web_cookies.proofs.RowsLemmas.{lent_cookies, lent_kind}
use Rattle.web_cookies.proofs.cookies.Cookies.jar.Goals as goal

pub returns-clause-cookies : goal.returns-clause-cookies
returns-clause-cookies c = rw (← c.self.view_is)
    (lent_cookies c.get.result _
    (c.get.ensures.value ∙ found-key plain_key cell_order cell_order_total order alike c.args.cell.now c.self.inside.cells))

pub returns-clause-kind : goal.returns-clause-kind
returns-clause-kind c =
    lent_kind c.get.result _ _
    (c.get.ensures.value ∙ found-key plain_key cell_order cell_order_total order alike c.args.cell.now c.self.inside.cells)
    (c.self.invariant (plain_key c.args.cell.now))
