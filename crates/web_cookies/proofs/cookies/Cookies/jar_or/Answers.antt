-- The jar of the key, or one that is empty and of the key's kind.
use Rattle.std.proofs.Common.{ap, ◌∙◌}
use Rattle.cookie_jar.specs.Key.{plain_key}
use Rattle.web_cookies.specs.Cells.{cell_order}
use Rattle.web_cookies.proofs.OrderOfCells.{alike, cell_order_total, order}
use Rattle.key_map.proofs.PlainKeyLemmas.{found-key}
use Rattle.web_cookies.proofs.CellLemmas.{jar_kind, jar_cookies}
use Rattle.web_cookies.proofs.cookies.Cookies.jar_or.Goals as goal

pub returns-clause-kind : goal.returns-clause-kind
returns-clause-kind c =
    ap (λ jar. jar.now.kind) c.unwrap_or.ensures
    ∙ jar_kind c.get.result c.args.other _ _
    (c.get.ensures.value ∙ found-key plain_key cell_order cell_order_total order alike c.args.key.now c.self.inside.cells)
    (c.self.invariant (plain_key c.args.key.now)) c.requires.kind

pub returns-clause-cookies : goal.returns-clause-cookies
returns-clause-cookies c = rw (← c.self.view_is)
    (ap (λ jar. jar.now.cookies) c.unwrap_or.ensures
    ∙ jar_cookies c.get.result c.args.other _
    (c.get.ensures.value ∙ found-key plain_key cell_order cell_order_total order alike c.args.key.now c.self.inside.cells)
    c.requires.empty)
