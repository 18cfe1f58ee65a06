use Rattle.std.proofs.Common.{◌∷◌, [], ◌++◌, ◌∙◌, ap, sym, take}
use Rattle.std.proofs.lemmas.List.{take_more}
use Rattle.access_grants.specs.Plain.{plain_grant}
use Rattle.row_changes.specs.Change.{Grant}
use Rattle.row_store.proofs.PushedLemmas.{row_more}
use Rattle.row_store.proofs.listing.push_grants.Goals as goal

pub loop-row-init : goal.loop-row-init
loop-row-init g c = g.met.S.RowSink.none _

pub loop-row-preserved : goal.loop-row-preserved
loop-row-preserved g c =
    let grants = c.args.grants.now in
    let index = c.loop-row.row-index in
    row_more g.S.RowSink.adds g.met.S.RowSink.then (λ row. Grant (plain_grant row)) grants index c.row-item.result _ _ _
    (take_more grants index c.row-item.result c.loop-row-test.true ∙ ap (λ x. take index grants ++ x ∷ []) (sym c.row-item.is))
    c.loop-row.invariant c.in_ok-add.ensures.added
