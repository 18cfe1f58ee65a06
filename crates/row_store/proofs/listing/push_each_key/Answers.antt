use Rattle.std.proofs.Common.{◌∷◌, [], ◌++◌, ◌∙◌, ap, sym, take}
use Rattle.std.proofs.lemmas.List.{take_more}
use Rattle.storage_key.specs.Plain.{plain_key}
use Rattle.row_store.specs.Pushed.{key_rows_in}
use Rattle.row_store.proofs.PushedLemmas.{item_more}
use Rattle.row_store.proofs.listing.push_each_key.Goals as goal

pub loop-key-init : goal.loop-key-init
loop-key-init g c = g.met.S.RowSink.none _

pub loop-key-preserved : goal.loop-key-preserved
loop-key-preserved g c =
    let keys = c.args.keys.now in
    let index = c.loop-key.key-index in
    item_more g.S.RowSink.adds g.met.S.RowSink.then (key_rows_in c.args.storage.now) plain_key keys index c.key-item.result _ _ _
    (take_more keys index c.key-item.result c.loop-key-test.true ∙ ap (λ x. take index keys ++ x ∷ []) (sym c.key-item.is))
    c.loop-key.invariant c.in_ok-push_key.ensures.pushed
