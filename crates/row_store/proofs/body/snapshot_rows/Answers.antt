use Rattle.row_store.proofs.WrittenLemmas.{listed_kept}
use Rattle.row_store.proofs.body.snapshot_rows.Goals as goal

pub returns : goal.returns
returns c = record {
  rows = listed_kept c.args.storage.now c.args.cookies.now c.args.grants.now _ _ c.new.ensures.items
      c.in_ok-push_all.ensures.pushed;
}
