use Rattle.std.proofs.lemmas.Result.{IfOk-weaker}
use Rattle.row_store.proofs.WrittenLemmas.{body_kept}
use Rattle.row_store.proofs.body.snapshot.Goals as goal

pub returns-clause-bytes : goal.returns-clause-bytes
returns-clause-bytes c =
    IfOk-weaker c.write_body.result _ _ (λ body written.
    (body_kept c.args.storage.now c.args.cookies.now c.args.grants.now body.items written).bytes)
    c.write_body.ensures.written

pub returns-clause-texts : goal.returns-clause-texts
returns-clause-texts c =
    IfOk-weaker c.write_body.result _ _ (λ body written.
    (body_kept c.args.storage.now c.args.cookies.now c.args.grants.now body.items written).texts)
    c.write_body.ensures.written
