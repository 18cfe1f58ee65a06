use Rattle.std.proofs.Common.{◌∙◌, ap}
use Rattle.std.proofs.lemmas.Result.{IfOk-weaker}
use Rattle.row_changes.specs.Body.{rows_bytes}
use Rattle.row_store.proofs.PushedLemmas.{all_listed}
use Rattle.row_store.proofs.parts.Parts.snapshot.Goals as goal

pub returns : goal.returns
returns c = record {
  bytes =
      IfOk-weaker c.write_body.result _ _ (λ body written.
      written.bytes ∙ ap rows_bytes (all_listed c.args.self.now.storage c.args.self.now.cookies c.args.self.now.grants))
      c.write_body.ensures.written;
}
