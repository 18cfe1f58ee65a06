use Rattle.std.proofs.Common.{◌++◌, ◌∙◌, ap, map}
use Rattle.row_changes.specs.Plain.{plain_change}
use Rattle.row_store.specs.Pushed.{all_rows}
use Rattle.row_store.specs.declared.which.Which.TheVariants as which
use Rattle.row_store.proofs.PushedLemmas.{all_listed}
use Rattle.row_store.proofs.parts.Parts.listing.Goals as goal

pub returns : goal.returns
returns c =
    let parts = c.args.self.now in
    record {
      rows =
          c.in_ok-push_all.ensures.pushed
          ∙ ap (λ items. map plain_change items ++ all_rows which.All parts.storage parts.cookies
          parts.grants) c.new-rows.ensures.items
          ∙ all_listed parts.storage parts.cookies parts.grants;
    }
