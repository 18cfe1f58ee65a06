-- The keys of the entries that are found.
use Rattle.std.proofs.Common.{◌∙◌, ap, map}
use Rattle.std.specs.Map.{keys_of}
use Rattle.std.proofs.lemmas.Result.{IfOk-weaker}
use Rattle.origin_site.specs.Plain.{plain_site}
use Rattle.storage_key.specs.Plain.{plain_key}
use Rattle.agent_model.specs.Partition.{is_under}
use Rattle.web_storage.proofs.RisingLemmas.{are_under}
use Rattle.web_storage.proofs.UnderLemmas.{plain_kept}
use Rattle.web_storage.proofs.under.keys_under.Goals as goal

pub returns : goal.returns
returns g c = record {
  keys = IfOk-weaker c.copies.result _ _
      (λ keys is.
      are_under (plain_site c.args.site.now) c.args.entries.now (map plain_key keys.items)
      (is ∙ ap (λ es. map plain_key (keys_of es)) c.in_ok-found.ensures.found
      ∙ plain_kept (is_under (plain_site c.args.site.now)) c.args.entries.now))
      c.copies.ensures.keys;
}
