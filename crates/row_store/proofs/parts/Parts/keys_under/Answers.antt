-- A retain is the filter by what the closure tests.
use Rattle.std.proofs.Common.{◌∙◌, ap, filter, map, rules}
use Rattle.std.proofs.lemmas.Fn.{filter_same}
use Rattle.origin_site.specs.Plain.{plain_site}
use Rattle.storage_key.specs.Plain.{plain_key}
use Rattle.agent_model.specs.Partition.{is_under, no_holdings}
use Rattle.web_storage.proofs.StoredKeyLemmas.{plain_those}
use Rattle.row_store.proofs.parts.Parts.keys_under.Goals as goal

pub returns : goal.returns
returns c =
    let kept = filter_same _ (λ key. is_under (plain_site c.args.top.now) (plain_key key)) _
    (λ x b f' k. search rules) _ _ c.retain.ensures.filtered in
    record {
      keys =
          ap (map plain_key) kept
          ∙ plain_those (is_under (plain_site c.args.top.now)) c.in_ok-keys.keys.items
          ∙ ap (filter (is_under (plain_site c.args.top.now))) (c.in_ok-keys.ensures.keys no_holdings);
    }
