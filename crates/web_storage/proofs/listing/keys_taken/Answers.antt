-- The keys of the best-effort buckets under the site that have pairs, by their texts.
use Rattle.std.proofs.Common.{◌≡◌, ◌∙◌, ap, filter, map, rules, subst}
use Rattle.std.specs.FinMap as finite
use Rattle.std.specs.Prelude.{IfOk}
use Rattle.std.proofs.lemmas.Fn.{filter_same}
use Rattle.origin_site.specs.Plain.{plain_site}
use Rattle.storage_key.specs.Plain.{plain_key}
use Rattle.agent_model.specs.Changes.{by_text}
use Rattle.web_storage.specs.Stored.{areas_in}
use Rattle.web_storage.proofs.StoredKeyLemmas.{plain_those, taken_listed}
use Rattle.web_storage.proofs.listing.keys_taken.Goals as goal

pub returns : goal.returns
returns c =
    let has_area = finite.contains_key (areas_in c.args.shed.now) in
    let kept = filter_same _ (λ key. has_area (plain_key key)) _
    (λ x b f' k. search rules) _ _ c.retain.ensures.filtered in
    record {
      keys =
          subst (λ all. IfOk c.by_text.result (λ keys. map plain_key keys.items ≡ by_text all))
          (ap (map plain_key) kept
          ∙ plain_those has_area c.in_ok-keys.keys.items
          ∙ ap (filter has_area) c.in_ok-keys.ensures.keys
          ∙ taken_listed (plain_site c.args.site.now) c.args.shed.now c.in_ok-keys.ensures.ordered)
          c.by_text.ensures.keys;
    }
