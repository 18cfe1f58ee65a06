-- The walk from the first key on goes over all of them.
use Rattle.std.proofs.Common.{◌≡◌, ◌++◌, ◌∙◌, ap, map, subst, sym}
use Rattle.std.specs.Prelude.{OnOk}
use Rattle.std.proofs.lemmas.List.{append-nil}
use Rattle.storage_key.specs.Plain.{plain_key}
use Rattle.web_storage.proofs.StoredKeyLemmas.{none_of_kind, walked_all}
use Rattle.web_storage.proofs.listing.push_kind.Goals as goal

pub returns-in-Some : goal.returns-in-Some
returns-in-Some c = record {
  pushed =
      subst (λ more. OnOk c.push_all_of_kind.result
      (map plain_key c.push_all_of_kind.new.keys.items ≡ map plain_key c.args.keys.now.items ++ more))
      (walked_all c.args.with_area c.args.shed.now c.buckets.result.now c.buckets-in-Some.result.now
      c.range_from-all.result c.in-Some.first.now
      c.buckets.ensures.buckets c.buckets-in-Some.ensures.buckets c.in-Some.ensures.ordered
      c.in-Some.ensures.key c.range_from-all.ensures.entries)
      c.push_all_of_kind.ensures.pushed;
}

pub returns-in-None : goal.returns-in-None
returns-in-None c = record {
  pushed =
      sym (append-nil (map plain_key c.args.keys.now.items))
      ∙ ap (λ more. map plain_key c.args.keys.now.items ++ more)
      (none_of_kind c.args.with_area c.args.shed.now c.buckets.result.now c.buckets.ensures.buckets
      c.in-None.ensures.ordered c.in-None.ensures.key);
}
