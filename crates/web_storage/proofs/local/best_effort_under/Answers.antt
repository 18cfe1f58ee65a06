-- The best-effort ones of the entries that are found.
use Rattle.std.proofs.Common.{◌∙◌, ap, filter, map, subst}
use Rattle.std.specs.List.Sorted.{IsStrictlySortedBy}
use Rattle.std.specs.Map.{keys_of}
use Rattle.std.proofs.lemmas.Result.{IfOk-weaker}
use Rattle.origin_site.specs.Plain.{plain_site}
use Rattle.storage_key.specs.Plain.{plain_key}
use Rattle.buckets.specs.Shed.{is_best_effort}
use Rattle.web_storage.specs.Evicting.{is_entry_under, key_cmp}
use Rattle.web_storage.proofs.StoredKeyLemmas.{best_listed}
use Rattle.web_storage.proofs.local.best_effort_under.Goals as goal

pub returns-clause-keys : goal.returns-clause-keys
returns-clause-keys c = IfOk-weaker c.best_effort_of.result _ _
    (λ keys is.
    is
    ∙ ap (λ es. map plain_key (keys_of (filter (λ e. is_best_effort e.1.mode) es))) c.in_ok-found.ensures.found
    ∙ ap (λ shed. map plain_key (keys_of (filter (λ e. is_best_effort e.1.mode)
    (filter (is_entry_under (plain_site c.args.site.now)) shed)))) c.buckets.ensures.buckets
    ∙ best_listed (plain_site c.args.site.now) c.args.shed.now
    (subst (λ es. IsStrictlySortedBy key_cmp (keys_of es)) c.buckets.ensures.buckets c.in_ok-found.ensures.ordered))
    c.best_effort_of.ensures.keys
