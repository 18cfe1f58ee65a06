-- A key is passed whose bucket is not best-effort.
use Rattle.std.proofs.Common.{◌∷◌, [], ◌∙◌, ap, filter, map, sym}
use Rattle.std.specs.Map.{keys_of}
use Rattle.std.proofs.lemmas.List.{map-append}
use Rattle.storage_key.specs.Plain.{plain_key}
use Rattle.buckets.specs.Shed.{is_best_effort}
use Rattle.web_storage.specs.Evicting.{entry_of}
use Rattle.web_storage.proofs.StoredKeyLemmas.{best_more}
use Rattle.web_storage.proofs.local.best_effort_of.Goals as goal

pub loop-key-preserved : goal.loop-key-preserved
loop-key-preserved c =
    c.loop-key.invariant
    ∙ sym (best_more (map entry_of c.loop-key.yielded) (c.in-Some.key.now, c.in-Some.bucket.now) _
    (sym c.is_best_effort.ensures ∙ c.if-is_best_effort.false))
    ∙ ap (λ es. map plain_key (keys_of (filter (λ e. is_best_effort e.1.mode) es)))
    (sym (map-append entry_of c.loop-key.yielded (_ ∷ [])))
