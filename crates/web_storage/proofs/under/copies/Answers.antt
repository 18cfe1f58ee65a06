-- A key more is copied.
use Rattle.std.proofs.Common.{◌∷◌, [], ◌++◌, ◌∙◌, ap, map, sym}
use Rattle.std.specs.Map.{keys_of}
use Rattle.std.proofs.lemmas.List.{map-append}
use Rattle.storage_key.specs.Plain.{plain_key}
use Rattle.web_storage.specs.Evicting.{entry_of}
use Rattle.web_storage.proofs.UnderLemmas.{plain_last}
use Rattle.web_storage.proofs.under.copies.Goals as goal

pub loop-key-preserved : goal.loop-key-preserved
loop-key-preserved g c =
    c.in_ok-push_copy.ensures.pushed
    ∙ ap (λ ks. ks ++ plain_key c.in-Some.key.now ∷ []) c.loop-key.invariant
    ∙ sym (plain_last (map entry_of c.loop-key.yielded) (c.in-Some.key.now, _))
    ∙ ap (λ es. map plain_key (keys_of es)) (sym (map-append entry_of c.loop-key.yielded (_ ∷ [])))
