-- The row changes of keys are those of their plain keys.
use Rattle.std.proofs.Common.{map, sym, ap, ◌∙◌}
use Rattle.std.proofs.lemmas.Simd.{map-map}
use Rattle.std.proofs.lemmas.Result.{IfOk-weaker}
use Rattle.storage_key.specs.Plain.{plain_key}
use Rattle.row_changes.specs.Change.{AreaClear}
use Rattle.web_storage.specs.Stored.{held_with}
use Rattle.web_storage.proofs.storage.Storage.evicted_keys.Goals as goal

pub returns : goal.returns
unfolding held_with
returns c = rw (← c.self.view_is) (record {
  keys = λ beside. IfOk-weaker c.keys_taken.result _ _
      (λ keys is. sym (map-map (λ key. AreaClear key) plain_key keys.items) ∙ ap (map (λ key. AreaClear key)) is)
      c.keys_taken.ensures.keys;
})
