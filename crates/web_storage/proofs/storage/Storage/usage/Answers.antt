use Rattle.std.proofs.Common.{refl, sym, ap, ◌∙◌}
use Rattle.storage_key.specs.Plain.{plain_key}
use Rattle.web_storage.proofs.OrderOfKeys.{order, alike}
use Rattle.local_area.specs.Area.{area_weight}
use Rattle.storage_events.specs.declared.event.AreaKind.TheVariants.{Local}
use Rattle.web_storage.proofs.WriteLemmas.{held_found}
use Rattle.web_storage.proofs.HeldLemmas.{local_of}
use Rattle.web_storage.proofs.storage.Storage.usage.Goals as goal

pub returns : goal.returns
returns c = rw (← c.self.view_is) (record {
  usage = λ beside.
      c.usage.ensures.usage
      ∙ ap area_weight (held_found order alike c.args.key.now c.self.inside.local
      ∙ sym (local_of beside Local 0 (plain_key c.args.key.now) refl
      (record { local = c.self.inside.local; session = c.self.inside.session })));
})
