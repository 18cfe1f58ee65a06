use Rattle.std.proofs.Common.{sym, ◌∙◌}
use Rattle.storage_key.specs.Plain.{plain_key}
use Rattle.key_map.specs.Entries.{map_get}
use Rattle.web_storage.proofs.OrderOfKeys.{order, alike}
use Rattle.web_storage.proofs.WriteLemmas.{held_found}
use Rattle.web_storage.proofs.SessionWrites.{session_held}
use Rattle.web_storage.proofs.HeldLemmas.{local_of, session_of, area_or, lent_pairs}
use Rattle.web_storage.proofs.storage.Storage.area.Goals as goal

pub returns-in-Local : goal.returns-in-Local
returns-in-Local c = rw (← c.self.view_is) (record {
  area = λ beside. lent_pairs c.area.result _ _ c.area.ensures.area
      (area_or (map_get order c.args.key.now c.self.inside.local) ∙ held_found order alike c.args.key.now c.self.inside.local
      ∙ sym (local_of beside c.args.kind c.args.tab (plain_key c.args.key.now) c.in-Local.is
      (record { local = c.self.inside.local; session = c.self.inside.session })));
})

pub returns-in-Session : goal.returns-in-Session
returns-in-Session c = rw (← c.self.view_is) (record {
  area = λ beside. lent_pairs c.area-in-Session.result _ _ c.area-in-Session.ensures.area
      (session_held order alike c.args.tab c.args.key.now c.self.inside.session
      ∙ sym (session_of beside c.args.kind c.args.tab (plain_key c.args.key.now) c.in-Session.is
      (record { local = c.self.inside.local; session = c.self.inside.session })));
})
