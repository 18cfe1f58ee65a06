-- The keys of the tab's areas, and none where there are none.
use Rattle.std.proofs.Common.{map, refl, subst}
use Rattle.std.specs.Prelude.{IfOk}
use Rattle.std.specs.Map.{keys_of}
use Rattle.origin_site.specs.Plain.{plain_site}
use Rattle.storage_key.specs.Plain.{plain_key}
use Rattle.web_storage.specs.Evicting.{AreUnder}
use Rattle.web_storage.proofs.session.tab_keys_under.Goals as goal

pub returns-in-Some : goal.returns-in-Some
returns-in-Some c = record {
  keys =
      subst (λ es. IfOk c.keys_under.result (λ keys. AreUnder (plain_site c.args.site.now)
      (map plain_key (keys_of es)) (map plain_key keys.items)))
      c.in-Some.ensures.areas c.keys_under.ensures.keys;
}

pub returns-in-None : goal.returns-in-None
returns-in-None c = record { keys = λ q. rw (c.in-None.ensures.areas, c.new.ensures.items) refl }
