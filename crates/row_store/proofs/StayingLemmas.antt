-- What the parts stand for where what is none under a list went from each of them.
use Rattle.std.proofs.Common.{◌≡◌, List, sym, subst}
use Rattle.suffix_list.specs.Suffix.{Rule}
use Rattle.durable_model.specs.Migrate.{migrate}
use Rattle.durable_model.specs.Saved.{IsValid}
use Rattle.durable_model.proofs.MigrateLemmas.{states_migrate}
use Rattle.spelled_model.specs.Rows.{IsReadSaved}
use Rattle.row_store.specs.Edits.{IsStanding}
use Rattle.row_store.specs.Laws.{IsSpelledState, IsStorable}
use Rattle.row_store.specs.Stored.{HasNoSession, saved_of}
use Rattle.row_store.specs.declared.parts.Parts.{Parts}
use Rattle.row_store.proofs.MigrateLaws.{migrated_is_read, migrated_is_spelled, migrated_is_storable}

-- parts that stood stand, with what stays
pub migrated_standing : (rules : List Rule) (old new : Parts) → saved_of new ≡ migrate rules (saved_of old)
    → (HasNoSession old.storage → HasNoSession new.storage) → IsStanding old → IsStanding new
migrated_standing rules old new is sessions s = record {
  valid = subst IsValid (sym is) ((states_migrate rules (saved_of old)).valid s.valid);
  read = subst IsReadSaved (sym is) (migrated_is_read rules (saved_of old) s.read);
  storable = subst IsStorable (sym is) (migrated_is_storable rules (saved_of old) s.storable);
  spelled = subst IsSpelledState (sym is) (migrated_is_spelled rules (saved_of old) s.spelled);
  sessions = sessions s.sessions;
}
