use Rattle.row_store.proofs.MigrateLaws.{migrated_is_read, migrated_is_spelled, migrated_is_storable, spelled_stays, staying_is_spelled, under_is_spelled}
use Rattle.row_store.proofs.laws.states_stay_spelled.Goals as goal

pub returns : goal.returns
returns c = record {
  storable = migrated_is_storable;
  spelled = migrated_is_spelled;
  read = migrated_is_read;
  staying = staying_is_spelled;
  stays = spelled_stays;
  under = under_is_spelled;
}
