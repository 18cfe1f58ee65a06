use Rattle.row_store.proofs.BodyLaws.{written_bodies_mean}
use Rattle.row_store.proofs.KeptLemmas.{cookies_kept, valid_kept}
use Rattle.row_store.proofs.SnapshotLaws.{snapshots_mean}
use Rattle.row_store.proofs.SpelledLaws.{edits_keep_spelled, edits_keep_spelled_under, snapshots_are_spelled, snapshots_are_spelled_under}
use Rattle.row_store.proofs.StorableLaws.{edits_keep_storable}
use Rattle.row_store.proofs.laws.bodies_mean_states.Goals as goal

pub returns : goal.returns
returns c = record {
  bodies = written_bodies_mean;
  storable = edits_keep_storable;
  snapshots = snapshots_mean;
  spelled = edits_keep_spelled;
  spelled_under = edits_keep_spelled_under;
  listed = snapshots_are_spelled;
  listed_under = snapshots_are_spelled_under;
  kept = λ d cell. cookies_kept cell d;
  whole = valid_kept;
}
