-- What a disk tells once its owner has carried out one of its calls.
-- Source: none.
-- Our own choice: what the owner has carried out is known of a disk beside what it tells.
use Rattle.std.specs.Prelude.{◌≡◌}
use Rattle.disk_model.specs.Disk.{Stays, View}

-- nothing that is told changes
pub record TellsSame (old new : View) : Type 0 where
  pub stays : Stays old new
  pub faults : new.faults ≡ old.faults
  pub room_end : new.room_end ≡ old.room_end
  pub room_writes : new.room_writes ≡ old.room_writes
  pub off : new.off ≡ old.off
  pub failures : new.failures ≡ old.failures
  pub cuts : new.cuts ≡ old.cuts
