use Rattle.std.proofs.Common.{◌≡◌, ◌-◌, ◌≤◌, ◌<◌, ◌+◌, ℕ, List, length, slice_index}
use Rattle.std.specs.Prelude.{Some}
use Rattle.disk_model.specs.Disk.{Stays}
use Rattle.disk_model.proofs.file_disk.read_whole.Given as goal

abbrev pub invariant-pieces : goal.invariant-pieces
invariant-pieces g l =
    let view = g.F.RawFile.view in
    record {
      within : l.done ≤ length l.into;
      stays : Stays (view l.fn.file) (view l.file);
      faults : (view l.file).faults ≡ (view l.fn.file).faults;
      read : (c : List ℕ) → (view l.fn.file).contents ≡ Some c → (i : ℕ) → i < l.done → slice_index c (l.at + i) ≡ slice_index l.into i;
    }

abbrev pub decreases-pieces : goal.decreases-pieces
decreases-pieces g l = length l.initial.into - l.done
