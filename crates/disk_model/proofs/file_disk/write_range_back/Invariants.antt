use Rattle.std.proofs.Common.{◌≡◌, ◌+◌, ◌-◌, ◌≤◌, List, ℕ, length}
use Rattle.std.specs.Prelude.{Some}
use Rattle.disk_model.specs.RawFile.{WritesBack}
use Rattle.disk_model.proofs.file_disk.write_range_back.Given as goal

abbrev pub invariant-pieces : goal.invariant-pieces
invariant-pieces g l =
    let old = g.F.RawFile.view l.fn.file in
    let new = g.F.RawFile.view l.file in
    record {
      from : l.at ≤ l.done;
      end : l.end ≤ l.at + l.len;
      fits : (c : List ℕ) → old.contents ≡ Some c → l.end ≤ length c;
      contents : new.contents ≡ old.contents;
      back : WritesBack old new;
      faults : new.faults ≡ old.faults;
    }

abbrev pub decreases-pieces : goal.decreases-pieces
decreases-pieces g l = l.end - l.done
