use Rattle.std.proofs.Common.{◌≡◌, ◌-◌, ◌≤◌, ◌<◌, List, ℕ, length}
use Rattle.disk_model.specs.Disk.{Goes, Follows, Torn, Elapses}
use Rattle.disk_model.specs.RawFile.{IsTornIn, StaysTorn, WrittenFirst}
use Rattle.disk_model.proofs.file_disk.write_whole.Given as goal

abbrev pub invariant-pieces : goal.invariant-pieces
invariant-pieces g l =
    let old = g.F.RawFile.view l.fn.file in
    let new = g.F.RawFile.view l.file in
    record {
      within : l.done ≤ length l.bytes;
      written : Goes (WrittenFirst l.at l.bytes l.done) old.contents new.contents;
      images : Follows (Torn l.at (length l.bytes)) old.may_leave new.may_leave;
      torn : 0 < l.done → IsTornIn l.at (length l.bytes) new.may_leave;
      still_torn : StaysTorn old.may_leave new.may_leave;
      kept : (c : List ℕ) → old.may_leave c → new.may_leave c;
      time : Elapses old new;
      tells : new.tells ≡ old.tells;
      faults : new.faults ≡ old.faults;
    }

abbrev pub decreases-pieces : goal.decreases-pieces
decreases-pieces g l = length l.initial.bytes - l.done
