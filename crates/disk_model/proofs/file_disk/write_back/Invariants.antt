use Rattle.std.proofs.Common.{◌≡◌}
use Rattle.disk_model.specs.RawFile.{WritesBack}
use Rattle.disk_model.proofs.file_disk.write_back.Given as goal

abbrev pub invariant-each : goal.invariant-each
invariant-each g l =
    let old = g.F.RawFile.view l.fn.file in
    let new = g.F.RawFile.view l.file in
    record {
      contents : new.contents ≡ old.contents;
      back : WritesBack old new;
      faults : new.faults ≡ old.faults;
    }
