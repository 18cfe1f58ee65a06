use Rattle.std.proofs.Common.{◌≡◌, length}
use Rattle.disk_model.proofs.system_file.SystemFileRawFile.read_some.Given as goal

abbrev pub invariant-tries : goal.invariant-tries
invariant-tries l = record {
  room : length l.into ≡ length l.fn.into;
  faults : l.self.faults ≡ l.fn.self.faults;
}
