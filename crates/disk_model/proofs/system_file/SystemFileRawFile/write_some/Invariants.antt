use Rattle.std.proofs.Common.{◌≡◌}
use Rattle.disk_model.proofs.system_file.SystemFileRawFile.write_some.Given as goal

abbrev pub invariant-tries : goal.invariant-tries
invariant-tries l = l.self.faults ≡ l.fn.self.faults
