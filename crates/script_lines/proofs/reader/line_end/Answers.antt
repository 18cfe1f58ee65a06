use Rattle.std.proofs.Common.{◌==◌}
use Rattle.script_lines.proofs.PlaceLemmas.{first_byte}
use Rattle.script_lines.proofs.reader.line_end.Goals as goal

pub returns : goal.returns
returns c = first_byte (λ b. b == 10) c.args.bytes.now c.memchr.result c.memchr.ensures
