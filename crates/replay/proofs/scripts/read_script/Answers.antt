use Rattle.std.proofs.Common.{refl}
use Rattle.script_lines.specs.Plain.{script_of}
use Rattle.replay.proofs.scripts.read_script.Goals as goal

pub returns-in-Ok-clause-read : goal.returns-in-Ok-clause-read
returns-in-Ok-clause-read g c =
    let given = c.in-Ok.ensures.given in
    (record { bytes = given.0; script = script_of c.in-Ok.script; given = given.1; ended = c.in-Ok.ensures.end; grammar = given.2 }, refl)
