use Rattle.std.proofs.Common.{ap, refl, subst, sym}
use Rattle.std.specs.Prelude.{Err}
use Rattle.script_lines.specs.Plain.{script_of}
use Rattle.script_lines.specs.TwoScripts.{two_of_bytes}
use Rattle.replay.specs.BeforeAfter.{from_to}
use Rattle.replay.specs.Endings.{IsOfTwoScripts}
use Rattle.replay.specs.Readings.{ScriptRefusal}
use Rattle.replay.proofs.TwinLemmas.{two_refused}
use Rattle.replay.proofs.pairs.read_scripts.Goals as goal

pub returns-in-Ok-clause-read : goal.returns-in-Ok-clause-read
returns-in-Ok-clause-read g c =
    let given = c.in-Ok.ensures.given in
    (record { bytes = given.0; first = script_of c.in-Ok.scripts.0; second = script_of c.in-Ok.scripts.1; given = given.1; ended = c.in-Ok.ensures.end; grammar = given.2 }, refl, refl)

pub returns-in-Err-clause-refused : goal.returns-in-Err-clause-refused
returns-in-Err-clause-refused g c =
    let told = g.I.Source.left c.args.script.now in
    let faults = from_to (g.I.Source.faults c.args.script.now) (g.I.Source.faults c.read_two.new.source) in
    subst (λ s. ScriptRefusal two_of_bytes IsOfTwoScripts s told faults) (sym c.refusal.ensures) (two_refused told faults c.in-Err.why (λ is. c.in-Err.ensures.cause (ap Err is)) c.in-Err.ensures.still c.in-Err.ensures.answer)
