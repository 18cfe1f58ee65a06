use Rattle.std.proofs.Common.{subst, ⊎_elim, IfErr}
use Rattle.script_lines.specs.Grammar.{lines_of}
use Rattle.script_lines.specs.Plain.{Reads, scripts_of}
use Rattle.script_lines.specs.TwoScripts.{two_scripts}
use Rattle.script_lines.proofs.CutLemmas.{read_no_cuts}
use Rattle.script_lines.proofs.FaultLemmas.{IsOfTwo, two_of_text}
use Rattle.script_lines.proofs.script.Script.read_two.Goals as goal

pub returns-clause-cause : goal.returns-clause-cause
returns-clause-cause g c is =
    let lines = lines_of c.deref.result.now in
    ⊎_elim (λ memory. cc)
    (λ fault. absurd (subst (λ r. IfErr r IsOfTwo) fault (two_of_text lines)))
    (subst (λ r. Reads scripts_of (two_scripts lines) r) is c.scripts_of_parts.ensures)

pub returns-clause-cuts : goal.returns-clause-cuts
returns-clause-cuts g c = read_no_cuts (lines_of c.deref.result.now) c.scripts_of_parts.result c.scripts_of_parts.ensures
