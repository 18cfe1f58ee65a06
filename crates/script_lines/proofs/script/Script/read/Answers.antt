use Rattle.std.proofs.Common.{subst, ⊎_elim, IfErr}
use Rattle.script_lines.specs.Grammar.{lines_of, script_from}
use Rattle.script_lines.specs.Plain.{Reads, script_of}
use Rattle.script_lines.proofs.CutLemmas.{read_cuts}
use Rattle.script_lines.proofs.FaultLemmas.{IsOfText, from_of_text}
use Rattle.script_lines.proofs.script.Script.read.Goals as goal

pub returns-clause-cause : goal.returns-clause-cause
returns-clause-cause g c is =
    let lines = lines_of c.deref.result.now in
    ⊎_elim (λ memory. cc)
    (λ fault. absurd (subst (λ r. IfErr r IsOfText) fault (from_of_text c.args.cuts_allowed 1 lines)))
    (subst (λ r. Reads script_of (script_from c.args.cuts_allowed 1 lines) r) is c.script_in.ensures)

pub returns-clause-one_script : goal.returns-clause-one_script
returns-clause-one_script g c is =
    let lines = lines_of c.deref.result.now in
    ⊎_elim (λ memory. cc)
    (λ fault. absurd (subst (λ r. IfErr r IsOfText) fault (from_of_text c.args.cuts_allowed 1 lines)))
    (subst (λ r. Reads script_of (script_from c.args.cuts_allowed 1 lines) r) is c.script_in.ensures)

pub returns-clause-cuts : goal.returns-clause-cuts
returns-clause-cuts g c = read_cuts c.args.cuts_allowed 1 (lines_of c.deref.result.now) c.script_in.result c.script_in.ensures
