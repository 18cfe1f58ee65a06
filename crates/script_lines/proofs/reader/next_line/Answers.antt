use Rattle.std.proofs.Common.{◌==◌, ◌∙◌, sym, ap, ◌∷◌, ◌++◌, take, drop, length, ◌+◌, ◌-◌, arith, length-drop}
use Rattle.std.proofs.lemmas.List.{take_all}
use Rattle.script_lines.specs.Grammar.{lines_of}
use Rattle.script_lines.proofs.LineLemmas.{cut_at, cut_none, fails_all, fails_before, place_cuts}
use Rattle.script_lines.proofs.reader.next_line.Goals as goal

pub returns-in-Some-clause-lines : goal.returns-in-Some-clause-lines
returns-in-Some-clause-lines c =
    let bytes = c.args.bytes.now in
    let later = drop (c.in-Some.end + 1) bytes in
    cut_at (λ b. b == 10) bytes c.in-Some.end (sym c.in-Some.ensures)
    ∙ ap (λ rest. take c.in-Some.end bytes ∷ lines_of rest)
    (sym (take_all (length bytes - (c.in-Some.end + 1)) later (omega (arith, length-drop (c.in-Some.end + 1) bytes))))

pub returns-in-Some-clause-line : goal.returns-in-Some-clause-line
returns-in-Some-clause-line c = fails_before (λ b. b == 10) c.args.bytes.now c.in-Some.end (sym c.in-Some.ensures)

pub returns-in-Some-clause-bytes : goal.returns-in-Some-clause-bytes
returns-in-Some-clause-bytes c =
    let bytes = c.args.bytes.now in
    let later = drop (c.in-Some.end + 1) bytes in
    place_cuts 10 bytes c.in-Some.end (sym c.in-Some.ensures)
    ∙ ap (λ rest. take c.in-Some.end bytes ++ 10 ∷ rest)
    (sym (take_all (length bytes - (c.in-Some.end + 1)) later (omega (arith, length-drop (c.in-Some.end + 1) bytes))))

pub returns-in-None-clause-lines : goal.returns-in-None-clause-lines
returns-in-None-clause-lines c = cut_none (λ b. b == 10) c.args.bytes.now (sym c.in-None.ensures)

pub returns-in-None-clause-line : goal.returns-in-None-clause-line
returns-in-None-clause-line c = fails_all (λ b. b == 10) c.args.bytes.now (sym c.in-None.ensures)
