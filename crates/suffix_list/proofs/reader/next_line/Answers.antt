use Rattle.std.proofs.Common.{◌≤◌, ◌+◌, ◌-◌, ◌∙◌, ◌∷◌, ap, sym, arith, drop, length, length-drop, take}
use Rattle.std.proofs.lemmas.List.{take_all}
use Rattle.suffix_list.specs.ListText.{lines_of}
use Rattle.suffix_list.proofs.LineLemmas.{lines_at, lines_whole}
use Rattle.suffix_list.proofs.reader.next_line.Goals as goal

pub returns-in-Some-clause-lines : goal.returns-in-Some-clause-lines
returns-in-Some-clause-lines c =
    let rest = drop (c.in-Some.at + 1) c.args.bytes.now in
    let whole : length rest ≤ length c.args.bytes.now - (c.in-Some.at + 1) = omega (arith, length-drop (c.in-Some.at + 1) c.args.bytes.now) in
    lines_at c.args.bytes.now c.in-Some.at (sym c.in-Some.ensures)
    ∙ ap (λ bs. take c.in-Some.at c.args.bytes.now ∷ lines_of bs) (sym (take_all (length c.args.bytes.now - (c.in-Some.at + 1)) rest whole))

pub returns-in-None-clause-lines : goal.returns-in-None-clause-lines
returns-in-None-clause-lines c = lines_whole c.args.bytes.now (sym c.in-None.ensures)
