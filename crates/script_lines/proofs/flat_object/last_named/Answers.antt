use Rattle.std.proofs.Common.{◌≡◌, Some, true, false, bytes_eq, sym, ap, ◌∙◌, arith}
use Rattle.script_lines.proofs.FlatLemmas.{found_at}
use Rattle.script_lines.proofs.flat_object.last_named.Goals as goal

pub returns-then-eq : goal.returns-then-eq
returns-then-eq c =
    let member = c.index-member.result.now in
    let same : bytes_eq member.name.now c.args.name.now ≡ true = grind arith in
    ap Some c.shown.ensures ∙ sym (c.loop-left.invariant.0 ∙ found_at c.args.name.now c.args.members.now.items c.loop-left.left member true (omega arith) (omega arith) (sym c.index-member.ensures) same)

pub loop-left-preserved : goal.loop-left-preserved
loop-left-preserved c =
    let member = c.index-member.result.now in
    let other : bytes_eq member.name.now c.args.name.now ≡ false = grind arith in
    (c.loop-left.invariant.0 ∙ found_at c.args.name.now c.args.members.now.items c.loop-left.left member false (omega arith) (omega arith) (sym c.index-member.ensures) other, omega arith)
