use Rattle.std.proofs.Common.{rules, arith, ap, subst, ◌≡◌, ◌≤◌, ◌++◌, ◌+◌, length, take, drop}
use Rattle.agent_base.proofs.Pieces.{given_front, same_piece}
use Rattle.agent_base.proofs.source.MemSource.give.Goals as goal

pub returns-clause-bytes : goal.returns-clause-bytes
returns-clause-bytes c =
    let at = c.self.inside.at in
    let count = c.min-count.result in
    let fits : count ≤ length (drop at c.deref.result.now) =
    omega (arith, c.min-count.ensures, ap (λ x. length x) (same_piece c.deref.result.now at)) in
    let front = given_front c.deref.result.now c.args.into.now c.copy_from_slice.new.self at count fits c.copy_from_slice.ensures.after in
    let moved = subst (λ bytes. drop at bytes ≡ take count (c.copy_from_slice.new.self ++ drop count c.args.into.now) ++ drop (at + count) bytes) c.deref.ensures.value front in
    search rules
