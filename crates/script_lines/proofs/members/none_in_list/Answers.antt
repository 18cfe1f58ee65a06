use Rattle.std.proofs.Common.{List, ℕ, Bool, ap, map, sym, ◌∙◌}
use Rattle.script_lines.specs.Steps.{is_known, refused}
use Rattle.script_lines.proofs.MemberLemmas.{all_known}
use Rattle.script_lines.proofs.members.none_in_list.Goals as goal

pub returns-then-are_known : goal.returns-then-are_known
returns-then-are_known c =
    let known : List ℕ → Bool = is_known (map (λ k. k.now) c.args.known.now) in
    ap (refused c.args.number) (all_known known c.args.members.now (sym c.are_known.ensures ∙ c.if-are_known.true))
