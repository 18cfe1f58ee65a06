use Rattle.std.proofs.Common.{sym, ap, ◌∙◌, ◌||◌, bytes_eq, map}
use Rattle.std.specs.List.{list_any}
use Rattle.script_lines.proofs.MemberLemmas.{list_any-map}
use Rattle.script_lines.proofs.members.is_known.Goals as goal

pub returns-else-eq : goal.returns-else-eq
returns-else-eq c =
    c.is_among.ensures ∙ sym (list_any-map (λ k. bytes_eq k c.args.name.now) (λ k. k.now) c.args.known.now)
    ∙ ap (λ b. b || list_any (λ k. bytes_eq k c.args.name.now) (map (λ k. k.now) c.args.known.now)) c.if-eq.ensures
