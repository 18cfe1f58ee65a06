use Rattle.std.proofs.Common.{ℕ, List, Bool, ap, map, not, [], ◌∙◌, find, option_map, string_bytes}
use Rattle.std.specs.Prelude.{unwrap_or}
use Rattle.script_lines.specs.Steps.{is_known, member_names}
use Rattle.script_lines.proofs.MemberLemmas.{find_name}
use Rattle.script_lines.proofs.members.first_unknown.Goals as goal

pub returns-in-Some : goal.returns-in-Some
returns-in-Some c =
    let test : List ℕ → Bool = λ name. not (is_known (map (λ k. k.now) c.args.known.now) name) in
    ap (option_map string_bytes) c.unknown_member.ensures ∙ find_name test c.in-Some.members.now.entries
    ∙ ap (λ o. find test (unwrap_or (option_map member_names o) [])) c.in-Some.ensures
