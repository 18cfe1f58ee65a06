use Rattle.std.proofs.Common.{◌≡◌, ◌-◌, [], ◌∷◌, ◌++◌, Some, ap, sym, ◌∙◌, arith, rules}
use Rattle.json.specs.Json.{members, read_key, value}
use Rattle.json.proofs.Grammar.{read_key-shorter}
use Rattle.serde_json.specs.Data.{put}
use Rattle.serde_json.specs.Read.{of_members, converted}
use Rattle.script_lines.proofs.FlatLemmas.{member_read, members_over}
use Rattle.script_lines.specs.Flat.{flat_data, members_of}
use Rattle.script_lines.proofs.FlatLemmas.{one_more}
use Rattle.script_lines.proofs.flat_object.read_members.Goals as goal

pub members-preserved : goal.members-preserved
members-preserved c =
    let l = c.members in
    let n = l.invariant.0 in
    let old = members_of l.found.items in
    let k = c.in-Ok-Some.name.now in
    let s = c.next_key.new.self in
    let r = c.read_value.new.reader in
    let v = c.in_ok-value-in-Ok-Some.value in
    let done = c.in_ok-value-in-Ok-Some.ensures in
    let named : read_key l.reader ≡ Some (Some k, s) = grind arith in
    let less = read_key-shorter l.reader (Some k) s named in
    let lesser = done.shorter in
    let pushed : c.push.new.self.items ≡ l.found.items ++ record { name = c.in-Ok-Some.name; value = v } ∷ [] = search rules in
    let inserted : members_of c.push.new.self.items ≡ put k (flat_data v) old = ap members_of pushed ∙ one_more l.found.items (record { name = c.in-Ok-Some.name; value = v }) in (
      n - 1,
      omega (arith, l.invariant.1),
      l.invariant.2 ∙ member_read (value 126) old n k l.reader s r (flat_data v) (omega (arith, l.invariant.1)) named done.value
          ∙ ap (λ found. converted (λ ms. of_members ms found) (members (value 126) (n - 1) r)) (sym inserted),
    )

pub returns-in-Ok-None : goal.returns-in-Ok-None
returns-in-Ok-None c =
    let l = c.members in
    l.invariant.2 ∙ members_over (value 126) (members_of l.found.items) l.invariant.0 l.reader c.next_key.new.self l.invariant.1 (grind arith)
