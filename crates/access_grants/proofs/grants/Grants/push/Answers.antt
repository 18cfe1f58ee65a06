-- The number of one more row is noted, and its room is used.
use Rattle.std.proofs.Common.{◌≡◌, ◌∙◌, ap, map, length, false, ◌∷◌, [], arith, nat_eq, cond, ℕ, Some, None, rules, vec_len}
use Rattle.std.specs.Option.{option_or}
use Rattle.access_grants.specs.Index.{pair_code}
use Rattle.std.specs.HashMap.{get}
use Rattle.std.proofs.lemmas.List.{map-append, length-append}
use Rattle.access_grants.specs.Grant.{has_row}
use Rattle.access_grants.specs.Plain.{plain_grant}
use Rattle.access_grants.proofs.GrantLemmas.{kept_distinct}
use Rattle.access_grants.proofs.IndexLemmas.{pushed_first}
use Rattle.access_grants.proofs.grants.Grants.push.Goals as goal

pub invariant_of-self : goal.invariant_of-self
invariant_of-self c =
    let row = plain_grant c.args.row in
    let items = c.self.inside.rows.items in
    let rows = map plain_grant items in
    let new : has_row row rows ≡ false = ap (λ v. has_row row v.rows) c.self.view_is ∙ c.requires.new in
    let longer = ap length c.push_reserved.ensures.items ∙ length-append items (c.args.row ∷ []) in
    let room : c.self.inside.room ≡ c.args.self.now.spare = ap (λ v. v.spare) c.self.view_is in
    let long : vec_len c.self.inside.rows ≡ length items = search rules in
    let noted : (code : ℕ) → get nat_eq c.note.new.places code ≡ option_or (get nat_eq c.self.inside.places code) (cond (nat_eq code (pair_code row.top row.site)) (Some (length items)) None) =
    λ code. c.note.ensures.noted code
    ∙ ap (λ n. option_or (get nat_eq c.self.inside.places code) (cond (nat_eq code c.pair_code-code.result) (Some n) None)) (c.len.ensures ∙ long)
    ∙ ap (λ n. option_or (get nat_eq c.self.inside.places code) (cond (nat_eq code n) (Some (length items)) None)) c.pair_code-code.ensures in
    record {
      distinct = rw (c.push_reserved.ensures.items, map-append plain_grant items (c.args.row ∷ [])) (rw new at (kept_distinct row rows c.self.invariant.distinct));
      first = rw c.push_reserved.ensures.items (pushed_first items c.args.row (get nat_eq c.self.inside.places) (get nat_eq c.note.new.places) c.self.invariant.first noted);
      rows_room = omega (arith, longer, c.push_reserved.ensures.capacity, c.self.invariant.rows_room, room, c.requires.room);
      index_room = omega (arith, c.note.ensures.room, c.self.invariant.index_room, room, c.requires.room);
    }
