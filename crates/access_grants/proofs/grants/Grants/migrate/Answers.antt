-- The rows that stay have distinct pairs, and numbers that the index had.
use Rattle.std.proofs.Common.{rules, ◌≡◌, ◌∙◌, ap, sym, arith, filter, map}
use Rattle.std.specs.Prelude.{is_some, nat_eq}
use Rattle.std.specs.List.{list_all, list_any, position}
use Rattle.access_grants.specs.Index.{codes_of}
use Rattle.access_grants.specs.Plain.{plain_grant}
use Rattle.access_grants.specs.Stays.{grant_stays}
use Rattle.access_grants.proofs.MigrateLemmas.{codes_filter, distinct_filter, filter_whole}
use Rattle.access_grants.proofs.NoteLemmas.{placed}
use Rattle.access_grants.proofs.grants.Grants.migrate.Goals as goal

pub returns-then-all_stay-clause-rows : goal.returns-then-all_stay-clause-rows
returns-then-all_stay-clause-rows c =
    let test = grant_stays c.args.list.now.rules in
    let seen : map plain_grant c.as_slice.result.now ≡ c.args.self.now.rows = search rules in
    sym (filter_whole test c.args.self.now.rows (ap (list_all test) (sym seen) ∙ sym c.all_stay.ensures ∙ c.if-all_stay.true))

pub note_rows-requires : goal.note_rows-requires
note_rows-requires c = record {
  known = λ code there.
      let test = grant_stays c.args.list.now.rules in
      let rows = map plain_grant c.self.inside.rows.items in
      let kept : map plain_grant c.as_slice-2.result.now ≡ filter test rows = ap (map plain_grant) c.as_slice-2.ensures.value ∙ c.retain_rows.ensures.kept in
      let here = codes_filter code test rows (ap (λ rs. list_any (nat_eq code) (codes_of rs)) (sym kept) ∙ there) in
      ap is_some (c.self.invariant.first code) ∙ placed (nat_eq code) (codes_of rows) ∙ here;
}

pub invariant_of-self : goal.invariant_of-self
invariant_of-self c =
    let test = grant_stays c.args.list.now.rules in
    let rows = map plain_grant c.self.inside.rows.items in
    record {
      distinct = rw c.retain_rows.ensures.kept (distinct_filter test rows c.self.invariant.distinct);
      first = λ code. c.note_rows.ensures.noted code ∙ ap (λ rs. position (nat_eq code) (codes_of (map plain_grant rs))) c.as_slice-2.ensures.value;
      rows_room = omega (arith, c.retain_rows.ensures.fewer, c.retain_rows.ensures.capacity, c.self.invariant.rows_room);
      index_room = omega (arith, c.note_rows.ensures.room, c.self.invariant.index_room);
    }

pub returns-clause-rows : goal.returns-clause-rows
returns-clause-rows c = c.retain_rows.ensures.kept ∙ ap (λ v. filter (grant_stays c.args.list.now.rules) v.rows) c.self.view_is
