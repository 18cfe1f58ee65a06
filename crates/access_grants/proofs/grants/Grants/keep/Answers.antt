-- A row is put at the place of its pair's row, or last.
use Rattle.std.proofs.Common.{◌≡◌, ◌-◌, cond, map, ap, sym, ◌∙◌, Some, ⊎_elim, arith, nat_eq, position}
use Rattle.std.proofs.lemmas.List.{map-set, length-set}
use Rattle.access_grants.specs.Grant.{is_of, with_row}
use Rattle.access_grants.specs.Plain.{plain_grant}
use Rattle.access_grants.specs.UnderSite.{grants_under}
use Rattle.access_grants.proofs.GrantLemmas.{has_row-None, has_row-Some, kept-None, kept-Some, kept_distinct}
use Rattle.access_grants.proofs.IndexLemmas.{codes_kept}
use Rattle.access_grants.proofs.PartLemmas.{kept_at}
use Rattle.access_grants.proofs.grants.Grants.keep.Goals as goal

pub invariant_of-self : goal.invariant_of-self
invariant_of-self c =
    let row = plain_grant c.args.row in
    let items = c.self.inside.rows.items in
    let rows = map plain_grant items in
    let at : position (is_of row.top row.site) rows ≡ Some c.in-Some.place = ap (λ v. position (is_of row.top row.site) v.rows) c.self.view_is ∙ sym c.in-Some.ensures.place in
    let kept = map-set plain_grant items c.in-Some.place c.args.row ∙ kept-Some row rows c.in-Some.place c.self.invariant.distinct at in
    let codes = codes_kept row rows (has_row-Some row rows c.in-Some.place at) in
    record {
      distinct = rw kept (kept_distinct row rows c.self.invariant.distinct);
      first = λ code. c.self.invariant.first code ∙ rw kept (ap (position (nat_eq code)) (sym codes));
      rows_room = omega (arith, c.self.invariant.rows_room, length-set items c.in-Some.place c.args.row);
      index_room = c.self.invariant.index_room;
    }

pub returns-in-Some-clause-rows : goal.returns-in-Some-clause-rows
returns-in-Some-clause-rows c =
    let row = plain_grant c.args.row in
    let items = c.self.inside.rows.items in
    let rows = map plain_grant items in
    let at : position (is_of row.top row.site) rows ≡ Some c.in-Some.place = ap (λ v. position (is_of row.top row.site) v.rows) c.self.view_is ∙ sym c.in-Some.ensures.place in
    map-set plain_grant items c.in-Some.place c.args.row
    ∙ kept-Some row rows c.in-Some.place c.self.invariant.distinct at
    ∙ ap (λ v. with_row row v.rows) c.self.view_is

pub returns-in-Some-clause-spare : goal.returns-in-Some-clause-spare
returns-in-Some-clause-spare c =
    let row = plain_grant c.args.row in
    let room = c.self.inside.room in
    ap (λ v. v.spare) c.self.view_is
    ∙ ap (λ b. cond b c.args.self.now.spare (c.args.self.now.spare - 1)) (sym (has_row-Some row c.args.self.now.rows c.in-Some.place (sym c.in-Some.ensures.place)))

pub returns-in-Some-clause-under : goal.returns-in-Some-clause-under
returns-in-Some-clause-under c = λ top. ap (grants_under top) (returns-in-Some-clause-rows c) ∙ kept_at top (plain_grant c.args.row) c.args.self.now.rows

pub returns-in-None-clause-rows : goal.returns-in-None-clause-rows
returns-in-None-clause-rows c =
    c.push.ensures.rows ∙ kept-None (plain_grant c.args.row) c.args.self.now.rows (sym c.in-None.ensures.place)

pub returns-in-None-clause-spare : goal.returns-in-None-clause-spare
returns-in-None-clause-spare c =
    let row = plain_grant c.args.row in
    c.push.ensures.spare
    ∙ ap (λ b. cond b c.args.self.now.spare (c.args.self.now.spare - 1)) (sym (has_row-None row c.args.self.now.rows (sym c.in-None.ensures.place)))

pub returns-in-None-clause-under : goal.returns-in-None-clause-under
returns-in-None-clause-under c = λ top. ap (grants_under top) (returns-in-None-clause-rows c) ∙ kept_at top (plain_grant c.args.row) c.args.self.now.rows

pub push-requires-clause-new : goal.push-requires-clause-new
push-requires-clause-new c = has_row-None (plain_grant c.args.row) c.args.self.now.rows (sym c.in-None.ensures.place)

pub push-requires-clause-room : goal.push-requires-clause-room
push-requires-clause-room c =
    let none = has_row-None (plain_grant c.args.row) c.args.self.now.rows (sym c.in-None.ensures.place) in
    ⊎_elim (λ there. absurd (cc (sym none ∙ there))) (λ room. room) c.requires.room
