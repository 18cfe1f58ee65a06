-- The first row of the pair's number, or where that is another pair's the row that a search finds.
use Rattle.std.proofs.Common.{◌≡◌, ◌∙◌, ap, sym, map, nat_eq, position, Some, None}
use Rattle.origin_site.specs.Plain.{plain_site}
use Rattle.access_grants.specs.Grant.{is_of}
use Rattle.access_grants.specs.Index.{codes_of, pair_code}
use Rattle.access_grants.specs.Plain.{plain_grant}
use Rattle.access_grants.proofs.RowsLemmas.{position_seen}
use Rattle.access_grants.proofs.IndexLemmas.{absent_place, first_place}
use Rattle.access_grants.proofs.grants.Grants.place.Goals as goal

pub returns-in_err-first : goal.returns-in_err-first
returns-in_err-first c =
    let top = plain_site c.args.top.now in
    let site = plain_site c.args.site.now in
    let rows = map plain_grant c.self.inside.rows.items in
    let none : position (nat_eq (pair_code top site)) (codes_of rows) ≡ None =
    ap (λ n. position (nat_eq n) (codes_of rows)) (sym c.pair_code.ensures) ∙ sym (c.self.invariant.first c.pair_code.result) ∙ sym c.in_err-first.ensures.value in
    record { place = c.from_residual.ensures ∙ sym (absent_place top site rows none) ∙ ap (λ v. position (is_of top site) v.rows) c.self.view_is }

pub returns-in-Some : goal.returns-in-Some
returns-in-Some c =
    let top = plain_site c.args.top.now in
    let site = plain_site c.args.site.now in
    let rows = c.args.self.now.rows in
    let first = c.in_ok-first.field-0.now in
    let at : position (nat_eq (pair_code top site)) (codes_of rows) ≡ Some first =
    ap (λ v. position (nat_eq (pair_code top site)) (codes_of v.rows)) (sym c.self.view_is)
    ∙ ap (λ n. position (nat_eq n) (codes_of (map plain_grant c.self.inside.rows.items))) (sym c.pair_code.ensures)
    ∙ sym (c.self.invariant.first c.pair_code.result)
    ∙ sym c.in_ok-first.ensures.value in
    let is = sym c.is_of.ensures ∙ c.if-is_of.true in
    record { place = sym (first_place top site rows first (plain_grant c.in-Some.row.now) at (sym c.in-Some.ensures.row) is) }

pub returns-in_default : goal.returns-in_default
returns-in_default c =
    let test = is_of (plain_site c.args.top.now) (plain_site c.args.site.now) in
    record {
      place =
          c.place_among.ensures.place
          ∙ ap (position (λ row. test (plain_grant row))) c.as_slice.ensures.value
          ∙ position_seen plain_grant test c.self.inside.rows.items
          ∙ ap (λ v. position test v.rows) c.self.view_is;
    }
