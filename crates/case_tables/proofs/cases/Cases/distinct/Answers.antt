use Rattle.std.proofs.Common.{◌≡◌, ◌<◌, sym, ◌∙◌, arith, length, map, bytes_eq, ⊎_elim}
use Rattle.std.proofs.lemmas.Bool.{cases_lt}
use Rattle.std.proofs.lemmas.List.{length-map}
use Rattle.case_tables.specs.Rows.{row_of}
use Rattle.case_tables.proofs.cases.Cases.distinct.Goals as goal
use Rattle.case_tables.proofs.Pairs.{not_apart, apart_behind}
use Rattle.case_tables.proofs.RowsLemmas.{list_any-rows_behind, row_at}

pub returns-then-is_named : goal.returns-then-is_named
returns-then-is_named g c =
    let raw = c.args.self.now.rows.now in
    let place = c.loop-place.place in
    let row = c.row-item.result in
    let inside : place < length (map row_of raw) = rw length-map c.loop-place-test.true in
    let found = sym (list_any-rows_behind (λ other. bytes_eq other row.0.now) raw place) ∙ sym c.is_named.ensures ∙ c.if-is_named.true in
    let here = row_at raw place row c.loop-place-test.true c.row-item.is in
    record { test = (λ no. cc, λ apart. absurd (not_apart (λ r. r.0) (map row_of raw) place (row_of row) inside here found apart)) }

pub loop-place-preserved : goal.loop-place-preserved
loop-place-preserved g c i j d before behind within =
    let raw = c.args.self.now.rows.now in
    let place = c.loop-place.place in
    let row = c.row-item.result in
    ⊎_elim
    (λ earlier. c.loop-place.invariant i j d earlier behind within)
    (λ here.
    let at : c.loop-place.place ≡ i = omega arith in
    let after : c.loop-place.place < j = omega arith in
    let inside : place < length (map row_of raw) = rw length-map c.loop-place-test.true in
    let missed = sym (list_any-rows_behind (λ other. bytes_eq other row.0.now) raw place) ∙ sym c.is_named.ensures ∙ c.if-is_named.false in
    let own = row_at raw place row c.loop-place-test.true c.row-item.is in
    rw (sym at) (apart_behind (λ r. r.0) (map row_of raw) place (row_of row) inside own missed j d after within))
    (cases_lt i c.loop-place.place)
