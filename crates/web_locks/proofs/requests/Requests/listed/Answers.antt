-- One row after another is listed.
use Rattle.std.proofs.Common.{◌≡◌, ◌∙◌, ◌++◌, ◌∷◌, ap, sym, None, Some, map, length, ◌<◌, List, arith}
use Rattle.std.proofs.lemmas.List.{append-nil, append_assoc}
use Rattle.web_locks.specs.Kept.{rows_at, rest_of}
use Rattle.web_locks.specs.Plain.{plain_row}
use Rattle.web_locks.specs.Requests.{PlainRow, lock_row}
use Rattle.web_locks.proofs.ListedLemmas.{listed_next, listed_none, rest_all, rows_found}
use Rattle.web_locks.proofs.requests.Requests.listed.Goals as goal

pub loop-number-init : goal.loop-number-init
loop-number-init g c =
    ap (λ xs. map plain_row xs ++ rest_of c.args.owner None c.args.self.now.rows) c.new-rows.ensures.items ∙ rest_all c.args.owner c.args.self.now.rows

shorter : (x : PlainRow) (xs ys : List PlainRow) → ys ≡ x ∷ xs → length xs < length ys
shorter x xs ys is = rw is (grind arith)

pub loop-number-smaller : goal.loop-number-smaller
loop-number-smaller g c =
    let listed = listed_next c.args.owner c.loop-number.after c.in-Some.number c.args.self.now.rows c.list.ensures.ordered (sym (c.in-Some.ensures.next c.requires.told)) in
    shorter (lock_row listed.lock) _ _ listed.rest

pub loop-number-preserved : goal.loop-number-preserved
loop-number-preserved g c =
    let rows = c.args.self.now.rows in
    let n = c.in-Some.number in
    let before = map plain_row c.loop-number.rows.items in
    let listed = listed_next c.args.owner c.loop-number.after n rows c.list.ensures.ordered (sym (c.in-Some.ensures.next c.requires.told)) in
    ap (λ r. r ++ rest_of c.args.owner (Some n) rows) c.in_ok-list.ensures.listed
    ∙ append_assoc before (rows_at n rows) (rest_of c.args.owner (Some n) rows)
    ∙ ap (λ r. before ++ (r ++ rest_of c.args.owner (Some n) rows)) (rows_found n listed.lock rows listed.row)
    ∙ ap (λ r. before ++ r) (sym listed.rest)
    ∙ c.loop-number.invariant

pub returns : goal.returns
returns g c = record {
  rows =
      sym (append-nil (map plain_row c.loop-number.rows.items))
      ∙ ap (λ r. map plain_row c.loop-number.rows.items ++ r)
      (sym (listed_none c.args.owner c.loop-number.after c.args.self.now.rows (sym (c.next_owned.ensures.next c.requires.told) ∙ c.in_default.is)))
      ∙ c.loop-number.invariant;
}
