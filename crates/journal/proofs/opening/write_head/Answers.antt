use Rattle.std.proofs.Common.{◌⊎◌, [], inl, List, ℕ, arith, rules, subst}
use Rattle.disk_model.specs.Disk.{LeavesOnly}
use Rattle.journal.specs.Append.{IsAppending, IsReady, IsSettling}
use Rattle.journal.specs.Store.{IsUnborn, IsStore, new_head}
use Rattle.journal.proofs.Moments.{weaker, goes_from, and_then}
use Rattle.journal.proofs.Openings.{ready_place, settling, unborn_calls}
use Rattle.journal.proofs.Birth.{birth}
use Rattle.journal.proofs.opening.write_head.Goals as goal

pub returns-in_err-settle-clause-calls : goal.returns-in_err-settle-clause-calls
returns-in_err-settle-clause-calls g c = λ x is.
    let made = c.settle.ensures.calls x is in
    record { later = made.later; most = omega (arith, made.most, unborn_calls x (c.requires.unborn x is)); all = search rules }

pub returns-clause-any_moment : goal.returns-clause-any_moment
returns-clause-any_moment g c = λ x digest is size block.
    let V = g.D.Disk.view in
    let v = V c.args.disk.now in
    let s = V c.settle.new.disk in
    let w = V c.append.new.disk in
    let P = λ (image : List ℕ). IsUnborn image ⊎ IsStore digest image [] in
    let unborn = c.requires.unborn x is in
    let settled = weaker v s (IsSettling x) P (λ image moment. inl (settling x image unborn moment)) (c.settle.ensures.any_moment x is) in
    let next = goes_from IsReady v.contents s.contents x c.in_ok-settle.ensures.contents is in
    let place = ready_place x next.0 unborn next.2 in
    let head = subst (λ (b : List ℕ). LeavesOnly s w (IsAppending 0 b next.0)) block (c.append.ensures.any_moment next.0 next.1) in
    and_then v s w P settled (weaker s w (IsAppending 0 (new_head digest) next.0) P (λ image. birth digest next.0 image size place.0 place.1) head)
