-- The journal's opening, and what follows it.
use Rattle.std.proofs.Common.{inl, List, ℕ, sym, ◌∙◌, ap, subst}
use Rattle.disk_model.specs.Disk.{LeavesOnly}
use Rattle.journal.specs.Opening.{IsExcused, IsOpening, OpensUnder, opening_calls}
use Rattle.journal.proofs.Moments.{weaker}
use Rattle.journal.proofs.Openings.{of_file_alone}
use Rattle.durable_model.specs.Migrate.{migrate}
use Rattle.durable_model.specs.Saved.{Saved, nothing_saved}
use Rattle.row_store.specs.Bodies.{Takes}
use Rattle.row_store.specs.Stored.{saved_of}
use Rattle.row_opening.specs.Settling.{settle_calls}
use Rattle.row_opening.specs.Under.{IsOpeningUnder, MeansUnder}
use Rattle.row_opening.proofs.Leaves.{file_means, means_file, opens_kept}
use Rattle.row_opening.proofs.Openings.{both_ways, calls_of, if_ok, same_error}
use Rattle.row_opening.proofs.Steps.{makes_then}
use Rattle.row_opening.proofs.Under.{opening_under}
use Rattle.row_opening.proofs.opening.open_rows.Goals as goal

pub returns-in-Ok-clause-means : goal.returns-in-Ok-clause-means
returns-in-Ok-clause-means g c = λ file kept d n is within means.
    let list = c.args.list.now in
    let given = c.in-Ok.ensures.means file kept d n is within (means_file Takes nothing_saved list.digest kept file d n means) in
    both_ways c.settle.result _ _ IsExcused c.settle.ensures.state c.settle.ensures.excused
    (λ o state. (state.0 ∙ ap (λ (e : Saved). migrate list.rules e) given.0, state.1 ∙ given.1))

pub returns-in-Ok-clause-stood : goal.returns-in-Ok-clause-stood
returns-in-Ok-clause-stood g c =
    let list = c.args.list.now in
    let j = c.in-Ok.journal in
    let d = saved_of c.open.new.into.parts in
    if_ok c.settle.result _ _ (λ o state file is.
    let under = subst (λ (given : List ℕ). OpensUnder given file j.digest) c.digest.ensures.value (c.in-Ok.ensures.under file is) in
    let means = file_means Takes nothing_saved list.digest j.digest file d j.changes (c.in-Ok.ensures.stood file is) under in
    (j.digest, d, subst (λ (n : ℕ). MeansUnder list.digest j.digest file d n) (sym state.1) means, state.0)) c.settle.ensures.state

pub returns-in-Ok-clause-calls : goal.returns-in-Ok-clause-calls
returns-in-Ok-clause-calls g c = λ file is.
    let V = g.D.Disk.view in
    let list = c.args.list.now in
    let j = c.in-Ok.journal in
    let d = saved_of c.open.new.into.parts in
    let under = subst (λ (given : List ℕ). OpensUnder given file j.digest) c.digest.ensures.value (c.in-Ok.ensures.under file is) in
    let means = file_means Takes nothing_saved list.digest j.digest file d j.changes (c.in-Ok.ensures.stood file is) under in
    let made = makes_then j c.settle.result (opening_calls file) (settle_calls list j.digest d) (V c.args.disk.now) (V c.open.new.disk) (V c.settle.new.disk) (c.in-Ok.ensures.calls file is) c.settle.ensures.calls in
    calls_of list file j.digest d j.changes means c.settle.result (V c.args.disk.now) (V c.settle.new.disk) made
    (λ kept e m within other. (opens_kept Takes nothing_saved list.digest j.digest kept file e m other under, (c.in-Ok.ensures.means file kept e m is within (means_file Takes nothing_saved list.digest kept file e m other)).0))

pub returns-in-Ok-clause-any_moment : goal.returns-in-Ok-clause-any_moment
returns-in-Ok-clause-any_moment g c = λ rest file is.
    let V = g.D.Disk.view in
    let list = c.args.list.now in
    let j = c.in-Ok.journal in
    let d = saved_of c.open.new.into.parts in
    let v = V c.args.disk.now in
    let m = V c.open.new.disk in
    let between = g.met.D.Disk.lawful c.open.new.disk in
    let under = subst (λ (given : List ℕ). OpensUnder given file j.digest) c.digest.ensures.value (c.in-Ok.ensures.under file is) in
    let means = file_means Takes nothing_saved list.digest j.digest file d j.changes (c.in-Ok.ensures.stood file is) under in
    let tells = (g.met.D.Disk.lawful c.args.disk.now).tells_contents file is in
    let now = between.told (c.in-Ok.ensures.device.tells ∙ tells) in
    let first = subst (λ (given : List ℕ). LeavesOnly v m (IsOpening given file)) c.digest.ensures.value (c.in-Ok.ensures.any_moment rest file is) in
    opening_under list (c.states_migrate.ensures.law list.rules nothing_saved).nothing j.digest d j.changes v m (V c.settle.new.disk) between now.0 now.1
    (c.settle.ensures.any_moment now.0 now.1) file means first

pub returns-in-Err-clause-means : goal.returns-in-Err-clause-means
returns-in-Err-clause-means g c = λ file kept d n is within means.
    c.in-Err.ensures.means file kept d n is within (means_file Takes nothing_saved c.args.list.now.digest kept file d n means)

pub returns-in-Err-clause-images : goal.returns-in-Err-clause-images
returns-in-Err-clause-images g c = λ why is of_file.
    (c.in-Err.ensures.images why (same_error c.in-Err.why why is) (of_file_alone why of_file)).images

pub returns-in-Err-clause-any_moment : goal.returns-in-Err-clause-any_moment
returns-in-Err-clause-any_moment g c = λ rest file is.
    let V = g.D.Disk.view in
    let list = c.args.list.now in
    let v = V c.args.disk.now in
    let w = V c.open.new.disk in
    let first = subst (λ (given : List ℕ). LeavesOnly v w (IsOpening given file)) c.digest.ensures.value (c.in-Err.ensures.any_moment rest file is) in
    weaker v w (IsOpening list.digest file) (IsOpeningUnder list file) (λ image opening. inl opening) first
