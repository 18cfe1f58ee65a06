-- The opening behind a cut of the power, and what follows it.
use Rattle.std.proofs.Common.{inl, inr, List, ℕ, ◌+◌, sym, ◌∙◌, ap, subst}
use Rattle.std.specs.Prelude.{Err}
use Rattle.disk_model.specs.Disk.{Makes}
use Rattle.open_store.specs.Reopens.{IsReopening, IsStood}
use Rattle.open_store.proofs.ReopenLemmas.{anew_as, same_err}
use Rattle.durable_model.specs.Saved.{Saved, nothing_saved}
use Rattle.row_store.specs.Bodies.{Takes}
use Rattle.row_store.specs.Stored.{saved_of}
use Rattle.row_opening.specs.Opened.{IsFound, IsReopeningUnder}
use Rattle.row_opening.specs.Settling.{settle_calls}
use Rattle.row_opening.specs.Under.{migrates}
use Rattle.row_opening.proofs.Leaves.{since_restart}
use Rattle.row_opening.proofs.Openings.{found_under, if_ok, leaves_stores, no_calls, stays_quiet}
use Rattle.row_opening.proofs.Steps.{makes_refused, makes_then}
use Rattle.row_opening.proofs.Under.{reopening_under}
use Rattle.row_opening.proofs.opening.reopen_rows.Goals as goal

pub returns-in-Ok-clause-found : goal.returns-in-Ok-clause-found
returns-in-Ok-clause-found g c = λ tells stores.
    let list = c.args.list.now in
    let view = g.D.Disk.view c.args.disk.now in
    let d = saved_of c.reopen.new.into.parts in
    let found = c.in-Ok.ensures.found list.digest tells (leaves_stores list view stores) in
    let here = found.1 in
    let under = found_under c.files_mean_one_state.ensures.stores list view d c.in-Ok.journal.changes stores tells here in
    if_ok c.settle.result _ _ (λ o state.
    subst (λ (n : ℕ). IsFound list.digest view (saved_of o.parts) n) (sym state.1)
    (subst (λ (e : Saved). IsFound list.digest view e c.in-Ok.journal.changes) (sym (state.0 ∙ under)) here)) c.settle.ensures.state

pub returns-in-Ok-clause-any_moment : goal.returns-in-Ok-clause-any_moment
returns-in-Ok-clause-any_moment g c = inr (λ t file left.
    let V = g.D.Disk.view in
    let list = c.args.list.now in
    let j = c.in-Ok.journal in
    let d = saved_of c.reopen.new.into.parts in
    let v = V c.args.disk.now in
    let m = V c.reopen.new.disk in
    let w = V c.settle.new.disk in
    let between = g.met.D.Disk.lawful c.reopen.new.disk in
    let after = g.met.D.Disk.lawful c.settle.new.disk in
    let tells_m = sym c.settle.ensures.device.tells ∙ after.untold t file left in
    let tells = sym c.in-Ok.ensures.device.tells ∙ tells_m in
    let now = between.told tells_m in
    let given = c.digest.ensures.value in
    let since = since_restart j v m (IsReopening c.digest.result v) c.in-Ok.ensures.any_moment in
    let stood = subst (λ (k : List ℕ). IsStood Takes nothing_saved k j.digest v d j.changes) given (c.in-Ok.ensures.stood tells) in
    reopening_under list (c.states_migrate.ensures.law list.rules nothing_saved).nothing j.digest d j.changes v m w between now.0 now.1
    (c.settle.ensures.any_moment now.0 now.1) after stood
    (λ u f was. subst (λ (k : List ℕ). IsReopening k v f) given (since u f was)) t file left)

pub returns-in-Ok-clause-calls : goal.returns-in-Ok-clause-calls
returns-in-Ok-clause-calls g c = λ tells stores.
    let V = g.D.Disk.view in
    let list = c.args.list.now in
    let view = V c.args.disk.now in
    let j = c.in-Ok.journal in
    let d = saved_of c.reopen.new.into.parts in
    let found = c.in-Ok.ensures.found list.digest tells (leaves_stores list view stores) in
    let under = found_under c.files_mean_one_state.ensures.stores list view d j.changes stores tells found.1 in
    let quiet = stays_quiet list j.digest d found.0 ((c.states_migrate.ensures.law list.rules d).only under) in
    let none = no_calls (migrates list j.digest d) quiet in
    let made = makes_then j c.settle.result 1 (settle_calls list j.digest d) view (V c.reopen.new.disk) (V c.settle.new.disk)
    (c.in-Ok.ensures.calls list.digest tells (leaves_stores list view stores)) c.settle.ensures.calls in
    subst (λ (n : ℕ). Makes n c.settle.result view (V c.settle.new.disk)) (ap (λ (n : ℕ). 1 + n) none) made

pub returns-in-Err-clause-excused : goal.returns-in-Err-clause-excused
returns-in-Err-clause-excused g c = λ tells stores.
    c.in-Err.ensures.excused c.args.list.now.digest tells (leaves_stores c.args.list.now (g.D.Disk.view c.args.disk.now) stores)

pub returns-in-Err-clause-any_moment : goal.returns-in-Err-clause-any_moment
returns-in-Err-clause-any_moment g c =
    let V = g.D.Disk.view in
    let list = c.args.list.now in
    let v = V c.args.disk.now in
    anew_as (Err c.in-Err.why) (Err c.in-Err.why) v (V c.reopen.new.disk) (IsReopening c.digest.result v) (IsReopeningUnder list v) (same_err c.in-Err.why)
    (λ file is. let at = subst (λ (k : List ℕ). IsReopening k v file) c.digest.ensures.value is in (at.0, at.1, inl at.2)) c.in-Err.ensures.any_moment

pub returns-in-Err-clause-calls : goal.returns-in-Err-clause-calls
returns-in-Err-clause-calls g c = λ tells stores.
    let V = g.D.Disk.view in
    makes_refused c.in-Err.why 1 (V c.args.disk.now) (V c.reopen.new.disk)
    (c.in-Err.ensures.calls c.args.list.now.digest tells (leaves_stores c.args.list.now (V c.args.disk.now) stores))
