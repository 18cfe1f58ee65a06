-- What is opened is one of the stores that a cut might have left.
use Rattle.std.proofs.Common.{refl, rules}
use Rattle.open_store.proofs.ReopenLemmas.{fewer_at_restart, reopened_calls, reopened_stood}
use Rattle.open_store.proofs.ReopenLemmas.{reopened_excused, reopened_found, reopened_moments}
use Rattle.open_store.proofs.reopening.reopen.Goals as goal

pub returns-clause-stood : goal.returns-clause-stood
returns-clause-stood g c = λ tells.
    let by = g.R.Replay.rules c.args.into.now in
    reopened_stood (g.R.Replay.takes by) g.R.Replay.empty c.args.digest.now
    (g.D.Disk.view c.args.disk.now) _ (g.met.D.Disk.lawful c.args.disk.now) tells (search rules)
    (λ j. j.digest) (g.R.Replay.state c.open.new.into) (λ j. j.changes) c.open.result
    c.open.ensures.under c.open.ensures.stood

pub returns-clause-found : goal.returns-clause-found
returns-clause-found g c = λ held tells stores.
    let by = g.R.Replay.rules c.args.into.now in
    reopened_found (g.R.Replay.takes by) g.R.Replay.empty held
    (g.D.Disk.view c.args.disk.now) _ (g.met.D.Disk.lawful c.args.disk.now) tells stores
    (search rules) (g.R.Replay.state c.open.new.into) (λ j. j.changes) c.args.digest.now
    (λ j. j.digest) c.open.result
    (λ d under s n is means. c.open.ensures.means d under s n is (λ e. cc) means)
    c.open.ensures.under

pub returns-clause-excused : goal.returns-clause-excused
returns-clause-excused g c = λ held tells stores.
    let by = g.R.Replay.rules c.args.into.now in
    reopened_excused (g.R.Replay.takes by) g.R.Replay.empty held
    (g.D.Disk.view c.args.disk.now) _ (g.met.D.Disk.lawful c.args.disk.now) tells stores
    (search rules) (g.R.Replay.state c.open.new.into) (λ j. j.changes) c.open.result
    (λ d under s n is means. c.open.ensures.means d under s n is (λ e. cc) means)

pub returns-clause-images : goal.returns-clause-images
returns-clause-images g c = λ why is alone file left.
    let fewer = (c.open.ensures.images why is alone).images file left in
    fewer_at_restart c.args.digest.now (g.D.Disk.view c.args.disk.now) _
    (g.D.Disk.view c.open.new.disk) (g.met.D.Disk.lawful c.args.disk.now)
    (g.met.D.Disk.lawful _) (g.met.D.Disk.lawful c.open.new.disk) (search rules) (search rules)
    (search rules) c.open.ensures.any_moment file fewer

pub returns-clause-any_moment : goal.returns-clause-any_moment
returns-clause-any_moment g c =
    reopened_moments c.args.digest.now (g.D.Disk.view c.args.disk.now) _
    (g.D.Disk.view c.open.new.disk) (g.met.D.Disk.lawful c.args.disk.now)
    (g.met.D.Disk.lawful _) (g.met.D.Disk.lawful c.open.new.disk) (search rules) (search rules)
    (search rules) c.open.ensures.any_moment c.open.result

pub returns-clause-calls : goal.returns-clause-calls
returns-clause-calls g c = λ held tells stores.
    let by = g.R.Replay.rules c.args.into.now in
    reopened_calls (g.R.Replay.takes by) g.R.Replay.empty held
    (g.D.Disk.view c.args.disk.now) _ (g.met.D.Disk.lawful c.args.disk.now) tells stores
    (search rules) c.open.result _ (g.D.Disk.view c.open.new.disk) refl (search rules)
    c.open.ensures.calls
