-- A checkpoint leads to the snapshot's state, and a cut leaves the one state or the other.
use Rattle.std.proofs.Common.{ap}
use Rattle.std.specs.Prelude.{ℕ, true}
use Rattle.std.proofs.lemmas.Result.{on_ok_weaker}
use Rattle.journal.specs.Journal.{JournalView}
use Rattle.open_store.specs.Standing.{StandsAt}
use Rattle.open_store.proofs.StoreLemmas.{checkpoint_done, checkpoint_moments, on_each}
use Rattle.open_store.proofs.store.Store.checkpoint.Goals as goal

pub returns-clause-done : goal.returns-clause-done
returns-clause-done g c =
    let e = c.checkpoint.ensures in
    let j = c.args.self.now.journal in
    let v = g.D.Disk.view c.args.self.now.disk in
    let w = g.D.Disk.view c.checkpoint.new.disk in
    on_each c.checkpoint.result
    (λ (by : g.R.Replay.Rules). (base next : g.R.Replay.State) (counted : ℕ)
    → StandsAt (g.R.Replay.takes by) g.R.Replay.empty j v base
    → g.R.Replay.takes by g.R.Replay.empty true c.args.body.now next counted
    → StandsAt (g.R.Replay.takes by) g.R.Replay.empty c.checkpoint.new.self w next)
    (λ by.
    checkpoint_done (g.R.Replay.takes by) g.R.Replay.empty j c.checkpoint.new.self v w
    c.args.digest.now c.args.body.now c.checkpoint.result (g.met.D.Disk.lawful c.args.self.now.disk)
    (g.met.D.Disk.lawful c.checkpoint.new.disk) e.device.faults.tells e.at_rest e.shut
    (on_ok_weaker c.checkpoint.result (λ done. ap (λ (i : JournalView). i.changes) done) e.done)
    e.acknowledged)

pub returns-clause-any_moment : goal.returns-clause-any_moment
returns-clause-any_moment g c = λ by base next counted at taken tells.
    checkpoint_moments (g.R.Replay.takes by) g.R.Replay.empty c.args.self.now.journal
    c.checkpoint.new.self (g.D.Disk.view c.args.self.now.disk) (g.D.Disk.view c.checkpoint.new.disk)
    c.args.digest.now c.args.body.now base next counted at taken (g.met.D.Disk.lawful c.args.self.now.disk) tells
    c.checkpoint.ensures.any_moment
