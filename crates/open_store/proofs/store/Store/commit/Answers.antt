-- A commit leads to the next state, and a cut leaves the one or the other.
use Rattle.std.proofs.Common.{◌≡◌, ◌+◌, ◌%◌, ◌^◌, rules}
use Rattle.open_store.specs.Commits.{BodyLeads}
use Rattle.open_store.specs.Standing.{StandsAt}
use Rattle.open_store.proofs.StoreLemmas.{commit_done, commit_moments, nothing_moments, on_each}
use Rattle.open_store.proofs.store.Store.commit.Goals as goal

pub returns-then-is_empty-clause-any_moment : goal.returns-then-is_empty-clause-any_moment
returns-then-is_empty-clause-any_moment g c = λ by base next at leads tells.
    nothing_moments (g.R.Replay.takes by) g.R.Replay.empty c.args.self.now.journal
    (g.D.Disk.view c.args.self.now.disk) base next
    ((c.args.self.now.journal.changes + c.args.changes) % 2 ^ 64)
    (g.met.D.Disk.lawful c.args.self.now.disk) at

pub returns-clause-done : goal.returns-clause-done
returns-clause-done g c =
    let e = c.commit.ensures in
    let j = c.args.self.now.journal in
    let v = g.D.Disk.view c.args.self.now.disk in
    let w = g.D.Disk.view c.commit.new.disk in
    on_each c.commit.result
    (λ (by : g.R.Replay.Rules). (base next : g.R.Replay.State)
    → StandsAt (g.R.Replay.takes by) g.R.Replay.empty j v base
    → BodyLeads (g.R.Replay.takes by) base c.args.body.now c.args.changes next
    → StandsAt (g.R.Replay.takes by) g.R.Replay.empty c.commit.new.self w next
    × (c.commit.new.self.changes % 2 ^ 64 ≡ (j.changes + c.args.changes) % 2 ^ 64))
    (λ by.
    commit_done (g.R.Replay.takes by) g.R.Replay.empty j c.commit.new.self v w c.args.body.now
    c.args.changes (search rules) c.commit.result (g.met.D.Disk.lawful c.args.self.now.disk)
    (g.met.D.Disk.lawful c.commit.new.disk) e.device.faults.tells e.at_rest e.shut e.done
    e.acknowledged)

pub returns-clause-any_moment : goal.returns-clause-any_moment
returns-clause-any_moment g c = λ by base next at leads tells.
    commit_moments (g.R.Replay.takes by) g.R.Replay.empty c.args.self.now.journal
    c.commit.new.self (g.D.Disk.view c.args.self.now.disk) (g.D.Disk.view c.commit.new.disk)
    c.args.body.now c.args.changes (search rules) base next at leads
    (g.met.D.Disk.lawful c.args.self.now.disk) tells c.commit.ensures.any_moment
