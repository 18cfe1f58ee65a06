use Rattle.std.proofs.Common.{◌≡◌, ℕ, List, Some, true, inl, refl, sym, ap, subst, ◌∙◌}
use Rattle.agent_base.specs.Counts.{Rose}
use Rattle.agent_base.proofs.Pieces.{takes_none}
use Rattle.durable_model.specs.Histories.{opened_at}
use Rattle.std.specs.Prelude.{Ok}
use Rattle.journal.specs.Opening.{IsWithin}
use Rattle.store_runs.specs.Disks.{OpensByCuts, WritesOn}
use Rattle.store_runs.specs.Endings.{IsStoreEnding, WriteCounts}
use Rattle.store_runs.specs.Fronts.{WritesFromOpening}
use Rattle.store_runs.specs.Openings.{IsJustOpened, IsOpenedAt}
use Rattle.store_runs.specs.Steps.{steps_of}
use Rattle.store_runs.specs.Tidy.{LeavesTidy}
use Rattle.store_runs.proofs.DiskLemmas.{begins_within, fails_within, is_within, just_here, opened_first, opened_writes, opens_past, refused_ends, refused_writes, tidy_under}
use Rattle.store_runs.proofs.LoopLemmas.{opens_up}
use Rattle.store_runs.proofs.EndLemmas.{limit_ends, refused_device, refused_done, refused_stays, refused_store}
use Rattle.store_runs.proofs.disks.run_on.Goals as goal
use Rattle.store_runs.proofs.disks.run_on.Goals.{In-Ok}

-- the agent stands for what the store on the disk does
is_just : (g : _) (c : In-Ok g)
    → IsJustOpened c.in-Ok.agent (g.D.Disk.view c.in-Ok.agent.disk) (opened_at c.args.options.start c.in-Ok.ensures.seen.0)
is_just g c =
    let options = c.args.options in
    let is = c.in-Ok.ensures in
    just_here c.args.list.now options.start options.batch options.checkpoint (g.D.Disk.view c.args.disk)
    (g.D.Disk.view c.in-Ok.agent.disk) c.in-Ok.agent is.seen.0 is.rules.0 is.rules.1 is.rules.2 is.rules.3
    c.requires.batch.0 is.seen.3.0 is.seen.3.1

is_opened : (g : _) (c : In-Ok g) → (g.D.Disk.view c.args.disk).tells ≡ true
    → IsOpenedAt c.in-Ok.agent (g.D.Disk.view c.in-Ok.agent.disk) (opened_at c.args.options.start c.in-Ok.ensures.seen.0)
is_opened g c told = record { tells = c.in-Ok.ensures.tells ∙ told; just = is_just g c }

pub returns-in-Ok-clause-written : goal.returns-in-Ok-clause-written
returns-in-Ok-clause-written g c = λ told.
    let old = g.D.Disk.view c.args.disk in
    let agent = c.in-Ok.agent in
    let view = g.D.Disk.view agent.disk in
    let list = c.args.list.now in
    let start = c.args.options.start in
    let batch = c.args.options.batch in
    let checkpoint = c.args.options.checkpoint in
    let before = g.O.Sink.taken c.args.out.now in
    let after = g.O.Sink.taken c.run_lines-ending.new.out in
    let steps = steps_of c.args.lines.now in
    let seen = c.in-Ok.ensures.seen in
    let base = seen.0 in
    let under = c.in-Ok.ensures.rules in
    let opened = is_opened g (goal.at.returns-in-Ok-clause-written g c).In-Ok told in
    let cuts : OpensByCuts list (Ok tt) old = λ bytes numbers contents on cut.
    opens_past old view (g.met.D.Disk.lawful c.args.disk) (g.met.D.Disk.lawful agent.disk) list bytes numbers cut
    c.in-Ok.ensures.powered (c.in-Ok.ensures.calls bytes contents) in
    let within : (bytes : List ℕ) → old.contents ≡ Some bytes → IsWithin true bytes =
    λ bytes contents. is_within bytes (λ over. c.in-Ok.ensures.limit bytes contents (refl, over)) in
    subst (λ disk. WritesOn c.run_lines-ending.result list start batch checkpoint old steps before after
    (g.D.Disk.view disk)) (sym c.into_disk.ensures)
    (opened_writes list start batch checkpoint old view agent base under.0 under.1 under.2 under.3 seen.1 seen.2
    c.run_lines-ending.result (g.D.Disk.view c.run_lines-ending.new.agent.disk)
    steps before after c.in-Ok.ensures.powered c.in-Ok.ensures.others.faults
    (λ file is. record { stands = seen.3.3 file is; alone = λ kept d n means. seen.3.2 file kept d n is means }) cuts
    (begins_within list start batch checkpoint old view agent base under.0 under.1 under.2 under.3
    (c.in-Ok.ensures.tells ∙ told) seen.3.0 (g.met.D.Disk.lawful agent.disk)
    (λ bytes kept d n contents means.
    ((c.in-Ok.ensures.calls bytes contents).exactly kept d n (within bytes contents) means).most)
    c.in-Ok.ensures.any_moment)
    (c.run_lines-ending.ensures.written (opened_at start base) opened))

pub returns-in-Ok-clause-refused : goal.returns-in-Ok-clause-refused
returns-in-Ok-clause-refused g c = λ why bytes contents of is. absurd (c.in-Ok.ensures.exactly why bytes contents of is)

pub returns-in-Ok-clause-limit : goal.returns-in-Ok-clause-limit
returns-in-Ok-clause-limit g c = λ bytes contents over. absurd (c.in-Ok.ensures.limit bytes contents over)

pub returns-in-Ok-clause-first : goal.returns-in-Ok-clause-first
returns-in-Ok-clause-first g c =
    let old = g.D.Disk.view c.args.disk in
    let agent = c.in-Ok.agent in
    let list = c.args.list.now in
    let options = c.args.options in
    let before = g.O.Sink.taken c.args.out.now in
    let after = g.O.Sink.taken c.run_lines-ending.new.out in
    let steps = steps_of c.args.lines.now in
    let ending = c.run_lines-ending.result in
    let seen = c.in-Ok.ensures.seen in
    let under = c.in-Ok.ensures.rules in
    let just = is_just g (goal.at.returns-in-Ok-clause-first g c).In-Ok in
    subst (λ disk. WritesFromOpening ending list options.start options.batch options.checkpoint old steps before after
    (g.D.Disk.view disk)) (sym c.into_disk.ensures)
    (opened_first list options.start options.batch options.checkpoint old (g.D.Disk.view agent.disk) agent seen.0
    under.0 under.1 under.2 under.3 seen.1 ending (g.D.Disk.view c.run_lines-ending.new.agent.disk) steps before after
    c.in-Ok.ensures.powered c.in-Ok.ensures.others.faults
    (c.run_lines-ending.ensures.first (opened_at options.start seen.0) just))

pub returns-in-Ok-clause-device : goal.returns-in-Ok-clause-device
returns-in-Ok-clause-device g c = λ device.
    let old = g.D.Disk.view c.args.disk in
    let up = c.in-Ok.ensures.seen.3.0.up.0
    (opens_up c.args.list.now.rules (opened_at c.args.options.start c.in-Ok.ensures.seen.0)) in
    subst (λ disk. Rose old.faults (g.D.Disk.view disk).faults) (sym c.into_disk.ensures)
    (subst (λ n. Rose n (g.D.Disk.view c.run_lines-ending.new.agent.disk).faults)
    c.in-Ok.ensures.others.faults (c.run_lines-ending.ensures.device up device))

pub returns-in-Ok-clause-tidy : goal.returns-in-Ok-clause-tidy
returns-in-Ok-clause-tidy g c = λ told done.
    let new = c.run_lines-ending.new.agent in
    let list = c.args.list.now in
    let checkpoint = c.args.options.checkpoint in
    let under = c.in-Ok.ensures.rules in
    let opened = is_opened g (goal.at.returns-in-Ok-clause-tidy g c).In-Ok told in
    let start = opened_at c.args.options.start c.in-Ok.ensures.seen.0 in
    let goes = c.run_lines-ending.ensures.goes_on in
    subst (λ disk. LeavesTidy checkpoint list.digest (g.D.Disk.view disk).may_leave) (sym c.into_disk.ensures)
    (tidy_under checkpoint new.checkpoint list.digest new.journal.digest (g.D.Disk.view new.disk).may_leave
    (goes.checkpoint ∙ under.3) (goes.digest ∙ under.1)
    (c.run_lines-ending.ensures.tidy start opened done).1)

pub returns-in-Ok-clause-tells : goal.returns-in-Ok-clause-tells
returns-in-Ok-clause-tells g c = ap (λ disk. (g.D.Disk.view disk).tells) c.into_disk.ensures
    ∙ c.run_lines-ending.ensures.goes_on.tells ∙ c.in-Ok.ensures.tells

pub returns-in-Err-clause-written : goal.returns-in-Err-clause-written
returns-in-Err-clause-written g c = λ told.
    refused_writes c.refused.result c.args.list.now c.args.options.start c.args.options.batch
    c.args.options.checkpoint c.in-Err.refusal.why (g.D.Disk.view c.args.disk)
    (g.D.Disk.view c.in-Err.refusal.disk) (steps_of c.args.lines.now) (g.O.Sink.taken c.args.out.now) c.refused.ensures
    c.in-Err.ensures.refused c.in-Err.ensures.device
    (λ bytes numbers contents on cut. fails_within (g.D.Disk.view c.args.disk)
    (g.D.Disk.view c.in-Err.refusal.disk) (g.met.D.Disk.lawful c.args.disk)
    (g.met.D.Disk.lawful c.in-Err.refusal.disk) c.args.list.now bytes numbers cut c.in-Err.refusal.why
    (λ is. (c.in-Err.ensures.device is).1) on (c.in-Err.ensures.calls bytes contents))
    c.in-Err.ensures.unchanged c.in-Err.ensures.images c.in-Err.ensures.any_moment (g.met.D.Disk.lawful c.in-Err.refusal.disk)

pub returns-in-Err-clause-first : goal.returns-in-Err-clause-first
returns-in-Err-clause-first g c =
    inl (c.in-Err.refusal.why, c.refused.ensures, takes_none (g.O.Sink.taken c.args.out.now))

pub returns-in-Err-clause-refused : goal.returns-in-Err-clause-refused
returns-in-Err-clause-refused g c = λ why bytes contents of is. (
  takes_none (g.O.Sink.taken c.args.out.now),
  refused_ends c.in-Err.refusal.why why c.refused.result
      c.refused.ensures of (c.in-Err.ensures.exactly why bytes contents of is),
)

pub returns-in-Err-clause-limit : goal.returns-in-Err-clause-limit
returns-in-Err-clause-limit g c = λ bytes contents over.
    limit_ends c.in-Err.refusal.why c.refused.result bytes c.refused.ensures (c.in-Err.ensures.limit bytes contents over)

pub returns-in-Err-clause-store : goal.returns-in-Err-clause-store
returns-in-Err-clause-store g c = subst IsStoreEnding (sym c.refused.ensures) (refused_store c.in-Err.refusal.why)

pub returns-in-Err-clause-tidy : goal.returns-in-Err-clause-tidy
returns-in-Err-clause-tidy g c = λ told done. refused_done _ c.in-Err.refusal.why (sym c.refused.ensures ∙ done)

pub returns-in-Err-clause-device : goal.returns-in-Err-clause-device
returns-in-Err-clause-device g c = λ device.
    (c.in-Err.ensures.device (refused_device c.in-Err.refusal.why (sym c.refused.ensures ∙ device))).0

pub returns-in-Err-clause-write : goal.returns-in-Err-clause-write
returns-in-Err-clause-write g c = subst (λ e. WriteCounts e (g.O.Sink.faults c.args.out.now)
    (g.O.Sink.faults c.args.out.now)) (sym c.refused.ensures)
    (refused_stays c.in-Err.refusal.why (g.O.Sink.faults c.args.out.now))
