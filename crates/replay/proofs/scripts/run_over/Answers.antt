use Rattle.std.proofs.Common.{◌≡◌, true, ◌∙◌, ap, subst, sym}
use Rattle.hosts.specs.Hosts.{raised}
use Rattle.replay.specs.BeforeAfter.{from_to}
use Rattle.replay.specs.Runs.{Written}
use Rattle.replay.specs.Stores.{LeftAlone, RanLines, RanOverStore}
use Rattle.store_runs.specs.Steps.{steps_of}
use Rattle.replay.proofs.ScriptLemmas.{first_writes, store_writes}
use Rattle.replay.proofs.StatusLemmas.{written_of}
use Rattle.replay.proofs.scripts.run_over.Goals as goal

pub returns-in-Ok-clause-text : goal.returns-in-Ok-clause-text
returns-in-Ok-clause-text g c =
    let options = c.args.options in
    let path = c.args.path.now in
    let list = c.args.list.now in
    let steps = steps_of c.args.lines.now in
    let before = g.H.Host.stores c.args.host.now path in
    let after = g.H.Host.stores c.close_store.new.self path in
    let taken = from_to (g.O.Sink.taken c.args.out.now) (g.O.Sink.taken c.run_on-finished.new.out) in
    let ended = c.run_on-finished.result.ending in
    let counts = from_to (g.H.Host.store_faults c.args.host.now) (g.H.Host.store_faults c.close_store.new.self) in
    let tells = g.H.Host.tells_stores c.args.host.now in
    let rose = c.close_store.ensures.store_faults ∙ ap (raised _) c.in-Ok.ensures.store_faults in
    let stored : tells ≡ true → RanOverStore options.start options.batch options.checkpoint taken counts before after ended list steps =
    λ tell.
    let held = c.in-Ok.ensures.told tell in
    record {
      file = held.0;
      found = held.2;
      wrote = store_writes ended list options.start options.batch options.checkpoint held.0 _ _ steps taken counts after held.1 c.in-Ok.ensures.settled c.in-Ok.ensures.fresh rose (c.close_store.ensures.told (c.in-Ok.ensures.tells ∙ tell))
          (c.run_on-finished.ensures.written ((g.met.H.Store.Disk.lawful c.in-Ok.disk).tells_contents held.0 held.1));
      refused = λ why of why_so. c.run_on-finished.ensures.refused why held.0 held.1 of why_so;
      limit = λ over. c.run_on-finished.ensures.limit held.0 held.1 over;
      tidy = λ done now left. c.run_on-finished.ensures.tidy ((g.met.H.Store.Disk.lawful c.in-Ok.disk).tells_contents held.0 held.1) done now ((c.close_store.ensures.told (c.in-Ok.ensures.tells ∙ tell)).no_more now left);
    } in
    let ran : RanLines options.start options.batch options.checkpoint taken counts tells before after ended list steps = (
      stored,
      first_writes ended list options.start options.batch options.checkpoint
          (g.H.Store.Disk.view c.in-Ok.disk) (g.H.Store.Disk.view c.run_on-finished.result.disk) steps taken counts c.in-Ok.ensures.fresh rose c.run_on-finished.ensures.first,
    ) in
    subst (λ s. Written s (LeftAlone taken before after) (λ e. RanLines options.start options.batch options.checkpoint taken counts tells before after e list steps)) (sym c.status.ensures)
    (written_of ended (LeftAlone taken before after) (λ e. RanLines options.start options.batch options.checkpoint taken counts tells before after e list steps) ran)
