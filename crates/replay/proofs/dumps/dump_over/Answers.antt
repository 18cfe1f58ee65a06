use Rattle.std.proofs.Common.{◌≡◌, true, ◌∙◌, ap, subst, sym}
use Rattle.hosts.specs.Hosts.{raised}
use Rattle.replay.specs.BeforeAfter.{from_to}
use Rattle.replay.specs.Causes.{DumpCounts}
use Rattle.replay.specs.Commands.{dump_ending}
use Rattle.replay.specs.Runs.{Written}
use Rattle.replay.specs.Dumps.{DumpedRows, DumpedStore}
use Rattle.replay.specs.Stores.{LeftAlone}
use Rattle.replay.proofs.DumpLemmas.{dump_counts, dumped, dumped_some}
use Rattle.replay.proofs.StatusLemmas.{written_of}
use Rattle.replay.proofs.dumps.dump_over.Goals as goal

pub returns-in-Ok-clause-text : goal.returns-in-Ok-clause-text
returns-in-Ok-clause-text g c =
    let path = c.args.path.now in
    let list = c.args.list.now in
    let before = g.H.Host.stores c.args.host.now path in
    let after = g.H.Host.stores c.close_store.new.self path in
    let taken = from_to (g.O.Sink.taken c.args.out.now) (g.O.Sink.taken c.dump-dumped.new.out) in
    let tells = g.H.Host.tells_stores c.args.host.now in
    let stored : tells ≡ true → DumpedStore taken before after (dump_ending c.dump-dumped.result) list =
    λ tell.
    let held = c.in-Ok.ensures.told tell in
    dumped c.dump-dumped.result list held.0 taken _ _ c.dump-dumped.ensures.opening held.1 c.in-Ok.ensures.settled before after held.2 (c.close_store.ensures.told (c.in-Ok.ensures.tells ∙ tell)) (g.met.H.Store.Disk.lawful c.dump-dumped.new.disk)
    (c.dump-dumped.ensures.opening.any_moment c.in-Ok.ensures.settled held.0 held.1) c.dump-dumped.ensures.rows c.dump-dumped.ensures.written in
    let ran : DumpedRows taken tells before after (dump_ending c.dump-dumped.result) list = (stored, dumped_some list _ taken c.dump-dumped.result c.dump-dumped.ensures.rows) in
    subst (λ s. Written s (LeftAlone taken before after) (λ e. DumpedRows taken tells before after e list)) (sym c.status.ensures)
    (written_of (dump_ending c.dump-dumped.result) (LeftAlone taken before after) (λ e. DumpedRows taken tells before after e list) ran)

pub returns-in-Ok-clause-device : goal.returns-in-Ok-clause-device
returns-in-Ok-clause-device g c =
    let stores = from_to (g.H.Host.store_faults c.args.host.now) (g.H.Host.store_faults c.close_store.new.self) in
    let back = c.close_store.ensures.store_faults ∙ ap (raised _) c.in-Ok.ensures.store_faults in
    subst (λ s. DumpCounts s stores) (sym c.status.ensures)
    (dump_counts _ _ stores c.in-Ok.ensures.fresh back c.args.list.now c.dump-dumped.result c.dump-dumped.ensures.opening)
