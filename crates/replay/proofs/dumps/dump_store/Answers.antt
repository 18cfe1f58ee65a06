use Rattle.replay.specs.BeforeAfter.{from_to}
use Rattle.replay.proofs.DumpLemmas.{obeys_dump}
use Rattle.replay.proofs.dumps.dump_store.Goals as goal

pub returns-in-Ok : goal.returns-in-Ok
returns-in-Ok g c =
    let list = c.in-Ok in
    let ran = c.dump_over.ensures in
    obeys_dump g.H.Host g.I.Source g.O.Sink c.args.list.now c.args.store.now c.dump_over.result c.args.host.now c.read_list.new.host c.dump_over.new.host c.args.script.now (from_to c.args.out.now c.dump_over.new.out) list.list list.ensures.list
    list.ensures.stores list.ensures.still list.ensures.store_faults list.ensures.tells list.ensures.closed list.ensures.others ran.left ran.text ran.ran ran.counts ran.device ran.write
