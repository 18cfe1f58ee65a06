use Rattle.std.proofs.Common.{Some, option_map, subst, sym, ◌∙◌}
use Rattle.command_line.specs.Words.{Replay}
use Rattle.replay.specs.BeforeAfter.{from_to}
use Rattle.replay.specs.Commands.{Obeys}
use Rattle.replay.proofs.ReplayLemmas.{obeys_new, obeys_stored}
use Rattle.replay.proofs.scripts.replay.Goals as goal

pub returns-in-Some : goal.returns-in-Some
returns-in-Some g c =
    let old = c.args.host.now in
    let mid = c.read_list.new.host in
    let new = c.run_stored.new.host in
    let script = from_to c.args.script.now c.run_stored.new.script in
    let out = from_to c.args.out.now c.run_stored.new.out in
    let options = c.args.options in
    let status = c.run_stored.result in
    let list = c.in-Ok.ensures in
    let ran = c.run_stored.ensures in
    subst (λ s. Obeys g.H.Host g.I.Source g.O.Sink (Some (Replay c.args.list.now (option_map (λ path. path.now) s) options.batch options.checkpoint options.start)) status (from_to old new) script out) (sym c.in-Some.is)
    (obeys_stored g.H.Host g.I.Source g.O.Sink c.args.list.now options.start options.batch options.checkpoint status old mid script out c.in-Ok.list list.list list.stores list.still list.store_faults list.closed list.others list.reads new
    c.in-Some.path.now list.tells ran.left ran.text ran.ends ran.later ran.script ran.unread ran.read ran.device ran.write)

pub returns-in-Ok : goal.returns-in-Ok
returns-in-Ok g c =
    let old = c.args.host.now in
    let mid = c.read_list.new.host in
    let script = from_to c.args.script.now c.run_in_new.new.script in
    let out = from_to c.args.out.now c.run_in_new.new.out in
    let options = c.args.options in
    let status = c.run_in_new.result in
    let list = c.in-Ok.ensures in
    let ran = c.run_in_new.ensures in
    subst (λ s. Obeys g.H.Host g.I.Source g.O.Sink (Some (Replay c.args.list.now (option_map (λ path. path.now) s) options.batch options.checkpoint options.start)) status (from_to old mid) script out) (sym c.in-None.is)
    (obeys_new g.H.Host g.I.Source g.O.Sink c.args.list.now options.start options.batch options.checkpoint status old mid script out c.in-Ok.list list.list list.stores list.still list.store_faults list.closed list.others list.reads (list.store_out ∙ c.requires.closed)
    ran.text ran.ends ran.later ran.script ran.read ran.write)
