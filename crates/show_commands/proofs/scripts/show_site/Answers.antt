use Rattle.origin_site.specs.Plain.{plain_site}
use Rattle.replay.specs.BeforeAfter.{from_to}
use Rattle.show_commands.proofs.ServeLemmas.{serves_shown}
use Rattle.show_commands.proofs.scripts.show_site.Goals as goal

pub returns-in-Ok-read_list : goal.returns-in-Ok-read_list
returns-in-Ok-read_list g c =
    let options = c.args.options in
    let list = c.in-Ok-read_list in
    let shown = c.write_shown in
    serves_shown g.H.Host g.I.Source g.O.Sink c.args.what c.args.site.now c.args.list.now options.start options.batch
    options.checkpoint shown.result c.args.host.now c.read_list.new.host (from_to c.args.script.now shown.new.script)
    (from_to c.args.out.now shown.new.out) (plain_site c.in-Ok.site) c.in-Ok.ensures.answer list.list list.ensures.list
    (record {
      stores = list.ensures.stores;
      faults = list.ensures.store_faults;
      out = list.ensures.store_out;
      tells = list.ensures.tells;
    })
    list.ensures.still list.ensures.closed list.ensures.others list.ensures.reads shown.ensures.text shown.ensures.scripts
    shown.ensures.script shown.ensures.read shown.ensures.write
