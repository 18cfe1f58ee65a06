use Rattle.std.proofs.Common.{◌∙◌}
use Rattle.origin_site.specs.Plain.{plain_site}
use Rattle.replay.specs.BeforeAfter.{from_to}
use Rattle.replay.proofs.TwinLemmas.{obeys_twin}
use Rattle.replay.proofs.pairs.write_twin.Goals as goal

pub returns-in-Ok-read_list : goal.returns-in-Ok-read_list
returns-in-Ok-read_list g c =
    let options = c.args.options in
    let list = c.in-Ok-read_list in
    obeys_twin g.H.Host g.I.Source g.O.Sink c.args.site.now c.args.list.now options.start options.batch options.checkpoint c.compare.result c.args.host.now c.read_list.new.host (from_to c.args.script.now c.compare.new.script)
    (from_to c.args.out.now c.compare.new.out) (plain_site c.in-Ok.site) c.in-Ok.ensures.answer list.list list.ensures.list list.ensures.stores list.ensures.still list.ensures.store_faults list.ensures.closed list.ensures.others
    list.ensures.reads (list.ensures.store_out ∙ c.requires.closed) c.compare.ensures.text c.compare.ensures.compared c.compare.ensures.script c.compare.ensures.read c.compare.ensures.write
