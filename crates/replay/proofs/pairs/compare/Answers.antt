use Rattle.origin_site.specs.Plain.{plain_site}
use Rattle.replay.specs.BeforeAfter.{from_to}
use Rattle.replay.specs.Commands.{IsAnswer}
use Rattle.replay.specs.Twins.{twin_line}
use Rattle.twins.specs.Plain.{plain_twin}
use Rattle.replay.proofs.TwinLemmas.{answered}
use Rattle.replay.proofs.pairs.compare.Goals as goal
use Rattle.replay.proofs.pairs.compare.Goals.{In-Ok-twin}

-- the line of the answer is that of the two scripts that were read
is_answer : (g : _) (c : In-Ok-twin g)
    → IsAnswer c.args.list.now (plain_site c.args.site.now) c.args.options.start c.args.options.batch (from_to (g.I.Source.left c.args.script.now) (g.I.Source.left c.read_scripts.new.script)) (twin_line (plain_twin c.in-Ok-twin.answer))
is_answer g c =
    let options = c.args.options in
    let left = from_to (g.I.Source.left c.args.script.now) (g.I.Source.left c.read_scripts.new.script) in
    let read = c.in-Ok.ensures.read in
    answered c.args.list.now (plain_site c.args.site.now) options.start options.batch left read.0 c.in-Ok.first c.in-Ok.second (plain_twin c.in-Ok-twin.answer) read.1 read.2 c.deref.result.now c.deref-in-Ok.result.now c.deref.ensures.value c.deref-in-Ok.ensures.value
    c.in-Ok-twin.ensures.answer

pub returns-in-Ok-write_answer-clause-text : goal.returns-in-Ok-write_answer-clause-text
returns-in-Ok-write_answer-clause-text g c =
    (twin_line (plain_twin c.in-Ok-twin.answer), is_answer g (goal.at.returns-in-Ok-write_answer-clause-text g c).In-Ok-twin, c.in-Ok-write_answer.ensures.all)

pub returns-in-Ok-twin-clause-text : goal.returns-in-Ok-twin-clause-text
returns-in-Ok-twin-clause-text g c =
    (twin_line (plain_twin c.in-Ok-twin.answer), is_answer g (goal.at.returns-in-Ok-twin-clause-text g c).In-Ok-twin, c.in-Err-write_answer.ensures.prefix)
