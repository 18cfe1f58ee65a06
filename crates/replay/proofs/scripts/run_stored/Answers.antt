use Rattle.std.proofs.Common.{false, subst, sym, ap, ◌∙◌}
use Rattle.replay.specs.BeforeAfter.{from_to}
use Rattle.replay.specs.Runs.{ScriptRead}
use Rattle.replay.specs.Stores.{LeftAlone, RanLines, RanStored}
use Rattle.store_runs.specs.Steps.{steps_of}
use Rattle.replay.proofs.ScriptLemmas.{steps_read}
use Rattle.replay.proofs.StatusLemmas.{written_weaker}
use Rattle.replay.proofs.scripts.run_stored.Goals as goal

pub returns-in-Ok-clause-text : goal.returns-in-Ok-clause-text
returns-in-Ok-clause-text g c =
    let options = c.args.options in
    let path = c.args.path.now in
    let list = c.args.list.now in
    let script = c.in-Ok.script in
    let read = c.in-Ok.ensures.read in
    let before = g.H.Host.stores c.args.host.now path in
    let after = g.H.Host.stores c.run_over.new.host path in
    let taken = from_to (g.O.Sink.taken c.args.out.now) (g.O.Sink.taken c.run_over.new.out) in
    let counts = from_to (g.H.Host.store_faults c.args.host.now) (g.H.Host.store_faults c.run_over.new.host) in
    let tells = g.H.Host.tells_stores c.args.host.now in
    let left = from_to (g.I.Source.left c.args.script.now) (g.I.Source.left c.read_script.new.script) in
    let same = steps_read read.0.script script.cuts.items script.lines.items read.1 ∙ ap steps_of (sym c.deref.ensures.value) in
    let alone = LeftAlone taken before after in
    written_weaker c.run_over.result alone alone (λ e. RanLines options.start options.batch options.checkpoint taken counts tells before after e list (steps_of c.deref.result.now))
    (λ e. (r : ScriptRead false left) × RanStored options.start options.batch options.checkpoint taken counts tells before after e list r.script)
    (λ nothing. nothing) (λ e ran. (read.0, subst (RanLines options.start options.batch options.checkpoint taken counts tells before after e list) (sym same) ran)) c.run_over.ensures.text
