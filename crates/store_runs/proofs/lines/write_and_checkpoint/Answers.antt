use Rattle.std.proofs.Common.{◌++◌, append-nil, ap, subst, sym, ◌∙◌}
use Rattle.agent_base.specs.Streams.{Takes}
use Rattle.store_runs.proofs.AgentLemmas.{checkpoint_called, checkpoint_wants}
use Rattle.store_runs.proofs.lines.write_and_checkpoint.Goals as goal

pub returns-in-Memory-clause-stops : goal.returns-in-Memory-clause-stops
returns-in-Memory-clause-stops g c = (
  subst (Takes (g.O.Sink.taken c.args.out.now) (g.O.Sink.taken c.write_all.new.sink)) c.deref.ensures.value c.in-Ok.ensures.all,
  c.in-Ok.ensures.cause.still,
  checkpoint_wants g.D.Disk.view c.args.agent.now c.make_checkpoint.new.agent c.requires c.in-Memory.ensures.ends,
)

pub returns-in_default : goal.returns-in_default
returns-in_default g c =
    let waiting = c.args.waiting.now.items in
    let took = subst (Takes (g.O.Sink.taken c.args.out.now) (g.O.Sink.taken c.write_all.new.sink))
    c.deref.ensures.value c.in-Ok.ensures.all in
    record {
      settled = (
        (waiting, (took, sym (append-nil waiting) ∙ ap (λ rest. waiting ++ rest) (sym c.clear.ensures.items))),
        c.in-Ok.ensures.cause.still,
        checkpoint_called g.D.Disk.view c.args.agent.now c.make_checkpoint.new.agent c.requires
            c.make_checkpoint.result c.make_checkpoint.ensures.ends c.in_default.not-Memory,
      );
      stops = tt;
      goes_on = c.make_checkpoint.ensures.goes_on;
      counts = c.make_checkpoint.ensures.counts;
    }
