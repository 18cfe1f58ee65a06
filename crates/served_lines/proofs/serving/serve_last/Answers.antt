use Rattle.std.proofs.Common.{[], sym, ◌∙◌}
use Rattle.served_lines.proofs.ServedLemmas.{answered_last, cut_at_end, stopped_line}
use Rattle.served_lines.proofs.serving.serve_last.Goals as goal

pub returns-in-Ok-clause-serves : goal.returns-in-Ok-clause-serves
returns-in-Ok-clause-serves g c = λ first before after taken ended s. (
  answered_last g.D.Disk.view first c.args.session.now before after taken (g.O.Sink.taken c.args.out.now)
      c.args.place.now.line c.args.place.now.number s c.serve_line.new.session (g.O.Sink.taken c.serve_line.new.out)
      (c.in-Ok.ensures.answered s.line s.waits) ended c.in-Ok.ensures.tidy,
  sym c.is_down.ensures.down ∙ c.if-is_down.true,
)

pub returns-in-Ok-2-clause-serves : goal.returns-in-Ok-2-clause-serves
returns-in-Ok-2-clause-serves g c = λ first before after taken ended s. (
  answered_last g.D.Disk.view first c.args.session.now before after taken (g.O.Sink.taken c.args.out.now)
      c.args.place.now.line c.args.place.now.number s c.serve_line.new.session (g.O.Sink.taken c.serve_line.new.out)
      (c.in-Ok-2.ensures.answered s.line s.waits) ended c.in-Ok-2.ensures.tidy,
  sym c.is_down.ensures.down ∙ c.if-is_down.false,
)

pub returns-in-Err-clause-serves : goal.returns-in-Err-clause-serves
returns-in-Err-clause-serves g c = λ first before after taken ended s.
    stopped_line g.D.Disk.view first c.args.session.now before after taken (g.O.Sink.taken c.args.out.now)
    c.args.place.now.line c.args.place.now.number [] s c.serve_line.new.session (g.O.Sink.taken c.serve_line.new.out) []
    (cut_at_end s.line s.waits.one) c.in-Err.ending (c.in-Err.ensures.stopped s.line s.waits)
