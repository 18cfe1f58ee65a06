-- A line without channels goes.
use Rattle.std.proofs.Common.{sym, subst, None}
use Rattle.broadcast_channel.specs.Hearers.{by_id, by_line, WaitsAsBefore}
use Rattle.broadcast_channel.proofs.LineLemmas.{changes-then, gone-empty}
use Rattle.broadcast_channel.proofs.ViewLemmas.{by_id_total, by_line_total}
use Rattle.broadcast_channel.proofs.lines.leave.Goals as goal

pub returns-then-leave_line : goal.returns-then-leave_line
returns-then-leave_line g c =
    let rows = by_line g.K.Ord.cmp in
    let ids = by_id g.O.Ord.cmp in
    let rows_total = by_line_total _ g.K.Ord.cmp g.met.K.Ord.total in
    let ids_total = by_id_total g.O.Ord.cmp g.met.O.Ord.total in
    record {
      left =
          changes-then rows rows_total ids ids_total c.args.line.now c.args.id.now None c.args.lines.now c.leave_line.new.lines c.remove.new.self c.leave_line.ensures.left
          (subst (WaitsAsBefore rows ids c.leave_line.new.lines) (sym c.remove.ensures.removed)
          (gone-empty rows rows_total ids ids_total c.args.line.now c.leave_line.new.lines (c.leave_line.ensures.none c.if-leave_line.true)));
    }
