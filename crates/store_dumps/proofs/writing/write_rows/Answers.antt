use Rattle.std.proofs.Common.{◌≡◌, ◌+◌, sym, ap, subst, ◌∙◌, take_all, arith, map, Err, rules}
use Rattle.agent_base.specs.Streams.{Takes, TakesPrefix}
use Rattle.row_changes.specs.Plain.{plain_change}
use Rattle.waiting_lines.proofs.PrefixLemmas.{front_end, front_then}
use Rattle.store_dumps.specs.Dump.{Writes, rows_text}
use Rattle.store_dumps.specs.declared.fault.DumpFault.TheVariants.{NoMemory, Write}
use Rattle.store_dumps.proofs.TextLemmas.{failed, first_text, next_held, stopped}
use Rattle.store_dumps.proofs.writing.write_rows.Goals as goal

pub loop-row-preserved : goal.loop-row-preserved
loop-row-preserved g c =
    let first = g.O.Sink.taken c.args.out.now in
    let out = g.O.Sink.taken c.loop-row.out in
    let later = g.O.Sink.taken c.write_many.new.out in
    let rows = c.args.rows.now in
    let i = c.loop-row.row-index in
    let held = c.loop-row.waiting.items in
    let now = c.hold.new.waiting.items in
    let front = next_held first out rows i c.row-item.result held now c.loop-row-test.true c.row-item.is
    c.loop-row.invariant.text c.in_ok-hold.ensures in
    record {
      still = c.in_ok-write_many.ensures.cause.still ∙ c.loop-row.invariant.still;
      text = front_then first out later (first_text rows (i + 1))
          now front c.write_many.new.waiting.items c.in_ok-write_many.ensures.written;
    }

pub returns-in_err-hold-clause-written : goal.returns-in_err-hold-clause-written
returns-in_err-hold-clause-written g c =
    let first = g.O.Sink.taken c.args.out.now in
    let out = g.O.Sink.taken c.loop-row.out in
    let rows = c.args.rows.now in
    let is : c.from_residual.result ≡ Err NoMemory = search rules in
    subst (λ r. Writes (rows_text (map plain_change rows)) r first out) (sym is)
    (stopped first out rows c.loop-row.row-index c.loop-row.waiting.items c.loop-row.invariant.text)

pub returns-in_err-write_many-clause-written : goal.returns-in_err-write_many-clause-written
returns-in_err-write_many-clause-written g c =
    let first = g.O.Sink.taken c.args.out.now in
    let out = g.O.Sink.taken c.loop-row.out in
    let later = g.O.Sink.taken c.write_many.new.out in
    let rows = c.args.rows.now in
    let i = c.loop-row.row-index in
    let held = c.loop-row.waiting.items in
    let now = c.hold.new.waiting.items in
    let front = next_held first out rows i c.row-item.result held now c.loop-row-test.true c.row-item.is
    c.loop-row.invariant.text c.in_ok-hold.ensures in
    let is : c.from_residual-in_err-write_many.result ≡ Err Write = search rules in
    subst (λ r. Writes (rows_text (map plain_change rows)) r first later) (sym is)
    (failed first later rows (i + 1) out now front c.in_err-write_many.ensures.prefix)

pub returns-in_err-write_all-clause-written : goal.returns-in_err-write_all-clause-written
returns-in_err-write_all-clause-written g c =
    let first = g.O.Sink.taken c.args.out.now in
    let out = g.O.Sink.taken c.loop-row.out in
    let later = g.O.Sink.taken c.write_all.new.sink in
    let rows = c.args.rows.now in
    let held = c.loop-row.waiting.items in
    let prefix = subst (TakesPrefix out later) c.deref.ensures.value c.in_err-write_all.ensures.prefix in
    let is : c.from_residual-in_err-write_all.result ≡ Err Write = search rules in
    subst (λ r. Writes (rows_text (map plain_change rows)) r first later) (sym is)
    (failed first later rows c.loop-row.row-index out held c.loop-row.invariant.text prefix)

pub returns-clause-written : goal.returns-clause-written
returns-clause-written g c =
    let first = g.O.Sink.taken c.args.out.now in
    let out = g.O.Sink.taken c.loop-row.out in
    let later = g.O.Sink.taken c.write_all.new.sink in
    let rows = c.args.rows.now in
    let i = c.loop-row.row-index in
    let held = c.loop-row.waiting.items in
    let all : first_text rows i ≡ rows_text (map plain_change rows) =
    ap (λ rs. rows_text (map plain_change rs)) (take_all i rows (omega (arith, c.loop-row-test.false))) in
    let takes = subst (Takes out later) c.deref.ensures.value c.in_ok-write_all.ensures.all in
    subst (Takes first later) all (front_end first out later (first_text rows i) held c.loop-row.invariant.text takes)
