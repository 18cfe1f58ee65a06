use Rattle.std.proofs.Common.{◌≡◌, Err, map, sym, ap, subst, ◌∙◌, refl, rules}
use Rattle.row_changes.specs.Plain.{plain_change}
use Rattle.durable_model.specs.Migrate.{migrate}
use Rattle.row_store.specs.Listing.{listed}
use Rattle.row_store.specs.Stored.{saved_of}
use Rattle.waiting_lines.proofs.PrefixLemmas.{nothing_taken}
use Rattle.store_dumps.specs.Dump.{Writes, WritesSome, dump_text, rows_text}
use Rattle.store_dumps.specs.declared.fault.DumpFault.TheVariants.{NoMemory}
use Rattle.store_dumps.proofs.TextLemmas.{writes_some}
use Rattle.store_dumps.proofs.printing.dump.Goals as goal

pub returns-in_err-rows-clause-written : goal.returns-in_err-rows-clause-written
returns-in_err-rows-clause-written g c file kept was n told within means =
    let d = migrate c.args.list.now.rules was in
    let out = g.O.Sink.taken c.args.out.now in
    let is : c.from_residual-in_err-rows.result ≡ Err NoMemory = search rules in
    subst (λ r. Writes (dump_text d) r out out) (sym is) (nothing_taken out (dump_text d))

pub returns-in_err-rows-clause-rows : goal.returns-in_err-rows-clause-rows
returns-in_err-rows-clause-rows g c =
    let out = g.O.Sink.taken c.args.out.now in
    let d = saved_of c.in_ok-parts.parts in
    let is : c.from_residual-in_err-rows.result ≡ Err NoMemory = search rules in
    let told = (g.D.Disk.view c.args.disk.now).contents in
    subst (λ r. WritesSome c.args.list.now told r out out) (sym is)
    (writes_some c.args.list.now told (Err NoMemory) out out d refl c.in_ok-parts.ensures.valid
    c.in_ok-parts.ensures.under c.in_ok-parts.ensures.read c.in_ok-parts.ensures.stands (nothing_taken out (dump_text d)))

pub returns-clause-written : goal.returns-clause-written
returns-clause-written g c file kept d n told within means =
    let text = ap (λ rs. rows_text (map plain_change rs)) c.deref.ensures.value
    ∙ ap rows_text (c.in_ok-rows.ensures.rows ∙ ap listed (c.in_ok-parts.ensures.means file kept d n told within means)) in
    subst (λ t. Writes t c.write_rows.result (g.O.Sink.taken c.args.out.now)
    (g.O.Sink.taken c.write_rows.new.out)) text c.write_rows.ensures.written

pub returns-clause-rows : goal.returns-clause-rows
returns-clause-rows g c =
    let out = g.O.Sink.taken c.args.out.now in
    let later = g.O.Sink.taken c.write_rows.new.out in
    let text = ap (λ rs. rows_text (map plain_change rs)) c.deref.ensures.value ∙ ap rows_text c.in_ok-rows.ensures.rows in
    writes_some c.args.list.now (g.D.Disk.view c.args.disk.now).contents c.write_rows.result out later
    (saved_of c.in_ok-parts.parts)
    c.write_rows.ensures.open c.in_ok-parts.ensures.valid c.in_ok-parts.ensures.under c.in_ok-parts.ensures.read c.in_ok-parts.ensures.stands
    (subst (λ t. Writes t c.write_rows.result out later) text c.write_rows.ensures.written)
