use Rattle.std.proofs.Common.{inl, inr, refl, sym, ap, ap₂, subst, ◌∙◌}
use Rattle.agent_base.specs.Counts.{Rose}
use Rattle.agent_base.proofs.Pieces.{takes_none}
use Rattle.served_lines.specs.Disks.{IsStoreEnd}
use Rattle.served_lines.specs.Serving.{SinkCounts, SourceCounts}
use Rattle.served_lines.proofs.DiskLemmas.{device_of, refused_reads, refused_so, refused_store, refused_writes, served_down, served_goes, served_store}
use Rattle.served_lines.proofs.disks.serve_on.Goals as goal

-- ---- the store was opened

pub returns-in-Ok-clause-served : goal.returns-in-Ok-clause-served
returns-in-Ok-clause-served g c =
    let seen = c.in-Ok.ensures.seen in
    let begun = c.in-Ok.ensures.begun in
    inr (record {
      base = seen.0;
      valid = seen.1;
      fits = seen.2;
      meant = λ file is. record { stands = seen.3.2 file is; alone = λ kept d n means. seen.3.1 file kept d n is means };
      first = c.in-Ok.session;
      last = c.serve-ending.new.session;
      under = ap₂ (λ rules digest. record { rules = rules; digest = digest }) begun.0 begun.1;
      due = begun.2;
      tells = c.in-Ok.ensures.tells;
      begins = seen.3.0;
      serves = c.serve-ending.ensures.served;
      left = c.into_disk.ensures;
    })

pub returns-in-Ok-clause-refused : goal.returns-in-Ok-clause-refused
returns-in-Ok-clause-refused g c = λ why file contents of is. absurd (c.in-Ok.ensures.exactly why file contents of is)

pub returns-in-Ok-clause-device : goal.returns-in-Ok-clause-device
returns-in-Ok-clause-device g c = λ device.
    subst (λ disk. Rose (g.D.Disk.view c.args.disk).faults (g.D.Disk.view disk).faults) (sym c.into_disk.ensures)
    (served_down g.D.Disk.view c.in-Ok.session c.serve-ending.new.session _ _ _ _ (g.D.Disk.view c.args.disk).faults
    c.in-Ok.ensures.counts c.serve-ending.result c.serve-ending.ensures.served device)

pub returns-in-Ok-clause-tells : goal.returns-in-Ok-clause-tells
returns-in-Ok-clause-tells g c =
    ap (λ disk. (g.D.Disk.view disk).tells) c.into_disk.ensures
    ∙ (served_goes g.D.Disk.view c.in-Ok.session c.serve-ending.new.session _ _ _ _ c.serve-ending.result
    c.serve-ending.ensures.served).tells
    ∙ c.in-Ok.ensures.tells

pub returns-in-Ok-clause-store : goal.returns-in-Ok-clause-store
returns-in-Ok-clause-store g c =
    served_store g.D.Disk.view c.in-Ok.session c.serve-ending.new.session _ _ _ _ c.serve-ending.result
    c.serve-ending.ensures.served

-- ---- it was not

pub returns-in-Err-clause-store : goal.returns-in-Err-clause-store
returns-in-Err-clause-store g c = subst IsStoreEnd (sym c.ended_by.ensures) (refused_store c.in-Err.refusal.why)

pub returns-in-Err-clause-served : goal.returns-in-Err-clause-served
returns-in-Err-clause-served g c = inl (
  c.in-Err.refusal.why,
  record {
    ends = c.ended_by.ensures;
    cause = c.in-Err.ensures.refused;
    device = c.in-Err.ensures.counts;
    unchanged = c.in-Err.ensures.unchanged;
    unread = refl;
    text = takes_none (g.O.Sink.taken c.args.out.now);
  },
)

pub returns-in-Err-clause-refused : goal.returns-in-Err-clause-refused
returns-in-Err-clause-refused g c = λ why file contents of is. (
  takes_none (g.O.Sink.taken c.args.out.now),
  refused_so c.in-Err.refusal.why why c.ended_by.result c.ended_by.ensures of
      (c.in-Err.ensures.exactly why file contents of is),
)

pub returns-in-Err-clause-device : goal.returns-in-Err-clause-device
returns-in-Err-clause-device g c = λ device.
    c.in-Err.ensures.counts (device_of c.in-Err.refusal.why (sym c.ended_by.ensures ∙ device))

pub returns-in-Err-clause-read : goal.returns-in-Err-clause-read
returns-in-Err-clause-read g c =
    subst (λ e. SourceCounts e (g.I.Source.faults c.args.source.now) (g.I.Source.faults c.args.source.now))
    (sym c.ended_by.ensures) (refused_reads c.in-Err.refusal.why (g.I.Source.faults c.args.source.now))

pub returns-in-Err-clause-write : goal.returns-in-Err-clause-write
returns-in-Err-clause-write g c =
    subst (λ e. SinkCounts e (g.O.Sink.faults c.args.out.now) (g.O.Sink.faults c.args.out.now))
    (sym c.ended_by.ensures) (refused_writes c.in-Err.refusal.why (g.O.Sink.faults c.args.out.now))
