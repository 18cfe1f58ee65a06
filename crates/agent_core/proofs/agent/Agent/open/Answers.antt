-- The agent stands for what the store on the disk stands for.
use Rattle.std.proofs.Common.{Ok, refl, subst, sym}
use Rattle.journal.specs.Opening.{HasNoFault}
use Rattle.row_store.specs.Stored.{saved_of}
use Rattle.row_opening.specs.Under.{MakesCalls}
use Rattle.row_opening.proofs.Calls.{makes_err, makes_ok}
use Rattle.agent_core.proofs.OpeningLemmas.{opened_well, refused_well}
use Rattle.agent_core.proofs.agent.Agent.open.Goals as goal

pub returns-in-Ok-clause-seen : goal.returns-in-Ok-clause-seen
returns-in-Ok-clause-seen g c =
    let seen = c.begin.ensures.seen in (
      saved_of c.in-Ok.opened.parts,
      c.in-Ok.ensures.opened.valid,
      c.in-Ok.ensures.opened.under,
      (
        seen.0,
        seen.1,
        λ file kept d n is means.
            (c.in-Ok.ensures.means file kept d n is (c.in-Ok.ensures.within file is) means).0,
        λ file is.
            let stood = c.in-Ok.ensures.stood file is in
            (stood.0, stood.1, c.in-Ok.opened.journal.changes, stood.2, stood.3),
      ),
    )

pub returns-in-Ok-clause-others : goal.returns-in-Ok-clause-others
returns-in-Ok-clause-others g c =
    let view = g.D.Disk.view in
    subst (λ d. HasNoFault (view c.args.disk) (view d)) (sym c.begin.ensures.disk)
    (opened_well _ c.in-Ok.opened (view c.args.disk) (view c.open_rows.new.disk) refl
    c.in-Ok.ensures.device)

pub returns-in-Ok-clause-calls : goal.returns-in-Ok-clause-calls
returns-in-Ok-clause-calls g c file is =
    let view = g.D.Disk.view in
    subst (λ d. MakesCalls {T = Unit {0}} c.args.list.now file (Ok tt) (view c.args.disk) (view d))
    (sym c.begin.ensures.disk)
    (makes_ok c.args.list.now file c.in-Ok.opened tt (view c.args.disk) _
    (c.in-Ok.ensures.calls file is))

pub returns-in-Err-clause-others : goal.returns-in-Err-clause-others
returns-in-Err-clause-others g c other =
    let view = g.D.Disk.view in
    refused_well _ c.in-Err.why (view c.args.disk) (view c.open_rows.new.disk) refl
    c.in-Err.ensures.device other

pub returns-in-Err-clause-calls : goal.returns-in-Err-clause-calls
returns-in-Err-clause-calls g c file is =
    makes_err c.args.list.now file c.in-Err.why _ _ (c.in-Err.ensures.calls file is)
