use Rattle.std.proofs.Common.{◌≡◌, Ok, Err, sym, subst, rules}
use Rattle.store_dumps.specs.Opening.{OpensStore, opened}
use Rattle.store_dumps.proofs.OpeningLemmas.{opened_as}
use Rattle.store_dumps.proofs.opening.open.Goals as goal

pub returns-clause-opening : goal.returns-clause-opening
returns-clause-opening g c =
    let facts = c.in_ok-opened.ensures in
    let old = g.D.Disk.view c.args.disk.now in
    let new = g.D.Disk.view c.open_rows.new.disk in
    let given = c.in_ok-opened.opened in
    let here : OpensStore c.args.list.now old new (Ok given) = record {
      refused = facts.refused;
      exactly = facts.exactly;
      limit = facts.limit;
      excused = λ file kept d n told within means. tt;
      unchanged = facts.unchanged;
      images = facts.images;
      device = facts.device;
      settled = facts.opened.at.rests.settled;
      calls = facts.calls;
      any_moment = facts.any_moment;
    } in
    opened_as c.args.list.now old new (Ok given) here

pub returns-clause-means : goal.returns-clause-means
returns-clause-means g c file kept d n told within means =
    (c.in_ok-opened.ensures.means file kept d n told within means).0

pub returns-clause-stands : goal.returns-clause-stands
returns-clause-stands g c file told =
    let stood = c.in_ok-opened.ensures.stood file told in
    (stood.0, stood.1, c.in_ok-opened.opened.journal.changes, stood.2, stood.3)

pub returns-in_err-opened-clause-opening : goal.returns-in_err-opened-clause-opening
returns-in_err-opened-clause-opening g c =
    let facts = c.in_err-opened.ensures in
    let old = g.D.Disk.view c.args.disk.now in
    let new = g.D.Disk.view c.open_rows.new.disk in
    let why = c.in_err-opened.field-0.0 in
    let here : OpensStore c.args.list.now old new (Err why) = record {
      refused = facts.refused;
      exactly = facts.exactly;
      limit = facts.limit;
      excused = facts.means;
      unchanged = facts.unchanged;
      images = facts.images;
      device = facts.device;
      settled = tt;
      calls = facts.calls;
      any_moment = facts.any_moment;
    } in
    let is : c.from_residual.result ≡ Err why = search rules in
    subst (λ r. OpensStore c.args.list.now old new (opened r)) (sym is)
    (opened_as c.args.list.now old new (Err why) here)
