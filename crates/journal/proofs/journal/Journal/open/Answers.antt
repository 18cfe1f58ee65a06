use Rattle.std.proofs.lemmas.Result.{on_ok_weaker}
use Rattle.journal.specs.Opening.{FileMeans, OpensUnder}
use Rattle.journal.proofs.Openings.{if_told, of_file_alone}
use Rattle.journal.proofs.Opened.{opens_from, opened_stands, opened_upgraded, opened_grown}
use Rattle.journal.proofs.Refusals.{opens_as, opens_means, opens_under, opens_exactly}
use Rattle.journal.proofs.journal.Journal.open.Goals as goal

pub returns-clause-opened : goal.returns-clause-opened
returns-clause-opened g c =
    let V = g.D.Disk.view in
    let R = g.R.Replay in
    opened_stands (R.takes (R.rules c.args.into.now)) R.empty (R.state c.open_store.new.into) c.args.digest.now c.open_store.result (V c.args.disk.now).contents (V c.open_store.new.disk).contents c.open_store.ensures.opened

pub returns-clause-upgraded : goal.returns-clause-upgraded
returns-clause-upgraded g c =
    let V = g.D.Disk.view in
    let R = g.R.Replay in
    opened_upgraded (R.takes (R.rules c.args.into.now)) R.empty (R.state c.open_store.new.into) c.args.digest.now c.open_store.result (V c.args.disk.now).contents (V c.open_store.new.disk).contents c.open_store.ensures.opened

pub returns-clause-long : goal.returns-clause-long
returns-clause-long g c =
    let V = g.D.Disk.view in
    let R = g.R.Replay in
    opened_grown (R.takes (R.rules c.args.into.now)) R.empty (R.state c.open_store.new.into) c.args.digest.now c.open_store.result (V c.args.disk.now).contents (V c.open_store.new.disk).contents c.open_store.ensures.opened

pub returns-clause-means : goal.returns-clause-means
returns-clause-means g c = λ x held s n is within means.
    let V = g.D.Disk.view in
    let R = g.R.Replay in
    let law = g.met.R.Replay in
    let by = R.rules c.args.into.now in
    let o = c.open_store.ensures in
    let state = R.state c.open_store.new.into in
    let opened = opens_from (R.takes by) R.empty state c.args.digest.now c.open_store.result (V c.args.disk.now).contents (V c.open_store.new.disk).contents x is o.opened in
    opens_means (R.takes by) (R.refuses by) R.empty (law.one_state by) (law.one_count by) (law.one_fault by) (law.apart by) c.args.limit c.args.digest.now x state c.open_store.result opened (λ why e. o.refused why e x is) held s n within means

pub returns-clause-stood : goal.returns-clause-stood
returns-clause-stood g c =
    let V = g.D.Disk.view in
    let R = g.R.Replay in
    let law = g.met.R.Replay in
    let by = R.rules c.args.into.now in
    let old = (V c.args.disk.now).contents in
    let state = R.state c.open_store.new.into in
    let o = c.open_store.ensures in
    if_told c.open_store.result old (λ x j. FileMeans (R.takes by) R.empty j.digest x state j.changes) (λ x is.
    let opened = opens_from (R.takes by) R.empty state c.args.digest.now c.open_store.result old (V c.open_store.new.disk).contents x is o.opened in
    opens_as (R.takes by) (R.refuses by) R.empty (law.one_state by) (law.one_count by) (law.one_fault by) (law.apart by) c.args.limit c.args.digest.now x state c.open_store.result opened (λ why e. o.refused why e x is))

pub returns-clause-under : goal.returns-clause-under
returns-clause-under g c =
    let V = g.D.Disk.view in
    let R = g.R.Replay in
    let law = g.met.R.Replay in
    let by = R.rules c.args.into.now in
    let old = (V c.args.disk.now).contents in
    let state = R.state c.open_store.new.into in
    let o = c.open_store.ensures in
    if_told c.open_store.result old (λ x j. OpensUnder c.args.digest.now x j.digest) (λ x is.
    let opened = opens_from (R.takes by) R.empty state c.args.digest.now c.open_store.result old (V c.open_store.new.disk).contents x is o.opened in
    opens_under (R.takes by) (R.refuses by) R.empty (law.one_state by) (law.one_count by) (law.one_fault by) (law.apart by) c.args.limit c.args.digest.now x state c.open_store.result opened (λ why e. o.refused why e x is))

pub returns-clause-exactly : goal.returns-clause-exactly
returns-clause-exactly g c = λ why x is of_file cause.
    let V = g.D.Disk.view in
    let R = g.R.Replay in
    let law = g.met.R.Replay in
    let by = R.rules c.args.into.now in
    let o = c.open_store.ensures in
    let state = R.state c.open_store.new.into in
    let opened = opens_from (R.takes by) R.empty state c.args.digest.now c.open_store.result (V c.args.disk.now).contents (V c.open_store.new.disk).contents x is o.opened in
    opens_exactly (R.takes by) (R.refuses by) R.empty (law.one_state by) (law.one_count by) (law.one_fault by) (law.apart by) c.args.limit c.args.digest.now x state c.open_store.result opened (λ why e. o.refused why e x is)
    (on_ok_weaker c.open_store.result (λ within. within x is) o.within) why of_file cause

pub returns-clause-unchanged : goal.returns-clause-unchanged
returns-clause-unchanged g c = λ why is_err of_file. (c.open_store.ensures.images why is_err (of_file_alone why of_file)).contents
