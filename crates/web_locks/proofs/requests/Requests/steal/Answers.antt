-- The request is added, those that hold the lock go, and it holds it.
use Rattle.std.proofs.Common.{◌∙◌, ap}
use Rattle.std.specs.Prelude.{string_bytes}
use Rattle.web_locks.specs.Index.{held_row, locks_of, row_at}
use Rattle.web_locks.specs.Kept.{without_held}
use Rattle.web_locks.specs.Lock.{in_line}
use Rattle.web_locks.specs.Requests.{holding}
use Rattle.web_locks.proofs.RequestLemmas.{thief_holds, thief_pushed, thief_row}
use Rattle.web_locks.proofs.ServedLemmas.{below_set, held_row_is}
use Rattle.web_locks.proofs.TableLemmas.{in_line-itself}
use Rattle.web_locks.proofs.requests.Requests.steal.Goals as goal

pub take_held-requires-clause-thief : goal.take_held-requires-clause-thief
take_held-requires-clause-thief g c =
    thief_pushed g.K.Ord.cmp c.in-Ok.resource c.args.self.now.made c.args.request c.requires.waits c.args.self.now.rows c.push.new.self.rows c.requires.standing
    c.in_ok-push.ensures.pushed

pub returns-clause-stolen : goal.returns-clause-stolen
returns-clause-stolen g c =
    let cmp = g.K.Ord.cmp in
    let r = c.in-Ok.resource in
    let n = c.args.self.now.made in
    ap locks_of
    (c.hold.ensures.held
    ∙ ap (held_row n) (c.take_held.ensures.taken ∙ ap (without_held cmp r) c.in_ok-push.ensures.pushed))
    ∙ thief_holds cmp r n c.args.request c.requires.waits c.args.self.now.rows c.requires.indexed.below
    (λ q. ap (λ v. in_line cmp v.key (string_bytes v.name) q) c.in-Ok.ensures.cases ∙ ap (λ l. in_line cmp l.key l.name q) c.request.view_is)

pub returns-clause-indexed : goal.returns-clause-indexed
returns-clause-indexed g c =
    let cmp = g.K.Ord.cmp in
    let r = c.in-Ok.resource in
    let n = c.args.self.now.made in
    let lock = c.args.request in
    let rows = c.take_held.new.self.rows in
    let row = ap (row_at n) (c.take_held.ensures.taken ∙ ap (without_held cmp r) c.in_ok-push.ensures.pushed)
    ∙ thief_row cmp r n lock c.requires.waits c.args.self.now.rows c.requires.indexed.below in
    record {
      below =
          rw (c.hold.ensures.held ∙ held_row_is n lock rows row, c.hold.ensures.made)
          (below_set c.take_held.new.self.made n (holding lock) rows c.take_held.ensures.indexed.below);
      told =
          c.hold.ensures.told lock row
          (ap (λ v. in_line cmp v.key (string_bytes v.name) lock) c.in-Ok.ensures.cases ∙ ap (λ l. in_line cmp l.key l.name lock) c.request.view_is
          ∙ in_line-itself cmp g.met.K.Ord.total lock)
          c.take_held.ensures.indexed.told;
    }
