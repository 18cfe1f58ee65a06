-- The request goes, and its queue is processed.
use Rattle.std.proofs.Common.{◌≡◌, ◌∙◌, ap, filter, not, subst, sym, true}
use Rattle.std.specs.List.{AllByRecursion}
use Rattle.std.specs.Prelude.{string_bytes}
use Rattle.std.specs.Rc.{rc_value}
use Rattle.web_locks.specs.Forms.{IsOpen, is_plain}
use Rattle.web_locks.specs.Index.{locks_of}
use Rattle.web_locks.specs.Kept.{processed_at}
use Rattle.web_locks.specs.Lock.{is_request_of, line_of}
use Rattle.web_locks.specs.Queue.{processed}
use Rattle.web_locks.specs.Requests.{released, released_by}
use Rattle.web_locks.proofs.RowLemmas.{find_row, removed_row, some_is, without_absent}
use Rattle.web_locks.proofs.ServedLemmas.{below_without}
use Rattle.web_locks.proofs.StandingLemmas.{line_left, plain_filter}
use Rattle.web_locks.proofs.TableLemmas.{is_request_of-itself}
use Rattle.web_locks.proofs.ToldLemmas.{indexed_without}
use Rattle.web_locks.proofs.requests.Requests.release_row.Goals as goal

pub process-requires-clause-indexed : goal.process-requires-clause-indexed
process-requires-clause-indexed g c =
    indexed_without g.K.Ord.cmp c.args.number c.in-Some.request c.args.self.now c.take.new.self c.take.ensures.ordered (sym c.in-Some.ensures.row)
    c.requires.indexed c.take.ensures.made c.take.ensures.taken c.take.ensures.told

pub process-requires-clause-line : goal.process-requires-clause-line
process-requires-clause-line g c =
    let lock = c.in-Some.request in
    let rows = c.args.self.now.rows in
    rw c.take.ensures.taken
    (subst (λ ls. IsOpen (line_of g.K.Ord.cmp (rc_value c.request.inside.resource).key (string_bytes (rc_value c.request.inside.resource).name) ls))
    (sym (removed_row lock.owner lock.id c.args.number lock rows c.take.ensures.ordered c.requires.standing.kept.distinct
    (sym c.in-Some.ensures.row) (is_request_of-itself lock)))
    (line_left g.K.Ord.cmp (λ y. not (is_request_of lock.owner lock.id y)) (locks_of rows) c.requires.standing.kept _ _))

pub process-requires-clause-plain : goal.process-requires-clause-plain
process-requires-clause-plain g c =
    let lock = c.in-Some.request in
    let rows = c.args.self.now.rows in
    rw c.take.ensures.taken
    (subst (λ ls. AllByRecursion (λ l. is_plain l ≡ true) ls)
    (sym (removed_row lock.owner lock.id c.args.number lock rows c.take.ensures.ordered c.requires.standing.kept.distinct
    (sym c.in-Some.ensures.row) (is_request_of-itself lock)))
    (plain_filter (λ y. not (is_request_of lock.owner lock.id y)) (locks_of rows) c.requires.standing.plain))

pub returns-in-Some-clause-released : goal.returns-in-Some-clause-released
returns-in-Some-clause-released g c = λ lock row.
    let own = c.in-Some.request in
    let rows = c.args.self.now.rows in
    let found = sym c.in-Some.ensures.row in
    let gone =
    removed_row own.owner own.id c.args.number own rows c.take.ensures.ordered c.requires.standing.kept.distinct found (is_request_of-itself own) in
    subst (λ l. locks_of c.process.new.self.rows ≡ released g.K.Ord.cmp l.owner l.id (locks_of rows)) (some_is own lock (c.in-Some.ensures.row ∙ row))
    (c.process.ensures.processed
    ∙ ap (processed_at g.K.Ord.cmp c.request.inside.resource) (ap locks_of c.take.ensures.taken ∙ gone)
    ∙ ap (λ l. processed g.K.Ord.cmp l.key l.name (filter (λ y. not (is_request_of own.owner own.id y)) (locks_of rows))) c.request.view_is
    ∙ sym (ap (λ f. released_by g.K.Ord.cmp own.owner own.id f (locks_of rows))
    (find_row c.args.number own rows c.requires.standing.kept.distinct found)))

pub returns-in-None-clause-indexed : goal.returns-in-None-clause-indexed
returns-in-None-clause-indexed g c =
    let rows = c.args.self.now.rows in
    let none = sym c.in-None.ensures.row in
    record {
      below = rw (c.take.ensures.made, c.take.ensures.taken) (below_without c.args.self.now.made c.args.number rows c.requires.indexed.below);
      told = rw (c.take.ensures.none none, c.take.ensures.taken ∙ without_absent c.args.number rows none) c.requires.indexed.told;
    }
