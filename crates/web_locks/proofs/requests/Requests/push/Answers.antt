-- A row behind all others, which goes again where it cannot be found.
use Rattle.std.proofs.Common.{rules, ◌≡◌, ◌∙◌, ◌+◌, ap, sym}
use Rattle.web_locks.specs.Index.{row_at, without_row}
use Rattle.web_locks.proofs.GroupLemmas.{ok_from}
use Rattle.web_locks.proofs.RowLemmas.{below_push, put_last, row_last, without_last}
use Rattle.web_locks.proofs.ToldLemmas.{all_more, all_most, all_others}
use Rattle.web_locks.proofs.requests.Requests.push.Goals as goal

pub returns-then-is_err-clause-unchanged : goal.returns-then-is_err-clause-unchanged
returns-then-is_err-clause-unchanged g c =
    c.take.ensures.taken
    ∙ ap (without_row c.args.self.now.made)
    (c.note.ensures.rows ∙ c.in_ok-insert.ensures.inserted ∙ put_last c.args.self.now.made c.args.request c.args.self.now.rows c.requires.indexed.below)
    ∙ without_last c.args.self.now.made c.args.request c.args.self.now.rows c.requires.indexed.below

pub returns-then-is_err-clause-indexed : goal.returns-then-is_err-clause-indexed
returns-then-is_err-clause-indexed g c =
    let n = c.args.self.now.made in
    let rows = c.args.self.now.rows in
    let put = c.in_ok-insert.ensures.inserted ∙ put_last n c.args.request rows c.requires.indexed.below in
    let row = ap (row_at n) put ∙ row_last n c.args.request rows c.requires.indexed.below in
    record {
      below = rw (returns-then-is_err-clause-unchanged g c, c.take.ensures.made ∙ c.note.ensures.made) c.requires.indexed.below;
      told =
          c.take.ensures.told c.args.request (ap (row_at n) c.note.ensures.rows ∙ row)
          (all_most g.K.Ord.cmp n c.args.request c.args.self.now.index c.note.new.self.index c.note.new.self.rows (c.note.ensures.kept c.args.request row)
          (rw (c.note.ensures.rows ∙ put)
          (all_others g.K.Ord.cmp n c.args.request c.args.self.now.index rows c.requires.indexed.below c.requires.indexed.told)));
    }

pub returns-clause-pushed : goal.returns-clause-pushed
returns-clause-pushed g c =
    c.note.ensures.rows
    ∙ c.in_ok-insert.ensures.inserted
    ∙ put_last c.args.self.now.made c.args.request c.args.self.now.rows c.requires.indexed.below

pub returns-clause-indexed : goal.returns-clause-indexed
returns-clause-indexed g c =
    let n = c.args.self.now.made in
    let rows = c.args.self.now.rows in
    let put = c.in_ok-insert.ensures.inserted ∙ put_last n c.args.request rows c.requires.indexed.below in
    let next : c.in-Some.made ≡ n + 1 = search rules in
    record {
      below = rw (returns-clause-pushed g c, next) (below_push n c.args.request rows c.requires.indexed.below);
      told =
          rw (returns-clause-pushed g c)
          (all_more g.K.Ord.cmp n c.args.request c.args.self.now.index c.note.new.self.index rows c.requires.indexed.below c.requires.indexed.told
          (ok_from c.note.result (sym c.if-is_err.ensures.value)
          (c.note.ensures.noted c.args.request (ap (row_at n) put ∙ row_last n c.args.request rows c.requires.indexed.below))));
    }
