-- One request after another is given its lock.
use Rattle.std.proofs.Common.{◌≡◌, ◌∙◌, ap, sym, true}
use Rattle.std.specs.Ordering.{nat_cmp}
use Rattle.std.specs.Prelude.{string_bytes}
use Rattle.std.specs.Rc.{rc_value}
use Rattle.key_map.specs.Entries.{map_set}
use Rattle.web_locks.specs.Forms.{is_plain}
use Rattle.web_locks.specs.Index.{locks_of}
use Rattle.web_locks.specs.Kept.{processed_at}
use Rattle.web_locks.specs.Requests.{holding}
use Rattle.web_locks.proofs.ProcessLemmas.{processed_next}
use Rattle.web_locks.proofs.ServedLemmas.{all_set, below_set, fewer_wait, given_next, given_none, held_row_is, open_given}
use Rattle.web_locks.proofs.StandingLemmas.{plain_holding}
use Rattle.web_locks.proofs.RowLemmas.{at_row}
use Rattle.web_locks.proofs.requests.Requests.process.Goals as goal

pub loop-number-smaller : goal.loop-number-smaller
loop-number-smaller g c =
    let given = given_next g.K.Ord.cmp c.args.resource.now c.in-Some.number c.loop-number.self.rows c.next_given.ensures.ordered (sym c.in-Some.ensures.next) in
    rw (c.hold.ensures.held ∙ held_row_is c.in-Some.number given.lock c.loop-number.self.rows given.row)
    (fewer_wait g.K.Ord.cmp c.args.resource.now c.in-Some.number c.loop-number.self.rows c.next_given.ensures.ordered given)

pub loop-number-preserved : goal.loop-number-preserved
loop-number-preserved g c =
    let given = given_next g.K.Ord.cmp c.args.resource.now c.in-Some.number c.loop-number.self.rows c.next_given.ensures.ordered (sym c.in-Some.ensures.next) in
    let rows = map_set nat_cmp c.in-Some.number (holding given.lock) c.loop-number.self.rows in
    let is : c.hold.new.self.rows ≡ rows = c.hold.ensures.held ∙ held_row_is c.in-Some.number given.lock c.loop-number.self.rows given.row in
    record {
      indexed = record {
        below = rw (is, c.hold.ensures.made) (below_set c.loop-number.self.made c.in-Some.number (holding given.lock) c.loop-number.self.rows c.loop-number.invariant.indexed.below);
        told = c.hold.ensures.told given.lock given.row given.here c.loop-number.invariant.indexed.told;
      };
      line = rw is (open_given g.K.Ord.cmp c.args.resource.now c.in-Some.number c.loop-number.self.rows given c.loop-number.invariant.line);
      plain =
          rw is
          (all_set (λ l. is_plain l ≡ true) c.in-Some.number (holding given.lock) c.loop-number.self.rows c.loop-number.invariant.plain
          (plain_holding given.lock given.waits (at_row (λ l. is_plain l ≡ true) c.in-Some.number given.lock c.loop-number.self.rows c.loop-number.invariant.plain given.row)));
      same =
          ap (λ rs. processed_at g.K.Ord.cmp c.args.resource.now (locks_of rs)) is
          ∙ processed_next g.K.Ord.cmp (rc_value c.args.resource.now).key (string_bytes (rc_value c.args.resource.now).name) c.in-Some.number given.lock
          c.loop-number.self.rows given.next given.fit
          ∙ c.loop-number.invariant.same;
    }

pub returns-clause-processed : goal.returns-clause-processed
returns-clause-processed g c =
    sym (given_none g.K.Ord.cmp c.args.resource.now c.loop-number.self.rows c.next_given.ensures.ordered (sym c.next_given.ensures.next ∙ c.in_default.is))
    ∙ c.loop-number.invariant.same
