-- The first of a document's requests has the first of its numbers.
use Rattle.std.proofs.Common.{◌∙◌, sym}
use Rattle.web_locks.specs.Lock.{is_owned}
use Rattle.web_locks.proofs.ServedLemmas.{first_none, first_some}
use Rattle.web_locks.proofs.requests.Requests.first_owned.Goals as goal

pub returns-in-Some : goal.returns-in-Some
returns-in-Some g c = record {
  first =
      c.get.ensures.value
      ∙ first_some (is_owned c.args.owner) c.in-Some.number c.args.self.now.rows c.get.ensures.ordered
      (sym (c.in-Some.ensures.next c.requires.told));
}

pub returns-in-None : goal.returns-in-None
returns-in-None g c = record {
  first =
      sym (first_none (is_owned c.args.owner) c.args.self.now.rows
      (sym (c.in-None.ensures.next c.requires.told)));
}
