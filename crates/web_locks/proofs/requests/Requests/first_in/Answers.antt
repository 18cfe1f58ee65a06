-- The first of a queue has the first of its numbers.
use Rattle.std.proofs.Common.{◌∙◌, ap, sym, None}
use Rattle.web_locks.specs.Index.{is_for}
use Rattle.web_locks.specs.Numbers.{first_after}
use Rattle.web_locks.proofs.ServedLemmas.{first_none, first_some}
use Rattle.web_locks.proofs.requests.Requests.first_in.Goals as goal

pub returns-in-Some : goal.returns-in-Some
returns-in-Some g c = record {
  first =
      c.get.ensures.value
      ∙ first_some (is_for g.K.Ord.cmp c.args.resource.now) c.in-Some.number c.args.self.now.rows c.get.ensures.ordered
      (sym (c.in-Some.ensures.next ∙ ap (first_after None) (c.requires.told.queues c.args.resource.now)));
}

pub returns-in-None : goal.returns-in-None
returns-in-None g c = record {
  first =
      sym (first_none (is_for g.K.Ord.cmp c.args.resource.now) c.args.self.now.rows
      (sym (c.in-None.ensures.next ∙ ap (first_after None) (c.requires.told.queues c.args.resource.now))));
}
