-- One has stolen it where there is a first.
use Rattle.std.proofs.Common.{◌∙◌, ap, None}
use Rattle.std.specs.Prelude.{is_some}
use Rattle.web_locks.specs.Index.{stole_it}
use Rattle.web_locks.specs.Numbers.{first_after}
use Rattle.web_locks.proofs.ServedLemmas.{any_first}
use Rattle.web_locks.proofs.requests.Requests.is_stolen.Goals as goal

pub returns : goal.returns
returns g c = record {
  stolen =
      c.is_some.ensures
      ∙ ap is_some (c.next.ensures.next ∙ ap (first_after None) (c.requires.told.thieves c.args.resource.now))
      ∙ any_first (stole_it g.K.Ord.cmp c.args.resource.now) c.args.self.now.rows;
}
