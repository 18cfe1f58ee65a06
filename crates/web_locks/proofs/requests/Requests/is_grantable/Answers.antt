-- None waits, and it fits those that are held.
use Rattle.std.proofs.Common.{◌∙◌, ap, not, None}
use Rattle.std.specs.Prelude.{◌&&◌, is_some}
use Rattle.web_locks.specs.Index.{is_for, line_at, locks_of, waits_for}
use Rattle.web_locks.specs.Numbers.{first_after}
use Rattle.web_locks.specs.Queue.{fits, held_modes}
use Rattle.web_locks.proofs.ServedLemmas.{any_first, any_line}
use Rattle.web_locks.proofs.requests.Requests.is_grantable.Goals as goal

pub returns-in-Some : goal.returns-in-Some
returns-in-Some g c = record {
  grantable =
      ap (λ b. not b && fits c.args.mode (held_modes (line_at g.K.Ord.cmp c.args.resource.now c.args.self.now.rows)))
      (ap is_some (c.in-Some.ensures.next ∙ ap (first_after None) (c.requires.told.waiting c.args.resource.now))
      ∙ any_first (waits_for g.K.Ord.cmp c.args.resource.now) c.args.self.now.rows
      ∙ any_line (is_for g.K.Ord.cmp c.args.resource.now) (λ l. not l.held) (locks_of c.args.self.now.rows));
}

pub returns-in-None : goal.returns-in-None
returns-in-None g c = record {
  grantable =
      c.fits_held.ensures.fits
      ∙ ap (λ b. not b && fits c.args.mode (held_modes (line_at g.K.Ord.cmp c.args.resource.now c.args.self.now.rows)))
      (ap is_some (c.in-None.ensures.next ∙ ap (first_after None) (c.requires.told.waiting c.args.resource.now))
      ∙ any_first (waits_for g.K.Ord.cmp c.args.resource.now) c.args.self.now.rows
      ∙ any_line (is_for g.K.Ord.cmp c.args.resource.now) (λ l. not l.held) (locks_of c.args.self.now.rows));
}
