-- None has stolen the lock, and it fits beside the first.
use Rattle.std.proofs.Common.{◌∙◌, ap, sym, not}
use Rattle.std.specs.Prelude.{◌&&◌, find}
use Rattle.web_locks.specs.Index.{is_for, locks_of}
use Rattle.web_locks.proofs.ProcessLemmas.{fits_beside}
use Rattle.web_locks.proofs.ServedLemmas.{fits_told}
use Rattle.web_locks.proofs.requests.Requests.fits_held.Goals as goal

pub returns-then-is_stolen : goal.returns-then-is_stolen
returns-then-is_stolen g c = record {
  fits =
      sym (fits_told g.K.Ord.cmp c.args.resource.now c.args.mode c.args.self.now.rows c.requires.line c.requires.plain
      ∙ ap (λ b. not b && fits_beside c.args.mode (find (is_for g.K.Ord.cmp c.args.resource.now) (locks_of c.args.self.now.rows)))
      (sym c.if-is_stolen.ensures.stolen));
}

pub returns-in-Some : goal.returns-in-Some
returns-in-Some g c = record {
  fits =
      c.admits.ensures.admits
      ∙ sym (fits_told g.K.Ord.cmp c.args.resource.now c.args.mode c.args.self.now.rows c.requires.line c.requires.plain
      ∙ ap (λ b. not b && fits_beside c.args.mode (find (is_for g.K.Ord.cmp c.args.resource.now) (locks_of c.args.self.now.rows)))
      (sym c.if-is_stolen.ensures.stolen)
      ∙ ap (fits_beside c.args.mode) (sym c.in-Some.ensures.first));
}

pub returns-in-None : goal.returns-in-None
returns-in-None g c = record {
  fits =
      sym (fits_told g.K.Ord.cmp c.args.resource.now c.args.mode c.args.self.now.rows c.requires.line c.requires.plain
      ∙ ap (λ b. not b && fits_beside c.args.mode (find (is_for g.K.Ord.cmp c.args.resource.now) (locks_of c.args.self.now.rows)))
      (sym c.if-is_stolen.ensures.stolen)
      ∙ ap (fits_beside c.args.mode) (sym c.in-None.ensures.first));
}
