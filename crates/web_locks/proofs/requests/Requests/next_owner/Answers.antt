-- A document that has no request is passed.
use Rattle.std.proofs.Common.{◌∙◌, ap, sym}
use Rattle.std.specs.Prelude.{is_some}
use Rattle.web_locks.specs.Index.{locks_of}
use Rattle.web_locks.specs.Lock.{is_owned}
use Rattle.web_locks.specs.Owners.{label_order}
use Rattle.web_locks.proofs.OwnerLemmas.{first_behind, fewer_behind, label_total, none_behind, passed_more, passed_none}
use Rattle.web_locks.proofs.ServedLemmas.{any_first}
use Rattle.web_locks.proofs.requests.Requests.next_owner.Goals as goal

pub loop-owner-init : goal.loop-owner-init
loop-owner-init g c = passed_none c.args.after (locks_of c.args.self.now.rows)

pub loop-owner-smaller : goal.loop-owner-smaller
loop-owner-smaller g c =
    fewer_behind label_order label_total c.loop-owner.last c.in-Some.owner c.args.self.now.index.owners (sym c.in-Some.ensures.next)

pub loop-owner-preserved : goal.loop-owner-preserved
loop-owner-preserved g c =
    passed_more c.args.self.now.index.owners c.args.self.now.rows c.requires.told.owners c.in-Some.ensures.ordered c.args.after c.loop-owner.last c.loop-owner.invariant
    c.in-Some.owner (sym c.in-Some.ensures.next)
    (sym (any_first (is_owned c.in-Some.owner) c.args.self.now.rows)
    ∙ ap is_some (sym (c.next_owned.ensures.next c.requires.told))
    ∙ sym c.if-is_some.ensures)

pub returns-then-is_some : goal.returns-then-is_some
returns-then-is_some g c = record {
  next =
      first_behind c.args.self.now.index.owners c.args.self.now.rows c.requires.told.owners c.in-Some.ensures.ordered c.args.after c.loop-owner.last c.loop-owner.invariant
      c.in-Some.owner (sym c.in-Some.ensures.next)
      (sym (any_first (is_owned c.in-Some.owner) c.args.self.now.rows)
      ∙ ap is_some (sym (c.next_owned.ensures.next c.requires.told))
      ∙ sym c.if-is_some.ensures);
}

pub returns : goal.returns
returns g c = record {
  next =
      none_behind c.args.self.now.index.owners c.args.self.now.rows c.requires.told.owners c.next_told.ensures.ordered c.args.after c.loop-owner.last c.loop-owner.invariant
      (sym c.next_told.ensures.next ∙ c.in_default.is);
}
