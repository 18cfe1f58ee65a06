-- The first of a range is the first that its bound lets through.
use Rattle.std.proofs.Common.{◌∙◌, ap, sym}
use Rattle.std.specs.Prelude.{option_copied, option_map}
use Rattle.std.specs.Bound.{bound_map}
use Rattle.key_map.specs.Entries.{next_key}
use Rattle.key_map.proofs.WalksLemmas.{first-between, none-between}
use Rattle.key_map.proofs.map.KeyMap.next_key.Goals as goal
use Rattle.key_map.proofs.map.KeyMap.next_key.Goals.{in-Some, in-None}

pub returns-in-Some-next-clause-key : goal.returns-in-Some-next-clause-key
returns-in-Some-next-clause-key g c =
    let first = first-between g.K.Ord.cmp (bound_map (λ k. k.now) c.match-after.start) c.self.inside.by_key.entries _ _ (sym (c.range.ensures.between tt) ∙ c.in-Some-next.ensures.steps) in
    elim c.match-after.branch [
      | in-Some w ↦ rw w.in-Some.is (sym (ap (option_map (λ e. e.0)) (rw w.start-is at first)))
      | in-None w ↦ rw w.in-None.is (sym (ap (option_map (λ e. e.0)) (rw w.start-is at first)))
    ] ∙ ap (next_key g.K.Ord.cmp (option_copied c.args.after)) c.self.view_is

pub returns-in-None-next-clause-key : goal.returns-in-None-next-clause-key
returns-in-None-next-clause-key g c =
    let none = none-between g.K.Ord.cmp (bound_map (λ k. k.now) c.match-after.start) c.self.inside.by_key.entries (sym (c.range.ensures.between tt) ∙ c.in-None-next.ensures.steps.0) in
    elim c.match-after.branch [
      | in-Some w ↦ rw w.in-Some.is (sym (ap (option_map (λ e. e.0)) (rw w.start-is at none)))
      | in-None w ↦ rw w.in-None.is (sym (ap (option_map (λ e. e.0)) (rw w.start-is at none)))
    ] ∙ ap (next_key g.K.Ord.cmp (option_copied c.args.after)) c.self.view_is
