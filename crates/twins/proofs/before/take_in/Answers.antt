use Rattle.std.proofs.Common.{◌≡◌, ◌+◌, ◌-◌, cond, length, ap, ◌∙◌}
use Rattle.std.proofs.lemmas.Result.{on_ok_weaker}
use Rattle.origin_site.specs.Plain.{plain_site}
use Rattle.twins.proofs.LineLemmas.{made_else, made_then, takes_line}
use Rattle.twins.proofs.before.take_in.Goals as goal
use Rattle.twins.proofs.before.take_in.Goals.{then-before, else-before}

pub returns : goal.returns
returns c = record {
  taken = λ a b line told seen up ran.
      let before = c.args.before in
      let rules = c.args.agent.now.memory.rules in
      let made : c.if-before.made ≡ cond before.line.of_site (b.base.count + length b.pending - before.changes) 0 =
      elim c.if-before.branch [
        | then-before w ↦ made_then before.line.of_site c.if-before.made
            (b.base.count + length b.pending - before.changes) w.if-before.true
            (w.made-is ∙ w.saturating_sub-made.ensures ∙ ap (λ n. n - before.changes) (w.changes.ensures.up b seen up))
        | else-before w ↦ made_else before.line.of_site c.if-before.made
            (b.base.count + length b.pending - before.changes) w.if-before.false w.made-is
      ] in
      on_ok_weaker c.take_in.result
      (takes_line rules (plain_site c.args.site.now)
      a b line c.args.found.now c.take_in.new.self before told ran c.in_ok-changed.changed
      c.if-before.made (c.in_ok-changed.ensures.changed b a.world before.line.asks seen up told.kept) made)
      c.take_in.ensures.taken;
}
