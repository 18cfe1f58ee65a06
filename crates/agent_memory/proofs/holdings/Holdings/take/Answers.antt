use Rattle.std.proofs.Common.{◌≡◌, true, Option, refl, ap, sym, subst, ◌∙◌}
use Rattle.frame_tree.specs.Tree.{has_frame}
use Rattle.live_state.specs.Queues.{frames_by, has_document}
use Rattle.live_state.specs.Tabs.{PlainTab}
use Rattle.reply_lines.specs.Reply.{Events}
use Rattle.agent_memory.specs.FrameTrees.{AreTrees}
use Rattle.agent_memory.specs.HoldingsView.{HoldingsView}
use Rattle.agent_memory.proofs.DoneLemmas.{no_change, taken_done}
use Rattle.agent_memory.proofs.TreeLemmas.{trees_after_take}
use Rattle.agent_memory.proofs.holdings.Holdings.take.Goals as goal

pub invariant_of-self : goal.invariant_of-self
invariant_of-self c =
    subst (λ tabs. AreTrees tabs) (sym c.take_events-events.ensures.taken)
    (trees_after_take c.args.at c.self.inside.live.tabs c.self.invariant)

pub returns : goal.returns
returns c =
    let at = c.args.at in
    let there : has_document c.self.inside.live.tabs at ≡ true =
    ap (λ (h : HoldingsView). has_document h.live.tabs at) c.self.view_is ∙ sym c.if-not-has_document.ensures.there in
    let given = c.take_events-events.ensures.given in
    rw (← c.self.view_is) (record {
      acts = λ tab site found top.
          taken_done at tab _ _ _ found (sym (ap (λ (t : Option PlainTab). has_frame at.frame (frames_by t)) found) ∙ there)
          c.take_events-events.ensures.taken refl refl (no_change c.self.inside.cookies) (λ i. Events (given.0 i) (given.1 i));
    })
