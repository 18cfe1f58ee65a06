-- One document more is ready.
use Rattle.std.proofs.Common.{take, refl, ◌∙◌}
use Rattle.std.proofs.lemmas.Bool.{and_from}
use Rattle.std.specs.List.{list_all}
use Rattle.std.proofs.lemmas.List.Folds.{list_all_more}
use Rattle.agent_base.specs.declared.refusals.Label.{Label}
use Rattle.live_state.specs.Queues.{is_ready}
use Rattle.live_state.proofs.ListLemmas.{all_weaker}
use Rattle.live_state.proofs.live.Live.reserve_queues.Goals as goal

pub loop-at-preserved : goal.loop-at-preserved
loop-at-preserved c =
    let none : Label = record { tab = 0; frame = 0 } in record {
      ready =
          list_all_more (is_ready c.reserve_queue.new.self) c.args.to.now c.loop-at.at-index none c.loop-at-test.true
          ∙ and_from (list_all (is_ready c.reserve_queue.new.self) (take c.loop-at.at-index c.args.to.now)) _
          (all_weaker (is_ready c.loop-at.self) (is_ready c.reserve_queue.new.self) (λ at. c.reserve_queue.ensures.kept at refl) (take c.loop-at.at-index c.args.to.now) c.loop-at.invariant.ready)
          c.in_ok-reserve_queue.ensures.reserved;
      others = λ at but ready. c.reserve_queue.ensures.kept at refl (c.loop-at.invariant.others at refl ready);
      tabs = c.reserve_queue.ensures.same.0 ∙ c.loop-at.invariant.tabs;
      room = c.reserve_queue.ensures.same.1 ∙ c.loop-at.invariant.room;
    }
