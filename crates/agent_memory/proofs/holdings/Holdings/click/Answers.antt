-- The frames of the tab are changed in their place.
use Rattle.std.proofs.Common.{None, refl, ap, ◌∙◌}
use Rattle.agent_model.specs.Effects.{ok}
use Rattle.agent_model.specs.Frames.{frames_clicked}
use Rattle.agent_memory.proofs.ShownLemmas.{shown}
use Rattle.agent_memory.proofs.FrameLemmas.{tree_clicked}
use Rattle.live_state.specs.FramesInPlace.{frames_at}
use Rattle.live_state.specs.Queues.{frames_by}
use Rattle.live_state.specs.Tabs.{is_open}
use Rattle.reply_lines.specs.Plain.{body_of}
use Rattle.agent_memory.specs.HoldingsView.{HoldingsView}
use Rattle.agent_memory.proofs.DoneLemmas.{frames_as, no_change}
use Rattle.agent_memory.proofs.InPlaceLemmas.{acts_in_place, trees_in_place}
use Rattle.agent_memory.proofs.holdings.Holdings.click.Goals as goal

pub invariant_of-self : goal.invariant_of-self
invariant_of-self c =
    let old : HoldingsView = shown c.self.inside in
    let new : HoldingsView = record (shown c.self.inside) { live = c.click-done.new.live } in
    let frames = frames_at c.args.at.tab old.live.tabs in
    trees_in_place c.args.at.tab None old.live new.live (frames_clicked c.args.now c.args.at frames)
    c.click-done.result c.click-done.ensures.answer c.click-done.ensures.changes
    (ap (λ (h : HoldingsView). is_open c.args.at.tab h.live.tabs) c.self.view_is ∙ c.requires.«open»)
    (λ tree. tree_clicked frames tree c.args.now c.args.at) c.self.invariant

pub returns : goal.returns
returns c = rw (← c.self.view_is) (record {
  acts = λ tab site found top.
      let old : HoldingsView = shown c.self.inside in
      let new : HoldingsView = record (shown c.self.inside) { live = c.click-done.new.live } in
      let frames = frames_at c.args.at.tab old.live.tabs in
      frames_as c.args.at.tab tab None (body_of c.answer.result) ok
      (frames_clicked c.args.now c.args.at frames) (frames_clicked c.args.now c.args.at tab.frames)
      old new c.frames_answer.result c.answer.ensures
      (ap (λ t. frames_clicked c.args.now c.args.at (frames_by t)) found)
      (acts_in_place c.args.at.tab None old new (frames_clicked c.args.now c.args.at frames) refl refl
      (no_change c.self.inside.cookies) c.click-done.result c.click-done.ensures.answer c.click-done.ensures.changes
      tab found (body_of c.answer.result) c.frames_answer.result c.frames_answer.ensures.answered);
})
