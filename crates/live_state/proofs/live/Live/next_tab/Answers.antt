-- The tab at the place is the next, if one stands there.
use Rattle.std.proofs.Common.{Some, ap, sym, ◌∙◌}
use Rattle.std.specs.Prelude.{option_map}
use Rattle.live_state.specs.ExistingQueues.{PlainOpenTab}
use Rattle.live_state.specs.Tabs.{next_tab}
use Rattle.live_state.proofs.live.Live.next_tab.Goals as goal

pub returns-in-Some : goal.returns-in-Some
returns-in-Some c = record {
  next =
      ap Some c.number.ensures.number
      ∙ ap (option_map (λ (t : PlainOpenTab). t.plain.number)) c.in-Some.ensures.tab
      ∙ sym c.place_after-place.ensures.place
      ∙ ap (λ live. next_tab c.args.after live.tabs) c.self.view_is;
}

pub returns-in-None : goal.returns-in-None
returns-in-None c = record {
  next =
      ap (option_map (λ (t : PlainOpenTab). t.plain.number)) c.in-None.ensures.tab
      ∙ sym c.place_after-place.ensures.place
      ∙ ap (λ live. next_tab c.args.after live.tabs) c.self.view_is;
}
