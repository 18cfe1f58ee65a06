-- The documents so far are ready, and contracts see the same tabs.
use Rattle.std.proofs.Common.{◌≡◌, true, false, take}
use Rattle.std.specs.List.{list_all}
use Rattle.live_state.specs.Queues.{StayReadyBut, is_ready}
use Rattle.live_state.proofs.live.Live.reserve_queues.Given as goal

abbrev pub invariant-loop-at : goal.invariant-loop-at
invariant-loop-at l = record {
  ready : list_all (is_ready l.self) (take l.at-index l.to) ≡ true;
  others : StayReadyBut (λ at. false) l.initial.self l.self;
  tabs : l.self.tabs ≡ l.initial.self.tabs;
  room : l.self.room ≡ l.initial.self.room;
}
