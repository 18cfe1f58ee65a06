-- The documents of the events that are left are ready, and with these all events are sent.
use Rattle.std.proofs.Common.{◌≡◌, true, false, map}
use Rattle.std.specs.List.{list_all}
use Rattle.agent_base.specs.declared.refusals.Label.{Label}
use Rattle.live_state.specs.Queues.{are_distinct, is_ready, is_told, plain_sent, sent}
use Rattle.live_state.proofs.live.Live.send.Given as goal

abbrev pub invariant-loop-at : goal.invariant-loop-at
invariant-loop-at l = record {
  ready : list_all (λ entry. is_ready l.self entry.0) l.at-iterator.rest.items ≡ true;
  distinct : are_distinct (map (λ entry. entry.0) l.at-iterator.rest.items) ≡ true;
  sent : sent (map plain_sent l.at-iterator.rest.items) l.self.tabs ≡ sent (map plain_sent l.fn.events.items) l.fn.self.tabs;
  others : (at : Label) → is_told (map plain_sent l.fn.events.items) at ≡ false
      → (is_told (map plain_sent l.at-iterator.rest.items) at ≡ false) × (is_ready l.fn.self at ≡ true → is_ready l.self at ≡ true);
  room : l.self.room ≡ l.fn.self.room;
}
