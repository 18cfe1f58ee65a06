-- The documents so far have their events.
use Rattle.std.proofs.Common.{◌≡◌, map, take}
use Rattle.storage_events.specs.Event.{plain_event}
use Rattle.live_state.specs.Queues.{plain_sent}
use Rattle.agent_memory.proofs.holdings.events.events_to.Given as goal

abbrev pub invariant-loop-at : goal.invariant-loop-at
invariant-loop-at l = map plain_sent l.events.items ≡ map (λ at. (at, plain_event l.event)) (take l.at-index l.to)
