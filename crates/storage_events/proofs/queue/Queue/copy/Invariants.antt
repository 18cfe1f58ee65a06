-- The events so far are copied.
use Rattle.std.proofs.Common.{◌≡◌, map, take}
use Rattle.storage_events.specs.Event.{plain_event}
use Rattle.storage_events.proofs.queue.Queue.copy.Given as goal

abbrev pub invariant-loop-event : goal.invariant-loop-event
invariant-loop-event l = map plain_event l.events.items ≡ map plain_event (take l.event-index l.event-items)
