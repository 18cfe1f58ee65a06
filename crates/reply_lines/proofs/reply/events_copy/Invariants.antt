use Rattle.std.proofs.Common.{◌≡◌, map, take}
use Rattle.storage_events.specs.Event.{plain_event}
use Rattle.reply_lines.proofs.reply.events_copy.Given as goal

abbrev pub invariant-loop-event : goal.invariant-loop-event
invariant-loop-event l = map plain_event l.copy.items ≡ map plain_event (take l.event-index l.events)
