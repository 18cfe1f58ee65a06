use Rattle.std.proofs.Common.{◌≡◌, ◌++◌, map, drop}
use Rattle.serde_json.specs.Written.{compact_text}
use Rattle.storage_events.specs.Event.{plain_event}
use Rattle.reply_lines.specs.Reply.{events_data, event_data}
use Rattle.reply_lines.proofs.ListLemmas.{put_later}
use Rattle.reply_lines.proofs.printed_lists.put_events.Given as goal

abbrev pub invariant-loop-event : goal.invariant-loop-event
invariant-loop-event l =
    l.fn.line.items ++ compact_text (events_data (map plain_event l.fn.events)) ≡ put_later (λ e. event_data (plain_event e)) l.line.items l.later (drop l.event-index l.fn.events)
