use Rattle.std.proofs.Common.{◌≡◌, ◌++◌, ◌∷◌, [], false, true, ◌+◌, drop, ap, sym, ◌∙◌, map, append_assoc, rules}
use Rattle.serde_json.specs.View.{items_of}
use Rattle.serde_json.specs.Written.{comma_if, compact_text, items_text}
use Rattle.storage_events.specs.Event.{plain_event}
use Rattle.reply_lines.specs.Reply.{event_data}
use Rattle.reply_lines.proofs.ListLemmas.{map-map, put_later, put_more}
use Rattle.reply_lines.proofs.printed_lists.put_events.Goals as goal

pub loop-event-init : goal.loop-event-init
loop-event-init c =
    let line = c.args.line.now.items in
    let events = c.args.events.now in
    let begun : c.put.new.line.items ≡ line ++ 91 ∷ [] = search rules in
    ap (λ values. line ++ 91 ∷ items_text false (items_of values)) (map-map event_data plain_event events)
    ∙ sym (append_assoc line (91 ∷ []) (items_text false (items_of (map (λ e. event_data (plain_event e)) events))))
    ∙ ap (λ done. put_later (λ e. event_data (plain_event e)) done false events) (sym begun)

pub loop-event-preserved : goal.loop-event-preserved
loop-event-preserved c =
    let l = c.loop-event in
    let more : c.put_event.new.line.items ≡ (l.line.items ++ comma_if l.later) ++ compact_text (event_data (plain_event c.event-item.result)) =
    c.in_ok-put_event.ensures ∙ ap (λ done. done ++ compact_text (event_data (plain_event c.event-item.result))) c.in_ok-put_comma.ensures in
    l.invariant ∙ put_more (λ e. event_data (plain_event e)) l.line.items l.later c.args.events.now l.event-index c.event-item.result c.event-item.result c.loop-event-test.true c.event-item.is
    ∙ ap (λ done. put_later (λ e. event_data (plain_event e)) done true (drop (l.event-index + 1) c.args.events.now)) (sym more)
