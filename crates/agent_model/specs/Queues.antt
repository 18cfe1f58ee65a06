-- The events that wait for a document, and the taking of them.
-- Source: HTML, "Web storage", the broadcast of a storage object, which queues a task for each
-- document.
-- Our own choice: a document is asked for its events, in place of tasks that run.
use Rattle.std.specs.Prelude.{ℕ, ◌==◌, map, codes, if◌then◌else◌}
use Rattle.agent_base.specs.declared.refusals.Label.{Label}
use Rattle.frame_tree.specs.Tree.{has_frame}
use Rattle.live_state.specs.Tabs.{PlainFrameQueue, PlainTab, empty_queue, queue_of}
use Rattle.reply_lines.specs.Reply as reply
use Rattle.agent_model.specs.Partition.{with_tab}
use Rattle.agent_model.specs.Effects.{Effect, answers}

-- a tab whose queue of one frame is empty
abbrev pub with_taken : ℕ → PlainTab → PlainTab
with_taken frame tab =
    record tab { queues = map (λ q. if q.frame == frame then empty_queue frame else q) tab.queues }

-- the events that wait for a document are given, and none is left
abbrev pub take_queue : Label → PlainTab → PlainFrameQueue → Effect
take_queue at tab queue cells held =
    answers (reply.Events queue.events queue.lost) cells
    (with_tab at.tab (with_taken at.frame tab) held)

-- the same, where the document is there. An opaque one never has any.
abbrev pub take_events : Label → PlainTab → Effect
take_events at tab =
    if has_frame at.frame tab.frames then take_queue at tab (queue_of at.frame tab.queues)
    else answers (reply.Plain (codes "no-frame"))
