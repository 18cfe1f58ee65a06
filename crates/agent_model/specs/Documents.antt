-- The document that a line acts for: its storage key, and who hears of what it writes.
-- Source: Storage Standard, "Storage keys" (obtain a storage key: failure for an opaque origin);
-- Secure Contexts, "Is an environment settings object contextually secure?"; HTML, "Web storage",
-- the broadcast of a storage object.
-- Our own choice: a context is secure where each document from the top to it is https.
use Rattle.std.specs.Prelude.{ℕ, Bool, false, map, Option, Some, None, codes, if◌then◌else◌}
use Rattle.std.specs.Ordering.{eq_by_cmp}
use Rattle.std.specs.FinMap as finite
use Rattle.agent_base.specs.declared.refusals.Label.{Label}
use Rattle.storage_key.specs.Key.{PlainKey, key_order}
use Rattle.frame_tree.specs.Calls.{is_https_chain}
use Rattle.frame_tree.specs.Document.{PlainDocument}
use Rattle.frame_tree.specs.Tree.{document_of}
use Rattle.storage_events.specs.declared.event.AreaKind.{AreaKind}
use Rattle.storage_events.specs.Audience.{hears}
use Rattle.storage_events.specs.Event.{PlainEvent}
use Rattle.live_state.specs.Tabs.{PlainTab, PlainFrameQueue}
use Rattle.frame_tree.specs.Keys.{key_of_document, key_of_frame}
use Rattle.live_state.specs.Queues.{queue_told}
use Rattle.reply_lines.specs.Reply.{Plain}
use Rattle.agent_model.specs.Partition.{Tabs}
use Rattle.agent_model.specs.Effects.{Effect, answers}

-- a document with a storage key: its tab and frame, itself, and the key
pub record Keyed : Type 0 where
  pub at : Label
  pub document : PlainDocument
  pub key : PlainKey

-- an action of a document that may not be there
abbrev pub by_document : Option PlainDocument → (PlainDocument → Effect) → Effect
by_document None action = answers (Plain (codes "no-frame"))
by_document (Some document) action = action document

-- an action of a frame's document, opaque or not
abbrev pub with_document : Label → PlainTab → (PlainDocument → Effect) → Effect
with_document at tab action = by_document (document_of at.frame tab.frames) action

-- an action of a document by its storage key, and the refusal where it has none
abbrev pub by_key : Label → PlainDocument → Option PlainKey → (Keyed → Effect) → Effect
by_key at document None action = answers (Plain (codes "security"))
by_key at document (Some key) action =
    action (record { at = at; document = document; key = key })

-- an action of a frame's document that is done with its storage key
abbrev pub with_key : Label → PlainTab → (Keyed → Effect) → Effect
with_key at tab action =
    with_document at tab (λ document.
    by_key at document (key_of_document at.frame tab.frames document) action)

-- An action by the storage key of a document in this tab, and the refusal where that is in no
-- secure context. Within `with_key` it is refused for want of a document first, then for want of a
-- key, then here, and then for its own reasons.
abbrev pub in_secure : PlainTab → (Keyed → Effect) → Keyed → Effect
in_secure tab action asker cells held =
    if is_https_chain asker.at.frame tab.frames then action asker cells held
    else answers (Plain (codes "insecure")) cells held

-- ---- who hears

-- a document hears of a change, by its storage key
abbrev pub hears_by : AreaKind → Keyed → Label → Option PlainKey → Bool
hears_by kind writer reader None = false
hears_by kind writer reader (Some key) =
    hears (eq_by_cmp key_order) kind writer.at writer.key (reader, key)

-- the document of a frame hears of a change
abbrev pub hears_at : AreaKind → Keyed → ℕ → PlainTab → ℕ → Bool
hears_at kind writer number tab frame =
    hears_by kind writer (record { tab = number; frame = frame }) (key_of_frame frame tab.frames)

-- a queue with the event, where its document hears of the change
abbrev pub told_queue : AreaKind → Keyed → PlainEvent → ℕ → PlainTab → PlainFrameQueue
    → PlainFrameQueue
told_queue kind writer event number tab queue =
    if hears_at kind writer number tab queue.frame then queue_told (Some event) queue else queue

-- a tab whose documents were told of a change
abbrev pub told_tab : AreaKind → Keyed → PlainEvent → ℕ → PlainTab → PlainTab
told_tab kind writer event number tab =
    record tab { queues = map (told_queue kind writer event number tab) tab.queues }

-- every document of the audience is told of a change
abbrev pub told : AreaKind → Keyed → PlainEvent → Tabs → Tabs
told kind writer event tabs =
    finite.from_entries (map (λ e. (e.0, told_tab kind writer event e.0 e.1)) (finite.entries tabs))
