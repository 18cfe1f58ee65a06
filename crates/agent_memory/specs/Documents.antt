-- The documents of open tabs, as lines name them, and those that hear of a change.
-- Source: HTML, "Web storage", the broadcast of a storage object.
use Rattle.std.specs.Prelude.{◌≡◌, ℕ, ◌==◌, Bool, ◌&&◌, not, List, map, Option, Some, None}
use Rattle.std.specs.Prelude.{option_map}
use Rattle.agent_base.specs.declared.refusals.Label.{Label}
use Rattle.frame_tree.specs.Document.{PlainDocument}
use Rattle.frame_tree.specs.Tree.{PlainFrame, document_of}
use Rattle.storage_key.specs.Key.{PlainKey}
use Rattle.storage_key.specs.Plain.{plain_key}
use Rattle.storage_events.specs.Event.{PlainEvent}
use Rattle.frame_tree.specs.Keys.{key_of_document}
use Rattle.live_state.specs.Queues.{frames_by, has_document}
use Rattle.live_state.specs.Tabs.{PlainTab, tab_at}
use Rattle.agent_memory.specs.declared.holdings.Found.{Found}
use Rattle.agent_memory.specs.declared.holdings.Found.TheVariants as found

-- the document of a frame of an open tab
abbrev pub document_at : Label → List PlainTab → Option PlainDocument
document_at at tabs = document_of at.frame (frames_by (tab_at at.tab tabs))

-- a document below the top is there
abbrev pub is_below : List PlainTab → Label → Bool
is_below tabs at = not (at.frame == 0) && has_document tabs at

-- one event for each of these documents
abbrev pub each_sent : PlainEvent → List Label → List (Label × PlainEvent)
each_sent event to = map (λ label. (label, event)) to

-- what is found for a document that may not be there
abbrev pub IsFound : Option (Option PlainKey) → Found → Type 0
IsFound None found.NoFrame = Unit {0}
IsFound None found.Opaque = ⊥
IsFound None (found.Keyed own) = ⊥
IsFound (Some None) found.NoFrame = ⊥
IsFound (Some None) found.Opaque = Unit {0}
IsFound (Some None) (found.Keyed own) = ⊥
IsFound (Some (Some key)) found.NoFrame = ⊥
IsFound (Some (Some key)) found.Opaque = ⊥
IsFound (Some (Some key)) (found.Keyed own) = plain_key own.now ≡ key

-- the storage key of a frame's document: None where the frame is not there, and no key where the
-- document is opaque
abbrev pub key_wanted : ℕ → List PlainFrame → Option (Option PlainKey)
key_wanted frame frames = option_map (key_of_document frame frames) (document_of frame frames)
