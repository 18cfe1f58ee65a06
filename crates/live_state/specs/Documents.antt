-- The documents that have a storage key.
-- Source: Storage Standard, "Storage keys" (obtain a storage key: failure for an opaque origin).
-- Our own choice: the list stands in the order of the tabs' numbers, and within a tab in the order
-- of the frames' numbers.
use Rattle.std.specs.Prelude.{ℕ, List, Option, option_map}
use Rattle.std.specs.List.{filter_map, flat_map, range_with_len}
use Rattle.agent_base.specs.declared.refusals.Label.{Label}
use Rattle.frame_tree.specs.Keys.{key_of_frame}
use Rattle.frame_tree.specs.Tree.{PlainFrame}
use Rattle.storage_key.specs.Key.{PlainKey}
use Rattle.storage_key.specs.Plain.{plain_key}
use Rattle.storage_key.specs.declared.key.StorageKey.{StorageKey}
use Rattle.live_state.specs.Tabs.{PlainTab}

-- the numbers that a frame can have, from 0 to 255
unfoldable pub frame_numbers : List ℕ
frame_numbers = range_with_len 0 256

-- the document of a frame with its key, if it has one
abbrev pub keyed : ℕ → List PlainFrame → ℕ → Option (Label × PlainKey)
keyed number frames frame =
    option_map (λ key. (record { tab = number; frame = frame }, key)) (key_of_frame frame frames)

-- the documents of a tab that have a key, by frame number
abbrev pub documents_in : PlainTab → List (Label × PlainKey)
documents_in tab = filter_map (keyed tab.number tab.frames) frame_numbers

-- the documents of all tabs that have a key, by tab number and then by frame number
abbrev pub documents : List PlainTab → List (Label × PlainKey)
documents tabs = flat_map documents_in tabs

-- a document of the program with its key, as contracts see it
abbrev pub plain_keyed : Label × StorageKey → Label × PlainKey
plain_keyed entry = (entry.0, plain_key entry.1)
