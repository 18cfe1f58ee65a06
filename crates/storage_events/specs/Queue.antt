-- The events that wait for one document, and how many were lost.
-- Source: HTML, "Web storage", the broadcast of an event, which queues a task for each document.
-- Our own choice: a queue holds 1,024 events, and later ones are counted, in 32 bits, where the
-- count stays at its last value.
use Rattle.std.specs.Prelude.{ℕ, ◌+◌, ◌-◌, ◌^◌, Bool, ◌||◌, nat_le, List, [], ◌∷◌, ◌++◌, length, min, nat_lt, if◌then◌else◌}
use Rattle.storage_events.specs.Event.{PlainEvent}

-- a queue: its events, the number of lost ones, and whether the next push takes no memory
pub record PlainQueue : Type 0 where
  pub events : List PlainEvent
  pub lost : ℕ
  pub reserved : Bool

-- the number of events that a queue holds
abbrev pub most_events : ℕ
most_events = 1024

-- the events after one more
abbrev pub events_after : List PlainEvent → PlainEvent → List PlainEvent
events_after events event =
    if nat_lt (length events) most_events then events ++ event ∷ [] else events

-- the number of lost events after one more event
abbrev pub lost_after : List PlainEvent → ℕ → ℕ
lost_after events lost =
    if nat_lt (length events) most_events then lost else min (lost + 1) (2 ^ 32 - 1)

-- whether the next push takes no memory, from the number of events and the room for them. A full
-- queue only counts, and needs no room.
abbrev pub has_room : ℕ → ℕ → Bool
has_room events room = nat_lt events room || nat_le most_events events
