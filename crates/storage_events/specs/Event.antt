-- A storage event, as contracts see it.
-- Source: HTML, "Web storage", the StorageEvent interface: key, oldValue, newValue and url.
-- Our own choice: a clear is told with key, old value and new value absent.
use Rattle.std.specs.Prelude.{ℕ, List, Option, option_map, string_bytes}
use Rattle.std.specs.Rc.{rc_value}
use Rattle.storage_events.specs.declared.event.AreaKind.{AreaKind}
use Rattle.storage_events.specs.declared.event.Event.{Event}
use Rattle.storage_events.specs.declared.event.Parts.{Parts}

-- an event, with its texts as UTF-8 bytes
pub record PlainEvent : Type 0 where
  pub area : AreaKind
  pub key : Option (List ℕ)
  pub before : Option (List ℕ)
  pub after : Option (List ℕ)
  pub url : List ℕ

-- the parts of an event of the program, as contracts see them
abbrev pub plain_parts : Parts → PlainEvent
plain_parts parts = record {
  area = parts.area;
  key = option_map string_bytes parts.key;
  before = option_map string_bytes parts.before;
  after = option_map string_bytes parts.after;
  url = string_bytes parts.url;
}

-- an event of the program, as contracts see it: its parts
abbrev pub plain_event : Event → PlainEvent
plain_event event = plain_parts (rc_value event.parts)
