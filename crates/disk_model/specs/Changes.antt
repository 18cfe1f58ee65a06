-- The history of a disk in memory after one change more.
-- Source: none.
use Rattle.std.specs.Prelude.{[], ◌∷◌, ◌++◌}
use Rattle.disk_model.specs.History.{Event, wrote, synced, missed}
use Rattle.disk_model.specs.declared.history.Change.{Change}
use Rattle.disk_model.specs.declared.history.Change.TheVariants as change
use Rattle.disk_model.specs.declared.history.History.{History}

-- one event more
abbrev pub with_event : History → Event → History
with_event history event = record {
  first = history.first;
  events = history.events ++ event ∷ [];
}

-- a history that begins has these bytes and no event; any other change is an event
abbrev pub changed : History → Change → History
changed history (change.Began bytes) = record { first = bytes.now; events = [] }
changed history (change.Wrote at bytes) = with_event history (wrote at bytes.now)
changed history change.Synced = with_event history synced
changed history change.Missed = with_event history missed
