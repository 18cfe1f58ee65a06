-- What a collector stands for.
-- Source: none; these are the words of the promise.
use Rattle.std.specs.Prelude.{◌≡◌, ℕ, ◌+◌, ◌<◌, ◌^◌, Bool, List, ◌++◌, map}
use Rattle.unwinding.specs.LocalScript.{happenings}
use Rattle.local_scripts.specs.Items.{AgentEntry, item_of}
use Rattle.script_courses.specs.Collected.{Collected}
use Rattle.twins.specs.declared.collector.Collector.{Collector}

-- it stands for this, where so many replies of the site wait for their batch
abbrev pub collected_of : Collector → (waiting : ℕ) → Collected
collected_of found waiting =
    record {
      items = map item_of found.items.items;
      changed = found.changed;
      answered = record { replies = found.replies; changes = found.changes };
      waiting = record { replies = waiting; changes = found.waiting };
    }

-- these entries were added, whether the cookies were left different is known anew, and so many
-- changes more wait
pub record TakesIn (old new : Collector) (entries : List AgentEntry) (left : Bool) (made : ℕ)
    : Type 0 where
  pub items : map item_of new.items.items ≡ map item_of old.items.items ++ happenings entries
  pub changed : new.changed ≡ left
  pub replies : new.replies ≡ old.replies
  pub changes : new.changes ≡ old.changes
  pub waiting : old.waiting + made < 2 ^ 64 → new.waiting ≡ old.waiting + made
