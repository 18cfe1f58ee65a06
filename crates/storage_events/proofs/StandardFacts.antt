-- Values worked out by hand from the standard's steps and from this repository's own choices.
use Rattle.std.proofs.Common.{◌≡◌, ◌-◌, ◌^◌, ℕ, refl, List, [], ◌∷◌, Some, None, length}
use Rattle.std.specs.Prelude.{codes, nat_eq, replicate, true, false}
use Rattle.agent_base.specs.declared.refusals.Label.{Label}
use Rattle.storage_events.specs.declared.event.AreaKind.TheVariants.{Local, Session}
use Rattle.storage_events.specs.Event.{PlainEvent}
use Rattle.storage_events.specs.Queue.{events_after, lost_after, has_room}
use Rattle.storage_events.specs.Audience.{audience}

-- a value that changed
abbrev change : PlainEvent
change = record {
  area = Local;
  key = Some (codes "k");
  before = None;
  after = Some (codes "v");
  url = codes "https://a.test/";
}

last_event_kept : length (events_after (replicate 1023 change) change) ≡ 1024
last_event_kept = refl

event_past_the_end : length (events_after (replicate 1024 change) change) ≡ 1024
event_past_the_end = refl

none_lost : lost_after (replicate 1023 change) 0 ≡ 0
none_lost = refl

one_lost : lost_after (replicate 1024 change) 0 ≡ 1
one_lost = refl

count_stays : lost_after (replicate 1024 change) (2 ^ 32 - 1) ≡ 2 ^ 32 - 1
count_stays = refl

no_room : has_room 4 4 ≡ false
no_room = refl

full_queue_needs_no_room : has_room 1024 1024 ≡ true
full_queue_needs_no_room = refl

abbrev document : ℕ → ℕ → Label
document tab frame = record { tab = tab; frame = frame }

-- two documents of tab 1 and two of tab 2, each with its storage key
abbrev documents : List (Label × ℕ)
documents = (document 1 0, 7) ∷ (document 1 1, 7) ∷ (document 2 0, 7) ∷ (document 2 1, 8) ∷ []

local_change : audience nat_eq Local (document 1 0) 7 documents ≡ document 1 1 ∷ document 2 0 ∷ []
local_change = refl

session_change : audience nat_eq Session (document 1 0) 7 documents ≡ document 1 1 ∷ []
session_change = refl

change_of_another_key : audience nat_eq Local (document 2 1) 8 documents ≡ []
change_of_another_key = refl
