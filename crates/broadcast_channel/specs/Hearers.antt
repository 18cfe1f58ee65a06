-- How channels are held: who has which channel, and the queues of those that are open, by storage
-- key and channel name. Only private functions see it.
-- Source: none.
use Rattle.std.specs.Prelude.{◌≡◌, ℕ, Bool, true, not, ◌&&◌, List, [], map, Option, Some, option_map, is_some, unwrap_or, if◌then◌else◌, string_bytes}
use Rattle.std.specs.declared.cmp.Ordering.{Ordering}
use Rattle.std.specs.Ordering.{is_eq, nat_cmp, ordering_then}
use Rattle.std.specs.Cmp.Lexicographic.{slice_cmp}
use Rattle.std.specs.Rc.{rc_value}
use Rattle.std.specs.declared.rc.Rc.{Rc}
use Rattle.key_map.specs.Entries.{map_get}
use Rattle.broadcast_channel.specs.Channel.{PlainChannel}
use Rattle.broadcast_channel.specs.Queue.{PlainQueue, IsOffered, settled, waiting, waiting_after}
use Rattle.broadcast_channel.specs.declared.hearers.ChannelId.{ChannelId}
use Rattle.broadcast_channel.specs.declared.hearers.Line.{Line}

-- the order of channels: by owner, then by id
abbrev pub by_id : {O : Type 0} → (O → O → Ordering) → ChannelId O → ChannelId O → Ordering
by_id by_owner a b = ordering_then (by_owner a.owner b.owner) (nat_cmp a.id b.id)

-- the order of lines: by storage key, then by channel name
abbrev pub by_line : {K Z : Type 0} → (K → K → Ordering) → Rc (Line K) Z → Rc (Line K) Z → Ordering
by_line by_key a b =
    ordering_then (by_key (rc_value a).key (rc_value b).key)
    (slice_cmp nat_cmp (string_bytes (rc_value a).name) (string_bytes (rc_value b).name))

-- the channel is the same, and a text was offered to its queue
abbrev pub IsOfferedTo : {I : Type 0} → List ℕ → I × PlainQueue → I × PlainQueue → Type 0
IsOfferedTo text e f = (f.0 ≡ e.0) × IsOffered text e.1 f.1

-- the channel is the same, and its queue is settled
abbrev pub IsSettled : {I : Type 0} → (I → I → Ordering) → I → Bool → I × PlainQueue
    → I × PlainQueue → Type 0
IsSettled cmp from ready e f = (f.0 ≡ e.0) × (f.1 ≡ settled cmp from ready e.0 e.1)

-- what a queue gives: what waits, and nothing where there is none
abbrev pub given_by : Option PlainQueue → List (List ℕ) × ℕ
given_by queue = unwrap_or (option_map waiting queue) ([], 0)

-- these texts and this count are what a queue gives
abbrev pub GivenTo : Option PlainQueue → List (List ℕ) → ℕ → Type 0
GivenTo queue messages lost = (messages ≡ (given_by queue).0) × (lost ≡ (given_by queue).1)

module _ {L I : Type 0} (line_cmp : L → L → Ordering) (id_cmp : I → I → Ordering) where
  -- the queues of the channels that are open in a line
  abbrev pub queues_of : L → List (L × List (I × PlainQueue)) → List (I × PlainQueue)
  queues_of line lines = unwrap_or (map_get line_cmp line lines) []

  -- what waits in a channel of a line, and how many were lost; None where it is not open there
  abbrev pub waiting_at : L → I → List (L × List (I × PlainQueue)) → Option (List (List ℕ) × ℕ)
  waiting_at line id lines = option_map waiting (map_get id_cmp id (queues_of line lines))

  -- whether a line and a channel are these
  abbrev pub are_these : L → I → L → I → Bool
  are_these line id l i = is_eq (line_cmp l line) && is_eq (id_cmp id i)

  -- what waits in one channel of a line is this now, and all else is as it was
  abbrev pub ChangesAt : L → I → Option (List (List ℕ) × ℕ)
      → (old new : List (L × List (I × PlainQueue))) → Type 0
  ChangesAt line id value old new =
      (l : L) (i : I)
      → waiting_at l i new ≡ (if are_these line id l i then value else waiting_at l i old)

  -- what waits in each channel is as it was
  abbrev pub WaitsAsBefore : (old new : List (L × List (I × PlainQueue))) → Type 0
  WaitsAsBefore old new = (l : L) (i : I) → waiting_at l i new ≡ waiting_at l i old

  -- a text came to each channel of a line but the one that it is posted on
  abbrev pub TellsLine : L → I → List ℕ → (old new : List (L × List (I × PlainQueue))) → Type 0
  TellsLine line from text old new =
      (l : L) (i : I)
      → waiting_at l i new
      ≡ (if is_eq (line_cmp l line) && not (is_eq (id_cmp from i))
      then option_map (waiting_after text) (waiting_at l i old) else waiting_at l i old)

  -- each channel that is open in a line is one that its owner has there
  abbrev pub AreOwned : List (I × L) → List (L × List (I × PlainQueue)) → Type 0
  AreOwned own lines =
      (line : L) (id : I) → is_some (waiting_at line id lines) ≡ true
      → option_map (λ at. is_eq (line_cmp line at)) (map_get id_cmp id own) ≡ Some true

module _ {O K Z : Type 0} (by_owner : O → O → Ordering) (by_key : K → K → Ordering) where
  -- a channel with what waits in it, where it is open
  abbrev pub channel_of : ChannelId O → Rc (Line K) Z → Option (List (List ℕ) × ℕ)
      → PlainChannel O K
  channel_of id line found = record {
    owner = id.owner;
    id = id.id;
    key = (rc_value line).key;
    name = string_bytes (rc_value line).name;
    is_open = is_some found;
    messages = (unwrap_or found ([], 0)).0;
    lost = (unwrap_or found ([], 0)).1;
  }

  -- the channels that owners have, each with what waits in it
  abbrev pub channels_of : List (ChannelId O × Rc (Line K) Z)
      → List (Rc (Line K) Z × List (ChannelId O × PlainQueue)) → List (PlainChannel O K)
  channels_of own lines =
      map (λ e. channel_of e.0 e.1 (waiting_at (by_line by_key) (by_id by_owner) e.1 e.0 lines)) own
