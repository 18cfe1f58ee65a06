-- Broadcast channels: who hears a post, and what waits in a channel until it is received.
-- Source: HTML, "Broadcasting to other browsing contexts": the constructor of BroadcastChannel,
-- postMessage() and close(). A post is delivered to every other channel of its channel name and
-- storage key that is not closed; a post on a closed one is an InvalidStateError.
-- Our own choices: a channel has an id, given by its owner, which stays used after a close until
-- the owner goes. In place of a task for each delivery a channel has a queue of 1,024 messages;
-- later ones are counted as lost, in 32 bits, where the count stays at its last value, and a
-- channel that loses one counts as reached. A close drops what waits, where the standard delivers
-- it no more. As each has a queue of its own, no call tells in which order channels are reached.
-- That a document is fully active, without which nothing is posted or delivered, is not told here.
use Rattle.std.specs.Prelude.{ℕ, ◌+◌, ◌-◌, ◌^◌, Bool, true, false, not, ◌&&◌, List, [], ◌∷◌, ◌++◌, map, filter, find, length, count_by, min, nat_lt, Option, None, Some, option_map, is_some, if◌then◌else◌}
use Rattle.std.specs.declared.cmp.Ordering.{Ordering}
use Rattle.std.specs.Ordering.{is_eq, is_lt, nat_cmp, ordering_then}
use Rattle.std.specs.Cmp.Lexicographic.{slice_cmp}

-- a channel: its owner and id, the storage key and the channel name that it was opened with,
-- whether it is not closed, the texts that wait in it, and how many were lost
pub record PlainChannel (O K : Type 0) : Type 0 where
  pub owner : O
  pub id : ℕ
  pub key : K
  pub name : List ℕ
  pub is_open : Bool
  pub messages : List (List ℕ)
  pub lost : ℕ

-- the number of messages that wait in a channel at most
abbrev pub most_messages : ℕ
most_messages = 1024

-- the texts that wait after one more came
abbrev pub messages_after : List (List ℕ) → List ℕ → List (List ℕ)
messages_after messages text =
    if nat_lt (length messages) most_messages then messages ++ text ∷ [] else messages

-- the number of lost messages after one more came
abbrev pub lost_after : List (List ℕ) → ℕ → ℕ
lost_after messages lost =
    if nat_lt (length messages) most_messages then lost else min (lost + 1) (2 ^ 32 - 1)

module _ {O K : Type 0} where
  -- a channel after a text came
  abbrev pub told : List ℕ → PlainChannel O K → PlainChannel O K
  told text c =
      record c { messages = messages_after c.messages text; lost = lost_after c.messages c.lost }

  -- a channel in which nothing waits
  abbrev pub emptied : PlainChannel O K → PlainChannel O K
  emptied c = record c { messages = []; lost = 0 }

  -- a channel that is closed. What waited is dropped.
  abbrev pub shut : PlainChannel O K → PlainChannel O K
  shut c = record c { is_open = false; messages = []; lost = 0 }

  -- a channel that was just opened
  abbrev pub fresh : O → ℕ → K → List ℕ → PlainChannel O K
  fresh owner id key name = record {
    owner = owner;
    id = id;
    key = key;
    name = name;
    is_open = true;
    messages = [];
    lost = 0;
  }

module _ {O K : Type 0} (by_owner : O → O → Ordering) where
  -- the order of channels: by owner, then by id
  abbrev pub id_order : O → ℕ → PlainChannel O K → Ordering
  id_order owner id c = ordering_then (by_owner owner c.owner) (nat_cmp id c.id)

  -- whether a channel is that of an owner and an id
  abbrev pub is_channel_of : O → ℕ → PlainChannel O K → Bool
  is_channel_of owner id c = is_eq (id_order owner id c)

  -- the channel of an owner and an id
  abbrev pub channel_at : O → ℕ → List (PlainChannel O K) → Option (PlainChannel O K)
  channel_at owner id channels = find (is_channel_of owner id) channels

  -- whether the channel of an owner and an id is open; None is no such channel
  abbrev pub is_open_at : O → ℕ → List (PlainChannel O K) → Option Bool
  is_open_at owner id channels = option_map (λ c. c.is_open) (channel_at owner id channels)

  -- the texts that wait in the channel of an owner and an id, and how many were lost
  abbrev pub waits_at : O → ℕ → List (PlainChannel O K) → Option (List (List ℕ) × ℕ)
  waits_at owner id channels = option_map (λ c. (c.messages, c.lost)) (channel_at owner id channels)

  -- the channels with one more, in its order
  abbrev pub with_channel : PlainChannel O K → List (PlainChannel O K) → List (PlainChannel O K)
  with_channel c channels =
      filter (λ d. not (is_lt (id_order c.owner c.id d))) channels
      ++ c ∷ filter (λ d. is_lt (id_order c.owner c.id d)) channels

  -- the channels after one was opened. An id that its owner used already opens nothing.
  abbrev pub channel_opened : PlainChannel O K → List (PlainChannel O K) → List (PlainChannel O K)
  channel_opened c channels =
      if is_some (channel_at c.owner c.id channels) then channels else with_channel c channels

  -- the channels with that of an owner and an id changed
  abbrev pub changed_at : (PlainChannel O K → PlainChannel O K) → O → ℕ
      → List (PlainChannel O K) → List (PlainChannel O K)
  changed_at change owner id channels =
      map (λ c. if is_channel_of owner id c then change c else c) channels

  -- the channels after what waited in one was received
  abbrev pub received : O → ℕ → List (PlainChannel O K) → List (PlainChannel O K)
  received owner id channels = changed_at emptied owner id channels

  -- the channels after one was closed
  abbrev pub closed : O → ℕ → List (PlainChannel O K) → List (PlainChannel O K)
  closed owner id channels = changed_at shut owner id channels

  -- the channels without those of an owner
  abbrev pub without_owner : O → List (PlainChannel O K) → List (PlainChannel O K)
  without_owner owner channels = filter (λ c. not (is_eq (by_owner owner c.owner))) channels

  module _ (by_key : K → K → Ordering) where
    -- whether a channel has this storage key and this channel name
    abbrev pub has_name : K → List ℕ → PlainChannel O K → Bool
    has_name key name c = is_eq (ordering_then (by_key key c.key) (slice_cmp nat_cmp name c.name))

    -- whether a channel hears another: open, of its storage key and channel name, and not itself
    abbrev pub hears : PlainChannel O K → PlainChannel O K → Bool
    hears from c =
        c.is_open && (has_name from.key from.name c && not (is_channel_of from.owner from.id c))

    -- the channels after a text was posted on one that is open
    abbrev pub told_by : PlainChannel O K → List ℕ → List (PlainChannel O K)
        → List (PlainChannel O K)
    told_by from text channels = map (λ c. if hears from c then told text c else c) channels

    -- the channels after a post on a channel, if it is there and open
    abbrev pub posted_on : Option (PlainChannel O K) → List ℕ → List (PlainChannel O K)
        → List (PlainChannel O K)
    posted_on None text channels = channels
    posted_on (Some from) text channels =
        if from.is_open then told_by from text channels else channels

    -- the channels after a text was posted on that of an owner and an id
    abbrev pub posted : O → ℕ → List ℕ → List (PlainChannel O K) → List (PlainChannel O K)
    posted owner id text channels = posted_on (channel_at owner id channels) text channels

    -- how many channels a post on a channel reaches
    abbrev pub reached_by : Option (PlainChannel O K) → List (PlainChannel O K) → ℕ
    reached_by None channels = 0
    reached_by (Some from) channels = count_by (hears from) channels

    -- how many channels a post on that of an owner and an id reaches
    abbrev pub reached : O → ℕ → List (PlainChannel O K) → ℕ
    reached owner id channels = reached_by (channel_at owner id channels) channels
