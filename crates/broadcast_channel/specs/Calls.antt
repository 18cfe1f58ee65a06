-- What a channel hears over a list of calls.
-- Source: HTML, "Broadcasting to other browsing contexts", postMessage() and close().
use Rattle.std.specs.Prelude.{◌≡◌, ℕ, Bool, true, false, not, ◌&&◌, List, [], ◌∷◌, ◌++◌, length, nat_lt, Option, None, Some, option_map, unwrap_or, if◌then◌else◌}
use Rattle.std.specs.List.{list_all}
use Rattle.std.specs.declared.cmp.Ordering.{Ordering}
use Rattle.std.specs.Ordering.{is_eq, nat_cmp, ordering_then}
use Rattle.broadcast_channel.specs.Channel.{PlainChannel, channel_at, fresh, channel_opened, posted, received, closed, without_owner, hears, is_channel_of, shut, most_messages}

-- a call on the channels
pub data ChannelCall (O K : Type 0) : Type 0 where
  Open : (owner : O) (id : ℕ) (key : K) (name : List ℕ) → ChannelCall O K
  Post : (owner : O) (id : ℕ) (text : List ℕ) → ChannelCall O K
  Receive : (owner : O) (id : ℕ) → ChannelCall O K
  Close : (owner : O) (id : ℕ) → ChannelCall O K
  DropOwner : (owner : O) → ChannelCall O K

module _ {O K : Type 0} (by_owner : O → O → Ordering) (by_key : K → K → Ordering) where
  -- the channels after a call. One that is refused leaves them.
  abbrev pub called : ChannelCall O K → List (PlainChannel O K) → List (PlainChannel O K)
  called (Open owner id key name) channels =
      channel_opened by_owner (fresh owner id key name) channels
  called (Post owner id text) channels = posted by_owner by_key owner id text channels
  called (Receive owner id) channels = received by_owner owner id channels
  called (Close owner id) channels = closed by_owner owner id channels
  called (DropOwner owner) channels = without_owner by_owner owner channels

  -- the channels after calls
  abbrev pub after_calls : List (ChannelCall O K) → List (PlainChannel O K)
      → List (PlainChannel O K)
  after_calls [] channels = channels
  after_calls (call ∷ calls) channels = after_calls calls (called call channels)

  -- the text, if it is posted on a channel that is open and that this one hears
  abbrev pub sent_from : Option (PlainChannel O K) → List ℕ → PlainChannel O K → List (List ℕ)
  sent_from None text c = []
  sent_from (Some from) text c =
      if from.is_open && hears by_owner by_key from c then text ∷ [] else []

  -- the text that a call sends to a channel
  abbrev pub sent_to : PlainChannel O K → ChannelCall O K → List (PlainChannel O K)
      → List (List ℕ)
  sent_to c (Open owner id key name) channels = []
  sent_to c (Post owner id text) channels = sent_from (channel_at by_owner owner id channels) text c
  sent_to c (Receive owner id) channels = []
  sent_to c (Close owner id) channels = []
  sent_to c (DropOwner owner) channels = []

  -- the same, where it is not lost for want of room
  abbrev pub kept_by : PlainChannel O K → ChannelCall O K → List (PlainChannel O K)
      → List (List ℕ)
  kept_by c call channels =
      if nat_lt (length c.messages) most_messages then sent_to c call channels else []

  -- the texts that a call gives out of a channel
  abbrev pub given_by : PlainChannel O K → ChannelCall O K → List (List ℕ)
  given_by c (Open owner id key name) = []
  given_by c (Post owner id text) = []
  given_by c (Receive owner id) = if is_channel_of by_owner owner id c then c.messages else []
  given_by c (Close owner id) = []
  given_by c (DropOwner owner) = []

  -- whether a call closes or drops the channel of an owner and an id
  abbrev pub ends : O → ℕ → ChannelCall O K → Bool
  ends owner id (Open o i key name) = false
  ends owner id (Post o i text) = false
  ends owner id (Receive o i) = false
  ends owner id (Close o i) = is_eq (ordering_then (by_owner o owner) (nat_cmp i id))
  ends owner id (DropOwner o) = is_eq (by_owner o owner)

  -- whether a call drops the channels of an owner
  abbrev pub drops : O → ChannelCall O K → Bool
  drops owner (Open o i key name) = false
  drops owner (Post o i text) = false
  drops owner (Receive o i) = false
  drops owner (Close o i) = false
  drops owner (DropOwner o) = is_eq (by_owner o owner)

  module _ (owner : O) (id : ℕ) where
    -- what calls kept for the channel of the owner and the id, each as it found the channels
    abbrev pub kept : List (ChannelCall O K) → List (PlainChannel O K) → List (List ℕ)
    kept [] channels = []
    kept (call ∷ calls) channels =
        let found = channel_at by_owner owner id channels in
        unwrap_or (option_map (λ c. kept_by c call channels) found) []
        ++ kept calls (called call channels)

    -- what calls gave out of the channel of the owner and the id
    abbrev pub given_out : List (ChannelCall O K) → List (PlainChannel O K) → List (List ℕ)
    given_out [] channels = []
    given_out (call ∷ calls) channels =
        unwrap_or (option_map (λ c. given_by c call) (channel_at by_owner owner id channels)) []
        ++ given_out calls (called call channels)

  -- after calls the channel is open, and what they gave, and then what waits, is what was posted
  -- to it, in order, each text once, but for those that were lost
  pub record HasHeard (owner : O) (id : ℕ) (calls : List (ChannelCall O K))
      (channels : List (PlainChannel O K)) : Type 0 where
    pub channel : PlainChannel O K
    pub found : channel_at by_owner owner id (after_calls calls channels) ≡ Some channel
    pub is_open : channel.is_open ≡ true
    pub heard : given_out owner id calls channels ++ channel.messages ≡ kept owner id calls channels

  -- what a channel hears from its opening on, until it is closed or dropped, whatever was before
  abbrev pub HearsAll : Type 0
  HearsAll =
      (owner : O) (id : ℕ) (key : K) (name : List ℕ) (before : List (PlainChannel O K))
      (calls : List (ChannelCall O K)) → channel_at by_owner owner id before ≡ None
      → list_all (λ call. not (ends owner id call)) calls ≡ true
      → HasHeard owner id calls (called (Open owner id key name) before)

  -- nothing comes to a channel after it was closed, until it is dropped
  abbrev pub HearsNoMore : Type 0
  HearsNoMore =
      (owner : O) (id : ℕ) (before : List (PlainChannel O K)) (calls : List (ChannelCall O K))
      → list_all (λ call. not (drops owner call)) calls ≡ true
      → (c : PlainChannel O K) → channel_at by_owner owner id before ≡ Some c
      → channel_at by_owner owner id (after_calls calls (called (Close owner id) before))
      ≡ Some (shut c)
