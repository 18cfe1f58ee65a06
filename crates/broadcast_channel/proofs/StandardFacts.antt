-- Values worked out by hand from the standard's steps and from this repository's own choices.
use Rattle.std.proofs.Common.{◌≡◌, ◌-◌, ◌^◌, ℕ, refl, List, [], ◌∷◌, Some, None, length}
use Rattle.std.specs.Prelude.{codes, replicate, true, false}
use Rattle.std.specs.Ordering.{nat_cmp}
use Rattle.broadcast_channel.specs.Channel.{PlainChannel, messages_after, lost_after, channel_opened, posted, reached, received, closed, without_owner, waits_at, is_open_at, fresh}
use Rattle.broadcast_channel.specs.Calls.{ChannelCall, Open, Post, Receive, Close, DropOwner, after_calls, kept, given_out}

last_message_waits : length (messages_after (replicate 1023 (codes "m")) (codes "m")) ≡ 1024
last_message_waits = refl

message_past_the_end : length (messages_after (replicate 1024 (codes "m")) (codes "m")) ≡ 1024
message_past_the_end = refl

none_lost : lost_after (replicate 1023 (codes "m")) 0 ≡ 0
none_lost = refl

one_lost : lost_after (replicate 1024 (codes "m")) 0 ≡ 1
one_lost = refl

count_stays : lost_after (replicate 1024 (codes "m")) (2 ^ 32 - 1) ≡ 2 ^ 32 - 1
count_stays = refl

-- owner 1 has channels 1 and 2, owner 2 has channels 1 and 3, all under the key 7 and the name c
-- but the last, whose name is d
abbrev four : List (PlainChannel ℕ ℕ)
four =
    after_calls nat_cmp nat_cmp
    (Open 1 1 7 (codes "c") ∷ Open 2 3 7 (codes "d") ∷ Open 2 1 7 (codes "c") ∷ Open 1 2 7 (codes "c") ∷ []) []

-- the same after a text was posted on channel 1 of owner 1
abbrev four_told : List (PlainChannel ℕ ℕ)
four_told = posted nat_cmp nat_cmp 1 1 (codes "x") four

reaches_two : reached nat_cmp nat_cmp 1 1 four ≡ 2
reaches_two = refl

reaches_none : reached nat_cmp nat_cmp 2 3 four ≡ 0
reaches_none = refl

own_other_hears : waits_at nat_cmp 1 2 four_told ≡ Some (codes "x" ∷ [], 0)
own_other_hears = refl

another_owner_hears : waits_at nat_cmp 2 1 four_told ≡ Some (codes "x" ∷ [], 0)
another_owner_hears = refl

itself_hears_nothing : waits_at nat_cmp 1 1 four_told ≡ Some ([], 0)
itself_hears_nothing = refl

another_name_hears_nothing : waits_at nat_cmp 2 3 four_told ≡ Some ([], 0)
another_name_hears_nothing = refl

another_key_hears_nothing : reached nat_cmp nat_cmp 1 1 (channel_opened nat_cmp (fresh 3 1 8 (codes "c")) four) ≡ 2
another_key_hears_nothing = refl

nothing_is_left : waits_at nat_cmp 2 1 (received nat_cmp 2 1 four_told) ≡ Some ([], 0)
nothing_is_left = refl

close_drops_what_waits : waits_at nat_cmp 2 1 (closed nat_cmp 2 1 four_told) ≡ Some ([], 0)
close_drops_what_waits = refl

closed_stays_there : is_open_at nat_cmp 2 1 (closed nat_cmp 2 1 four) ≡ Some false
closed_stays_there = refl

closed_is_not_reached : reached nat_cmp nat_cmp 1 1 (closed nat_cmp 2 1 four) ≡ 1
closed_is_not_reached = refl

used_id_opens_nothing : channel_opened nat_cmp (fresh 2 1 7 (codes "d")) (closed nat_cmp 2 1 four) ≡ closed nat_cmp 2 1 four
used_id_opens_nothing = refl

owner_is_gone : is_open_at nat_cmp 2 3 (without_owner nat_cmp 2 four) ≡ None
owner_is_gone = refl

other_owner_stays : is_open_at nat_cmp 1 2 (without_owner nat_cmp 2 four) ≡ Some true
other_owner_stays = refl

-- ---- channel 2 of owner 2 over a list of calls

abbrev calls : List (ChannelCall ℕ ℕ)
calls =
    Open 2 2 7 (codes "c") ∷ Post 1 1 (codes "x") ∷ Post 2 3 (codes "d") ∷ Post 2 2 (codes "o") ∷ Receive 2 2 ∷ Post 1 2 (codes "y")
    ∷ Close 1 1 ∷ Post 1 1 (codes "z") ∷ DropOwner 1 ∷ Post 2 1 (codes "w") ∷ []

one_given : given_out nat_cmp nat_cmp 2 2 calls four ≡ codes "x" ∷ []
one_given = refl

three_kept : kept nat_cmp nat_cmp 2 2 calls four ≡ codes "x" ∷ codes "y" ∷ codes "w" ∷ []
three_kept = refl

two_wait : waits_at nat_cmp 2 2 (after_calls nat_cmp nat_cmp calls four) ≡ Some (codes "y" ∷ codes "w" ∷ [], 0)
two_wait = refl
