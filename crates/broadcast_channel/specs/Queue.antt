-- The messages of one channel that is open. Only private functions see it.
-- Source: none.
use Rattle.std.specs.Prelude.{◌≡◌, ◌⊎◌, ℕ, ◌+◌, ◌-◌, ◌^◌, min, Bool, not, ◌||◌, ◌&&◌, List, [], ◌∷◌, ◌++◌, length, nat_lt, Option, None, Some, is_some, if◌then◌else◌}
use Rattle.std.specs.declared.cmp.Ordering.{Ordering}
use Rattle.std.specs.Ordering.{is_eq}
use Rattle.broadcast_channel.specs.Channel.{most_messages, messages_after, lost_after}

-- the texts that wait, how many were lost, and a text that has its room and comes next
pub record PlainQueue : Type 0 where
  pub messages : List (List ℕ)
  pub lost : ℕ
  pub offered : Option (List ℕ)

-- a queue in which nothing waits
abbrev pub empty_queue : PlainQueue
empty_queue = record { messages = []; lost = 0; offered = None }

-- what a channel knows of its queue: the texts that wait, and how many were lost
abbrev pub waiting : PlainQueue → List (List ℕ) × ℕ
waiting q = (q.messages, q.lost)

-- the same after a text came
abbrev pub waiting_after : List ℕ → List (List ℕ) × ℕ → List (List ℕ) × ℕ
waiting_after text w = (messages_after w.0 text, lost_after w.0 w.1)

-- whether the next text is lost
abbrev pub is_full : PlainQueue → Bool
is_full q = not (nat_lt (length q.messages) most_messages)

-- whether the next text is lost, or has its room
abbrev pub is_ready : PlainQueue → Bool
is_ready q = is_full q || is_some q.offered

-- nothing of a queue is changed but the text that is offered: this one, or none
pub record IsOffered (text : List ℕ) (old new : PlainQueue) : Type 0 where
  pub same : waiting new ≡ waiting old
  pub offered : (new.offered ≡ Some text) ⊎ (new.offered ≡ None)

-- a queue with the offered text put last, where there is one
abbrev pub put_last : PlainQueue → Option (List ℕ) → PlainQueue
put_last q None = q
put_last q (Some text) = record q { messages = q.messages ++ text ∷ []; offered = None }

-- a queue after the offered text came: it is put last, or counted as lost where the queue is full
abbrev pub accepted : PlainQueue → PlainQueue
accepted q =
    if is_full q then record q { lost = min (q.lost + 1) (2 ^ 32 - 1) } else put_last q q.offered

-- a queue to which nothing is offered
abbrev pub withdrawn : PlainQueue → PlainQueue
withdrawn q = record q { offered = None }

module _ {I : Type 0} (cmp : I → I → Ordering) (from : I) where
  -- what becomes of the queue of a channel: the offered text comes where all queues are ready, but
  -- not to the channel that it is posted on
  abbrev pub settled : Bool → I → PlainQueue → PlainQueue
  settled ready id q = if ready && not (is_eq (cmp from id)) then accepted q else withdrawn q

  -- a text came to each channel but the one that it is posted on
  abbrev pub IsTold : List ℕ → I × PlainQueue → I × PlainQueue → Type 0
  IsTold text e f =
      (f.0 ≡ e.0)
      × (waiting f.1
      ≡ (if is_eq (cmp from e.0) then waiting e.1 else waiting_after text (waiting e.1)))

-- the channel is the same, and so is what waits in it
abbrev pub WaitsSame : {I : Type 0} → I × PlainQueue → I × PlainQueue → Type 0
WaitsSame e f = (f.0 ≡ e.0) × (waiting f.1 ≡ waiting e.1)
