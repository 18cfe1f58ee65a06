-- Values worked out by hand from the standard's steps. Documents are those of tabs 1, 2 and 3, and
-- keys are numbers.
use Rattle.std.proofs.Common.{◌≡◌, ℕ, refl, List, [], ◌∷◌}
use Rattle.std.specs.Prelude.{true, false, codes}
use Rattle.std.specs.Ordering.{nat_cmp}
use Rattle.agent_base.specs.declared.refusals.Label.{Label}
use Rattle.web_locks.specs.declared.request.LockMode.{LockMode}
use Rattle.web_locks.specs.declared.request.LockMode.TheVariants.{Exclusive, Shared}
use Rattle.web_locks.specs.declared.request.LockAnswer.TheVariants as answer
use Rattle.web_locks.specs.Lock.{PlainLock, has_request}
use Rattle.web_locks.specs.Queue.{fits, is_grantable}
use Rattle.web_locks.specs.Requests.{holding, is_unsupported, request_answer, requested, released, without_owner}

-- the top document of a tab
abbrev tab : ℕ → Label
tab n = record { tab = n; frame = 0 }

-- a request of tab n for the name `n` under key 5, which waits
abbrev ask : ℕ → ℕ → LockMode → PlainLock ℕ
ask n id mode = record {
  owner = tab n;
  id = id;
  key = 5;
  name = codes "n";
  mode = mode;
  held = false;
  stole = false;
}

abbrev steal : ℕ → ℕ → PlainLock ℕ
steal n id = record (ask n id Exclusive) { stole = true }

abbrev other_name : PlainLock ℕ → PlainLock ℕ
other_name lock = record lock { name = codes "m" }

abbrev other_key : PlainLock ℕ → PlainLock ℕ
other_key lock = record lock { key = 6 }

-- ---- modes

exclusive_beside_none : fits Exclusive [] ≡ true
exclusive_beside_none = refl

exclusive_beside_shared : fits Exclusive (Shared ∷ []) ≡ false
exclusive_beside_shared = refl

shared_beside_shared : fits Shared (Shared ∷ Shared ∷ []) ≡ true
shared_beside_shared = refl

shared_beside_exclusive : fits Shared (Exclusive ∷ []) ≡ false
shared_beside_exclusive = refl

-- a shared one does not overtake an exclusive one that waits
not_past_one_that_waits : is_grantable Shared (holding (ask 1 1 Shared) ∷ ask 2 1 Exclusive ∷ []) ≡ false
not_past_one_that_waits = refl

-- ---- what is not supported

hyphen_first : is_unsupported false (record (ask 1 1 Shared) { name = codes "-n" }) ≡ true
hyphen_first = refl

hyphen_later : is_unsupported false (record (ask 1 1 Shared) { name = codes "n-" }) ≡ false
hyphen_later = refl

no_name : is_unsupported false (record (ask 1 1 Shared) { name = [] }) ≡ false
no_name = refl

shared_steal : is_unsupported false (record (steal 1 1) { mode = Shared }) ≡ true
shared_steal = refl

steal_if_available : is_unsupported true (steal 1 1) ≡ true
steal_if_available = refl

plain_steal : is_unsupported false (steal 1 1) ≡ false
plain_steal = refl

-- ---- requests

-- tab 1 holds the lock, and tab 2 waits
abbrev two : List (PlainLock ℕ)
two = holding (ask 1 1 Exclusive) ∷ ask 2 7 Shared ∷ []

number_in_use : has_request (tab 2) 7 two ≡ true
number_in_use = refl

number_of_another : has_request (tab 1) 7 two ≡ false
number_of_another = refl

first_is_held : requested nat_cmp false (ask 1 1 Exclusive) [] ≡ holding (ask 1 1 Exclusive) ∷ []
first_is_held = refl

second_waits : requested nat_cmp false (ask 2 7 Shared) (holding (ask 1 1 Exclusive) ∷ []) ≡ two
second_waits = refl

second_is_told : request_answer nat_cmp false (ask 2 7 Shared) (holding (ask 1 1 Exclusive) ∷ []) ≡ answer.Waiting
second_is_told = refl

unavailable_leaves_nothing : requested nat_cmp true (ask 2 8 Exclusive) two ≡ two
unavailable_leaves_nothing = refl

unavailable_is_told : request_answer nat_cmp true (ask 2 8 Exclusive) two ≡ answer.Unavailable
unavailable_is_told = refl

other_name_is_free : request_answer nat_cmp true (other_name (ask 2 8 Exclusive)) two ≡ answer.Held
other_name_is_free = refl

other_key_is_free : request_answer nat_cmp true (other_key (ask 2 8 Exclusive)) two ≡ answer.Held
other_key_is_free = refl

-- a steal removes those that hold the lock, and stands last; one that waits goes on waiting
steal_removes_and_stands_last : requested nat_cmp false (steal 3 9) two ≡ ask 2 7 Shared ∷ holding (steal 3 9) ∷ []
steal_removes_and_stands_last = refl

-- ---- releases

-- an exclusive lock, two shared requests and two exclusive ones
abbrev run : List (PlainLock ℕ)
run =
    holding (ask 1 1 Exclusive) ∷ ask 2 1 Shared ∷ ask 2 2 Shared ∷ ask 3 3 Exclusive ∷ ask 2 4 Shared ∷ []

run_of_shared : released nat_cmp (tab 1) 1 run
    ≡ holding (ask 2 1 Shared) ∷ holding (ask 2 2 Shared) ∷ ask 3 3 Exclusive ∷ ask 2 4 Shared ∷ []
run_of_shared = refl

-- one that waits leaves, and the one behind it is given the lock
waiting_leaves : released nat_cmp (tab 2) 2 (holding (ask 1 1 Shared) ∷ ask 2 2 Exclusive ∷ ask 3 3 Shared ∷ [])
    ≡ holding (ask 1 1 Shared) ∷ holding (ask 3 3 Shared) ∷ []
waiting_leaves = refl

none_to_release : released nat_cmp (tab 3) 1 run ≡ run
none_to_release = refl

-- after a steal the first that waits is given the lock, though it stands before
behind_a_steal : released nat_cmp (tab 3) 9 (ask 2 7 Shared ∷ holding (steal 3 9) ∷ []) ≡ holding (ask 2 7 Shared) ∷ []
behind_a_steal = refl

-- the end of a document releases what it holds and what it waits for
end_of_document : without_owner nat_cmp (tab 2) run ≡ holding (ask 1 1 Exclusive) ∷ ask 3 3 Exclusive ∷ []
end_of_document = refl

end_of_holder : without_owner nat_cmp (tab 1) (holding (ask 1 1 Exclusive) ∷ ask 1 2 Exclusive ∷ ask 2 1 Exclusive ∷ [])
    ≡ holding (ask 2 1 Exclusive) ∷ []
end_of_holder = refl
