-- The requests of a document, one after another.
use Rattle.std.proofs.Common.{◌≡◌, ◌<◌, ℕ, Bool, true, false, cond, not, List, [], ◌∷◌, length, map, Option, Some, None, refl, sym, ap, arith, subst, ◌∙◌}
use Rattle.std.specs.Prelude.{◌&&◌, ◌||◌, filter, find, fold, nat_eq, option_map}
use Rattle.std.specs.List.{IsDistinct}
use Rattle.std.specs.declared.cmp.Ordering.{Ordering}
use Rattle.agent_base.specs.declared.refusals.Label.{Label}
use Rattle.web_locks.specs.declared.request.LockMode.{LockMode}
use Rattle.web_locks.specs.Lock.{PlainLock, in_line, is_request_of, is_owned, owned_ids}
use Rattle.web_locks.specs.Queue.{fits, granted}
use Rattle.web_locks.specs.Requests.{holding, released, released_by, without_owner}
use Rattle.web_locks.specs.Forms.{same_request}
use Rattle.std.proofs.lemmas.Bool.Decides.{nat_tests}
use Rattle.web_locks.proofs.RowLemmas.{some_is}
use Rattle.web_locks.proofs.TableLemmas.{filter_all, others}

module _ {K : Type 0} (cmp : K → K → Ordering) (owner : Label) where
  -- requests that are given their locks keep their numbers
  pub owned_granted : (key : K) (name : List ℕ) (table : List (PlainLock K)) (ms : List LockMode)
      → owned_ids owner (granted cmp key name ms table) ≡ owned_ids owner table
  owned_granted key name [] ms = refl
  owned_granted key name (l ∷ ls) ms =
      at (not (in_line cmp key name l) || l.held) (fits l.mode ms) (λ ns. owned_granted key name ls ns)
    where
      step : (b : Bool) (rest : List (PlainLock K)) → owned_ids owner rest ≡ owned_ids owner ls
          → map (λ y. y.id) (cond b (l ∷ filter (is_owned owner) rest) (filter (is_owned owner) rest))
          ≡ map (λ y. y.id) (cond b (l ∷ filter (is_owned owner) ls) (filter (is_owned owner) ls))
      step true rest same = ap (λ r. l.id ∷ r) same
      step false rest same = same

      given : (b : Bool) (rest : List (PlainLock K)) → owned_ids owner rest ≡ owned_ids owner ls
          → map (λ y. y.id) (cond b (holding l ∷ filter (is_owned owner) rest) (filter (is_owned owner) rest))
          ≡ map (λ y. y.id) (cond b (l ∷ filter (is_owned owner) ls) (filter (is_owned owner) ls))
      given true rest same = ap (λ r. l.id ∷ r) same
      given false rest same = same

      at : (a f : Bool) → ((ns : List LockMode) → owned_ids owner (granted cmp key name ns ls) ≡ owned_ids owner ls)
          → owned_ids owner (cond a (l ∷ granted cmp key name ms ls) (cond f (holding l ∷ granted cmp key name (l.mode ∷ ms) ls) (l ∷ ls)))
          ≡ owned_ids owner (l ∷ ls)
      at true f later = step (is_owned owner l) (granted cmp key name ms ls) (later ms)
      at false true later = given (is_owned owner l) (granted cmp key name (l.mode ∷ ms) ls) (later (l.mode ∷ ms))
      at false false later = refl

  -- the first of a document's requests is the one of its number
  pub find_owned : (table : List (PlainLock K)) (lock : PlainLock K) → find (is_owned owner) table ≡ Some lock
      → IsDistinct same_request table → find (is_request_of owner lock.id) table ≡ Some lock
  unfolding IsDistinct
  find_owned [] lock found d = absurd (cc found)
  find_owned (l ∷ ls) lock found d = at (is_owned owner l) refl found (λ later. find_owned ls lock later d.1)
    where
      unwrap : PlainLock K → Option (PlainLock K) → PlainLock K
      unwrap d None = d
      unwrap d (Some y) = y

      own : (l : PlainLock K) → is_owned owner l ≡ true → is_request_of owner l.id l ≡ true
      own l is = rw is (itself l.id)
        where
          itself : (n : ℕ) → nat_eq n n ≡ true
          itself n = grind (arith, nat_tests)

      at : (b : Bool) → is_owned owner l ≡ b → cond b (Some l) (find (is_owned owner) ls) ≡ Some lock
          → (find (is_owned owner) ls ≡ Some lock → find (is_request_of owner lock.id) ls ≡ Some lock)
          → cond (is_request_of owner lock.id l) (Some l) (find (is_request_of owner lock.id) ls) ≡ Some lock
      at true is one later =
          let same : l ≡ lock = ap (unwrap l) one in
          ap (λ b. cond b (Some l) (find (is_request_of owner lock.id) ls)) (ap (λ k. is_request_of owner k.id l) (sym same) ∙ own l is) ∙ one
      at false is one later =
          ap (λ b. cond (b && nat_eq lock.id l.id) (Some l) (find (is_request_of owner lock.id) ls)) is ∙ later one

  -- once it goes the others are left
  pub owned_left : (table : List (PlainLock K)) (lock : PlainLock K) → find (is_owned owner) table ≡ Some lock
      → IsDistinct same_request table
      → owned_ids owner table ≡ lock.id ∷ owned_ids owner (filter (λ y. not (is_request_of owner lock.id y)) table)
  unfolding IsDistinct
  owned_left [] lock found d = absurd (cc found)
  owned_left (l ∷ ls) lock found d = at (is_owned owner l) refl found (λ later. owned_left ls lock later d.1)
    where
      unwrap : PlainLock K → Option (PlainLock K) → PlainLock K
      unwrap d None = d
      unwrap d (Some y) = y

      itself : (n : ℕ) → nat_eq n n ≡ true
      itself n = grind (arith, nat_tests)

      at : (b : Bool) → is_owned owner l ≡ b → cond b (Some l) (find (is_owned owner) ls) ≡ Some lock
          → (find (is_owned owner) ls ≡ Some lock
          → owned_ids owner ls ≡ lock.id ∷ owned_ids owner (filter (λ y. not (is_request_of owner lock.id y)) ls))
          → map (λ y. y.id) (cond b (l ∷ filter (is_owned owner) ls) (filter (is_owned owner) ls))
          ≡ lock.id ∷ owned_ids owner (cond (not (is_request_of owner lock.id l)) (l ∷ filter (λ y. not (is_request_of owner lock.id y)) ls)
          (filter (λ y. not (is_request_of owner lock.id y)) ls))
      at true is one later =
          let same : l ≡ lock = ap (unwrap l) one in
          let own : is_request_of owner l.id l ≡ true = rw is (itself l.id) in
          let here : is_request_of owner lock.id l ≡ true = ap (λ k. is_request_of owner k.id l) (sym same) ∙ own in
          ap (λ k. k.id ∷ owned_ids owner ls) same
          ∙ ap (λ r. lock.id ∷ owned_ids owner r)
          (sym (ap (λ b. cond (not b) (l ∷ filter (λ y. not (is_request_of owner lock.id y)) ls) (filter (λ y. not (is_request_of owner lock.id y)) ls)) here
          ∙ filter_all (is_request_of owner lock.id) ls (others owner lock.id l ls here d.0)))
      at false is one later =
          let off : is_request_of owner lock.id l ≡ false = ap (λ b. b && nat_eq lock.id l.id) is in
          later one
          ∙ ap (λ r. lock.id ∷ r)
          (sym (ap (λ b. owned_ids owner (cond (not b) (l ∷ filter (λ y. not (is_request_of owner lock.id y)) ls) (filter (λ y. not (is_request_of owner lock.id y)) ls))) off
          ∙ ap (λ b. map (λ y. y.id) (cond b (l ∷ filter (is_owned owner) (filter (λ y. not (is_request_of owner lock.id y)) ls))
          (filter (is_owned owner) (filter (λ y. not (is_request_of owner lock.id y)) ls)))) is))

  -- the numbers of a document's requests, once the first is released
  owned_released : (table : List (PlainLock K)) (lock : PlainLock K) → find (is_owned owner) table ≡ Some lock
      → IsDistinct same_request table → owned_ids owner table ≡ lock.id ∷ owned_ids owner (released cmp owner lock.id table)
  owned_released table lock found d =
      owned_left table lock found d
      ∙ ap (λ r. lock.id ∷ r)
      (sym (ap (λ f. owned_ids owner (released_by cmp owner lock.id f table)) (find_owned table lock found d)
      ∙ owned_granted lock.key lock.name (filter (λ y. not (is_request_of owner lock.id y)) table) _))

  -- the rest is released as before
  rest_released : (table : List (PlainLock K)) (lock : PlainLock K) → find (is_owned owner) table ≡ Some lock
      → IsDistinct same_request table
      → fold (λ rest id. released cmp owner id rest) (released cmp owner lock.id table) (owned_ids owner (released cmp owner lock.id table))
      ≡ fold (λ rest id. released cmp owner id rest) table (owned_ids owner table)
  rest_released table lock found d =
      sym (ap (fold (λ rest id. released cmp owner id rest) table) (owned_released table lock found d))

  -- where a document has no request none is released
  none_owned : (table : List (PlainLock K)) → find (is_owned owner) table ≡ None → owned_ids owner table ≡ []
  none_owned [] none = refl
  none_owned (l ∷ ls) none = at (is_owned owner l) none (none_owned ls)
    where
      at : (b : Bool) → cond b (Some l) (find (is_owned owner) ls) ≡ None
          → (find (is_owned owner) ls ≡ None → owned_ids owner ls ≡ [])
          → map (λ y. y.id) (cond b (l ∷ filter (is_owned owner) ls) (filter (is_owned owner) ls)) ≡ []
      at true one later = absurd (cc one)
      at false one later = later one

  -- the first of a document's numbers
  pub record IsFirstOwned (table : List (PlainLock K)) (id : ℕ) : Type 0 where
    pub lock : PlainLock K
    pub found : find (is_owned owner) table ≡ Some lock
    pub own : lock.id ≡ id

  first_owned : (table : List (PlainLock K)) (id : ℕ) → option_map (λ l. l.id) (find (is_owned owner) table) ≡ Some id → IsFirstOwned table id
  first_owned table id is = at (find (is_owned owner) table) refl is
    where
      at : (o : Option (PlainLock K)) → find (is_owned owner) table ≡ o → option_map (λ l. l.id) o ≡ Some id → IsFirstOwned table id
      at None found one = absurd (cc one)
      at (Some lock) found one = record { lock = lock; found = found; own = some_is lock.id id one }

  pub first_released : (table : List (PlainLock K)) (id : ℕ) → option_map (λ l. l.id) (find (is_owned owner) table) ≡ Some id → IsDistinct same_request table
      → without_owner cmp owner (released cmp owner id table) ≡ without_owner cmp owner table
  first_released table id is d =
      let first = first_owned table id is in
      subst (λ n. without_owner cmp owner (released cmp owner n table) ≡ without_owner cmp owner table) first.own (rest_released table first.lock first.found d)

  pub fewer_owned : (table : List (PlainLock K)) (id : ℕ) → option_map (λ l. l.id) (find (is_owned owner) table) ≡ Some id → IsDistinct same_request table
      → length (owned_ids owner (released cmp owner id table)) < length (owned_ids owner table)
  fewer_owned table id is d =
      let first = first_owned table id is in
      subst (λ n. length (owned_ids owner (released cmp owner n table)) < length (owned_ids owner table)) first.own
      (rw (owned_released table first.lock first.found d) (fewer (owned_ids owner (released cmp owner first.lock.id table))))
    where
      fewer : (ns : List ℕ) → length ns < length (0 ∷ ns)
      fewer ns = grind arith

  pub none_released : (table : List (PlainLock K)) → option_map (λ l. l.id) (find (is_owned owner) table) ≡ None → without_owner cmp owner table ≡ table
  none_released table is =
      ap (λ ids. fold (λ rest id. released cmp owner id rest) table ids) (none_owned table (at (find (is_owned owner) table) refl is))
    where
      at : (o : Option (PlainLock K)) → find (is_owned owner) table ≡ o → option_map (λ l. l.id) o ≡ None → find (is_owned owner) table ≡ None
      at None found one = found
      at (Some lock) found one = absurd (cc one)
