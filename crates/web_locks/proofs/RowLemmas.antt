-- The numbers of rows that pass a test, after a row was added, went or was written.
use Rattle.std.proofs.Common.{◌≡◌, ◌<◌, ◌+◌, ℕ, Bool, true, false, cond, not, List, [], ◌∷◌, ◌++◌, map, Option, Some, None, refl, sym, ap, arith, subst, ◌∙◌}
use Rattle.std.specs.Prelude.{filter, find}
use Rattle.std.specs.List.{AllByRecursion, IsDistinct}
use Rattle.std.specs.List.Sorted.{IsStrictlySortedBy}
use Rattle.std.specs.Map.{keys_of}
use Rattle.std.specs.Cmp.{Equal-is, nat_cmp_total}
use Rattle.std.specs.Ordering.{is_eq, nat_cmp}
use Rattle.std.specs.declared.cmp.Ordering.{Ordering}
use Rattle.std.specs.declared.cmp.Ordering.TheVariants.{Less}
use Rattle.key_map.specs.Entries.{map_put, map_set}
use Rattle.key_map.proofs.EntriesLemmas.{apart-behind, map_remove-apart}
use Rattle.agent_base.specs.declared.refusals.Label.{Label}
use Rattle.web_locks.specs.Lock.{PlainLock, is_request_of}
use Rattle.web_locks.specs.Forms.{same_request}
use Rattle.web_locks.specs.Numbers.{with_number, without_number}
use Rattle.web_locks.specs.Groups.{Adds, AddsAtMost, Removes, group_of}
use Rattle.web_locks.specs.Index.{Tells, TellsBut, locks_of, numbers_where, row_at, without_row}
use Rattle.web_locks.proofs.NumberLemmas.{number_above, number_apart, number_itself, number_same, with_last, without_above}
use Rattle.web_locks.proofs.TableLemmas.{filter_all, is_request_of-alike, is_request_of-itself, others}

-- the numbers of rows are below this one
abbrev pub AreBelow : {K : Type 0} → ℕ → List (ℕ × PlainLock K) → Type 0
AreBelow n rows = AllByRecursion (λ e. e.0 < n) rows

pub some_is : {A : Type 0} (x y : A) → ◌≡◌ {A = Option A} (Some x) (Some y) → x ≡ y
some_is x y is = ap (λ o. unwrap x o) is
  where
    unwrap : {A : Type 0} → A → Option A → A
    unwrap d None = d
    unwrap d (Some y) = y

module _ {K : Type 0} where
  pub below_numbers : (test : PlainLock K → Bool) (n : ℕ) (rows : List (ℕ × PlainLock K)) → AreBelow n rows
      → AllByRecursion (λ m. m < n) (numbers_where test rows)
  below_numbers test n [] below = tt
  below_numbers test n (e ∷ es) below = at (test e.1) (below_numbers test n es below.1)
    where
      at : (b : Bool) → AllByRecursion (λ m. m < n) (numbers_where test es)
          → AllByRecursion (λ m. m < n) (map (λ d. d.0) (cond b (e ∷ filter (λ d. test d.1) es) (filter (λ d. test d.1) es)))
      at true later = (below.0, later)
      at false later = later

  -- ---- a row more

  pub numbers_push : (test : PlainLock K → Bool) (n : ℕ) (x : PlainLock K) (rows : List (ℕ × PlainLock K))
      → numbers_where test (rows ++ (n, x) ∷ []) ≡ cond (test x) (numbers_where test rows ++ n ∷ []) (numbers_where test rows)
  numbers_push test n x [] = at (test x)
    where
      at : (b : Bool) → map {A = ℕ × PlainLock K} (λ d. d.0) (cond b ((n, x) ∷ []) []) ≡ cond b (n ∷ []) []
      at true = refl
      at false = refl
  numbers_push test n x (e ∷ es) = at (test e.1) (test x) (numbers_push test n x es)
    where
      at : (a b : Bool) → numbers_where test (es ++ (n, x) ∷ []) ≡ cond b (numbers_where test es ++ n ∷ []) (numbers_where test es)
          → map (λ d. d.0) (cond a (e ∷ filter (λ d. test d.1) (es ++ (n, x) ∷ [])) (filter (λ d. test d.1) (es ++ (n, x) ∷ [])))
          ≡ cond b (map (λ d. d.0) (cond a (e ∷ filter (λ d. test d.1) es) (filter (λ d. test d.1) es)) ++ n ∷ [])
          (map (λ d. d.0) (cond a (e ∷ filter (λ d. test d.1) es) (filter (λ d. test d.1) es)))
      at true true later = ap (λ r. e.0 ∷ r) later
      at true false later = ap (λ r. e.0 ∷ r) later
      at false b later = later

  pub without_absent : (n : ℕ) (rows : List (ℕ × PlainLock K)) → row_at n rows ≡ None → without_row n rows ≡ rows
  without_absent n [] none = refl
  without_absent n (e ∷ es) none = at (is_eq (nat_cmp n e.0)) refl none (λ later. without_absent n es later)
    where
      at : (a : Bool) → is_eq (nat_cmp n e.0) ≡ a → cond a (Some e.1) (row_at n es) ≡ None → (row_at n es ≡ None → without_row n es ≡ es)
          → without_row n (e ∷ es) ≡ e ∷ es
      at true is one later = absurd (cc one)
      at false is one later = rw is (ap (λ r. e ∷ r) (later one))

  -- the row that was added last goes
  pub without_last : (n : ℕ) (x : PlainLock K) (rows : List (ℕ × PlainLock K)) → AreBelow n rows → without_row n (rows ++ (n, x) ∷ []) ≡ rows
  without_last n x [] below = rw (number_itself n) refl
  without_last n x (e ∷ es) below = rw (number_apart n e.0 below.0) (ap (λ r. e ∷ r) (without_last n x es below.1))

  pub row_last : (n : ℕ) (x : PlainLock K) (rows : List (ℕ × PlainLock K)) → AreBelow n rows → row_at n (rows ++ (n, x) ∷ []) ≡ Some x
  row_last n x [] below = rw (number_itself n) refl
  row_last n x (e ∷ es) below = rw (number_apart n e.0 below.0) (row_last n x es below.1)

  -- ---- a row less

  pub numbers_without : (test : PlainLock K → Bool) (n : ℕ) (rows : List (ℕ × PlainLock K))
      → numbers_where test (without_row n rows) ≡ without_number n (numbers_where test rows)
  numbers_without test n [] = refl
  numbers_without test n (e ∷ es) = at (is_eq (nat_cmp n e.0)) refl (test e.1) refl (numbers_without test n es)
    where
      at : (a : Bool) → is_eq (nat_cmp n e.0) ≡ a → (b : Bool) → test e.1 ≡ b
          → numbers_where test (without_row n es) ≡ without_number n (numbers_where test es)
          → numbers_where test (cond (not a) (e ∷ without_row n es) (without_row n es))
          ≡ without_number n (map (λ d. d.0) (cond b (e ∷ filter (λ d. test d.1) es) (filter (λ d. test d.1) es)))
      at true is true on later = rw is later
      at true is false on later = later
      at false is true on later = rw on (rw is (ap (λ r. e.0 ∷ r) later))
      at false is false on later = rw on later

  -- the rows behind one of a number have others
  pub without_behind : (n : ℕ) (e : ℕ × PlainLock K) (es : List (ℕ × PlainLock K)) → is_eq (nat_cmp n e.0) ≡ true
      → AllByRecursion (λ k. nat_cmp e.0 k ≡ Less) (keys_of es) → without_row n es ≡ es
  without_behind n e es same below = map_remove-apart nat_cmp nat_cmp_total n es (apart-behind nat_cmp nat_cmp_total n e.0 (keys_of es) same below)

  -- a row that no test lets through leaves the numbers when it goes
  pub numbers_without_other : (test : PlainLock K → Bool) (n : ℕ) (x : PlainLock K) (rows : List (ℕ × PlainLock K))
      → IsStrictlySortedBy nat_cmp (keys_of rows) → row_at n rows ≡ Some x → test x ≡ false
      → numbers_where test (without_row n rows) ≡ numbers_where test rows
  unfolding IsStrictlySortedBy
  numbers_without_other test n x [] sorted found off = refl
  numbers_without_other test n x (e ∷ es) sorted found off =
      at (is_eq (nat_cmp n e.0)) refl found (λ later. numbers_without_other test n x es sorted.1 later off)
    where
      at : (a : Bool) → is_eq (nat_cmp n e.0) ≡ a → cond a (Some e.1) (row_at n es) ≡ Some x
          → (row_at n es ≡ Some x → numbers_where test (without_row n es) ≡ numbers_where test es)
          → numbers_where test (cond (not a) (e ∷ without_row n es) (without_row n es)) ≡ numbers_where test (e ∷ es)
      at true is one later =
          let off_e : test e.1 ≡ false = ap test (some_is e.1 x one) ∙ off in
          rw off_e (ap (numbers_where test) (without_behind n e es is sorted.0))
      at false is one later = ap (λ r. map (λ d. d.0) (cond (test e.1) (e ∷ r) r)) refl ∙ step (test e.1) (later one)
        where
          step : (b : Bool) → numbers_where test (without_row n es) ≡ numbers_where test es
              → map (λ d. d.0) (cond b (e ∷ filter (λ d. test d.1) (without_row n es)) (filter (λ d. test d.1) (without_row n es)))
              ≡ map (λ d. d.0) (cond b (e ∷ filter (λ d. test d.1) es) (filter (λ d. test d.1) es))
          step true rest = ap (λ r. e.0 ∷ r) rest
          step false rest = rest

  -- ---- a row that is written

  pub numbers_set : (test : PlainLock K → Bool) (n : ℕ) (x y : PlainLock K) (rows : List (ℕ × PlainLock K))
      → row_at n rows ≡ Some x → test y ≡ test x → numbers_where test (map_set nat_cmp n y rows) ≡ numbers_where test rows
  numbers_set test n x y [] found same = refl
  numbers_set test n x y (e ∷ es) found same =
      at (is_eq (nat_cmp n e.0)) found (λ later. numbers_set test n x y es later same)
    where
      one_row : (a b : Bool) → a ≡ b → map (λ d. d.0) (cond a ((e.0, y) ∷ filter (λ d. test d.1) es) (filter (λ d. test d.1) es))
          ≡ map (λ d. d.0) (cond b (e ∷ filter (λ d. test d.1) es) (filter (λ d. test d.1) es))
      one_row true true is = refl
      one_row true false is = absurd (cc is)
      one_row false true is = absurd (cc is)
      one_row false false is = refl

      step : (b : Bool) → numbers_where test (map_set nat_cmp n y es) ≡ numbers_where test es
          → map (λ d. d.0) (cond b (e ∷ filter (λ d. test d.1) (map_set nat_cmp n y es)) (filter (λ d. test d.1) (map_set nat_cmp n y es)))
          ≡ map (λ d. d.0) (cond b (e ∷ filter (λ d. test d.1) es) (filter (λ d. test d.1) es))
      step true rest = ap (λ r. e.0 ∷ r) rest
      step false rest = rest

      at : (a : Bool) → cond a (Some e.1) (row_at n es) ≡ Some x
          → (row_at n es ≡ Some x → numbers_where test (map_set nat_cmp n y es) ≡ numbers_where test es)
          → numbers_where test (cond a ((e.0, y) ∷ es) (e ∷ map_set nat_cmp n y es)) ≡ numbers_where test (e ∷ es)
      at true one later = one_row (test y) (test e.1) (same ∙ sym (ap test (some_is e.1 x one)))
      at false one later = step (test e.1) (later one)

  -- a row that passes the test no more
  pub numbers_set_out : (test : PlainLock K → Bool) (n : ℕ) (x y : PlainLock K) (rows : List (ℕ × PlainLock K))
      → IsStrictlySortedBy nat_cmp (keys_of rows) → row_at n rows ≡ Some x → test y ≡ false
      → numbers_where test (map_set nat_cmp n y rows) ≡ numbers_where test (without_row n rows)
  unfolding IsStrictlySortedBy
  numbers_set_out test n x y [] sorted found off = refl
  numbers_set_out test n x y (e ∷ es) sorted found off =
      at (is_eq (nat_cmp n e.0)) refl found (λ later. numbers_set_out test n x y es sorted.1 later off)
    where
      step : (b : Bool) → numbers_where test (map_set nat_cmp n y es) ≡ numbers_where test (without_row n es)
          → map (λ d. d.0) (cond b (e ∷ filter (λ d. test d.1) (map_set nat_cmp n y es)) (filter (λ d. test d.1) (map_set nat_cmp n y es)))
          ≡ map (λ d. d.0) (cond b (e ∷ filter (λ d. test d.1) (without_row n es)) (filter (λ d. test d.1) (without_row n es)))
      step true rest = ap (λ r. e.0 ∷ r) rest
      step false rest = rest

      at : (a : Bool) → is_eq (nat_cmp n e.0) ≡ a → cond a (Some e.1) (row_at n es) ≡ Some x
          → (row_at n es ≡ Some x → numbers_where test (map_set nat_cmp n y es) ≡ numbers_where test (without_row n es))
          → numbers_where test (cond a ((e.0, y) ∷ es) (e ∷ map_set nat_cmp n y es))
          ≡ numbers_where test (cond (not a) (e ∷ without_row n es) (without_row n es))
      at true is one later = rw off (ap (numbers_where test) (sym (without_behind n e es is sorted.0)))
      at false is one later = step (test e.1) (later one)

  -- ---- the first that passes a test

  pub apart_found : (n m : ℕ) (x : PlainLock K) (es : List (ℕ × PlainLock K)) → AllByRecursion (λ k. nat_cmp m k ≡ Less) (keys_of es)
      → row_at n es ≡ Some x → is_eq (nat_cmp n m) ≡ false
  apart_found n m x [] below found = absurd (cc found)
  apart_found n m x (e ∷ es) below found = at (is_eq (nat_cmp n e.0)) refl found (λ later. apart_found n m x es below.1 later)
    where
      less_apart : (k : ℕ) → nat_cmp m k ≡ Less → is_eq (nat_cmp k m) ≡ false
      less_apart k less = grind (arith, Equal-is)

      at : (a : Bool) → is_eq (nat_cmp n e.0) ≡ a → cond a (Some e.1) (row_at n es) ≡ Some x
          → (row_at n es ≡ Some x → is_eq (nat_cmp n m) ≡ false) → is_eq (nat_cmp n m) ≡ false
      at true is one later = subst (λ k. is_eq (nat_cmp k m) ≡ false) (sym (number_same n e.0 is)) (less_apart e.0 below.0)
      at false is one later = later one

  -- the first of the numbers is that of the first request
  pub record IsFirst (test : PlainLock K → Bool) (n : ℕ) (rows : List (ℕ × PlainLock K)) : Type 0 where
    pub lock : PlainLock K
    pub row : row_at n rows ≡ Some lock
    pub found : find test (locks_of rows) ≡ Some lock
    pub passes : test lock ≡ true

  pub first_found : (test : PlainLock K → Bool) (n : ℕ) (ns : List ℕ) (rows : List (ℕ × PlainLock K))
      → IsStrictlySortedBy nat_cmp (keys_of rows) → numbers_where test rows ≡ n ∷ ns → IsFirst test n rows
  unfolding IsStrictlySortedBy
  first_found test n ns [] sorted is = absurd (cc is)
  first_found test n ns (e ∷ es) sorted is =
      at (test e.1) refl is (λ later. first_found test n ns es sorted.1 later)
    where
      head_of : List ℕ → ℕ
      head_of [] = 0
      head_of (m ∷ ms) = m

      behind : test e.1 ≡ false → IsFirst test n es → IsFirst test n (e ∷ es)
      behind off first =
          record {
            lock = first.lock;
            row = rw (apart_found n e.0 first.lock es sorted.0 first.row) first.row;
            found = rw off first.found;
            passes = first.passes;
          }

      at : (b : Bool) → test e.1 ≡ b
          → map (λ d. d.0) (cond b (e ∷ filter (λ d. test d.1) es) (filter (λ d. test d.1) es)) ≡ n ∷ ns
          → (numbers_where test es ≡ n ∷ ns → IsFirst test n es) → IsFirst test n (e ∷ es)
      at true on one later =
          let same : e.0 ≡ n = ap head_of one in
          record {
            lock = e.1;
            row = subst (λ k. row_at k (e ∷ es) ≡ Some e.1) same (rw (number_itself e.0) refl);
            found = rw on refl;
            passes = on;
          }
      at false off one later = behind off (later one)

  pub none_found : (test : PlainLock K → Bool) (rows : List (ℕ × PlainLock K)) → numbers_where test rows ≡ []
      → AllByRecursion (λ l. test l ≡ false) (locks_of rows)
  none_found test [] is = tt
  none_found test (e ∷ es) is = at (test e.1) refl is (λ later. none_found test es later)
    where
      at : (b : Bool) → test e.1 ≡ b
          → map (λ d. d.0) (cond b (e ∷ filter (λ d. test d.1) es) (filter (λ d. test d.1) es)) ≡ []
          → (numbers_where test es ≡ [] → AllByRecursion (λ l. test l ≡ false) (locks_of es))
          → AllByRecursion (λ l. test l ≡ false) (locks_of (e ∷ es))
      at true on one later = absurd (cc one)
      at false off one later = (off, later one)

  -- ---- the request of a number goes

  pub at_row : (P : PlainLock K → Type 0) (n : ℕ) (x : PlainLock K) (es : List (ℕ × PlainLock K)) → AllByRecursion P (locks_of es)
      → row_at n es ≡ Some x → P x
  at_row P n x [] all found = absurd (cc found)
  at_row P n x (e ∷ es) all found = at (is_eq (nat_cmp n e.0)) found (λ later. at_row P n x es all.1 later)
    where
      at : (a : Bool) → cond a (Some e.1) (row_at n es) ≡ Some x → (row_at n es ≡ Some x → P x) → P x
      at true one later = subst P (some_is e.1 x one) all.0
      at false one later = later one

  pub removed_row : (owner : Label) (id n : ℕ) (x : PlainLock K) (rows : List (ℕ × PlainLock K)) → IsStrictlySortedBy nat_cmp (keys_of rows)
      → IsDistinct same_request (locks_of rows) → row_at n rows ≡ Some x → is_request_of owner id x ≡ true
      → locks_of (without_row n rows) ≡ filter (λ y. not (is_request_of owner id y)) (locks_of rows)
  unfolding IsStrictlySortedBy IsDistinct
  removed_row owner id n x [] sorted d found is = refl
  removed_row owner id n x (e ∷ es) sorted d found is =
      at (is_eq (nat_cmp n e.0)) refl found (λ later. removed_row owner id n x es sorted.1 d.1 later is)
    where
      other : (b : Bool) → is_request_of owner id e.1 ≡ b → row_at n es ≡ Some x → is_request_of owner id e.1 ≡ false
      other false off later = off
      other true on later =
          let apart : same_request e.1 x ≡ false = at_row (λ y. same_request e.1 y ≡ false) n x es d.0 later in
          absurd (cc (sym is ∙ sym (is_request_of-alike owner id e.1 on x) ∙ apart))

      at : (a : Bool) → is_eq (nat_cmp n e.0) ≡ a → cond a (Some e.1) (row_at n es) ≡ Some x
          → (row_at n es ≡ Some x → locks_of (without_row n es) ≡ filter (λ y. not (is_request_of owner id y)) (locks_of es))
          → locks_of (cond (not a) (e ∷ without_row n es) (without_row n es)) ≡ filter (λ y. not (is_request_of owner id y)) (e.1 ∷ locks_of es)
      at true same one later =
          let own : is_request_of owner id e.1 ≡ true = ap (is_request_of owner id) (some_is e.1 x one) ∙ is in
          rw own
          (ap locks_of (without_behind n e es same sorted.0)
          ∙ sym (filter_all (is_request_of owner id) (locks_of es) (others owner id e.1 (locks_of es) own d.0)))
      at false same one later = rw (other (is_request_of owner id e.1) refl one) (ap (λ r. e.1 ∷ r) (later one))

-- a number that has gone goes no more
pub without_twice : (n : ℕ) (xs : List ℕ) → without_number n (without_number n xs) ≡ without_number n xs
without_twice n [] = refl
without_twice n (x ∷ xs) = at (is_eq (nat_cmp n x)) refl (without_twice n xs)
  where
    at : (b : Bool) → is_eq (nat_cmp n x) ≡ b → without_number n (without_number n xs) ≡ without_number n xs
        → without_number n (cond (not b) (x ∷ without_number n xs) (without_number n xs)) ≡ cond (not b) (x ∷ without_number n xs) (without_number n xs)
    at true is later = later
    at false is later = rw is (ap (λ r. x ∷ r) later)

-- ---- what finds the numbers

module _ {G K : Type 0} (cmp : G → G → Ordering) (test : G → PlainLock K → Bool) where
  -- of a row that is added nothing is told, but what is of the others
  pub told_others : (n : ℕ) (x : PlainLock K) (groups : List (G × List ℕ)) (rows : List (ℕ × PlainLock K)) → AreBelow n rows
      → Tells cmp test groups rows → TellsBut cmp test n x groups (rows ++ (n, x) ∷ [])
  told_others n x groups rows below tells q =
      at (test q x) ∙ sym (ap (numbers_where (test q)) (without_last n x rows below))
    where
      at : (b : Bool) → cond b (without_number n (group_of cmp q groups)) (group_of cmp q groups) ≡ numbers_where (test q) rows
      at true = ap (without_number n) (tells q) ∙ without_above n (numbers_where (test q) rows) (below_numbers (test q) n rows below)
      at false = tells q

  pub told_most : (n : ℕ) (x : PlainLock K) (old new : List (G × List ℕ)) (rows : List (ℕ × PlainLock K))
      → AddsAtMost cmp (λ q. test q x) n old new → TellsBut cmp test n x old rows → TellsBut cmp test n x new rows
  told_most n x old new rows most tells q = most q ∙ tells q

  pub told_more : (n : ℕ) (x : PlainLock K) (old new : List (G × List ℕ)) (rows : List (ℕ × PlainLock K)) → AreBelow n rows
      → Tells cmp test old rows → Adds cmp (λ q. test q x) n old new → Tells cmp test new (rows ++ (n, x) ∷ [])
  told_more n x old new rows below tells adds q =
      adds q ∙ at (test q x) ∙ sym (numbers_push (test q) n x rows)
    where
      at : (b : Bool) → cond b (with_number n (group_of cmp q old)) (group_of cmp q old)
          ≡ cond b (numbers_where (test q) rows ++ n ∷ []) (numbers_where (test q) rows)
      at true = ap (with_number n) (tells q) ∙ with_last n (numbers_where (test q) rows) (below_numbers (test q) n rows below)
      at false = tells q

  -- a number goes from the groups that have it, and maybe from others
  pub told_less : (within : G → Bool) (n : ℕ) (x : PlainLock K) (old new : List (G × List ℕ)) (rows : List (ℕ × PlainLock K))
      → ((q : G) → test q x ≡ true → within q ≡ true) → TellsBut cmp test n x old rows → Removes cmp within n old new
      → Tells cmp test new (without_row n rows)
  told_less within n x old new rows covers tells removes q =
      removes q ∙ at (within q) refl (test q x) refl (tells q)
    where
      at : (w : Bool) → within q ≡ w → (t : Bool) → test q x ≡ t
          → cond t (without_number n (group_of cmp q old)) (group_of cmp q old) ≡ numbers_where (test q) (without_row n rows)
          → cond w (without_number n (group_of cmp q old)) (group_of cmp q old) ≡ numbers_where (test q) (without_row n rows)
      at true is true on told = told
      at true is false off told =
          ap (without_number n) (told ∙ numbers_without (test q) n rows)
          ∙ without_twice n (numbers_where (test q) rows)
          ∙ sym (numbers_without (test q) n rows)
      at false is true on told = absurd (cc (sym is ∙ covers q on))
      at false is false off told = told

  -- what is told of all rows is told of the others
  pub told_but : (n : ℕ) (x : PlainLock K) (groups : List (G × List ℕ)) (rows : List (ℕ × PlainLock K)) → IsStrictlySortedBy nat_cmp (keys_of rows)
      → row_at n rows ≡ Some x → Tells cmp test groups rows → TellsBut cmp test n x groups rows
  told_but n x groups rows sorted found tells q = at (test q x) refl
    where
      at : (b : Bool) → test q x ≡ b → cond b (without_number n (group_of cmp q groups)) (group_of cmp q groups)
          ≡ numbers_where (test q) (without_row n rows)
      at true on = ap (without_number n) (tells q) ∙ sym (numbers_without (test q) n rows)
      at false off = tells q ∙ sym (numbers_without_other (test q) n x rows sorted found off)

-- ---- a row behind all others

module _ {K : Type 0} where
  pub put_last : (n : ℕ) (x : PlainLock K) (rows : List (ℕ × PlainLock K)) → AreBelow n rows → map_put nat_cmp n x rows ≡ rows ++ (n, x) ∷ []
  put_last n x [] below = refl
  put_last n x (e ∷ es) below = rw (number_above n e.0 below.0) (ap (λ r. e ∷ r) (put_last n x es below.1))

  below_later : (n : ℕ) (rows : List (ℕ × PlainLock K)) → AreBelow n rows → AreBelow (n + 1) rows
  below_later n [] below = tt
  below_later n (e ∷ es) below = (step e.0 below.0, below_later n es below.1)
    where
      step : (m : ℕ) → m < n → m < n + 1
      step m less = grind arith

  pub below_push : (n : ℕ) (x : PlainLock K) (rows : List (ℕ × PlainLock K)) → AreBelow n rows → AreBelow (n + 1) (rows ++ (n, x) ∷ [])
  below_push n x [] below = (grind arith, tt)
  below_push n x (e ∷ es) below = (step e.0 below.0, below_push n x es below.1)
    where
      step : (m : ℕ) → m < n → m < n + 1
      step m less = grind arith

-- ---- a request by its number

pub find_row : {K : Type 0} (n : ℕ) (x : PlainLock K) (rows : List (ℕ × PlainLock K)) → IsDistinct same_request (locks_of rows)
    → row_at n rows ≡ Some x → find (is_request_of x.owner x.id) (locks_of rows) ≡ Some x
unfolding IsDistinct
find_row n x [] d found = absurd (cc found)
find_row n x (e ∷ es) d found = at (is_eq (nat_cmp n e.0)) found (is_request_of x.owner x.id e.1) refl (λ later. find_row n x es d.1 later)
  where
    at : (a : Bool) → cond a (Some e.1) (row_at n es) ≡ Some x → (b : Bool) → is_request_of x.owner x.id e.1 ≡ b
        → (row_at n es ≡ Some x → find (is_request_of x.owner x.id) (locks_of es) ≡ Some x)
        → cond (is_request_of x.owner x.id e.1) (Some e.1) (find (is_request_of x.owner x.id) (locks_of es)) ≡ Some x
    at true one b is later =
        let same : e.1 ≡ x = some_is e.1 x one in
        rw (ap (is_request_of x.owner x.id) same ∙ is_request_of-itself x) one
    at false one true is later =
        let apart : same_request e.1 x ≡ false = at_row (λ y. same_request e.1 y ≡ false) n x es d.0 one in
        absurd (cc (sym (is_request_of-alike x.owner x.id e.1 is x ∙ is_request_of-itself x) ∙ apart))
    at false one false is later = rw is (later one)
