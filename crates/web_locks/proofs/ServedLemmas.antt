-- The first of the requests that pass a test, and those that are given their locks.
use Rattle.std.proofs.Common.{◌≡◌, ◌<◌, ◌≤◌, inl, inr, ℕ, Bool, true, false, cond, not, List, [], ◌∷◌, length, map, Option, Some, None, refl, sym, ap, arith, subst, ◌∙◌}
use Rattle.std.specs.Prelude.{◌&&◌, ◌||◌, filter, find, is_some, string_bytes, option_map, unwrap_or}
use Rattle.std.specs.List.{AllByRecursion, list_any}
use Rattle.std.specs.List.Sorted.{IsStrictlySortedBy}
use Rattle.std.specs.Map.{keys_of}
use Rattle.std.specs.Ordering.{is_eq, nat_cmp}
use Rattle.std.specs.Rc.{rc_value}
use Rattle.std.specs.declared.cmp.Ordering.{Ordering}
use Rattle.key_map.specs.Entries.{map_set}
use Rattle.web_locks.specs.declared.request.LockMode.{LockMode}
use Rattle.web_locks.specs.declared.request.LockMode.TheVariants.{Exclusive, Shared}
use Rattle.web_locks.specs.Lock.{PlainLock}
use Rattle.web_locks.specs.Queue.{fits, held_modes}
use Rattle.web_locks.specs.Requests.{holding}
use Rattle.web_locks.specs.Forms.{AllWaiting, IsLoose, IsAlone, IsOpen}
use Rattle.web_locks.specs.Numbers.{first_after, without_number}
use Rattle.web_locks.specs.Index.{SharedResource, held_row, is_for, line_at, locks_of, mode_at, numbers_where, row_at, stole_it, waits_for}
use Rattle.web_locks.specs.Kept.{given_first, next_given, processed_at}
use Rattle.web_locks.proofs.LineLemmas.{fits_alone, waiting_loose}
use Rattle.web_locks.proofs.NumberLemmas.{number_itself}
use Rattle.web_locks.proofs.ProcessLemmas.{IsNext, IsPlainLine, first_of, fits_beside, granted_none, granted_stops, open_fits}
use Rattle.web_locks.proofs.RowLemmas.{AreBelow, IsFirst, apart_found, first_found, none_found, numbers_set_out, numbers_without, some_is}
use Rattle.web_locks.proofs.StandingLemmas.{plain_filter}
use Rattle.web_locks.proofs.TableLemmas.{and_both}

-- ---- the first that passes a test

pub record IsCons (n : ℕ) (ns : List ℕ) : Type 0 where
  pub rest : List ℕ
  pub is : ns ≡ n ∷ rest

pub first_some_step : (n : ℕ) (ns : List ℕ) → first_after None ns ≡ Some n → IsCons n ns
first_some_step n [] is = absurd (cc is)
first_some_step n (m ∷ ms) is = record { rest = ms; is = ap (λ k. k ∷ ms) (some_is m n is) }

pub first_none_step : (ns : List ℕ) → first_after None ns ≡ None → ns ≡ []
first_none_step [] is = refl
first_none_step (n ∷ ns) is = absurd (cc is)

module _ {K : Type 0} (test : PlainLock K → Bool) where
  pub any_first : (rows : List (ℕ × PlainLock K)) → is_some (first_after None (numbers_where test rows)) ≡ list_any test (locks_of rows)
  any_first [] = refl
  any_first (e ∷ es) = at (test e.1) (any_first es)
    where
      at : (b : Bool) → is_some (first_after None (numbers_where test es)) ≡ list_any test (locks_of es)
          → is_some (first_after None (map (λ d. d.0) (cond b (e ∷ filter (λ d. test d.1) es) (filter (λ d. test d.1) es))))
          ≡ (b || list_any test (locks_of es))
      at true later = refl
      at false later = later

  find_none : (ls : List (PlainLock K)) → AllByRecursion (λ l. test l ≡ false) ls → find test ls ≡ None
  find_none [] none = refl
  find_none (l ∷ ls) none = rw none.0 (find_none ls none.1)

  pub first_none : (rows : List (ℕ × PlainLock K)) → first_after None (numbers_where test rows) ≡ None → find test (locks_of rows) ≡ None
  first_none rows is = find_none (locks_of rows) (none_found test rows (first_none_step (numbers_where test rows) is))

  pub first_some : (n : ℕ) (rows : List (ℕ × PlainLock K)) → IsStrictlySortedBy nat_cmp (keys_of rows)
      → first_after None (numbers_where test rows) ≡ Some n → row_at n rows ≡ find test (locks_of rows)
  first_some n rows sorted is =
      let cons = first_some_step n (numbers_where test rows) is in
      let first = first_found test n cons.rest rows sorted cons.is in
      first.row ∙ sym first.found

module _ {K : Type 0} (p q : PlainLock K → Bool) where
  pub any_line : (ls : List (PlainLock K)) → list_any (λ l. p l && q l) ls ≡ list_any q (filter p ls)
  any_line [] = refl
  any_line (l ∷ ls) = at (p l) (any_line ls)
    where
      at : (b : Bool) → list_any (λ l. p l && q l) ls ≡ list_any q (filter p ls)
          → ((b && q l) || list_any (λ l. p l && q l) ls) ≡ list_any q (cond b (l ∷ filter p ls) (filter p ls))
      at true later = ap (λ r. q l || r) later
      at false later = later

pub find_line : {K : Type 0} (p : PlainLock K → Bool) (ls : List (PlainLock K)) → find p ls ≡ first_of (filter p ls)
find_line p [] = refl
find_line p (l ∷ ls) = at (p l) (find_line p ls)
  where
    at : (b : Bool) → find p ls ≡ first_of (filter p ls) → cond b (Some l) (find p ls) ≡ first_of (cond b (l ∷ filter p ls) (filter p ls))
    at true later = refl
    at false later = later

module _ {K : Type 0} (cmp : K → K → Ordering) (r : SharedResource K) where
  -- what is told of a name's requests says what fits those that are held
  pub fits_told : (mode : LockMode) (rows : List (ℕ × PlainLock K)) → IsOpen (line_at cmp r rows) → IsPlainLine (locks_of rows)
      → fits mode (held_modes (line_at cmp r rows))
      ≡ (not (list_any (stole_it cmp r) (locks_of rows)) && fits_beside mode (find (is_for cmp r) (locks_of rows)))
  fits_told mode rows line plain =
      open_fits mode (line_at cmp r rows) line (plain_filter (is_for cmp r) (locks_of rows) plain)
      ∙ ap (λ b. not b && fits_beside mode (first_of (line_at cmp r rows))) (sym (any_line (is_for cmp r) (λ l. l.stole) (locks_of rows)))
      ∙ ap (λ f. not (list_any (stole_it cmp r) (locks_of rows)) && fits_beside mode f) (sym (find_line (is_for cmp r) (locks_of rows)))

  -- ---- the first that waits

  -- the key and the name
  abbrev pub IsNextHere : ℕ → PlainLock K → List (ℕ × PlainLock K) → Type 0
  IsNextHere n x rows = IsNext cmp (rc_value r).key (string_bytes (rc_value r).name) n x rows

  next_first : (n : ℕ) (ns : List ℕ) (x : PlainLock K) (rows : List (ℕ × PlainLock K)) → IsStrictlySortedBy nat_cmp (keys_of rows)
      → numbers_where (waits_for cmp r) rows ≡ n ∷ ns → row_at n rows ≡ Some x → IsNextHere n x rows
  unfolding IsStrictlySortedBy
  next_first n ns x [] sorted is found = absurd (cc is)
  next_first n ns x (e ∷ es) sorted is found =
      at (waits_for cmp r e.1) refl is (is_eq (nat_cmp n e.0)) refl found (λ one row. next_first n ns x es sorted.1 one row)
    where
      head_of : List ℕ → ℕ
      head_of [] = 0
      head_of (m ∷ ms) = m

      at : (b : Bool) → waits_for cmp r e.1 ≡ b
          → map (λ d. d.0) (cond b (e ∷ filter (λ d. waits_for cmp r d.1) es) (filter (λ d. waits_for cmp r d.1) es)) ≡ n ∷ ns
          → (a : Bool) → is_eq (nat_cmp n e.0) ≡ a → cond a (Some e.1) (row_at n es) ≡ Some x
          → (numbers_where (waits_for cmp r) es ≡ n ∷ ns → row_at n es ≡ Some x → IsNextHere n x es) → IsNextHere n x (e ∷ es)
      at true on one true same found later =
          let lock : e.1 ≡ x = some_is e.1 x found in inl (same, lock, ap (waits_for cmp r) (sym lock) ∙ on)
      at true on one false same found later =
          let number : e.0 ≡ n = ap head_of one in
          absurd (cc (sym (number_itself e.0) ∙ ap (λ k. is_eq (nat_cmp k e.0)) number ∙ same))
      at false off one true same found later =
          let first = first_found (waits_for cmp r) n ns es sorted.1 one in
          absurd (cc (sym same ∙ apart_found n e.0 first.lock es sorted.0 first.row))
      at false off one false same found later = inr (same, off, later one found)

  -- a request that is given its lock next
  pub record IsGiven (n : ℕ) (rows : List (ℕ × PlainLock K)) : Type 0 where
    pub lock : PlainLock K
    pub rest : List ℕ
    pub first : numbers_where (waits_for cmp r) rows ≡ n ∷ rest
    pub row : row_at n rows ≡ Some lock
    pub next : IsNextHere n lock rows
    pub here : is_for cmp r lock ≡ true
    pub waits : lock.held ≡ false
    pub fit : fits lock.mode (held_modes (line_at cmp r rows)) ≡ true

  not_true : (b : Bool) → not b ≡ true → b ≡ false
  not_true true is = absurd (cc is)
  not_true false is = refl

  given_step : (n : ℕ) (ns : List ℕ) (rows : List (ℕ × PlainLock K)) → IsStrictlySortedBy nat_cmp (keys_of rows)
      → numbers_where (waits_for cmp r) rows ≡ ns → given_first cmp r rows ns ≡ Some n → IsGiven n rows
  given_step n [] rows sorted is given = absurd (cc given)
  given_step n (m ∷ ms) rows sorted is given =
      at (fits (mode_at m rows) (held_modes (line_at cmp r rows))) refl given
    where
      first : IsFirst (waits_for cmp r) m rows
      first = first_found (waits_for cmp r) m ms rows sorted is

      at : (b : Bool) → fits (mode_at m rows) (held_modes (line_at cmp r rows)) ≡ b → ◌≡◌ {A = Option ℕ} (cond b (Some m) None) (Some n)
          → IsGiven n rows
      at false stops one = absurd (cc one)
      at true fit one =
          let parts = and_both (is_for cmp r first.lock) (not first.lock.held) first.passes in
          subst (λ k. IsGiven k rows) (some_is m n one)
          (record {
            lock = first.lock;
            rest = ms;
            first = is;
            row = first.row;
            next = next_first m ms first.lock rows sorted is first.row;
            here = parts.0;
            waits = not_true first.lock.held parts.1;
            fit = ap (λ o. fits (unwrap_or (option_map (λ l. l.mode) o) Exclusive) (held_modes (line_at cmp r rows))) (sym first.row) ∙ fit;
          })

  pub given_next : (n : ℕ) (rows : List (ℕ × PlainLock K)) → IsStrictlySortedBy nat_cmp (keys_of rows) → next_given cmp r rows ≡ Some n → IsGiven n rows
  given_next n rows sorted given = given_step n (numbers_where (waits_for cmp r) rows) rows sorted refl given

  none_step : (ns : List ℕ) (rows : List (ℕ × PlainLock K)) → IsStrictlySortedBy nat_cmp (keys_of rows)
      → numbers_where (waits_for cmp r) rows ≡ ns → given_first cmp r rows ns ≡ None
      → processed_at cmp r (locks_of rows) ≡ locks_of rows
  none_step [] rows sorted is none =
      granted_none cmp (rc_value r).key (string_bytes (rc_value r).name) (locks_of rows) _ (none_found (waits_for cmp r) rows is)
  none_step (m ∷ ms) rows sorted is none =
      at (fits (mode_at m rows) (held_modes (line_at cmp r rows))) refl none
    where
      first : IsFirst (waits_for cmp r) m rows
      first = first_found (waits_for cmp r) m ms rows sorted is

      at : (b : Bool) → fits (mode_at m rows) (held_modes (line_at cmp r rows)) ≡ b → ◌≡◌ {A = Option ℕ} (cond b (Some m) None) None
          → processed_at cmp r (locks_of rows) ≡ locks_of rows
      at true fit one = absurd (cc one)
      at false stops one =
          granted_stops cmp (rc_value r).key (string_bytes (rc_value r).name) (locks_of rows) _ first.lock first.found
          (ap (λ o. fits (unwrap_or (option_map (λ l. l.mode) o) Exclusive) (held_modes (line_at cmp r rows))) (sym first.row) ∙ stops)

  -- where none is given its lock the queue is processed
  pub given_none : (rows : List (ℕ × PlainLock K)) → IsStrictlySortedBy nat_cmp (keys_of rows) → next_given cmp r rows ≡ None
      → processed_at cmp r (locks_of rows) ≡ locks_of rows
  given_none rows sorted none = none_step (numbers_where (waits_for cmp r) rows) rows sorted refl none

  -- ---- the line, as one is given its lock

  waits_parts : (l : PlainLock K) → waits_for cmp r l ≡ true → (is_for cmp r l ≡ true) × (l.held ≡ false)
  waits_parts l is = let parts = and_both (is_for cmp r l) (not l.held) is in (parts.0, not_true l.held parts.1)

  held_first : {A : Type 0} (h : Bool) → h ≡ false → h ≡ true → A
  held_first h off on = absurd (cc (sym off ∙ on))

  loose_given : (n : ℕ) (x : PlainLock K) (rows : List (ℕ × PlainLock K)) → IsNextHere n x rows → x.mode ≡ Shared → IsLoose (line_at cmp r rows)
      → IsLoose (line_at cmp r (map_set nat_cmp n (holding x) rows))
  loose_given n x [] next mode loose = absurd next
  loose_given n x (e ∷ es) (inl next) mode loose =
      let parts = waits_parts x next.2 in
      rw next.0
      (subst (λ b. IsLoose (cond b (holding x ∷ line_at cmp r es) (line_at cmp r es))) (sym parts.0)
      (inl (
        refl,
        mode,
        here parts.1
            (subst (λ b. IsLoose (cond b (x ∷ line_at cmp r es) (line_at cmp r es))) parts.0
            (subst (λ l. IsLoose (line_at cmp r ((e.0, l) ∷ es))) next.1 loose)),
      )))
    where
      here : x.held ≡ false → IsLoose (x ∷ line_at cmp r es) → IsLoose (line_at cmp r es)
      here waits (inl l) = held_first x.held waits l.0
      here waits (inr l) = waiting_loose (line_at cmp r es) l.1
  loose_given n x (e ∷ es) (inr next) mode loose =
      rw next.0 (at (is_for cmp r e.1) e.1.held refl next.1 loose (λ l. loose_given n x es next.2 mode l))
    where
      at : (a h : Bool) → e.1.held ≡ h → (a && not h) ≡ false → IsLoose (cond a (e.1 ∷ line_at cmp r es) (line_at cmp r es))
          → (IsLoose (line_at cmp r es) → IsLoose (line_at cmp r (map_set nat_cmp n (holding x) es)))
          → IsLoose (cond a (e.1 ∷ line_at cmp r (map_set nat_cmp n (holding x) es)) (line_at cmp r (map_set nat_cmp n (holding x) es)))
      at true true held off (inl l) later = inl (l.0, l.1, later l.2)
      at true true held off (inr l) later = held_first e.1.held l.0 held
      at true false held off l later = absurd (cc off)
      at false h held off l later = later l

  alone_given : (n : ℕ) (x : PlainLock K) (rows : List (ℕ × PlainLock K)) → IsNextHere n x rows → x.mode ≡ Exclusive
      → fits Exclusive (held_modes (line_at cmp r rows)) ≡ true → IsLoose (line_at cmp r rows)
      → IsAlone (line_at cmp r (map_set nat_cmp n (holding x) rows))
  alone_given n x [] next mode fit loose = absurd next
  alone_given n x (e ∷ es) (inl next) mode fit loose =
      let parts = waits_parts x next.2 in
      rw next.0
      (subst (λ b. IsAlone (cond b (holding x ∷ line_at cmp r es) (line_at cmp r es))) (sym parts.0)
      (inl (
        refl,
        mode,
        here parts.1
            (subst (λ b. IsLoose (cond b (x ∷ line_at cmp r es) (line_at cmp r es))) parts.0
            (subst (λ l. IsLoose (line_at cmp r ((e.0, l) ∷ es))) next.1 loose)),
      )))
    where
      here : x.held ≡ false → IsLoose (x ∷ line_at cmp r es) → AllWaiting (line_at cmp r es)
      here waits (inl l) = held_first x.held waits l.0
      here waits (inr l) = l.1
  alone_given n x (e ∷ es) (inr next) mode fit loose =
      rw next.0 (at (is_for cmp r e.1) e.1.held refl next.1 fit loose (λ f l. alone_given n x es next.2 mode f l))
    where
      at : (a h : Bool) → e.1.held ≡ h → (a && not h) ≡ false
          → fits Exclusive (held_modes (cond a (e.1 ∷ line_at cmp r es) (line_at cmp r es))) ≡ true
          → IsLoose (cond a (e.1 ∷ line_at cmp r es) (line_at cmp r es))
          → (fits Exclusive (held_modes (line_at cmp r es)) ≡ true → IsLoose (line_at cmp r es)
          → IsAlone (line_at cmp r (map_set nat_cmp n (holding x) es)))
          → IsAlone (cond a (e.1 ∷ line_at cmp r (map_set nat_cmp n (holding x) es)) (line_at cmp r (map_set nat_cmp n (holding x) es)))
      at true true held off free l later =
          let none : fits Exclusive (held_modes (e.1 ∷ line_at cmp r es)) ≡ false = rw held refl in absurd (cc (sym none ∙ free))
      at true false held off free l later = absurd (cc off)
      at false h held off free l later = later free l

  open_step : (n : ℕ) (x : PlainLock K) (rows : List (ℕ × PlainLock K)) (mode : LockMode) → x.mode ≡ mode → IsNextHere n x rows
      → fits mode (held_modes (line_at cmp r rows)) ≡ true → IsOpen (line_at cmp r rows)
      → IsOpen (line_at cmp r (map_set nat_cmp n (holding x) rows))
  open_step n x rows mode is next fit (inr alone) = absurd (cc (sym (fits_alone mode (line_at cmp r rows) alone) ∙ fit))
  open_step n x rows Exclusive is next fit (inl loose) = inr (alone_given n x rows next is fit loose)
  open_step n x rows Shared is next fit (inl loose) = inl (loose_given n x rows next is loose)

  pub open_given : (n : ℕ) (rows : List (ℕ × PlainLock K)) → (given : IsGiven n rows) → IsOpen (line_at cmp r rows)
      → IsOpen (line_at cmp r (map_set nat_cmp n (holding given.lock) rows))
  open_given n rows given line = open_step n given.lock rows given.lock.mode refl given.next given.fit line

module _ {K : Type 0} where
  -- a row that is written
  pub all_set : (P : PlainLock K → Type 0) (n : ℕ) (y : PlainLock K) (rows : List (ℕ × PlainLock K)) → AllByRecursion P (locks_of rows) → P y
      → AllByRecursion P (locks_of (map_set nat_cmp n y rows))
  all_set P n y [] all is = tt
  all_set P n y (e ∷ es) all is = at (is_eq (nat_cmp n e.0)) (all_set P n y es all.1 is)
    where
      at : (b : Bool) → AllByRecursion P (locks_of (map_set nat_cmp n y es))
          → AllByRecursion P (locks_of (cond b ((e.0, y) ∷ es) (e ∷ map_set nat_cmp n y es)))
      at true later = (is, all.1)
      at false later = (all.0, later)

  pub below_set : (m n : ℕ) (y : PlainLock K) (rows : List (ℕ × PlainLock K)) → AreBelow m rows → AreBelow m (map_set nat_cmp n y rows)
  below_set m n y [] below = tt
  below_set m n y (e ∷ es) below = at (is_eq (nat_cmp n e.0)) (below_set m n y es below.1)
    where
      at : (b : Bool) → AreBelow m (map_set nat_cmp n y es) → AreBelow m (cond b ((e.0, y) ∷ es) (e ∷ map_set nat_cmp n y es))
      at true later = (below.0, below.1)
      at false later = (below.0, later)

  pub below_without : (m n : ℕ) (rows : List (ℕ × PlainLock K)) → AreBelow m rows → AreBelow m (filter (λ e. not (is_eq (nat_cmp n e.0))) rows)
  below_without m n [] below = tt
  below_without m n (e ∷ es) below = at (is_eq (nat_cmp n e.0)) (below_without m n es below.1)
    where
      at : (b : Bool) → AreBelow m (filter (λ e. not (is_eq (nat_cmp n e.0))) es)
          → AreBelow m (cond (not b) (e ∷ filter (λ e. not (is_eq (nat_cmp n e.0))) es) (filter (λ e. not (is_eq (nat_cmp n e.0))) es))
      at true later = later
      at false later = (below.0, later)

  -- the row of a number, written
  pub held_row_is : (n : ℕ) (x : PlainLock K) (rows : List (ℕ × PlainLock K)) → row_at n rows ≡ Some x → held_row n rows ≡ map_set nat_cmp n (holding x) rows
  held_row_is n x rows found = rw found refl

shorter : (n : ℕ) (ns : List ℕ) → length (without_number n ns) ≤ length ns
shorter n [] = grind arith
shorter n (m ∷ ms) = at (is_eq (nat_cmp n m)) (shorter n ms)
  where
    at : (b : Bool) → length (without_number n ms) ≤ length ms → length (cond (not b) (m ∷ without_number n ms) (without_number n ms)) ≤ length (m ∷ ms)
    at true later = grind arith
    at false later = grind arith

-- fewer numbers are left without the first
pub fewer : (n : ℕ) (ns : List ℕ) → length (without_number n (n ∷ ns)) < length (n ∷ ns)
fewer n ns = rw (number_itself n) (at (shorter n ns))
  where
    at : length (without_number n ns) ≤ length ns → length (without_number n ns) < length (n ∷ ns)
    at less = grind arith

-- one less waits
pub fewer_wait : {K : Type 0} (cmp : K → K → Ordering) (r : SharedResource K) (n : ℕ) (rows : List (ℕ × PlainLock K))
    → IsStrictlySortedBy nat_cmp (keys_of rows) → (given : IsGiven cmp r n rows)
    → length (numbers_where (waits_for cmp r) (map_set nat_cmp n (holding given.lock) rows)) < length (numbers_where (waits_for cmp r) rows)
fewer_wait cmp r n rows sorted given =
    rw (
      numbers_set_out (waits_for cmp r) n given.lock (holding given.lock) rows sorted given.row (off (is_for cmp r given.lock))
          ∙ numbers_without (waits_for cmp r) n rows,
      given.first,
    )
    (fewer n given.rest)
  where
    off : (b : Bool) → (b && false) ≡ false
    off true = refl
    off false = refl
