-- Those that hold a lock go, one after another, while it is stolen.
use Rattle.std.proofs.Common.{◌≡◌, ◌⊎◌, ◌<◌, ◌≤◌, inl, inr, ℕ, Bool, true, false, cond, not, List, [], ◌∷◌, ◌++◌, length, Option, Some, None, refl, sym, ap, arith, subst, ◌∙◌}
use Rattle.std.specs.Prelude.{◌&&◌, ◌||◌, filter, find, string_bytes, option_map, unwrap_or}
use Rattle.std.specs.Option.{option_or}
use Rattle.std.specs.List.{AllByRecursion, IsDistinct}
use Rattle.std.specs.List.Sorted.{IsStrictlySortedBy}
use Rattle.std.specs.Map.{keys_of}
use Rattle.std.specs.Ordering.{is_eq, nat_cmp}
use Rattle.std.specs.Rc.{rc_value}
use Rattle.std.specs.declared.cmp.Ordering.{Ordering}
use Rattle.std.specs.declared.cmp.Ordering.TheVariants.{Less}
use Rattle.std.proofs.lemmas.List.{map-append}
use Rattle.std.proofs.lemmas.List.Elements.{filter-append}
use Rattle.std.proofs.lemmas.List.Filters.{length-filter_both}
use Rattle.web_locks.specs.Lock.{PlainLock, is_exclusive, is_request_of, line_of}
use Rattle.web_locks.specs.Forms.{AllWaiting, IsAlone, IsLoose, IsOpen, IsStolen, is_plain, same_request}
use Rattle.web_locks.specs.Numbers.{first_after}
use Rattle.web_locks.specs.Index.{SharedResource, is_for, line_at, locks_of, numbers_where, row_at, stole_it, without_row}
use Rattle.web_locks.specs.Kept.{HasThief, held_number, holder, without_held}
use Rattle.web_locks.proofs.LineLemmas.{loose_kept, alone_kept}
use Rattle.web_locks.proofs.NumberLemmas.{number_same}
use Rattle.web_locks.proofs.RowLemmas.{IsFirst, first_found, removed_row, some_is, without_behind}
use Rattle.web_locks.proofs.ProcessLemmas.{first_of}
use Rattle.web_locks.proofs.ServedLemmas.{IsCons, find_line, first_none, first_some, first_some_step}
use Rattle.web_locks.proofs.StandingLemmas.{plain_filter}
use Rattle.web_locks.proofs.TableLemmas.{and_both, distinct_kept, filter_both, is_request_of-itself}

module _ {K : Type 0} where
  -- a line that some have left stays open
  pub open_kept : (test : PlainLock K → Bool) (ls : List (PlainLock K)) → IsOpen ls → IsOpen (filter test ls)
  open_kept test ls (inl loose) = inl (loose_kept test ls loose)
  open_kept test ls (inr alone) = alone_kept test ls alone

  -- a row that fails a test leaves those that pass
  pub kept_without : (test : PlainLock K → Bool) (n : ℕ) (x : PlainLock K) (rows : List (ℕ × PlainLock K))
      → IsStrictlySortedBy nat_cmp (keys_of rows) → row_at n rows ≡ Some x → test x ≡ false
      → filter (λ e. test e.1) (without_row n rows) ≡ filter (λ e. test e.1) rows
  unfolding IsStrictlySortedBy
  kept_without test n x [] sorted found off = refl
  kept_without test n x (e ∷ es) sorted found off =
      at (is_eq (nat_cmp n e.0)) refl found (λ later. kept_without test n x es sorted.1 later off)
    where
      at : (a : Bool) → is_eq (nat_cmp n e.0) ≡ a → cond a (Some e.1) (row_at n es) ≡ Some x
          → (row_at n es ≡ Some x → filter (λ d. test d.1) (without_row n es) ≡ filter (λ d. test d.1) es)
          → filter (λ d. test d.1) (cond (not a) (e ∷ without_row n es) (without_row n es)) ≡ filter (λ d. test d.1) (e ∷ es)
      at true is one later =
          let off_e : test e.1 ≡ false = ap test (some_is e.1 x one) ∙ off in
          rw off_e (ap (filter (λ d. test d.1)) (without_behind n e es is sorted.0))
      at false is one later = ap (λ r. cond (test e.1) (e ∷ r) r) (later one)

  -- one that holds a lock is not the last, which waits
  pub not_last : (n m : ℕ) (x t : PlainLock K) (front : List (ℕ × PlainLock K)) → IsStrictlySortedBy nat_cmp (keys_of (front ++ (m, t) ∷ []))
      → row_at n (front ++ (m, t) ∷ []) ≡ Some x → x.held ≡ true → t.held ≡ false
      → (row_at n front ≡ Some x) × (is_eq (nat_cmp n m) ≡ false)
  unfolding IsStrictlySortedBy
  not_last n m x t [] sorted found held waits = at (is_eq (nat_cmp n m)) found
    where
      at : (a : Bool) → cond a (Some t) None ≡ Some x → (row_at n [] ≡ Some x) × (a ≡ false)
      at true one = absurd (cc (sym waits ∙ ap (λ l. l.held) (some_is t x one) ∙ held))
      at false one = absurd (cc one)
  not_last n m x t (e ∷ es) sorted found held waits = at (is_eq (nat_cmp n e.0)) refl found (λ later. not_last n m x t es sorted.1 later held waits)
    where
      last_above : (fs : List (ℕ × PlainLock K)) → AllByRecursion (λ k. nat_cmp e.0 k ≡ Less) (keys_of (fs ++ (m, t) ∷ [])) → nat_cmp e.0 m ≡ Less
      last_above [] below = below.0
      last_above (f ∷ fs) below = last_above fs below.1

      apart : nat_cmp e.0 m ≡ Less → is_eq (nat_cmp n e.0) ≡ true → is_eq (nat_cmp n m) ≡ false
      apart less same = ap (λ k. is_eq (nat_cmp k m)) (number_same n e.0 same) ∙ ap is_eq less

      at : (a : Bool) → is_eq (nat_cmp n e.0) ≡ a → cond a (Some e.1) (row_at n (es ++ (m, t) ∷ [])) ≡ Some x
          → (row_at n (es ++ (m, t) ∷ []) ≡ Some x → (row_at n es ≡ Some x) × (is_eq (nat_cmp n m) ≡ false))
          → (cond a (Some e.1) (row_at n es) ≡ Some x) × (is_eq (nat_cmp n m) ≡ false)
      at true is one later = (one, apart (last_above es sorted.0) is)
      at false is one later = later one

  sorted_front : (front : List (ℕ × PlainLock K)) (m : ℕ) (t : PlainLock K) → IsStrictlySortedBy nat_cmp (keys_of (front ++ (m, t) ∷ []))
      → IsStrictlySortedBy nat_cmp (keys_of front)
  unfolding IsStrictlySortedBy
  sorted_front [] m t sorted = tt
  sorted_front (e ∷ es) m t sorted = (below es sorted.0, sorted_front es m t sorted.1)
    where
      below : (fs : List (ℕ × PlainLock K)) → AllByRecursion (λ k. nat_cmp e.0 k ≡ Less) (keys_of (fs ++ (m, t) ∷ []))
          → AllByRecursion (λ k. nat_cmp e.0 k ≡ Less) (keys_of fs)
      below [] all = tt
      below (f ∷ fs) all = (all.0, below fs all.1)

-- one row less
fewer_rows : {K : Type 0} (n : ℕ) (x : PlainLock K) (rows : List (ℕ × PlainLock K)) → row_at n rows ≡ Some x
    → length (without_row n rows) < length rows
fewer_rows n x [] found = absurd (cc found)
fewer_rows {K = K} n x (e ∷ es) found = at (is_eq (nat_cmp n e.0)) found (λ later. fewer_rows n x es later)
  where
    shorter : length (without_row n es) ≤ length es
    shorter =
        let both = length-filter_both (λ (d : ℕ × PlainLock K). not (is_eq (nat_cmp n d.0))) (λ d. not (not (is_eq (nat_cmp n d.0)))) (λ _. refl) es in
        omega (arith, both)

    at : (a : Bool) → cond a (Some e.1) (row_at n es) ≡ Some x → (row_at n es ≡ Some x → length (without_row n es) < length es)
        → length (cond (not a) (e ∷ without_row n es) (without_row n es)) < length (e ∷ es)
    at true one later = omega (arith, shorter)
    at false one later = let less = later one in omega (arith, less)

module _ {K : Type 0} (cmp : K → K → Ordering) (r : SharedResource K) where
  -- a request that holds the lock
  pub record IsHolder (n : ℕ) (rows : List (ℕ × PlainLock K)) : Type 0 where
    pub lock : PlainLock K
    pub row : row_at n rows ≡ Some lock
    pub here : is_for cmp r lock ≡ true
    pub held : lock.held ≡ true

  held_step : (test : PlainLock K → Bool) → ((l : PlainLock K) → test l ≡ true → is_for cmp r l ≡ true) → (n : ℕ) (o : Option ℕ) (rows : List (ℕ × PlainLock K))
      → IsStrictlySortedBy nat_cmp (keys_of rows) → first_after None (numbers_where test rows) ≡ o → held_number o rows ≡ Some n → IsHolder n rows
  held_step test within n None rows sorted first is = absurd (cc is)
  held_step test within n (Some m) rows sorted first is =
      at (unwrap_or (option_map (λ l. l.held) (row_at m rows)) false) refl is
    where
      cons : IsCons m (numbers_where test rows)
      cons = first_some_step m (numbers_where test rows) first

      found : IsFirst test m rows
      found = first_found test m cons.rest rows sorted cons.is

      at : (b : Bool) → unwrap_or (option_map (λ l. l.held) (row_at m rows)) false ≡ b → ◌≡◌ {A = Option ℕ} (cond b (Some m) None) (Some n) → IsHolder n rows
      at true held one =
          subst (λ k. IsHolder k rows) (some_is m n one)
          (record {
            lock = found.lock;
            row = found.row;
            here = within found.lock found.passes;
            held = ap (λ o. unwrap_or (option_map (λ l. l.held) o) false) (sym found.row) ∙ held;
          })
      at false held one = absurd (cc one)

  or_step : (a b : Option ℕ) (n : ℕ) → option_or a b ≡ Some n → (a ≡ Some n) ⊎ (b ≡ Some n)
  or_step None b n is = inr is
  or_step (Some m) b n is = inl is

  pub holder_found : (n : ℕ) (rows : List (ℕ × PlainLock K)) → IsStrictlySortedBy nat_cmp (keys_of rows) → holder cmp r rows ≡ Some n → IsHolder n rows
  holder_found n rows sorted is = at (or_step _ _ n is)
    where
      at : (held_number (first_after None (numbers_where (stole_it cmp r) rows)) rows ≡ Some n)
          ⊎ (held_number (first_after None (numbers_where (is_for cmp r) rows)) rows ≡ Some n) → IsHolder n rows
      at (inl one) = held_step (stole_it cmp r) (λ l is. (and_both (is_for cmp r l) l.stole is).0) n _ rows sorted refl one
      at (inr one) = held_step (is_for cmp r) (λ l is. is) n _ rows sorted refl one

  -- once it goes another may hold the lock
  thief_kept : (n : ℕ) (rows : List (ℕ × PlainLock K)) → IsStrictlySortedBy nat_cmp (keys_of rows) → IsHolder n rows
      → HasThief cmp r rows → HasThief cmp r (without_row n rows)
  thief_kept n rows sorted holds has =
      record {
        front = without_row n has.front;
        number = has.number;
        thief = has.thief;
        last =
            ap (without_row n) has.last
            ∙ filter-append (λ e. not (is_eq (nat_cmp n e.0))) has.front ((has.number, has.thief) ∷ [])
            ∙ ap (λ b. without_row n has.front ++ cond (not b) ((has.number, has.thief) ∷ []) []) place.1;
        waits = has.waits;
        distinct = subst (IsDistinct same_request) (sym gone) (distinct_kept same_request _ (locks_of has.front) has.distinct);
        line =
            subst IsOpen (sym (ap (line_of cmp (rc_value r).key (string_bytes (rc_value r).name)) gone
            ∙ filter_both (is_for cmp r) (λ y. not (is_request_of holds.lock.owner holds.lock.id y)) (locks_of has.front)))
            (open_kept (λ y. not (is_request_of holds.lock.owner holds.lock.id y)) (line_at cmp r has.front) has.line);
        plain = subst (λ ls. AllByRecursion (λ l. is_plain l ≡ true) ls) (sym gone) (plain_filter _ (locks_of has.front) has.plain);
      }
    where
      now : IsStrictlySortedBy nat_cmp (keys_of (has.front ++ (has.number, has.thief) ∷ []))
      now = subst (λ es. IsStrictlySortedBy nat_cmp (keys_of es)) has.last sorted

      place : (row_at n has.front ≡ Some holds.lock) × (is_eq (nat_cmp n has.number) ≡ false)
      place =
          not_last n has.number holds.lock has.thief has.front now (subst (λ es. row_at n es ≡ Some holds.lock) has.last holds.row) holds.held has.waits

      gone : locks_of (without_row n has.front) ≡ filter (λ y. not (is_request_of holds.lock.owner holds.lock.id y)) (locks_of has.front)
      gone =
          removed_row holds.lock.owner holds.lock.id n holds.lock has.front (sorted_front has.front has.number has.thief now) has.distinct place.0
          (is_request_of-itself holds.lock)

  held_without : (n : ℕ) (rows : List (ℕ × PlainLock K)) → IsStrictlySortedBy nat_cmp (keys_of rows) → (holds : IsHolder n rows)
      → without_held cmp r (without_row n rows) ≡ without_held cmp r rows
  held_without n rows sorted holds =
      kept_without (λ l. not (is_for cmp r l && l.held)) n holds.lock rows sorted holds.row (rw holds.here (rw holds.held refl))

  -- ---- where none holds the lock

  or_none : (a b : Option ℕ) → option_or a b ≡ None → (a ≡ None) × (b ≡ None)
  or_none None b is = (refl, is)
  or_none (Some m) b is = absurd (cc is)

  -- whether a request that is found holds its lock
  abbrev is_held : Option (PlainLock K) → Bool
  is_held o = unwrap_or (option_map (λ l. l.held) o) false

  none_step : (test : PlainLock K → Bool) (o : Option ℕ) (rows : List (ℕ × PlainLock K)) → IsStrictlySortedBy nat_cmp (keys_of rows)
      → first_after None (numbers_where test rows) ≡ o → held_number o rows ≡ None → is_held (find test (locks_of rows)) ≡ false
  none_step test None rows sorted first is = ap is_held (first_none test rows first)
  none_step test (Some m) rows sorted first is = at (is_held (row_at m rows)) refl is
    where
      at : (b : Bool) → is_held (row_at m rows) ≡ b → ◌≡◌ {A = Option ℕ} (cond b (Some m) None) None → is_held (find test (locks_of rows)) ≡ false
      at true held one = absurd (cc one)
      at false held one = ap is_held (sym (first_some test m rows sorted first)) ∙ held

  find_both : (p q : PlainLock K → Bool) (ls : List (PlainLock K)) → find (λ l. p l && q l) ls ≡ find q (filter p ls)
  find_both p q [] = refl
  find_both p q (l ∷ ls) = at (p l) (find_both p q ls)
    where
      at : (a : Bool) → find (λ y. p y && q y) ls ≡ find q (filter p ls)
          → cond (a && q l) (Some l) (find (λ y. p y && q y) ls) ≡ find q (cond a (l ∷ filter p ls) (filter p ls))
      at true later = ap (λ f. cond (q l) (Some l) f) later
      at false later = later

  waits_not : (l : PlainLock K) → l.held ≡ false → is_plain l ≡ true → l.stole ≡ false
  waits_not l waits plain = at l.stole (subst (λ h. (not l.stole || h && is_exclusive l.mode) ≡ true) waits plain)
    where
      at : (s : Bool) → (not s || false && is_exclusive l.mode) ≡ true → s ≡ false
      at true is = absurd (cc is)
      at false is = refl

  -- of a line of which one was stolen the first that has stolen it holds it
  stolen_held : (ls rest : List (PlainLock K)) → IsStolen ls → AllByRecursion (λ l. is_plain l ≡ true) ls
      → is_held (find (λ l. l.stole) (ls ++ rest)) ≡ true
  stolen_held [] rest stolen plain = absurd stolen
  stolen_held (l ∷ ls) rest (inl s) plain = rw s.2 s.0
  stolen_held (l ∷ ls) rest (inr s) plain = rw (waits_not l s.0 plain.0) (stolen_held ls rest s.1 plain.1)

  waiting_more : (ls rest : List (PlainLock K)) → AllWaiting ls → AllWaiting rest → AllWaiting (ls ++ rest)
  waiting_more [] rest w more = more
  waiting_more (l ∷ ls) rest w more = (w.0, waiting_more ls rest w.1 more)

  loose_waits : (ls rest : List (PlainLock K)) → IsLoose ls → AllWaiting rest → is_held (first_of (ls ++ rest)) ≡ false → AllWaiting (ls ++ rest)
  loose_waits [] rest loose more first = more
  loose_waits (l ∷ ls) rest (inl loose) more first = absurd (cc (sym loose.0 ∙ first))
  loose_waits (l ∷ ls) rest (inr loose) more first = (loose.0, waiting_more ls rest loose.1 more)

  alone_waits : (ls rest : List (PlainLock K)) → IsAlone ls → AllByRecursion (λ l. is_plain l ≡ true) ls → is_held (first_of (ls ++ rest)) ≡ false
      → is_held (find (λ l. l.stole) (ls ++ rest)) ≡ false → AllWaiting (ls ++ rest)
  alone_waits [] rest alone plain first stole = absurd alone
  alone_waits (l ∷ ls) rest (inl alone) plain first stole = absurd (cc (sym alone.0 ∙ first))
  alone_waits (l ∷ ls) rest (inr alone) plain first stole =
      absurd (cc (sym (stolen_held (l ∷ ls) rest (inr alone) plain) ∙ stole))

  line_waits : (ls rest : List (PlainLock K)) → IsOpen ls → AllByRecursion (λ l. is_plain l ≡ true) ls → AllWaiting rest
      → is_held (first_of (ls ++ rest)) ≡ false → is_held (find (λ l. l.stole) (ls ++ rest)) ≡ false → AllWaiting (ls ++ rest)
  line_waits ls rest (inl loose) plain more first stole = loose_waits ls rest loose more first
  line_waits ls rest (inr alone) plain more first stole = alone_waits ls rest alone plain first stole

  without_all : (es : List (ℕ × PlainLock K)) → AllWaiting (filter (is_for cmp r) (locks_of es)) → without_held cmp r es ≡ es
  without_all [] waits = refl
  without_all (e ∷ es) waits = at (is_for cmp r e.1) e.1.held refl waits (without_all es)
    where
      at : (a h : Bool) → e.1.held ≡ h → AllWaiting (cond a (e.1 ∷ filter (is_for cmp r) (locks_of es)) (filter (is_for cmp r) (locks_of es)))
          → (AllWaiting (filter (is_for cmp r) (locks_of es)) → without_held cmp r es ≡ es)
          → cond (not (a && h)) (e ∷ without_held cmp r es) (without_held cmp r es) ≡ e ∷ es
      at true true held w later = absurd (cc (sym held ∙ w.0))
      at true false held w later = ap (λ d. e ∷ d) (later w.1)
      at false h held w later = ap (λ d. e ∷ d) (later w)

  -- where none is found that holds the lock, all have gone
  pub holder_none : (rows : List (ℕ × PlainLock K)) → IsStrictlySortedBy nat_cmp (keys_of rows) → HasThief cmp r rows → holder cmp r rows ≡ None
      → without_held cmp r rows ≡ rows
  holder_none rows sorted has none =
      without_all rows (subst AllWaiting (sym line)
      (line_waits (line_at cmp r has.front) (last (is_for cmp r has.thief)) has.line (plain_filter (is_for cmp r) (locks_of has.front) has.plain)
      (last_waits (is_for cmp r has.thief))
      (ap is_held (sym (find_line (is_for cmp r) (locks_of rows) ∙ ap first_of line)) ∙ none_step (is_for cmp r) _ rows sorted refl parts.1)
      (ap is_held (sym (find_both (is_for cmp r) (λ l. l.stole) (locks_of rows) ∙ ap (find (λ l. l.stole)) line))
      ∙ none_step (stole_it cmp r) _ rows sorted refl parts.0)))
    where
      parts : (held_number (first_after None (numbers_where (stole_it cmp r) rows)) rows ≡ None) × (held_number (first_after None (numbers_where (is_for cmp r) rows)) rows ≡ None)
      parts = or_none _ _ none

      last : Bool → List (PlainLock K)
      last b = cond b (has.thief ∷ []) []

      last_waits : (b : Bool) → AllWaiting (last b)
      last_waits true = (has.waits, tt)
      last_waits false = tt

      line : filter (is_for cmp r) (locks_of rows) ≡ line_at cmp r has.front ++ last (is_for cmp r has.thief)
      line =
          ap (λ es. filter (is_for cmp r) (locks_of es)) has.last
          ∙ ap (filter (is_for cmp r)) (map-append (λ e. e.1) has.front ((has.number, has.thief) ∷ []))
          ∙ filter-append (is_for cmp r) (locks_of has.front) (has.thief ∷ [])

  -- one that holds the lock goes
  pub record IsGone (rows new : List (ℕ × PlainLock K)) : Type 0 where
    pub thief : HasThief cmp r new
    pub same : without_held cmp r new ≡ without_held cmp r rows
    pub fewer : length new < length rows

  pub holder_gone : (n : ℕ) (rows new : List (ℕ × PlainLock K)) → IsStrictlySortedBy nat_cmp (keys_of rows) → (holds : IsHolder n rows) → HasThief cmp r rows
      → new ≡ without_row n rows → IsGone rows new
  holder_gone n rows new sorted holds has is = record {
    thief = rw is (thief_kept n rows sorted holds has);
    same = ap (without_held cmp r) is ∙ held_without n rows sorted holds;
    fewer = rw is (fewer_rows n holds.lock rows holds.row);
  }
