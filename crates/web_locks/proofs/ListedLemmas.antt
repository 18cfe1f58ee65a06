-- The requests of a document, as they are listed one behind another.
use Rattle.std.proofs.Common.{◌≡◌, ℕ, Bool, true, false, cond, List, [], ◌∷◌, map, Option, Some, None, refl, sym, ap, arith, subst, ◌∙◌}
use Rattle.std.specs.Prelude.{◌&&◌, filter}
use Rattle.std.specs.List.{AllByRecursion}
use Rattle.std.specs.List.Sorted.{IsStrictlySortedBy}
use Rattle.std.specs.Map.{keys_of}
use Rattle.std.specs.Cmp.{Equal-is, nat_cmp_total}
use Rattle.std.specs.Ordering.{is_eq, is_lt, nat_cmp}
use Rattle.std.specs.declared.cmp.Ordering.TheVariants.{Less}
use Rattle.std.proofs.lemmas.Cmp.{tied_itself}
use Rattle.agent_base.specs.declared.refusals.Label.{Label}
use Rattle.web_locks.specs.Lock.{PlainLock, is_owned}
use Rattle.web_locks.specs.Requests.{lock_row, lock_rows}
use Rattle.web_locks.specs.Numbers.{first_after, is_later}
use Rattle.web_locks.specs.Index.{locks_of, numbers_where, row_at}
use Rattle.web_locks.specs.Kept.{rows_at, rest_of}
use Rattle.web_locks.proofs.NumberLemmas.{number_itself, number_same}
use Rattle.web_locks.proofs.RowLemmas.{apart_found, some_is}

and_true : (b : Bool) → (b && true) ≡ b
and_true true = refl
and_true false = refl

and_false : (b : Bool) → (b && false) ≡ false
and_false true = refl
and_false false = refl

-- numbers behind one that is behind are behind
late_step : (after : Option ℕ) (m k : ℕ) → is_later after m ≡ true → nat_cmp m k ≡ Less → is_later after k ≡ true
late_step None m k is less = refl
late_step (Some n) m k is less = grind (arith, Equal-is)

late_all : (after : Option ℕ) (m : ℕ) (ks : List ℕ) → is_later after m ≡ true → AllByRecursion (λ k. nat_cmp m k ≡ Less) ks
    → AllByRecursion (λ k. is_later after k ≡ true) ks
late_all after m [] is below = tt
late_all after m (k ∷ ks) is below = (late_step after m k is below.0, late_all after m ks is below.1)

own_late : (m : ℕ) (ks : List ℕ) → AllByRecursion (λ k. nat_cmp m k ≡ Less) ks → AllByRecursion (λ k. is_later (Some m) k ≡ true) ks
own_late m [] below = tt
own_late m (k ∷ ks) below = (ap is_lt below.0, own_late m ks below.1)

module _ {K : Type 0} (owner : Label) where
  -- all of a document's rows are listed behind none
  pub rest_all : (rows : List (ℕ × PlainLock K)) → rest_of owner None rows ≡ lock_rows owner (locks_of rows)
  rest_all [] = refl
  rest_all (e ∷ es) = rw (and_true (is_owned owner e.1)) (at (is_owned owner e.1) (rest_all es))
    where
      at : (b : Bool) → rest_of owner None es ≡ lock_rows owner (locks_of es)
          → map (λ d. lock_row d.1) (cond b (e ∷ filter (λ d. is_owned owner d.1 && is_later None d.0) es) (filter (λ d. is_owned owner d.1 && is_later None d.0) es))
          ≡ map lock_row (cond b (e.1 ∷ filter (is_owned owner) (locks_of es)) (filter (is_owned owner) (locks_of es)))
      at true later = ap (λ r. lock_row e.1 ∷ r) later
      at false later = later

  -- a row is listed where it is the document's and behind
  listed_step : (after : Option ℕ) (e : ℕ × PlainLock K) (es : List (ℕ × PlainLock K)) (b : Bool) → (is_owned owner e.1 && is_later after e.0) ≡ b
      → rest_of owner after (e ∷ es) ≡ cond b (lock_row e.1 ∷ rest_of owner after es) (rest_of owner after es)
  listed_step after e es true is = rw is refl
  listed_step after e es false is = rw is refl

  -- rows that are all behind one are listed as all are
  rest_late : (after : Option ℕ) (es : List (ℕ × PlainLock K)) → AllByRecursion (λ k. is_later after k ≡ true) (keys_of es)
      → rest_of owner after es ≡ rest_of owner None es
  rest_late after [] late = refl
  rest_late after (e ∷ es) late = rw late.0 (at (is_owned owner e.1 && true) (rest_late after es late.1))
    where
      at : (b : Bool) → rest_of owner after es ≡ rest_of owner None es
          → map (λ d. lock_row d.1) (cond b (e ∷ filter (λ d. is_owned owner d.1 && is_later after d.0) es) (filter (λ d. is_owned owner d.1 && is_later after d.0) es))
          ≡ map (λ d. lock_row d.1) (cond b (e ∷ filter (λ d. is_owned owner d.1 && is_later None d.0) es) (filter (λ d. is_owned owner d.1 && is_later None d.0) es))
      at true later = ap (λ r. lock_row e.1 ∷ r) later
      at false later = later

  -- a row that is found is behind those before it
  found_later : (n m : ℕ) (x : PlainLock K) (es : List (ℕ × PlainLock K)) → AllByRecursion (λ k. nat_cmp m k ≡ Less) (keys_of es) → row_at n es ≡ Some x
      → is_later (Some n) m ≡ false
  found_later n m x [] below found = absurd (cc found)
  found_later n m x (e ∷ es) below found = at (is_eq (nat_cmp n e.0)) refl found (λ later. found_later n m x es below.1 later)
    where
      less_not : (k : ℕ) → nat_cmp m k ≡ Less → is_lt (nat_cmp k m) ≡ false
      less_not k less = grind (arith, Equal-is)

      at : (a : Bool) → is_eq (nat_cmp n e.0) ≡ a → cond a (Some e.1) (row_at n es) ≡ Some x → (row_at n es ≡ Some x → is_later (Some n) m ≡ false)
          → is_later (Some n) m ≡ false
      at true is one later = subst (λ k. is_lt (nat_cmp k m) ≡ false) (sym (number_same n e.0 is)) (less_not e.0 below.0)
      at false is one later = later one

  -- the first row of the rest
  pub record IsListed (after : Option ℕ) (n : ℕ) (rows : List (ℕ × PlainLock K)) : Type 0 where
    pub lock : PlainLock K
    pub row : row_at n rows ≡ Some lock
    pub rest : rest_of owner after rows ≡ lock_row lock ∷ rest_of owner (Some n) rows

  pub listed_next : (after : Option ℕ) (n : ℕ) (rows : List (ℕ × PlainLock K)) → IsStrictlySortedBy nat_cmp (keys_of rows)
      → first_after after (numbers_where (is_owned owner) rows) ≡ Some n → IsListed after n rows
  unfolding IsStrictlySortedBy
  listed_next after n [] sorted next = absurd (cc next)
  listed_next after n (e ∷ es) sorted next =
      at (is_owned owner e.1) refl (is_later after e.0) refl next (λ one. listed_next after n es sorted.1 one)
    where
      -- one that is not listed is passed
      passed : (is_owned owner e.1 && is_later after e.0) ≡ false → IsListed after n es → IsListed after n (e ∷ es)
      passed off listed = record {
        lock = listed.lock;
        row = rw (apart_found n e.0 listed.lock es sorted.0 listed.row) listed.row;
        rest =
            listed_step after e es false off
            ∙ listed.rest
            ∙ ap (λ r. lock_row listed.lock ∷ r)
            (sym (listed_step (Some n) e es false (ap (λ b. is_owned owner e.1 && b) (found_later n e.0 listed.lock es sorted.0 listed.row) ∙ and_false (is_owned owner e.1))));
      }

      first : is_owned owner e.1 ≡ true → is_later after e.0 ≡ true → IsListed after e.0 (e ∷ es)
      first owned later = record {
        lock = e.1;
        row = rw (number_itself e.0) refl;
        rest =
            listed_step after e es true (rw owned later)
            ∙ ap (λ r. lock_row e.1 ∷ r)
            (rest_late after es (late_all after e.0 (keys_of es) later sorted.0)
            ∙ sym (rest_late (Some e.0) es (own_late e.0 (keys_of es) sorted.0))
            ∙ sym (listed_step (Some e.0) e es false (ap (λ o. is_owned owner e.1 && is_lt o) (tied_itself nat_cmp_total e.0) ∙ and_false (is_owned owner e.1))));
      }

      at : (a : Bool) → is_owned owner e.1 ≡ a → (b : Bool) → is_later after e.0 ≡ b
          → first_after after (map (λ d. d.0) (cond a (e ∷ filter (λ d. is_owned owner d.1) es) (filter (λ d. is_owned owner d.1) es))) ≡ Some n
          → (first_after after (numbers_where (is_owned owner) es) ≡ Some n → IsListed after n es) → IsListed after n (e ∷ es)
      at true owned true late one more =
          subst (λ k. IsListed after k (e ∷ es)) (some_is e.0 n (ap (λ b. cond b (Some e.0) (first_after after (numbers_where (is_owned owner) es))) (sym late) ∙ one))
          (first owned late)
      at true owned false late one more =
          passed (rw owned late) (more (ap (λ b. cond b (Some e.0) (first_after after (numbers_where (is_owned owner) es))) (sym late) ∙ one))
      at false owned b late one more = passed (rw owned refl) (more one)

  -- where no number is left no row is
  pub listed_none : (after : Option ℕ) (rows : List (ℕ × PlainLock K)) → first_after after (numbers_where (is_owned owner) rows) ≡ None
      → rest_of owner after rows ≡ []
  listed_none after [] none = refl
  listed_none after (e ∷ es) none = at (is_owned owner e.1) refl (is_later after e.0) refl none (λ one. listed_none after es one)
    where
      at : (a : Bool) → is_owned owner e.1 ≡ a → (b : Bool) → is_later after e.0 ≡ b
          → first_after after (map (λ d. d.0) (cond a (e ∷ filter (λ d. is_owned owner d.1) es) (filter (λ d. is_owned owner d.1) es))) ≡ None
          → (first_after after (numbers_where (is_owned owner) es) ≡ None → rest_of owner after es ≡ []) → rest_of owner after (e ∷ es) ≡ []
      at true owned true late one more =
          absurd (cc (ap (λ b. cond b (Some e.0) (first_after after (numbers_where (is_owned owner) es))) (sym late) ∙ one))
      at true owned false late one more =
          listed_step after e es false (rw owned late)
          ∙ more (ap (λ b. cond b (Some e.0) (first_after after (numbers_where (is_owned owner) es))) (sym late) ∙ one)
      at false owned b late one more = listed_step after e es false (rw owned refl) ∙ more one

-- the row of a number
pub rows_found : {K : Type 0} (n : ℕ) (lock : PlainLock K) (rows : List (ℕ × PlainLock K)) → row_at n rows ≡ Some lock → rows_at n rows ≡ lock_row lock ∷ []
rows_found n lock rows found = rw found refl
