-- Filters, tests and look-ups of a list that is put together of parts.
use Rattle.std.proofs.Common.{◌≡◌, ◌+◌, ◌<◌, ◌≤◌, ℕ, zero, suc, Bool, true, false, cond, not, List, [], ◌∷◌, ◌++◌, length, take, drop, get_or, set, map, refl, ap, sym, ◌∙◌, arith, Some, None, Option, inl, inr}
use Rattle.std.specs.Prelude.{◌||◌, ◌==◌, ◌≢◌, ◌⊎◌, filter, find, is_some, option_map, slice_get}
use Rattle.std.specs.List.{All, AllWithin, insert, list_all, list_any, position_or_len}
use Rattle.std.specs.Option.{option_or}
use Rattle.std.proofs.lemmas.Bool.{and_from, and_parts, eq-eqb}
use Rattle.std.proofs.lemmas.Bool.Decides.{eqb_tells}
use Rattle.std.proofs.lemmas.List.{get_or-take, get_or-drop, length-take-le, length-drop, take-append-drop}
use Rattle.std.proofs.lemmas.List.Folds.{find-append, find-set, list_all-append}
use Rattle.std.proofs.lemmas.List.Recursion.{found_set_other}

pub not_true : (b : Bool) → not b ≡ true → b ≡ false
not_true true is = absurd (cc is)
not_true false is = refl

-- what is weaker and fails makes the other fail
pub fails_too : (a b : Bool) → (a ≡ true → b ≡ true) → b ≡ false → a ≡ false
fails_too true b weaker isnt = let no : false ≡ true = sym isnt ∙ weaker refl in absurd (cc no)
fails_too false b weaker isnt = refl

pub not_false : (b : Bool) → not b ≡ false → b ≡ true
not_false true is = refl
not_false false is = absurd (cc is)

module _ {X : Type 0} where
  pub all_weaker : (p q : X → Bool) → ((x : X) → p x ≡ true → q x ≡ true) → (xs : List X)
      → list_all p xs ≡ true → list_all q xs ≡ true
  all_weaker p q weaker [] all = refl
  all_weaker p q weaker (x ∷ xs) all =
      let parts = and_parts (p x) (list_all p xs) all in
      and_from (q x) (list_all q xs) (weaker x parts.0) (all_weaker p q weaker xs parts.1)

  pub all_true : (xs : List X) → list_all (λ x. true) xs ≡ true
  all_true [] = refl
  all_true (x ∷ xs) = all_true xs

  pub filter_all : (p : X → Bool) (xs : List X) → list_all p xs ≡ true → filter p xs ≡ xs
  filter_all p [] all = refl
  filter_all p (x ∷ xs) all =
      let parts = and_parts (p x) (list_all p xs) all in
      ap (λ b. cond b (x ∷ filter p xs) (filter p xs)) parts.0 ∙ ap (λ l. x ∷ l) (filter_all p xs parts.1)

  pub filter_none : (p : X → Bool) (xs : List X) → list_all (λ x. not (p x)) xs ≡ true → filter p xs ≡ []
  filter_none p [] all = refl
  filter_none p (x ∷ xs) all =
      let parts = and_parts (not (p x)) (list_all (λ x. not (p x)) xs) all in
      ap (λ b. cond b (x ∷ filter p xs) (filter p xs)) (not_true (p x) parts.0) ∙ filter_none p xs parts.1

  pub find_none : (p : X → Bool) (xs ys : List X) → list_all (λ x. not (p x)) xs ≡ true → find p (xs ++ ys) ≡ find p ys
  find_none p [] ys all = refl
  find_none p (x ∷ xs) ys all =
      let parts = and_parts (not (p x)) (list_all (λ x. not (p x)) xs) all in
      ap (λ b. cond b (Some x) (find p (xs ++ ys))) (not_true (p x) parts.0) ∙ find_none p xs ys parts.1

  pub find_first : (p : X → Bool) (xs : List X) → list_all p xs ≡ true → find p xs ≡ slice_get xs 0
  find_first p [] all = refl
  find_first p (x ∷ xs) all = ap (λ b. cond b (Some x) (find p xs)) (and_parts (p x) (list_all p xs) all).0

  kept_by : (p q : X → Bool) (x : X) (xs : List X) (b : Bool) → q x ≡ true → list_all q (filter p xs) ≡ true
      → list_all q (cond b (x ∷ filter p xs) (filter p xs)) ≡ true
  kept_by p q x xs true one rest = and_from (q x) (list_all q (filter p xs)) one rest
  kept_by p q x xs false one rest = rest

  -- what all have, those have that a filter keeps
  pub all_kept : (p q : X → Bool) (xs : List X) → list_all q xs ≡ true → list_all q (filter p xs) ≡ true
  all_kept p q [] all = refl
  all_kept p q (x ∷ xs) all =
      let parts = and_parts (q x) (list_all q xs) all in
      kept_by p q x xs (p x) parts.0 (all_kept p q xs parts.1)

  -- what all have, one of them has
  pub all_got : (p : X → Bool) (xs : List X) (i : ℕ) (x : X) → list_all p xs ≡ true → slice_get xs i ≡ Some x → p x ≡ true
  all_got p [] i x all is = absurd (cc is)
  all_got p (y ∷ ys) zero x all is =
      let same : y ≡ x = cc in ap p (sym same) ∙ (and_parts (p y) (list_all p ys) all).0
  all_got p (y ∷ ys) (suc i) x all is = all_got p ys i x (and_parts (p y) (list_all p ys) all).1 is

  -- what all have and one more has, all have with it
  pub all_inserted : (p : X → Bool) (xs : List X) (i : ℕ) (x : X) → list_all p xs ≡ true → p x ≡ true → list_all p (insert xs i x) ≡ true
  all_inserted p xs i x all one =
      let parts = and_parts (list_all p (take i xs)) (list_all p (drop i xs))
      (sym (list_all-append p (take i xs) (drop i xs)) ∙ ap (list_all p) (take-append-drop i xs) ∙ all) in
      list_all-append p (take i xs) (x ∷ drop i xs)
      ∙ and_from (list_all p (take i xs)) (list_all p (x ∷ drop i xs)) parts.0 (and_from (p x) (list_all p (drop i xs)) one parts.1)

  passes_by : (p : X → Bool) (x : X) (xs : List X) (b : Bool) → p x ≡ b → list_all p (filter p xs) ≡ true
      → list_all p (cond b (x ∷ filter p xs) (filter p xs)) ≡ true
  passes_by p x xs true is rest = and_from (p x) (list_all p (filter p xs)) is rest
  passes_by p x xs false is rest = rest

  pub all_pass : (p : X → Bool) (xs : List X) → list_all p (filter p xs) ≡ true
  all_pass p [] = refl
  all_pass p (x ∷ xs) = passes_by p x xs (p x) refl (all_pass p xs)

  -- an element that fails is not found
  pub find_past : (p : X → Bool) (xs : List X) (y : X) (ys : List X) → p y ≡ false → find p (xs ++ y ∷ ys) ≡ find p (xs ++ ys)
  find_past p xs y ys fails =
      find-append p xs (y ∷ ys) ∙ ap (λ b. option_or (find p xs) (cond b (Some y) (find p ys))) fails ∙ sym (find-append p xs ys)

  -- a list at one of its elements
  pub split_at : (xs : List X) (i : ℕ) (x : X) → slice_get xs i ≡ Some x → xs ≡ take i xs ++ x ∷ drop (suc i) xs
  split_at [] i x is = absurd (cc is)
  split_at (y ∷ ys) zero x is = cc
  split_at (y ∷ ys) (suc i) x is = ap (λ l. y ∷ l) (split_at ys i x is)

  pub slice_get-drop : (xs : List X) (i : ℕ) → slice_get (drop i xs) 0 ≡ slice_get xs i
  slice_get-drop [] zero = refl
  slice_get-drop [] (suc i) = refl
  slice_get-drop (x ∷ xs) zero = refl
  slice_get-drop (x ∷ xs) (suc i) = slice_get-drop xs i

  pub All-front : (P : X → Type 0) (xs : List X) (i : ℕ) → i ≤ length xs → AllWithin P xs 0 i → All P (take i xs)
  All-front P xs i within all = λ k d low.
      let n = length-take-le i xs within in
      rw (get_or-take i xs k d (omega arith)) (all k d (omega arith) (omega arith))

  pub All-back : (P : X → Type 0) (xs : List X) (i : ℕ) → AllWithin P xs i (length xs) → All P (drop i xs)
  All-back P xs i all = λ k d low.
      let n = length-drop i xs in
      rw (get_or-drop i xs k d) (all (i + k) d (omega arith) (omega arith))

pub is_some-map : {X Y : Type 0} (f : X → Y) (o : Option X) → is_some (option_map f o) ≡ is_some o
is_some-map f None = refl
is_some-map f (Some x) = refl

-- what is found is among them
pub is_some-find : {X : Type 0} (p : X → Bool) (xs : List X) → is_some (find p xs) ≡ list_any p xs
is_some-find p [] = refl
is_some-find p (x ∷ xs) = some_by (p x) (is_some-find p xs)
  where
    some_by : (b : Bool) → is_some (find p xs) ≡ list_any p xs → is_some (cond b (Some x) (find p xs)) ≡ (b || list_any p xs)
    some_by true rest = refl
    some_by false rest = rest

-- elements by a number that each has
module _ {X : Type 0} (key : X → ℕ) where
  abbrev Tells : ℕ → X → Type 0
  Tells n x = (((key x == n) ≡ true) × (key x ≡ n)) ⊎ (((key x == n) ≡ false) × (key x ≢ n))

  kept_step : (p : ℕ → Bool) (n : ℕ) (x : X) (xs : List X) (b : Bool) → p (key x) ≡ b → Tells n x
      → find (λ y. key y == n) (filter (λ y. p (key y)) xs) ≡ cond (p n) (find (λ y. key y == n) xs) None
      → find (λ y. key y == n) (cond b (x ∷ filter (λ y. p (key y)) xs) (filter (λ y. p (key y)) xs))
      ≡ cond (p n) (cond (key x == n) (Some x) (find (λ y. key y == n) xs)) None
  kept_step p n x xs true passes (inl is) rest =
      ap (λ t. cond t (Some x) (find (λ y. key y == n) (filter (λ y. p (key y)) xs))) is.0
      ∙ sym (ap (λ t. cond t (cond (key x == n) (Some x) (find (λ y. key y == n) xs)) None) (ap p (sym is.1) ∙ passes)
      ∙ ap (λ t. cond t (Some x) (find (λ y. key y == n) xs)) is.0)
  kept_step p n x xs false passes (inl is) rest =
      rest
      ∙ ap (λ t. cond t (find (λ y. key y == n) xs) None) (ap p (sym is.1) ∙ passes)
      ∙ sym (ap (λ t. cond t (cond (key x == n) (Some x) (find (λ y. key y == n) xs)) None) (ap p (sym is.1) ∙ passes))
  kept_step p n x xs true passes (inr isnt) rest =
      ap (λ t. cond t (Some x) (find (λ y. key y == n) (filter (λ y. p (key y)) xs))) isnt.0
      ∙ rest
      ∙ sym (ap (λ t. cond (p n) (cond t (Some x) (find (λ y. key y == n) xs)) None) isnt.0)
  kept_step p n x xs false passes (inr isnt) rest =
      rest ∙ sym (ap (λ t. cond (p n) (cond t (Some x) (find (λ y. key y == n) xs)) None) isnt.0)

  same_None : (b : Bool) → None ≡ cond {A = Option X} b None None
  same_None true = refl
  same_None false = refl

  -- a filter by numbers, and then a look-up by number
  pub find-kept : (p : ℕ → Bool) (n : ℕ) (xs : List X)
      → find (λ y. key y == n) (filter (λ y. p (key y)) xs) ≡ cond (p n) (find (λ y. key y == n) xs) None
  find-kept p n [] = same_None (p n)
  find-kept p n (x ∷ xs) = kept_step p n x xs (p (key x)) refl (eqb_tells (key x) n) (find-kept p n xs)

pub none_from : {X : Type 0} (o : Option X) → is_some o ≡ false → o ≡ None
none_from None is = refl
none_from (Some x) is = absurd (cc is)

-- ---- a write at the first element of a number

module _ {X : Type 0} where
  -- the first that passes stands behind those that fail
  pub first-at : (p : X → Bool) (xs : List X) (i : ℕ) (x : X) → list_all (λ y. not (p y)) (take i xs) ≡ true → slice_get xs i ≡ Some x
      → p x ≡ true → i ≡ position_or_len p xs
  first-at p [] i x all is passes = absurd (cc is)
  first-at p (y ∷ ys) zero x all is passes =
      let same : y ≡ x = cc in
      sym (ap (λ b. cond (not b) (1 + position_or_len p ys) 0) (ap p same ∙ passes))
  first-at p (y ∷ ys) (suc i) x all is passes =
      let parts = and_parts (not (p y)) (list_all (λ y. not (p y)) (take i ys)) all in
      let rest = first-at p ys i x parts.1 is passes in
      (omega arith) ∙ ap (λ b. cond b (1 + position_or_len p ys) 0) (sym parts.0)

  pub map-agree : {Y : Type 0} (f g : X → Y) (xs : List X) → ((x : X) → f x ≡ g x) → map f xs ≡ map g xs
  map-agree f g [] agree = refl
  map-agree f g (x ∷ xs) agree = ap (λ y. y ∷ map f xs) (agree x) ∙ ap (λ l. g x ∷ l) (map-agree f g xs agree)

  -- a map that leaves each element
  pub map-none : (p : X → Bool) (f : X → X) (xs : List X) → list_all p xs ≡ true → ((x : X) → p x ≡ true → f x ≡ x) → map f xs ≡ xs
  map-none p f [] all leaves = refl
  map-none p f (x ∷ xs) all leaves =
      let parts = and_parts (p x) (list_all p xs) all in
      ap (λ y. y ∷ map f xs) (leaves x parts.0) ∙ ap (λ l. x ∷ l) (map-none p f xs parts.1 leaves)

  pub find-map : {Y : Type 0} (f : X → Y) (p : Y → Bool) (xs : List X) → find p (map f xs) ≡ option_map f (find (λ x. p (f x)) xs)
  find-map f p [] = refl
  find-map f p (x ∷ xs) = by (p (f x)) (find-map f p xs)
    where
      by : (b : Bool) → find p (map f xs) ≡ option_map f (find (λ x. p (f x)) xs)
          → cond b (Some (f x)) (find p (map f xs)) ≡ option_map f (cond b (Some x) (find (λ x. p (f x)) xs))
      by true rest = refl
      by false rest = rest

module _ {X : Type 0} (key : X → ℕ) (n : ℕ) (xs : List X) (place : ℕ) (first : place ≡ position_or_len (λ x. key x == n) xs) (within : place < length xs)
    (old : X) (read : old ≡ get_or xs place old) (is : key old ≡ n) (new : X) (same : key new ≡ n) where
  written_by : (m : ℕ) → (((n == m) ≡ true) × (n ≡ m)) ⊎ (((n == m) ≡ false) × (n ≢ m))
      → find (λ x. key x == m) (set xs place new) ≡ cond (n == m) (Some new) (find (λ x. key x == m) xs)
  written_by m (inl equal) =
      ap (λ k. find (λ x. key x == k) (set xs place new)) (sym equal.1)
      ∙ find-set (λ x. key x == n) xs place new first within (eq-eqb (key new) n same)
      ∙ ap (λ b. cond b (Some new) (find (λ x. key x == m) xs)) (sym equal.0)
  written_by m (inr differ) =
      found_set_other (find (λ x. key x == m)) (λ x. key x == m) Some None refl (λ y ys. refl) xs place new old
      (ap (λ x. key x == m) (sym read) ∙ ap (λ k. k == m) is ∙ differ.0) (ap (λ k. k == m) same ∙ differ.0)
      ∙ ap (λ b. cond b (Some new) (find (λ x. key x == m) xs)) (sym differ.0)

  -- what is found afterwards
  pub find-written : (m : ℕ) → find (λ x. key x == m) (set xs place new) ≡ cond (n == m) (Some new) (find (λ x. key x == m) xs)
  find-written m = written_by m (eqb_tells n m)

-- the numbers after a write that keeps them
pub map-written : {X : Type 0} (key : X → ℕ) (xs : List X) (i : ℕ) (old new : X) → old ≡ get_or xs i old → key new ≡ key old → map key (set xs i new) ≡ map key xs
map-written key [] i old new read same = refl
map-written key (x ∷ xs) zero old new read same = ap (λ k. k ∷ map key xs) (same ∙ ap key read)
map-written key (x ∷ xs) (suc i) old new read same = ap (λ l. key x ∷ l) (map-written key xs i old new read same)
