-- Tests of lists that are made of other lists, and of lists whose keys rise.
use Rattle.std.proofs.Common.{◌≡◌, ◌≢◌, ◌⊎◌, ◌==◌, ◌&&◌, ◌||◌, ◌++◌, ℕ, zero, suc, ◌+◌, ◌<◌, ◌≤◌, Bool, true, false, cond, List, [], ◌∷◌, map, Option, Some, None, refl, sym, ap, ◌∙◌, arith, inl, inr}
use Rattle.std.proofs.lemmas.Bool.{and_parts, and_from}
use Rattle.std.proofs.lemmas.Bool.Decides.{Decides-eqb, eqb_tells, nat_tests}
use Rattle.std.proofs.lemmas.List.Folds.{list_any-append}
use Rattle.std.specs.Prelude.{filter, find, nat_lt}
use Rattle.std.specs.List.{cons_option, filter_map, flat_map, list_all, list_any, range_with_len}
use Rattle.live_state.specs.Tabs.{PlainTab, is_rising}
use Rattle.live_state.specs.Documents.{frame_numbers}

-- ---- tests of a list that is made of another

module _ {X Y : Type 0} where
  -- what a filter keeps, and a function makes of it
  pub any_kept : (p : Y → Bool) (f : X → Y) (q : X → Bool) (xs : List X)
      → list_any p (map f (filter q xs)) ≡ list_any (λ x. q x && p (f x)) xs
  any_kept p f q [] = refl
  any_kept p f q (x ∷ xs) = at (q x) (any_kept p f q xs)
    where
      at : (b : Bool) → list_any p (map f (filter q xs)) ≡ list_any (λ x. q x && p (f x)) xs
          → list_any p (map f (cond b (x ∷ filter q xs) (filter q xs))) ≡ ((b && p (f x)) || list_any (λ x. q x && p (f x)) xs)
      at true later = ap (λ b. p (f x) || b) later
      at false later = later

  -- the parts that the elements make
  pub any_flat : (p : Y → Bool) (f : X → List Y) (xs : List X) → list_any p (flat_map f xs) ≡ list_any (λ x. list_any p (f x)) xs
  any_flat p f [] = refl
  any_flat p f (x ∷ xs) = list_any-append p (f x) (flat_map f xs) ∙ ap (λ b. list_any p (f x) || b) (any_flat p f xs)

  -- parts of at most one
  pub few_flat : (h : X → Option Y) (xs : List X) → filter_map h xs ≡ flat_map (λ x. cons_option (h x) []) xs
  few_flat h [] = refl
  few_flat h (x ∷ xs) = at (h x) (few_flat h xs)
    where
      at : (o : Option Y) → filter_map h xs ≡ flat_map (λ x. cons_option (h x) []) xs
          → cons_option o (filter_map h xs) ≡ cons_option o [] ++ flat_map (λ x. cons_option (h x) []) xs
      at None later = later
      at (Some y) later = ap (λ ys. y ∷ ys) later

-- ---- keys that rise

past : (b d : Bool) → ((b && false) || d) ≡ d
past true d = refl
past false d = refl

last : (b d : Bool) → d ≡ false → ((b && true) || d) ≡ b
last true d none = refl
last false d none = none

module _ {X : Type 0} where
  -- what an element passes, and false where there is none
  abbrev pub passes : (X → Bool) → Option X → Bool
  passes test None = false
  passes test (Some x) = test x

  -- each key is lower than those behind it
  abbrev pub rises : (X → ℕ) → List X → Bool
  rises key [] = true
  rises key (x ∷ xs) = list_all (λ y. nat_lt (key x) (key y)) xs && rises key xs

  module _ (key : X → ℕ) (test : X → Bool) (n : ℕ) where
    abbrev some_has : List X → Bool
    some_has xs = list_any (λ x. test x && (key x == n)) xs

    -- all keys are higher
    none_has : (xs : List X) → list_all (λ x. nat_lt n (key x)) xs ≡ true → some_has xs ≡ false
    none_has [] high = refl
    none_has (x ∷ xs) high =
        let parts = and_parts (nat_lt n (key x)) (list_all (λ x. nat_lt n (key x)) xs) high in
        let apart : (key x == n) ≡ false = (let low = parts.0 in grind (arith, nat_tests)) in
        ap (λ b. (test x && b) || some_has xs) apart ∙ past (test x) (some_has xs) ∙ none_has xs parts.1

    -- a test of the one element that has a key
    pub any_one : (xs : List X) → rises key xs ≡ true → some_has xs ≡ passes test (find (λ x. key x == n) xs)
    any_one [] rising = refl
    any_one (x ∷ xs) rising =
        let parts = and_parts (list_all (λ y. nat_lt (key x) (key y)) xs) (rises key xs) rising in
        at (eqb_tells (key x) n) parts.0 (any_one xs parts.1)
      where
        at : (((key x == n) ≡ true) × (key x ≡ n)) ⊎ (((key x == n) ≡ false) × (key x ≢ n))
            → list_all (λ y. nat_lt (key x) (key y)) xs ≡ true
            → some_has xs ≡ passes test (find (λ x. key x == n) xs)
            → ((test x && (key x == n)) || some_has xs) ≡ passes test (cond (key x == n) (Some x) (find (λ x. key x == n) xs))
        at (inl is) high later =
            ap (λ b. (test x && b) || some_has xs) is.0
            ∙ last (test x) (some_has xs) (none_has xs (ap (λ m. list_all (λ y. nat_lt m (key y)) xs) (sym is.1) ∙ high))
            ∙ sym (ap (λ b. passes test (cond b (Some x) (find (λ x. key x == n) xs))) is.0)
        at (inr isnt) high later =
            ap (λ b. (test x && b) || some_has xs) isnt.0 ∙ past (test x) (some_has xs) ∙ later
            ∙ sym (ap (λ b. passes test (cond b (Some x) (find (λ x. key x == n) xs))) isnt.0)

-- the numbers of tabs
pub tabs_rise : (tabs : List PlainTab) → is_rising tabs ≡ rises (λ t. t.number) tabs
tabs_rise [] = refl
tabs_rise (tab ∷ tabs) = ap (λ b. list_all (λ t. nat_lt tab.number t.number) tabs && b) (tabs_rise tabs)

-- ---- the numbers of frames

range_above : (low first count : ℕ) → low < first → list_all (λ m. nat_lt low m) (range_with_len first count) ≡ true
range_above low first zero is = refl
range_above low first (suc count) is =
    let one : nat_lt low first ≡ true = grind (arith, nat_tests) in
    and_from (nat_lt low first) (list_all (λ m. nat_lt low m) (range_with_len (first + 1) count)) one
    (range_above low (first + 1) count (omega arith))

range_rises : (first count : ℕ) → rises (λ m. m) (range_with_len first count) ≡ true
range_rises first zero = refl
range_rises first (suc count) =
    and_from (list_all (λ m. nat_lt first m) (range_with_len (first + 1) count))
    (rises (λ m. m) (range_with_len (first + 1) count))
    (range_above first (first + 1) count (omega arith)) (range_rises (first + 1) count)

pub numbers_rise : rises (λ m. m) frame_numbers ≡ true
unfolding frame_numbers
numbers_rise = range_rises 0 256

range_has : (n first count : ℕ) → first ≤ n → n < first + count → find (λ m. m == n) (range_with_len first count) ≡ Some n
range_has n first zero low high = absurd (omega arith)
range_has n first (suc count) low high = at (eqb_tells first n) (range_has n (first + 1) count)
  where
    at : (((first == n) ≡ true) × (first ≡ n)) ⊎ (((first == n) ≡ false) × (first ≢ n))
        → (first + 1 ≤ n → n < (first + 1) + count → find (λ m. m == n) (range_with_len (first + 1) count) ≡ Some n)
        → cond (first == n) (Some first) (find (λ m. m == n) (range_with_len (first + 1) count)) ≡ Some n
    at (inl is) later = ap (λ b. cond b (Some first) (find (λ m. m == n) (range_with_len (first + 1) count))) is.0 ∙ ap Some is.1
    at (inr isnt) later =
        let differ : first ≢ n = isnt.1 in
        ap (λ b. cond b (Some first) (find (λ m. m == n) (range_with_len (first + 1) count))) isnt.0
        ∙ later (omega arith) (omega arith)

-- a number that a frame can have is among all of them
pub numbers_have : (n : ℕ) → n < 256 → find (λ m. m == n) frame_numbers ≡ Some n
unfolding frame_numbers
numbers_have n low = range_has n 0 256 (omega arith) (omega arith)

-- the number that is found is the one that is looked for
pub find_is : (test : ℕ → Bool) (n : ℕ) (xs : List ℕ) → passes test (find (λ m. m == n) xs) ≡ true → test n ≡ true
find_is test n [] is = absurd (cc is)
find_is test n (x ∷ xs) is = at (x == n) refl (find_is test n xs) is
  where
    at : (b : Bool) → (x == n) ≡ b → (passes test (find (λ m. m == n) xs) ≡ true → test n ≡ true)
        → passes test (cond b (Some x) (find (λ m. m == n) xs)) ≡ true → test n ≡ true
    at true same later is = ap test (sym ((Decides-eqb x n).0 same)) ∙ is
    at false apart later is = later is
