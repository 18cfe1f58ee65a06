-- Keys of a state, each of which is listed once.
use Rattle.std.proofs.Common.{◌≡◌, ℕ, ◌+◌, Bool, true, false, cond, ◌&&◌, ◌||◌, List, [], ◌∷◌, ◌++◌, map, T, Some, refl, sym, ap, subst, ◌∙◌, arith}
use Rattle.std.specs.Prelude.{filter, fold, is_some, nat_lt, not}
use Rattle.std.specs.List.{list_any}
use Rattle.std.specs.Cmp.{IsTotalOrder}
use Rattle.std.specs.Ordering.{eq_by_cmp, is_lt, is_eq}
use Rattle.std.specs.declared.cmp.Ordering.{Ordering}
use Rattle.std.specs.declared.cmp.Ordering.TheVariants.{Less, Equal, Greater}
use Rattle.std.specs.FinMap as finite
use Rattle.std.specs.FinMap.{FinMap, IsAntisymmetric, find, is_sorted, entries_sorted, get-entries}
use Rattle.agent_model.proofs.KeptLemmas.{tied}
use Rattle.storage_key.specs.Key.{PlainKey, key_order}
use Rattle.storage_key.proofs.OrderLemmas.{key_order_total, key_order_same}
use Rattle.agent_model.specs.Changes.{by_text, in_text_order, key_text_order}
use Rattle.agent_model.specs.PartitionedCells.{PartitionedKey}
use Rattle.durable_model.specs.Saved.{Saved}
use Rattle.row_store.specs.Listing.{cell_text_order, cells_by_text, in_cell_order, stored_keys}
use Rattle.row_store.proofs.LeadLemmas.{any_times, times}

-- a test as a number
abbrev pub as_number : Bool → ℕ
as_number b = cond b 1 0

-- ---- sorted lists

swap : (a b n : ℕ) → a + (b + n) ≡ b + (a + n)
swap a b n = omega arith

-- a list in an order, with one more that goes in front of the first that it is before
module _ {K : Type 0} (is_before : K → K → Bool) (insert : List K → K → List K) (alone : (key : K) → insert [] key ≡ key ∷ [])
    (goes : (key other : K) (others : List K) → insert (other ∷ others) key
    ≡ cond (is_before key other) (key ∷ other ∷ others) (other ∷ insert others key))
    (test : K → Bool) where
  times_in : (keys : List K) (key : K) → times test (insert keys key) ≡ as_number (test key) + times test keys
  times_in [] key = ap (times test) (alone key)
  times_in (other ∷ others) key = ap (times test) (goes key other others) ∙ at (is_before key other) (times_in others key)
    where
      at : (b : Bool) → times test (insert others key) ≡ as_number (test key) + times test others
          → times test (cond b (key ∷ other ∷ others) (other ∷ insert others key))
          ≡ as_number (test key) + times test (other ∷ others)
      at true later = refl
      at false later = ap (λ (n : ℕ). as_number (test other) + n) later
          ∙ swap (as_number (test other)) (as_number (test key)) (times test others)

  times_fold : (front keys : List K) → times test (fold insert front keys) ≡ times test front + times test keys
  times_fold front [] = omega arith
  times_fold front (key ∷ keys) =
      let one = times_in front key in
      let more = times_fold (insert front key) keys in
      omega (arith, one, more)

  -- as often as before
  times_ordered : (keys : List K) → times test (fold insert [] keys) ≡ times test keys
  times_ordered keys = times_fold [] keys ∙ omega arith

pub times_by_text : (test : PlainKey → Bool) (keys : List PlainKey) → times test (by_text keys) ≡ times test keys
times_by_text test keys = times_ordered (λ key other. is_lt (key_text_order key other)) in_text_order
    (λ key. refl) (λ key other others. refl) test keys

pub times_cells_by_text : (test : PartitionedKey → Bool) (cells : List PartitionedKey)
    → times test (cells_by_text cells) ≡ times test cells
times_cells_by_text test cells = times_ordered (λ cell other. is_lt (cell_text_order cell other))
    in_cell_order (λ cell. refl) (λ cell other others. refl) test cells

-- ---- lists

pub times-append : {K : Type 0} (test : K → Bool) (xs ys : List K) → times test (xs ++ ys) ≡ times test xs + times test ys
times-append test [] ys = omega arith
times-append test (x ∷ xs) ys = let more = times-append test xs ys in omega (arith, more)

pub times-map : {J K : Type 0} (test : K → Bool) (f : J → K) (xs : List J) → times test (map f xs) ≡ times (λ x. test (f x)) xs
times-map test f [] = refl
times-map test f (x ∷ xs) = ap (λ (n : ℕ). as_number (test (f x)) + n) (times-map test f xs)

pub times-none : {K : Type 0} (xs : List K) → times (λ x. false) xs ≡ 0
times-none [] = refl
times-none (x ∷ xs) = let none = times-none xs in omega (arith, none)

-- ---- the keys of a map

pub lt_parts : (a b : Bool) → T (a && b) → (a ≡ true) × T b
lt_parts true b t = (refl, t)
lt_parts false b t = absurd t

less : (r : Ordering) → is_lt r ≡ true → is_eq r ≡ false
less Less is = refl
less Equal is = cc
less Greater is = cc

module _ {K : Type 0} (R : K → K → Ordering) (o : IsTotalOrder R) (same : IsAntisymmetric R) where
  -- a key below all of these is none of them
  below_none : {X : Type 0} (q : K) (es : List (K × X)) → T (finite.Entries.below_all R q es)
      → times (eq_by_cmp R q) (map (λ e. e.0) es) ≡ 0
  below_none q [] below = refl
  below_none q (e ∷ es) below =
      let parts = lt_parts (is_lt (R q e.0)) (finite.Entries.below_all R q es) below in
      let none = below_none q es parts.1 in
      ap {B = ℕ} (λ b. as_number b + times (eq_by_cmp R q) (map (λ f. f.0) es)) (less (R q e.0) parts.0)
      ∙ ap (λ (n : ℕ). 0 + n) none

  times_entries : {X : Type 0} (q : K) (es : List (K × X)) → T (is_sorted R es)
      → times (eq_by_cmp R q) (map (λ e. e.0) es) ≡ as_number (is_some (find R q es))
  times_entries q [] sorted = refl
  times_entries q (e ∷ es) sorted = at (eq_by_cmp R q e.0) refl (times_entries q es (lt_parts _ (is_sorted R es) sorted).1)
    where
      rest : List K
      rest = map (λ f. f.0) es

      below : T (finite.Entries.below_all R e.0 es)
      below = subst T (sym (lt_parts _ (is_sorted R es) sorted).0) tt

      at : (b : Bool) → eq_by_cmp R q e.0 ≡ b → times (eq_by_cmp R q) rest ≡ as_number (is_some (find R q es))
          → as_number b + times (eq_by_cmp R q) rest ≡ as_number (is_some (cond b (Some e.1) (find R q es)))
      at true tie later =
          let none : times (eq_by_cmp R q) rest ≡ 0 =
          subst (λ k. times (eq_by_cmp R k) rest ≡ 0) (sym (tied R o same q e.0 tie)) (below_none e.0 es below) in
          ap (λ (n : ℕ). 1 + n) none
      at false tie later = omega (arith, later)

  -- a key of a map stands once among its keys
  pub times_keys : {X : Type 0} (q : K) (m : FinMap R X)
      → times (eq_by_cmp R q) (finite.keys m) ≡ as_number (finite.contains_key m q)
  times_keys q m = times_entries q (finite.entries m) (entries_sorted m)
      ∙ ap (λ found. as_number (is_some found)) (sym (get-entries m q))

  -- a test that keys pass alike
  pub times-filter : (p : K → Bool) (q : K) (ks : List K)
      → times (eq_by_cmp R q) (filter p ks) ≡ cond (p q) (times (eq_by_cmp R q) ks) 0
  times-filter p q [] = at (p q)
    where
      at : (b : Bool) → ◌≡◌ {A = ℕ} 0 (cond b 0 0)
      at true = refl
      at false = refl
  times-filter p q (k ∷ ks) = at (p k) refl (eq_by_cmp R q k) refl (times-filter p q ks)
    where
      more : ℕ
      more = times (eq_by_cmp R q) ks

      none : (b : Bool) → cond b more 0 ≡ cond b (0 + more) 0
      none true = omega arith
      none false = refl

      at : (b : Bool) → p k ≡ b → (tie : Bool) → eq_by_cmp R q k ≡ tie → times (eq_by_cmp R q) (filter p ks) ≡ cond (p q) more 0
          → times (eq_by_cmp R q) (cond b (k ∷ filter p ks) (filter p ks)) ≡ cond (p q) (as_number tie + more) 0
      at true is true tie later =
          let here : p q ≡ true = ap p (tied R o same q k tie) ∙ is in
          rw (tie, here) (ap (λ (n : ℕ). 1 + n) (later ∙ ap {B = ℕ} (λ b. cond b more 0) here))
      at true is false tie later = rw tie (let z : 0 + times (eq_by_cmp R q) (filter p ks)
          ≡ times (eq_by_cmp R q) (filter p ks) = omega arith in z ∙ later ∙ none (p q))
      at false is true tie later =
          let here : p q ≡ false = ap p (tied R o same q k tie) ∙ is in
          later ∙ ap {B = ℕ} (λ b. cond b more 0) here ∙ sym (ap {B = ℕ} (λ b. cond b (1 + more) 0) here)
      at false is false tie later = later ∙ none (p q)

-- ---- the keys of a state

either : (a b : Bool) → as_number a + cond (not a) (as_number b) 0 ≡ as_number (a || b)
either true b = refl
either false true = refl
either false false = refl

-- a key stands once where it has an area or a persistent bucket, and nowhere else
pub times_stored : (d : Saved) (q : PlainKey) → times (eq_by_cmp key_order q) (stored_keys d)
    ≡ as_number (finite.contains_key d.under.areas q || finite.contains_key d.under.persistent q)
times_stored d q =
    let of_areas = finite.keys d.under.areas in
    let of_modes = finite.keys d.under.persistent in
    let test = eq_by_cmp key_order q in
    let has_no_area : PlainKey → Bool = λ key. not (finite.contains_key d.under.areas key) in
    let a = finite.contains_key d.under.areas q in
    times_by_text test (of_areas ++ filter has_no_area of_modes)
    ∙ times-append test of_areas (filter has_no_area of_modes)
    ∙ ap (λ (n : ℕ). n + times test (filter has_no_area of_modes))
    (times_keys key_order key_order_total key_order_same q d.under.areas)
    ∙ ap (λ (n : ℕ). as_number a + n)
    (times-filter key_order key_order_total key_order_same has_no_area q of_modes
    ∙ ap (λ (n : ℕ). cond (not a) n 0) (times_keys key_order key_order_total key_order_same q d.under.persistent))
    ∙ either a (finite.contains_key d.under.persistent q)

number_some : (b : Bool) → nat_lt 0 (as_number b) ≡ b
number_some true = refl
number_some false = refl

-- a list in which a key stands so often has it
pub any_number : {K : Type 0} (test : K → Bool) (ks : List K) (b : Bool) → times test ks ≡ as_number b → list_any test ks ≡ b
any_number test ks b is = any_times test ks ∙ ap (nat_lt 0) is ∙ number_some b
