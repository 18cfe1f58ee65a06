-- Rising numbers, and the place of one among them.
use Rattle.std.proofs.Common.{◌≡◌, ◌<◌, ◌≤◌, ℕ, zero, suc, Bool, true, false, cond, not, List, [], ◌∷◌, ◌++◌, length, take, drop, get_or, map, Some, refl, ap, sym, ◌∙◌, arith}
use Rattle.std.specs.Prelude.{◌==◌, ◌||◌, filter, nat_lt, slice_get}
use Rattle.std.specs.List.{AllWithin, insert, list_all, list_any}
use Rattle.std.specs.List.Sorted.{IsNonDecreasingBy}
use Rattle.std.specs.Ordering.{nat_cmp, ordering_index}
use Rattle.std.specs.declared.cmp.Ordering.TheVariants.{Less, Equal, Greater}
use Rattle.std.proofs.lemmas.Bool.{and_from, and_parts, eq-eqb}
use Rattle.std.proofs.lemmas.Bool.Decides.{nat_tests}
use Rattle.std.proofs.lemmas.List.{append-nil, get_or-map, length-map, take-append-drop}
use Rattle.std.proofs.lemmas.List.Elements.{All-weaker, filter-append}
use Rattle.std.proofs.lemmas.List.Folds.{list_all-map}
use Rattle.std.proofs.lemmas.List.Sums.{AllPass-from_list_all, list_all-from_AllPass}
use Rattle.live_state.specs.SiteTabs.{are_rising, with_number, without_number}
use Rattle.live_state.proofs.ListLemmas.{All-back, All-front, all_got, all_inserted, all_kept, all_weaker, filter_all, filter_none}

not_higher : (m n : ℕ) → nat_lt m n ≡ true → not (nat_lt n m) ≡ true
not_higher m n is = grind (arith, nat_tests)

differs_below : (m n : ℕ) → nat_lt m n ≡ true → not (m == n) ≡ true
differs_below m n is = grind (arith, nat_tests)

differs_above : (m n : ℕ) → nat_lt n m ≡ true → not (m == n) ≡ true
differs_above m n is = grind (arith, nat_tests)

rises : (ns : List ℕ) (i j d : ℕ) → are_rising ns ≡ true → i ≤ j → j < length ns → get_or ns i d ≤ get_or ns j d
rises [] i j d rising low within = absurd (omega arith)
rises (n ∷ ns) zero zero d rising low within = omega arith
rises (n ∷ ns) zero (suc j) d rising low within =
    let parts = and_parts (list_all (λ m. nat_lt n m) ns) (are_rising ns) rising in
    let above : nat_lt n (get_or ns j d) ≡ true = AllPass-from_list_all (λ m. nat_lt n m) ns parts.0 j d (omega arith) in
    grind (arith, nat_tests)
rises (n ∷ ns) (suc i) zero d rising low within = absurd (omega arith)
rises (n ∷ ns) (suc i) (suc j) d rising low within =
    let parts = and_parts (list_all (λ m. nat_lt n m) ns) (are_rising ns) rising in
    rises ns i j d parts.1 (omega arith) (omega arith)

index_rises : (l m n : ℕ) → l ≤ m → ordering_index (nat_cmp l n) ≤ ordering_index (nat_cmp m n)
index_rises l m n low = grind (arith, nat_tests)

pub rising-searchable : (ns : List ℕ) (n : ℕ) → are_rising ns ≡ true → IsNonDecreasingBy (λ m. ordering_index (nat_cmp m n)) ns
rising-searchable ns n rising = λ i j d low within. index_rises (get_or ns i d) (get_or ns j d) n (rises ns i j d rising low within)

is_less : (m n : ℕ) → nat_cmp m n ≡ Less → nat_lt m n ≡ true
is_less m n is = grind (arith, nat_tests)

is_greater : (m n : ℕ) → nat_cmp m n ≡ Greater → nat_lt n m ≡ true
is_greater m n is = grind (arith, nat_tests)

-- ---- lower numbers before higher ones

module _ (n : ℕ) (front rest : List ℕ) (low : list_all (λ m. nat_lt m n) front ≡ true) (high : list_all (λ m. nat_lt n m) rest ≡ true) where
  lower_part : filter (λ m. nat_lt m n) (front ++ rest) ≡ front
  lower_part =
      filter-append (λ m. nat_lt m n) front rest
      ∙ ap (λ l. l ++ filter (λ m. nat_lt m n) rest) (filter_all (λ m. nat_lt m n) front low)
      ∙ ap (λ l. front ++ l) (filter_none (λ m. nat_lt m n) rest (all_weaker (λ m. nat_lt n m) (λ m. not (nat_lt m n)) (λ m is. not_higher n m is) rest high))
      ∙ append-nil front

  higher_part : filter (λ m. nat_lt n m) (front ++ rest) ≡ rest
  higher_part =
      filter-append (λ m. nat_lt n m) front rest
      ∙ ap (λ l. l ++ filter (λ m. nat_lt n m) rest) (filter_none (λ m. nat_lt n m) front (all_weaker (λ m. nat_lt m n) (λ m. not (nat_lt n m)) (λ m is. not_higher m n is) front low))
      ∙ filter_all (λ m. nat_lt n m) rest high

  -- the number goes between them
  pub with-between : with_number n (front ++ rest) ≡ front ++ n ∷ rest
  with-between = ap (λ l. l ++ n ∷ filter (λ m. nat_lt n m) (front ++ rest)) lower_part ∙ ap (λ l. front ++ n ∷ l) higher_part

  -- without the number that stands between them
  pub without-between : without_number n (front ++ n ∷ rest) ≡ front ++ rest
  without-between =
      filter-append (λ m. not (m == n)) front (n ∷ rest)
      ∙ ap (λ l. l ++ filter (λ m. not (m == n)) (n ∷ rest)) (filter_all (λ m. not (m == n)) front (all_weaker (λ m. nat_lt m n) (λ m. not (m == n)) (λ m is. differs_below m n is) front low))
      ∙ ap (λ b. front ++ cond (not b) (n ∷ filter (λ m. not (m == n)) rest) (filter (λ m. not (m == n)) rest)) (eq-eqb n n refl)
      ∙ ap (λ l. front ++ l) (filter_all (λ m. not (m == n)) rest (all_weaker (λ m. nat_lt n m) (λ m. not (m == n)) (λ m is. differs_above m n is) rest high))

-- elements by a number that each has
module _ {X : Type 0} (key : X → ℕ) where
  -- elements whose numbers rise can be searched
  pub searchable-by : (xs : List X) (n : ℕ) → are_rising (map key xs) ≡ true → IsNonDecreasingBy (λ x. ordering_index (nat_cmp (key x) n)) xs
  searchable-by xs n rising = λ i j d low within.
      let one : get_or (map key xs) i (key d) ≡ key (get_or xs i d) = get_or-map key xs i d (key d) (omega arith) in
      let other : get_or (map key xs) j (key d) ≡ key (get_or xs j d) = get_or-map key xs j d (key d) within in
      let long : length (map key xs) ≡ length xs = length-map xs key in
      let rise : get_or (map key xs) i (key d) ≤ get_or (map key xs) j (key d) = rises (map key xs) i j (key d) rising low (omega arith) in
      let numbers : key (get_or xs i d) ≤ key (get_or xs j d) = rw (one, other) at rise in
      index_rises (key (get_or xs i d)) (key (get_or xs j d)) n numbers

  -- before a place that a search gives, the numbers are lower
  pub lower-front : (n place : ℕ) (xs : List X) → place ≤ length xs → AllWithin (λ x. nat_cmp (key x) n ≡ Less) xs 0 place
      → list_all (λ x. nat_lt (key x) n) (take place xs) ≡ true
  lower-front n place xs within lower =
      list_all-from_AllPass (λ x. nat_lt (key x) n) (take place xs)
      (All-weaker (λ x. nat_cmp (key x) n ≡ Less) (λ x. nat_lt (key x) n ≡ true) (λ x is. is_less (key x) n is) (take place xs)
      (All-front (λ x. nat_cmp (key x) n ≡ Less) xs place within lower))

  -- and from it on they are higher
  pub higher-back : (n place : ℕ) (xs : List X) → AllWithin (λ x. nat_cmp (key x) n ≡ Greater) xs place (length xs)
      → list_all (λ x. nat_lt n (key x)) (drop place xs) ≡ true
  higher-back n place xs higher =
      list_all-from_AllPass (λ x. nat_lt n (key x)) (drop place xs)
      (All-weaker (λ x. nat_cmp (key x) n ≡ Greater) (λ x. nat_lt n (key x) ≡ true) (λ x is. is_greater (key x) n is) (drop place xs)
      (All-back (λ x. nat_cmp (key x) n ≡ Greater) xs place higher))

  -- before an element that is found, none has its number
  pub none-before : (n i : ℕ) (xs : List X) (x : X) → are_rising (map key xs) ≡ true → slice_get xs i ≡ Some x → key x ≡ n
      → list_all (λ y. not (key y == n)) (take i xs) ≡ true
  none-before n i [] x rising is own = absurd (cc is)
  none-before n zero (y ∷ ys) x rising is own = refl
  none-before n (suc i) (y ∷ ys) x rising is own =
      let parts = and_parts (list_all (λ m. nat_lt (key y) m) (map key ys)) (are_rising (map key ys)) rising in
      let low : nat_lt (key y) (key x) ≡ true = all_got (λ z. nat_lt (key y) (key z)) ys i x (sym (list_all-map (λ m. nat_lt (key y) m) key ys) ∙ parts.0) is in
      and_from (not (key y == n)) (list_all (λ z. not (key z == n)) (take i ys)) (differs_below (key y) n (rw own at low)) (none-before n i ys x parts.1 is own)

  -- the numbers rise where elements are left out
  pub rising-kept : (p : X → Bool) (xs : List X) → are_rising (map key xs) ≡ true → are_rising (map key (filter p xs)) ≡ true
  rising-kept p [] rising = refl
  rising-kept p (x ∷ xs) rising =
      let parts = and_parts (list_all (λ m. nat_lt (key x) m) (map key xs)) (are_rising (map key xs)) rising in
      by (p x)
      (list_all-map (λ m. nat_lt (key x) m) key (filter p xs)
      ∙ all_kept p (λ y. nat_lt (key x) (key y)) xs (sym (list_all-map (λ m. nat_lt (key x) m) key xs) ∙ parts.0))
      (rising-kept p xs parts.1)
    where
      by : (b : Bool) → list_all (λ m. nat_lt (key x) m) (map key (filter p xs)) ≡ true → are_rising (map key (filter p xs)) ≡ true
          → are_rising (map key (cond b (x ∷ filter p xs) (filter p xs))) ≡ true
      by true low rest = and_from (list_all (λ m. nat_lt (key x) m) (map key (filter p xs))) (are_rising (map key (filter p xs))) low rest
      by false low rest = rest

  -- and where one is inserted between lower and higher ones
  pub rising-inserted : (x : X) (xs : List X) (i : ℕ) → are_rising (map key xs) ≡ true → list_all (λ y. nat_lt (key y) (key x)) (take i xs) ≡ true
      → list_all (λ y. nat_lt (key x) (key y)) (drop i xs) ≡ true → are_rising (map key (insert xs i x)) ≡ true
  rising-inserted x [] zero rising low high = refl
  rising-inserted x [] (suc i) rising low high = refl
  rising-inserted x (y ∷ ys) zero rising low high =
      and_from (list_all (λ m. nat_lt (key x) m) (map key (y ∷ ys))) (are_rising (map key (y ∷ ys)))
      (list_all-map (λ m. nat_lt (key x) m) key (y ∷ ys) ∙ high) rising
  rising-inserted x (y ∷ ys) (suc i) rising low high =
      let parts = and_parts (list_all (λ m. nat_lt (key y) m) (map key ys)) (are_rising (map key ys)) rising in
      let lows = and_parts (nat_lt (key y) (key x)) (list_all (λ z. nat_lt (key z) (key x)) (take i ys)) low in
      and_from (list_all (λ m. nat_lt (key y) m) (map key (insert ys i x))) (are_rising (map key (insert ys i x)))
      (list_all-map (λ m. nat_lt (key y) m) key (insert ys i x)
      ∙ all_inserted (λ z. nat_lt (key y) (key z)) ys i x (sym (list_all-map (λ m. nat_lt (key y) m) key ys) ∙ parts.0) lows.0)
      (rising-inserted x ys i parts.1 lows.1 high)

-- a number is inserted where a search puts it
pub inserted-between : (n : ℕ) (ns : List ℕ) (place : ℕ) → place ≤ length ns
    → AllWithin (λ m. nat_cmp m n ≡ Less) ns 0 place → AllWithin (λ m. nat_cmp m n ≡ Greater) ns place (length ns)
    → insert ns place n ≡ with_number n ns
inserted-between n ns place within lower higher =
    sym (ap (with_number n) (sym (take-append-drop place ns))
    ∙ with-between n (take place ns) (drop place ns) (lower-front (λ m. m) n place ns within lower) (higher-back (λ m. m) n place ns higher))

-- a number that a search finds is among them
pub found-among : (n : ℕ) (ns : List ℕ) (place d : ℕ) → place < length ns → nat_cmp (get_or ns place d) n ≡ Equal → list_any (λ m. m == n) ns ≡ true
found-among n [] place d within is = absurd (omega arith)
found-among n (m ∷ ns) zero d within is =
    let same : (m == n) ≡ true = grind (arith, nat_tests) in ap (λ b. b || list_any (λ m. m == n) ns) same
found-among n (m ∷ ns) (suc place) d within is = or_later (m == n) (list_any (λ m. m == n) ns) (found-among n ns place d (omega arith) is)
  where
    or_later : (a b : Bool) → b ≡ true → (a || b) ≡ true
    or_later true b is = refl
    or_later false b is = is
