-- Tabs in the order of their numbers, and what a write at a place makes of them.
use Rattle.std.proofs.Common.{◌≡◌, ◌<◌, ℕ, zero, suc, Bool, true, false, cond, not, List, [], ◌∷◌, ◌++◌, length, take, drop, get_or, set, refl, ap, sym, ◌∙◌, arith, Some, None, Option}
use Rattle.std.proofs.lemmas.Bool.{and_parts, and_from}
use Rattle.std.specs.Prelude.{◌==◌, filter, find, slice_get, nat_lt, option_map}
use Rattle.std.specs.List.{list_all, insert}
use Rattle.std.proofs.lemmas.Bool.Decides.{nat_tests}
use Rattle.std.proofs.lemmas.List.{set_split, take-append-drop, append-nil}
use Rattle.std.proofs.lemmas.List.Elements.{filter-append}
use Rattle.std.proofs.lemmas.List.Folds.{list_all-append}
use Rattle.std.proofs.lemmas.List.Sums.{AllPass-from_list_all}
use Rattle.std.proofs.lemmas.Option.{slice_get_within}
use Rattle.live_state.specs.Tabs.{PlainTab, is_after, is_rising, next_tab, tab_at, with_tab, without_tab}
use Rattle.live_state.specs.TabPlaces.{IsAt, IsGap, are_higher, are_lower}
use Rattle.live_state.proofs.ListLemmas.{all_kept, all_pass, all_weaker, filter_all, filter_none, find_first, find_none, slice_get-drop, split_at}

lower_isnt_higher : (m n : ℕ) → nat_lt m n ≡ true → not (nat_lt n m) ≡ true
lower_isnt_higher m n is = grind (arith, nat_tests)

pub lower_isnt_it : (m n : ℕ) → nat_lt m n ≡ true → not (m == n) ≡ true
lower_isnt_it m n is = grind (arith, nat_tests)

pub higher_isnt_it : (m n : ℕ) → nat_lt n m ≡ true → not (m == n) ≡ true
higher_isnt_it m n is = grind (arith, nat_tests)

itself : (m n : ℕ) → m ≡ n → (m == n) ≡ true
itself m n same = grind (arith, nat_tests)

isnt_lower : (m n : ℕ) → m ≡ n → nat_lt m n ≡ false
isnt_lower m n same = grind (arith, nat_tests)

isnt_higher : (m n : ℕ) → m ≡ n → nat_lt n m ≡ false
isnt_higher m n same = grind (arith, nat_tests)

transits : (a b c : ℕ) → nat_lt a b ≡ true → nat_lt b c ≡ true → nat_lt a c ≡ true
transits a b c one other = grind (arith, nat_tests)

-- ---- the numbers rise

pub rising-filter : (p : PlainTab → Bool) (ts : List PlainTab) → is_rising ts ≡ true → is_rising (filter p ts) ≡ true
rising-filter p [] rising = refl
rising-filter p (t ∷ ts) rising =
    let parts = and_parts (list_all (λ u. nat_lt t.number u.number) ts) (is_rising ts) rising in
    step (p t) (all_kept p (λ u. nat_lt t.number u.number) ts parts.0) (rising-filter p ts parts.1)
  where
    step : (b : Bool) → list_all (λ u. nat_lt t.number u.number) (filter p ts) ≡ true → is_rising (filter p ts) ≡ true
        → is_rising (cond b (t ∷ filter p ts) (filter p ts)) ≡ true
    step true low rest = and_from (list_all (λ u. nat_lt t.number u.number) (filter p ts)) (is_rising (filter p ts)) low rest
    step false low rest = rest

pub rising-join : (front : List PlainTab) (t : PlainTab) (rest : List PlainTab) → is_rising front ≡ true → is_rising rest ≡ true
    → are_lower t.number front ≡ true → are_higher t.number rest ≡ true → is_rising (front ++ t ∷ rest) ≡ true
rising-join [] t rest rising above low high = and_from (are_higher t.number rest) (is_rising rest) high above
rising-join (f ∷ fs) t rest rising above low high =
    let parts = and_parts (list_all (λ u. nat_lt f.number u.number) fs) (is_rising fs) rising in
    let lows = and_parts (nat_lt f.number t.number) (are_lower t.number fs) low in
    and_from (list_all (λ u. nat_lt f.number u.number) (fs ++ t ∷ rest)) (is_rising (fs ++ t ∷ rest))
    (list_all-append (λ u. nat_lt f.number u.number) fs (t ∷ rest)
    ∙ and_from (list_all (λ u. nat_lt f.number u.number) fs) (list_all (λ u. nat_lt f.number u.number) (t ∷ rest)) parts.0
    (and_from (nat_lt f.number t.number) (list_all (λ u. nat_lt f.number u.number) rest) lows.0
    (all_weaker (λ u. nat_lt t.number u.number) (λ u. nat_lt f.number u.number) (λ u is. transits f.number t.number u.number lows.0 is) rest high)))
    (rising-join fs t rest parts.1 above lows.1 high)

pub rising-with : (made : PlainTab) (ts : List PlainTab) → is_rising ts ≡ true → is_rising (with_tab made ts) ≡ true
rising-with made ts rising =
    rising-join (filter (λ t. nat_lt t.number made.number) ts) made (filter (λ t. nat_lt made.number t.number) ts)
    (rising-filter (λ t. nat_lt t.number made.number) ts rising) (rising-filter (λ t. nat_lt made.number t.number) ts rising)
    (all_pass (λ t. nat_lt t.number made.number) ts) (all_pass (λ t. nat_lt made.number t.number) ts)

-- each number is lower than those behind it
pub rising-apart : (ts : List PlainTab) (i j : ℕ) (d : PlainTab) → is_rising ts ≡ true → i < j → j < length ts
    → (get_or ts i d).number < (get_or ts j d).number
rising-apart [] i j d rising apart within = absurd (omega arith)
rising-apart (t ∷ ts) i zero d rising apart within = absurd (omega arith)
rising-apart (t ∷ ts) zero (suc j) d rising apart within =
    let parts = and_parts (list_all (λ u. nat_lt t.number u.number) ts) (is_rising ts) rising in
    let low : nat_lt t.number (get_or ts j d).number ≡ true = AllPass-from_list_all (λ u. nat_lt t.number u.number) ts parts.0 j d (omega arith) in
    grind (arith, nat_tests)
rising-apart (t ∷ ts) (suc i) (suc j) d rising apart within =
    let parts = and_parts (list_all (λ u. nat_lt t.number u.number) ts) (is_rising ts) rising in
    rising-apart ts i j d parts.1 (omega arith) (omega arith)

-- what stands before and behind a tab
pub rising-split : (ts : List PlainTab) (i : ℕ) (t : PlainTab) → is_rising ts ≡ true → slice_get ts i ≡ Some t
    → (are_lower t.number (take i ts) ≡ true) × (are_higher t.number (drop (suc i) ts) ≡ true)
rising-split [] i t rising is = absurd (cc is)
rising-split (u ∷ us) zero t rising is =
    let parts = and_parts (list_all (λ v. nat_lt u.number v.number) us) (is_rising us) rising in
    let same : u ≡ t = cc in
    (refl, rw (← same) parts.0)
rising-split (u ∷ us) (suc i) t rising is =
    let parts = and_parts (list_all (λ v. nat_lt u.number v.number) us) (is_rising us) rising in
    let below = rising-split us i t parts.1 is in
    let low : nat_lt u.number t.number ≡ true =
    (and_parts (nat_lt u.number t.number) (list_all (λ v. nat_lt u.number v.number) (drop (suc i) us))
    (and_parts (list_all (λ v. nat_lt u.number v.number) (take i us)) (list_all (λ v. nat_lt u.number v.number) (t ∷ drop (suc i) us))
    (sym (list_all-append (λ v. nat_lt u.number v.number) (take i us) (t ∷ drop (suc i) us))
    ∙ ap (list_all (λ v. nat_lt u.number v.number)) (sym (split_at us i t is)) ∙ parts.0)).1).0 in
    (and_from (nat_lt u.number t.number) (are_lower t.number (take i us)) low below.0, below.1)

-- ---- tabs that are lower, and tabs that are higher

module _ (n : ℕ) (front rest : List PlainTab) (low : are_lower n front ≡ true) (high : are_higher n rest ≡ true) where
  lower_ones : filter (λ t. nat_lt t.number n) (front ++ rest) ≡ front
  lower_ones =
      filter-append (λ t. nat_lt t.number n) front rest
      ∙ ap (λ l. l ++ filter (λ t. nat_lt t.number n) rest) (filter_all (λ t. nat_lt t.number n) front low)
      ∙ ap (λ l. front ++ l)
      (filter_none (λ t. nat_lt t.number n) rest (all_weaker (λ t. nat_lt n t.number) (λ t. not (nat_lt t.number n)) (λ t is. lower_isnt_higher n t.number is) rest high))
      ∙ append-nil front

  higher_ones : filter (λ t. nat_lt n t.number) (front ++ rest) ≡ rest
  higher_ones =
      filter-append (λ t. nat_lt n t.number) front rest
      ∙ ap (λ l. l ++ filter (λ t. nat_lt n t.number) rest)
      (filter_none (λ t. nat_lt n t.number) front (all_weaker (λ t. nat_lt t.number n) (λ t. not (nat_lt n t.number)) (λ t is. lower_isnt_higher t.number n is) front low))
      ∙ filter_all (λ t. nat_lt n t.number) rest high

  others_front : list_all (λ t. not (t.number == n)) front ≡ true
  others_front = all_weaker (λ t. nat_lt t.number n) (λ t. not (t.number == n)) (λ t is. lower_isnt_it t.number n is) front low

  others_rest : list_all (λ t. not (t.number == n)) rest ≡ true
  others_rest = all_weaker (λ t. nat_lt n t.number) (λ t. not (t.number == n)) (λ t is. higher_isnt_it t.number n is) rest high

  none_at : tab_at n (front ++ rest) ≡ None
  none_at =
      find_none (λ t. t.number == n) front rest others_front
      ∙ ap (find (λ t. t.number == n)) (sym (append-nil rest))
      ∙ find_none (λ t. t.number == n) rest [] others_rest

  none_without : without_tab n (front ++ rest) ≡ front ++ rest
  none_without =
      filter-append (λ t. not (t.number == n)) front rest
      ∙ ap (λ l. l ++ filter (λ t. not (t.number == n)) rest) (filter_all (λ t. not (t.number == n)) front others_front)
      ∙ ap (λ l. front ++ l) (filter_all (λ t. not (t.number == n)) rest others_rest)

  next_after : next_tab (Some n) (front ++ rest) ≡ option_map (λ t. t.number) (slice_get rest 0)
  next_after =
      ap (option_map (λ t. t.number))
      (find_none (λ t. is_after (Some n) t.number) front rest
      (all_weaker (λ t. nat_lt t.number n) (λ t. not (nat_lt n t.number)) (λ t is. lower_isnt_higher t.number n is) front low)
      ∙ find_first (λ t. is_after (Some n) t.number) rest high)

  module _ (t : PlainTab) (same : t.number ≡ n) where
    lower_beside : filter (λ u. nat_lt u.number n) (front ++ t ∷ rest) ≡ front
    lower_beside =
        filter-append (λ u. nat_lt u.number n) front (t ∷ rest)
        ∙ ap (λ b. filter (λ u. nat_lt u.number n) front ++ cond b (t ∷ filter (λ u. nat_lt u.number n) rest) (filter (λ u. nat_lt u.number n) rest)) (isnt_lower t.number n same)
        ∙ sym (filter-append (λ u. nat_lt u.number n) front rest)
        ∙ lower_ones

    higher_beside : filter (λ u. nat_lt n u.number) (front ++ t ∷ rest) ≡ rest
    higher_beside =
        filter-append (λ u. nat_lt n u.number) front (t ∷ rest)
        ∙ ap (λ b. filter (λ u. nat_lt n u.number) front ++ cond b (t ∷ filter (λ u. nat_lt n u.number) rest) (filter (λ u. nat_lt n u.number) rest)) (isnt_higher t.number n same)
        ∙ sym (filter-append (λ u. nat_lt n u.number) front rest)
        ∙ higher_ones

    found_at : tab_at n (front ++ t ∷ rest) ≡ Some t
    found_at =
        find_none (λ u. u.number == n) front (t ∷ rest) others_front
        ∙ ap (λ b. cond b (Some t) (find (λ u. u.number == n) rest)) (itself t.number n same)

    others_without : without_tab n (front ++ t ∷ rest) ≡ front ++ rest
    others_without =
        filter-append (λ u. not (u.number == n)) front (t ∷ rest)
        ∙ ap (λ b. filter (λ u. not (u.number == n)) front ++ cond (not b) (t ∷ filter (λ u. not (u.number == n)) rest) (filter (λ u. not (u.number == n)) rest)) (itself t.number n same)
        ∙ sym (filter-append (λ u. not (u.number == n)) front rest)
        ∙ none_without

    next_beside : next_tab (Some n) (front ++ t ∷ rest) ≡ option_map (λ u. u.number) (slice_get rest 0)
    next_beside =
        ap (option_map (λ u. u.number))
        (find_none (λ u. is_after (Some n) u.number) front (t ∷ rest)
        (all_weaker (λ u. nat_lt u.number n) (λ u. not (nat_lt n u.number)) (λ u is. lower_isnt_higher u.number n is) front low)
        ∙ ap (λ b. cond b (Some t) (find (λ u. is_after (Some n) u.number) rest)) (isnt_higher t.number n same)
        ∙ find_first (λ u. is_after (Some n) u.number) rest high)

-- ---- at a place

-- a number stands at the place, so a tab does
pub standing : (n : ℕ) (o : Option PlainTab) → option_map (λ t. t.number) o ≡ Some n → (t : PlainTab) × (o ≡ Some t) × (t.number ≡ n)
standing n None is = absurd (cc is)
standing n (Some t) is = (t, refl, cc is)

module _ (n : ℕ) (ts : List PlainTab) (place : ℕ) (at : IsAt n ts place) where
  the_tab : (t : PlainTab) × (slice_get ts place ≡ Some t) × (t.number ≡ n)
  the_tab = standing n (slice_get ts place) at.here

  whole : ts ≡ take place ts ++ the_tab.0 ∷ drop (suc place) ts
  whole = split_at ts place the_tab.0 the_tab.1

  pub found-at : tab_at n ts ≡ slice_get ts place
  found-at =
      ap (tab_at n) whole
      ∙ found_at n (take place ts) (drop (suc place) ts) at.lower at.higher the_tab.0 the_tab.2
      ∙ sym the_tab.1

  pub next-at : next_tab (Some n) ts ≡ option_map (λ t. t.number) (slice_get ts (suc place))
  next-at =
      ap (next_tab (Some n)) whole
      ∙ next_beside n (take place ts) (drop (suc place) ts) at.lower at.higher the_tab.0 the_tab.2
      ∙ ap (option_map (λ t. t.number)) (slice_get-drop ts (suc place))

  pub without-at : without_tab n ts ≡ take place ts ++ drop (suc place) ts
  without-at =
      ap (without_tab n) whole
      ∙ others_without n (take place ts) (drop (suc place) ts) at.lower at.higher the_tab.0 the_tab.2

-- a tab of the number in the place of the one that is there
pub put-at : (made : PlainTab) (ts : List PlainTab) (place : ℕ) → IsAt made.number ts place → set ts place made ≡ with_tab made ts
put-at made ts place at =
    let n : ℕ = made.number in
    let t = the_tab n ts place at in
    let lower = ap (filter (λ u. nat_lt u.number n)) (whole n ts place at)
    ∙ lower_beside n (take place ts) (drop (suc place) ts) at.lower at.higher t.0 t.2 in
    let higher = ap (filter (λ u. nat_lt n u.number)) (whole n ts place at)
    ∙ higher_beside n (take place ts) (drop (suc place) ts) at.lower at.higher t.0 t.2 in
    set_split ts place made (slice_get_within ts place t.0 t.1)
    ∙ ap (λ l. l ++ made ∷ drop (suc place) ts) (sym lower)
    ∙ ap (λ l. filter (λ u. nat_lt u.number n) ts ++ made ∷ l) (sym higher)

module _ (n : ℕ) (ts : List PlainTab) (place : ℕ) (gap : IsGap n ts place) where
  pub found-gap : tab_at n ts ≡ None
  found-gap =
      ap (tab_at n) (sym (take-append-drop place ts)) ∙ none_at n (take place ts) (drop place ts) gap.lower gap.higher

  pub next-gap : next_tab (Some n) ts ≡ option_map (λ t. t.number) (slice_get ts place)
  next-gap =
      ap (next_tab (Some n)) (sym (take-append-drop place ts))
      ∙ next_after n (take place ts) (drop place ts) gap.lower gap.higher
      ∙ ap (option_map (λ t. t.number)) (slice_get-drop ts place)

  pub without-gap : without_tab n ts ≡ ts
  without-gap =
      ap (without_tab n) (sym (take-append-drop place ts))
      ∙ none_without n (take place ts) (drop place ts) gap.lower gap.higher
      ∙ take-append-drop place ts

-- a tab whose number is new
pub put-gap : (made : PlainTab) (ts : List PlainTab) (place : ℕ) → IsGap made.number ts place → insert ts place made ≡ with_tab made ts
put-gap made ts place gap =
    let n : ℕ = made.number in
    let lower = ap (filter (λ u. nat_lt u.number n)) (sym (take-append-drop place ts))
    ∙ lower_ones n (take place ts) (drop place ts) gap.lower gap.higher in
    let higher = ap (filter (λ u. nat_lt n u.number)) (sym (take-append-drop place ts))
    ∙ higher_ones n (take place ts) (drop place ts) gap.lower gap.higher in
    ap (λ l. l ++ made ∷ drop place ts) (sym lower)
    ∙ ap (λ l. filter (λ u. nat_lt u.number n) ts ++ made ∷ l) (sym higher)

-- the first of all tabs
pub next-first : (ts : List PlainTab) → next_tab None ts ≡ option_map (λ t. t.number) (slice_get ts 0)
next-first [] = refl
next-first (t ∷ ts) = refl
