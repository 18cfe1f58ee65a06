-- What a binary search finds among tabs whose numbers rise.
use Rattle.std.proofs.Common.{◌≡◌, ◌<◌, ◌≤◌, ℕ, true, List, [], ◌∷◌, length, take, drop, get_or, map, Option, Result, Ok, Err, Some, None, refl, ap, ◌∙◌, arith, inl, inr, MatchResult}
use Rattle.std.specs.Prelude.{nat_lt, option_map, slice_get, ◌⊎◌}
use Rattle.std.specs.List.{AllWithin, HoldsAt, list_all}
use Rattle.std.specs.List.Sorted.{IsBinarySearchResult, IsNonDecreasingBy, IsSearchInRange}
use Rattle.std.specs.Ordering.{nat_cmp, ordering_index}
use Rattle.std.specs.declared.cmp.Ordering.TheVariants.{Less, Equal, Greater}
use Rattle.std.proofs.lemmas.Bool.Decides.{nat_tests}
use Rattle.std.proofs.lemmas.List.{get_or-map, take-map, drop-map, length-map}
use Rattle.std.proofs.lemmas.List.Folds.{list_all-map}
use Rattle.std.proofs.lemmas.Option.{slice_get-get_or, slice_get-map}
use Rattle.live_state.specs.ExistingQueues.{PlainOpenTab}
use Rattle.live_state.specs.Tabs.{PlainTab, is_rising}
use Rattle.live_state.specs.TabPlaces.{IsAt, IsGap}
use Rattle.live_state.proofs.NumberLemmas.{higher-back, lower-front}
use Rattle.live_state.proofs.TabPlaceLemmas.{rising-apart, rising-split}

-- the tabs, as contracts see them
abbrev pub plain_of : List PlainOpenTab → List PlainTab
plain_of ts = map (λ t. t.plain) ts

is_equal : (m n : ℕ) → nat_cmp m n ≡ Equal → m ≡ n
is_equal m n is = grind (arith, nat_tests)

index_rises : (l m n : ℕ) → l ≤ m → ordering_index (nat_cmp l n) ≤ ordering_index (nat_cmp m n)
index_rises l m n low = grind (arith, nat_tests)

index_same : (ts : List PlainOpenTab) (n i j : ℕ) (d : PlainOpenTab) → is_rising (plain_of ts) ≡ true → i ≤ j → j < length ts
    → (i ≡ j) ⊎ (i < j)
    → ordering_index (nat_cmp (get_or ts i d).plain.number n) ≤ ordering_index (nat_cmp (get_or ts j d).plain.number n)
index_same ts n i j d rising low within (inl same) =
    rw same (omega arith)
index_same ts n i j d rising low within (inr below) =
    let one : get_or (plain_of ts) i d.plain ≡ (get_or ts i d).plain = get_or-map (λ t. t.plain) ts i d d.plain (omega arith) in
    let other : get_or (plain_of ts) j d.plain ≡ (get_or ts j d).plain = get_or-map (λ t. t.plain) ts j d d.plain within in
    let long : length (plain_of ts) ≡ length ts = length-map ts (λ t. t.plain) in
    let apart : (get_or (plain_of ts) i d.plain).number < (get_or (plain_of ts) j d.plain).number =
    rising-apart (plain_of ts) i j d.plain rising below (omega arith) in
    let numbers : (get_or ts i d).plain.number < (get_or ts j d).plain.number = rw (one, other) at apart in
    index_rises (get_or ts i d).plain.number (get_or ts j d).plain.number n (omega arith)

which : (i j : ℕ) → i ≤ j → (i ≡ j) ⊎ (i < j)
which i j low = grind arith

searchable : (ts : List PlainOpenTab) (n : ℕ) → is_rising (plain_of ts) ≡ true → IsNonDecreasingBy (λ t. ordering_index (nat_cmp t.plain.number n)) ts
searchable ts n rising = λ i j d low within. index_same ts n i j d rising low within (which i j low)

-- a tab that stands at a place is found there
pub found-given : (n place : ℕ) (ts : List PlainOpenTab) (t : PlainOpenTab) → is_rising (plain_of ts) ≡ true → slice_get ts place ≡ Some t
    → t.plain.number ≡ n → IsAt n (plain_of ts) place
found-given n place ts t rising is own =
    let here : slice_get (plain_of ts) place ≡ Some t.plain = slice_get-map (λ t. t.plain) ts place ∙ ap (option_map (λ t. t.plain)) is in
    let parts = rising-split (plain_of ts) place t.plain rising here in
    record {
      here = ap (option_map (λ u. u.number)) here ∙ ap Some own;
      lower = rw own at parts.0;
      higher = rw own at parts.1;
    }

place-found : (n i : ℕ) (ts : List PlainOpenTab) → is_rising (plain_of ts) ≡ true → i < length ts
    → HoldsAt (λ t. nat_cmp t.plain.number n ≡ Equal) ts i → IsAt n (plain_of ts) i
place-found n i [] rising within equal = absurd (omega arith)
place-found n i (d ∷ ts) rising within equal =
    let all : List PlainOpenTab = d ∷ ts in
    found-given n i all (get_or all i d) rising (slice_get-get_or all i d within) (is_equal (get_or all i d).plain.number n (equal d))

place-gap : (n i : ℕ) (ts : List PlainOpenTab) → i ≤ length ts
    → AllWithin (λ t. nat_cmp t.plain.number n ≡ Less) ts 0 i → AllWithin (λ t. nat_cmp t.plain.number n ≡ Greater) ts i (length ts)
    → IsGap n (plain_of ts) i
place-gap n i ts within lower higher =
    let long : length (plain_of ts) ≡ length ts = length-map ts (λ t. t.plain) in
    record {
      within = omega arith;
      lower =
          ap (list_all (λ u. nat_lt u.number n)) (take-map (λ t. t.plain) i ts)
          ∙ list_all-map (λ u. nat_lt u.number n) (λ t. t.plain) (take i ts)
          ∙ lower-front (λ t. t.plain.number) n i ts within lower;
      higher =
          ap (list_all (λ u. nat_lt n u.number)) (drop-map (λ t. t.plain) i ts)
          ∙ list_all-map (λ u. nat_lt n u.number) (λ t. t.plain) (drop i ts)
          ∙ higher-back (λ t. t.plain.number) n i ts higher;
    }

pub searched : (n : ℕ) (ts : List PlainOpenTab) (r : Result ℕ ℕ) → is_rising (plain_of ts) ≡ true → IsSearchInRange r (length ts)
    → IsBinarySearchResult (λ t. nat_cmp t.plain.number n) ts r
    → MatchResult r (IsAt n (plain_of ts)) (IsGap n (plain_of ts))
searched n ts (Ok i) rising bound found = place-found n i ts rising bound found
searched n ts (Err i) rising bound gap =
    let parts = gap (searchable ts n rising) in
    place-gap n i ts bound parts.0 parts.1

number_by : (o : Option PlainOpenTab) → option_map (λ u. u.number) (option_map (λ t. t.plain) o) ≡ option_map (λ t. t.plain.number) o
number_by None = refl
number_by (Some t) = refl

-- the number of the tab at a place
pub number_at : (ts : List PlainOpenTab) (i : ℕ)
    → option_map (λ u. u.number) (slice_get (plain_of ts) i) ≡ option_map (λ t. t.plain.number) (slice_get ts i)
number_at ts i = ap (option_map (λ u. u.number)) (slice_get-map (λ t. t.plain) ts i) ∙ number_by (slice_get ts i)
