-- Tabs in slots: what a write, a tab more and a tab less make of them.
use Rattle.std.proofs.Common.{◌≡◌, ◌<◌, ◌≤◌, ◌+◌, ◌-◌, ℕ, zero, suc, true, false, cond, List, [], ◌∷◌, ◌++◌, length, take, get_or, set, map, Option, Result, Ok, Err, refl, ap, sym, subst, ◌∙◌, arith, inl, inr, MatchResult}
use Rattle.std.specs.Prelude.{◌==◌, ◌≢◌, ◌⊎◌, nat_lt, vec_capacity, if◌then◌else◌}
use Rattle.std.specs.Global.{Vec}
use Rattle.std.specs.List.{All, insert, remove}
use Rattle.std.specs.List.Sorted.{IsBinarySearchResult, IsNonDecreasingBy, IsSearchInRange}
use Rattle.std.specs.Ordering.{nat_cmp, ordering_index}
use Rattle.std.specs.declared.cmp.Ordering.TheVariants.{Less, Equal, Greater}
use Rattle.std.proofs.lemmas.Bool.{cases_eq, eq-eqb}
use Rattle.std.proofs.lemmas.Bool.Decides.{eqb_tells}
use Rattle.std.proofs.lemmas.List.{ext_get_or, get_or-map, get_or_append_left, get_or-set_same, get_or-set_other, get_or_default, get_or_push, append-nil, length-map, length-set, length_push, take_more}
use Rattle.std.proofs.lemmas.Grind.{flat_map-append}
use Rattle.std.proofs.lemmas.List.Edits.{get_or-insert_above, get_or-insert_at, get_or-insert_below, get_or-remove_above, get_or-remove_below, length-insert, length-remove}
use Rattle.std.proofs.lemmas.Option.{slice_get-get_or}
use Rattle.live_state.specs.Documents.{documents, documents_in}
use Rattle.live_state.specs.ExistingQueues.{PlainOpenTab}
use Rattle.live_state.specs.OpenTabs.{AreSlots, PlainTabList, in_slots, in_slot, no_tab, renamed}
use Rattle.live_state.specs.TabPlaces.{IsAt, IsGap}
use Rattle.live_state.specs.Tabs.{is_open, is_rising}
use Rattle.live_state.proofs.SearchLemmas.{found-given, plain_of, searched}
use Rattle.live_state.proofs.StepLemmas.{closed-gap, number-here, open-here}
use Rattle.live_state.proofs.TabPlaceLemmas.{rising-apart}

-- a list of tabs with this room
abbrev pub list_of : ℕ → List PlainOpenTab → PlainTabList
list_of room items = record { items = items; room = room }

-- the tab at a place is that in its slot
pub order-at : (order : List ℕ) (slots : List PlainOpenTab) (k : ℕ) (d : PlainOpenTab) → k < length order
    → get_or (in_slots order slots) k d ≡ in_slot slots (get_or order k 0)
order-at order slots k d within = get_or-map (in_slot slots) order k 0 d within

pub few-tabs : (order : Vec ℕ) (slots : Vec PlainOpenTab) (room : ℕ) → AreSlots order slots room → length (in_slots order.items slots.items) ≤ 65536
few-tabs order slots room are =
    let long : length (in_slots order.items slots.items) ≡ length order.items = length-map order.items (in_slot slots.items) in
    let each : length order.items ≡ length slots.items = are.each in
    let fits : length slots.items + room ≤ 65536 = are.fits in
    omega arith

-- ---- a number stands at one place, and so does a slot

three : (i j : ℕ) → (i < j) ⊎ ((i ≡ j) ⊎ (j < i))
three i j = grind arith

module _ (ts : List PlainOpenTab) (rising : is_rising (plain_of ts) ≡ true) where
  below : (k l : ℕ) → k < l → l < length ts → (get_or ts k no_tab).plain.number < (get_or ts l no_tab).plain.number
  below k l low within =
      let long : length (plain_of ts) ≡ length ts = length-map ts (λ t. t.plain) in
      let apart : (get_or (plain_of ts) k no_tab.plain).number < (get_or (plain_of ts) l no_tab.plain).number =
      rising-apart (plain_of ts) k l no_tab.plain rising low (omega arith) in
      let one : get_or (plain_of ts) k no_tab.plain ≡ (get_or ts k no_tab).plain = get_or-map (λ t. t.plain) ts k no_tab no_tab.plain (omega arith) in
      let other : get_or (plain_of ts) l no_tab.plain ≡ (get_or ts l no_tab).plain = get_or-map (λ t. t.plain) ts l no_tab no_tab.plain within in
      rw (one, other) at apart

  pub one_place : (i j : ℕ) → i < length ts → j < length ts
      → (get_or ts i no_tab).plain.number ≡ (get_or ts j no_tab).plain.number → i ≡ j
  one_place i j one other same = by (three i j)
    where
      by : (i < j) ⊎ ((i ≡ j) ⊎ (j < i)) → i ≡ j
      by (inl low) =
          let less : (get_or ts i no_tab).plain.number < (get_or ts j no_tab).plain.number = below i j low other in absurd (omega arith)
      by (inr (inl equal)) = equal
      by (inr (inr high)) =
          let less : (get_or ts j no_tab).plain.number < (get_or ts i no_tab).plain.number = below j i high one in absurd (omega arith)

  -- where a search ended that was for the number of a tab
  pub searched-own : (n : ℕ) (r : Result ℕ ℕ) → MatchResult r (IsAt n (plain_of ts)) (IsGap n (plain_of ts)) → IsSearchInRange r (length ts)
      → (k : ℕ) → k < length ts → (get_or ts k no_tab).plain.number ≡ n → r ≡ Ok k
  searched-own n (Ok place) at fits k within own =
      let number : (get_or ts place no_tab).plain.number ≡ n =
      number-here n ts place at (get_or ts place no_tab) fits (get_or_default ts place no_tab (get_or ts place no_tab) fits) in
      ap Ok (one_place place k fits within (number ∙ sym own))
  searched-own n (Err place) gap fits k within own =
      let here : IsAt n (plain_of ts) k = found-given n k ts (get_or ts k no_tab) rising (slice_get-get_or ts k no_tab within) own in
      let no : false ≡ true = sym (closed-gap n ts place gap)
      ∙ open-here n ts k here (get_or ts k no_tab) within (get_or_default ts k no_tab (get_or ts k no_tab) within) in absurd (cc no)

module _ (order : List ℕ) (slots : List PlainOpenTab) (rising : is_rising (plain_of (in_slots order slots)) ≡ true) where
  pub one_slot : (i j : ℕ) → i < length order → j < length order → get_or order i 0 ≡ get_or order j 0 → i ≡ j
  one_slot i j one other same =
      let long : length (in_slots order slots) ≡ length order = length-map order (in_slot slots) in
      one_place (in_slots order slots) rising i j (omega arith) (omega arith)
      (ap (λ t. t.plain.number) (order-at order slots i no_tab one ∙ ap (in_slot slots) same ∙ sym (order-at order slots j no_tab other)))

  -- a write to a slot writes at the place of the slot
  pub order-set : (place : ℕ) (w : PlainOpenTab) → place < length order → get_or order place 0 < length slots
      → in_slots order (set slots (get_or order place 0) w) ≡ set (in_slots order slots) place w
  order-set place w within there =
      ext_get_or no_tab (in_slots order (set slots (get_or order place 0) w)) (set (in_slots order slots) place w)
      (length-map order (in_slot (set slots (get_or order place 0) w)) ∙ sym (length-set (in_slots order slots) place w ∙ length-map order (in_slot slots)))
      (λ k low. at_each k (below_order k low) (cases_eq k place))
    where
      below_order : (k : ℕ) → k < length (in_slots order (set slots (get_or order place 0) w)) → k < length order
      below_order k low =
          let long : length (in_slots order (set slots (get_or order place 0) w)) ≡ length order = length-map order (in_slot (set slots (get_or order place 0) w)) in
          omega arith

      at_each : (k : ℕ) → k < length order → (k ≡ place) ⊎ (k ≢ place)
          → get_or (in_slots order (set slots (get_or order place 0) w)) k no_tab ≡ get_or (set (in_slots order slots) place w) k no_tab
      at_each k low (inl same) =
          order-at order (set slots (get_or order place 0) w) k no_tab low
          ∙ ap (λ j. in_slot (set slots (get_or order place 0) w) (get_or order j 0)) same
          ∙ get_or-set_same slots (get_or order place 0) w no_tab there
          ∙ sym (ap (λ j. get_or (set (in_slots order slots) place w) j no_tab) same
          ∙ get_or-set_same (in_slots order slots) place w no_tab (subst (λ n. place < n) (sym (length-map order (in_slot slots))) within))
      at_each k low (inr differ) =
          order-at order (set slots (get_or order place 0) w) k no_tab low
          ∙ get_or-set_other slots (get_or order place 0) (get_or order k 0) w no_tab (λ same. differ (one_slot k place low within same))
          ∙ sym (get_or-set_other (in_slots order slots) place k w no_tab differ ∙ order-at order slots k no_tab low)

  -- the last slot stands where a search for its tab ends, if it stands in the order
  pub last-only : (last n : ℕ) (t : PlainOpenTab) (r : Result ℕ ℕ) → last < length slots → t ≡ get_or slots last t → n ≡ t.plain.number
      → MatchResult r (IsAt n (plain_of (in_slots order slots))) (IsGap n (plain_of (in_slots order slots)))
      → IsSearchInRange r (length (in_slots order slots))
      → (k : ℕ) → k < length order → get_or order k 0 ≡ last → r ≡ Ok k
  last-only last n t r low read number found fits k within own =
      searched-own (in_slots order slots) rising n r found fits k (subst (λ l. k < l) (sym (length-map order (in_slot slots))) within)
      (ap (λ u. u.plain.number) (order-at order slots k no_tab within ∙ ap (in_slot slots) own ∙ get_or_default slots last no_tab t low ∙ sym read) ∙ sym number)

-- ---- a search of the slots

module _ (n : ℕ) (order : List ℕ) (slots : List PlainOpenTab) (rising : is_rising (plain_of (in_slots order slots)) ≡ true) where
  long : length (in_slots order slots) ≡ length order
  long = length-map order (in_slot slots)

  -- it is a search of the tabs
  pub searched-slots : (r : Result ℕ ℕ) → IsSearchInRange r (length order)
      → IsBinarySearchResult (λ s. nat_cmp (in_slot slots s).plain.number n) order r
      → MatchResult r (IsAt n (plain_of (in_slots order slots))) (IsGap n (plain_of (in_slots order slots)))
  searched-slots (Ok i) bound found =
      searched n (in_slots order slots) (Ok i) rising (subst (λ l. i < l) (sym long) bound)
      (λ d. ap (λ (t : PlainOpenTab). nat_cmp t.plain.number n) (order-at order slots i d bound) ∙ found 0)
  searched-slots (Err i) bound gap =
      searched n (in_slots order slots) (Err i) rising (subst (λ l. i ≤ l) (sym long) bound)
      (λ rises. let parts = gap (falls_not rises) in (
        (λ k d low high. ap (λ (t : PlainOpenTab). nat_cmp t.plain.number n) (order-at order slots k d (omega arith)) ∙ parts.0 k 0 low high),
        (λ k d low high. ap (λ (t : PlainOpenTab). nat_cmp t.plain.number n) (order-at order slots k d (subst (λ l. k < l) long high))
            ∙ parts.1 k 0 low (subst (λ l. k < l) long high)),
      ))
    where
      falls_not : IsNonDecreasingBy (λ t. ordering_index (nat_cmp t.plain.number n)) (in_slots order slots)
          → IsNonDecreasingBy (λ s. ordering_index (nat_cmp (in_slot slots s).plain.number n)) order
      falls_not rises = λ a b d low within.
          let one : get_or (in_slots order slots) a no_tab ≡ in_slot slots (get_or order a d) = get_or-map (in_slot slots) order a d no_tab (omega arith) in
          let other : get_or (in_slots order slots) b no_tab ≡ in_slot slots (get_or order b d) = get_or-map (in_slot slots) order b d no_tab within in
          let index : ordering_index (nat_cmp (get_or (in_slots order slots) a no_tab).plain.number n)
          ≤ ordering_index (nat_cmp (get_or (in_slots order slots) b no_tab).plain.number n) = rises a b no_tab low (subst (λ l. b < l) (sym long) within) in
          rw (one, other) at index

-- ---- a tab more

module _ (slots : List PlainOpenTab) (t : PlainOpenTab) where
  behind : (order : List ℕ) → All (λ s. s < length slots) order → in_slots order (slots ++ t ∷ []) ≡ in_slots order slots
  behind [] all = refl
  behind (s ∷ ss) all =
      ap (λ u. u ∷ in_slots ss (slots ++ t ∷ [])) (get_or_append_left slots (t ∷ []) no_tab s (all 0 0 (omega arith)))
      ∙ ap (λ us. in_slot slots s ∷ us) (behind ss (λ k d low. all (suc k) d (omega arith)))

  pub order-inserted : (order : List ℕ) (place : ℕ) → place ≤ length order → All (λ s. s < length slots) order
      → in_slots (insert order place (length slots)) (slots ++ t ∷ []) ≡ insert (in_slots order slots) place t
  order-inserted [] zero low all = ap (λ u. u ∷ []) (get_or_push slots t no_tab (length slots) refl)
  order-inserted [] (suc place) low all = absurd (omega arith)
  order-inserted (s ∷ ss) zero low all =
      ap (λ u. u ∷ in_slots (s ∷ ss) (slots ++ t ∷ [])) (get_or_push slots t no_tab (length slots) refl)
      ∙ ap (λ us. t ∷ us) (behind (s ∷ ss) all)
  order-inserted (s ∷ ss) (suc place) low all =
      ap (λ u. u ∷ in_slots (insert ss place (length slots)) (slots ++ t ∷ [])) (get_or_append_left slots (t ∷ []) no_tab s (all 0 0 (omega arith)))
      ∙ ap (λ us. in_slot slots s ∷ us) (order-inserted ss place (omega arith) (λ k d low. all (suc k) d (omega arith)))

-- each slot is there still
there-inserted : (order : List ℕ) (place n : ℕ) → place ≤ length order → All (λ s. s < n) order → All (λ s. s < n + 1) (insert order place n)
there-inserted order place n low all = λ k d within. by k d within (three k place)
  where
    by : (k d : ℕ) → k < length (insert order place n) → (k < place) ⊎ ((k ≡ place) ⊎ (place < k)) → get_or (insert order place n) k d < n + 1
    by k d within (inl front) =
        let same : get_or (insert order place n) k d ≡ get_or order k d = get_or-insert_below order place n d k front low in
        let less : get_or order k d < n = all k d (omega arith) in
        omega arith
    by k d within (inr (inl here)) =
        let same : get_or (insert order place n) k d ≡ n = ap (λ j. get_or (insert order place n) j d) here ∙ get_or-insert_at order place n d low in
        omega arith
    by k d within (inr (inr back)) =
        let long : length (insert order place n) ≡ length order + 1 = length-insert order place n low in
        let next : k ≡ k - 1 + 1 = omega arith in
        let same : get_or (insert order place n) k d ≡ get_or order (k - 1) d =
        ap (λ j. get_or (insert order place n) j d) next ∙ get_or-insert_above order place n d (k - 1) (omega arith) low in
        let less : get_or order (k - 1) d < n = all (k - 1) d (omega arith) in
        omega arith

pub slots-inserted : (order made : Vec ℕ) (slots more : Vec PlainOpenTab) (room place : ℕ) (t : PlainOpenTab) → AreSlots order slots room → 0 < room
    → place ≤ length order.items
    → made.items ≡ insert order.items place (length slots.items) → vec_capacity made ≡ vec_capacity order
    → more.items ≡ slots.items ++ t ∷ [] → vec_capacity slots ≤ vec_capacity more
    → AreSlots made more (room - 1)
slots-inserted order made slots more room place t are some low inserted capacity pushed capacity_of =
    let one : length more.items ≡ length slots.items + 1 = ap length pushed ∙ length_push slots.items t in
    let other : length made.items ≡ length order.items + 1 = ap length inserted ∙ length-insert order.items place (length slots.items) low in
    let each : length order.items ≡ length slots.items = are.each in
    let order_room : length slots.items + room ≤ vec_capacity order = are.order_room in
    let slots_room : length slots.items + room ≤ vec_capacity slots = are.slots_room in
    let fits : length slots.items + room ≤ 65536 = are.fits in
    record {
      each = omega arith;
      there =
          subst (λ (l : List ℕ). All (λ s. s < length more.items) l) (sym inserted)
          (subst (λ n. All (λ s. s < n) (insert order.items place (length slots.items))) (sym one)
          (there-inserted order.items place (length slots.items) low are.there));
      order_room = omega arith;
      slots_room = omega arith;
      fits = omega arith;
    }

-- ---- another number for a slot

pub renamed-none : (from to : ℕ) (xs : List ℕ) → ((k : ℕ) → k < length xs → get_or xs k 0 ≢ from) → xs ≡ renamed from to xs
renamed-none from to [] none = refl
renamed-none from to (x ∷ xs) none =
    ap (λ l. x ∷ l) (renamed-none from to xs (λ k low. none (suc k) (omega arith))) ∙ by (eqb_tells x from)
  where
    by : (((x == from) ≡ true) × (x ≡ from)) ⊎ (((x == from) ≡ false) × (x ≢ from))
        → x ∷ renamed from to xs ≡ (if x == from then to else x) ∷ renamed from to xs
    by (inl is) = absurd (none 0 (omega arith) is.1)
    by (inr isnt) = ap (λ b. (if b then to else x) ∷ renamed from to xs) (sym isnt.0)

pub renamed-one : (from to : ℕ) (xs : List ℕ) (place : ℕ) → place < length xs → get_or xs place 0 ≡ from
    → ((k : ℕ) → k < length xs → get_or xs k 0 ≡ from → k ≡ place) → set xs place to ≡ renamed from to xs
renamed-one from to [] place within is only = absurd (omega arith)
renamed-one from to (x ∷ xs) zero within is only =
    ap (λ l. to ∷ l) (renamed-none from to xs (λ k low own. let no : suc k ≡ zero = only (suc k) (omega arith) own in omega arith))
    ∙ ap (λ b. (if b then to else x) ∷ renamed from to xs) (sym (eq-eqb x from is))
renamed-one from to (x ∷ xs) (suc place) within is only =
    ap (λ l. x ∷ l) (renamed-one from to xs place (omega arith) is
    (λ k low own. let next : suc k ≡ suc place = only (suc k) (omega arith) own in omega arith))
    ∙ by (eqb_tells x from)
  where
    by : (((x == from) ≡ true) × (x ≡ from)) ⊎ (((x == from) ≡ false) × (x ≢ from))
        → x ∷ renamed from to xs ≡ (if x == from then to else x) ∷ renamed from to xs
    by (inl own) = let no : zero ≡ suc place = only 0 (omega arith) own.1 in absurd (omega arith)
    by (inr isnt) = ap (λ b. (if b then to else x) ∷ renamed from to xs) (sym isnt.0)

-- ---- a tab less

module _ (order : List ℕ) (slots left : List PlainOpenTab) (place last : ℕ) (rising : is_rising (plain_of (in_slots order slots)) ≡ true)
    (within : place < length order) (each : length order ≡ length slots) (all : All (λ s. s < length slots) order) (ends : last + 1 ≡ length slots)
    (filled : get_or order place 0 < last → get_or left (get_or order place 0) no_tab ≡ get_or slots last no_tab)
    (others : (k : ℕ) → k ≢ get_or order place 0 → k < last → get_or left k no_tab ≡ get_or slots k no_tab) where
  slot : ℕ
  slot = get_or order place 0

  -- a slot that stands elsewhere is another
  elsewhere : (j : ℕ) → j < length order → j ≢ place → get_or order j 0 ≢ get_or order place 0
  elsewhere j low differ = λ same. differ (one_slot order slots rising j place low within same)

  moved_by : (s : ℕ) → s < length slots → s ≢ get_or order place 0 → (((s == last) ≡ true) × (s ≡ last)) ⊎ (((s == last) ≡ false) × (s ≢ last))
      → (in_slot left (if s == last then get_or order place 0 else s) ≡ in_slot slots s) × ((if s == last then get_or order place 0 else s) < last)
  moved_by s low differ (inl is) =
      let first : get_or order place 0 < length slots = all place 0 within in
      let apart : get_or order place 0 ≢ last = λ same. differ (is.1 ∙ sym same) in
      let less : get_or order place 0 < last = grind arith in (
        ap (λ b. in_slot left (if b then get_or order place 0 else s)) is.0 ∙ filled less ∙ ap (in_slot slots) (sym is.1),
        subst (λ b. (if b then get_or order place 0 else s) < last) (sym is.0) less,
      )
  moved_by s low differ (inr isnt) =
      let apart : s ≢ last = isnt.1 in
      let less : s < last = grind arith in (
        ap (λ b. in_slot left (if b then get_or order place 0 else s)) isnt.0 ∙ others s differ less,
        subst (λ b. (if b then get_or order place 0 else s) < last) (sym isnt.0) less,
      )

  moved : (j : ℕ) → j < length order → j ≢ place
      → (in_slot left (get_or (renamed last (get_or order place 0) order) j 0) ≡ in_slot slots (get_or order j 0))
      × (get_or (renamed last (get_or order place 0) order) j 0 < last)
  moved j low differ =
      subst (λ s. (in_slot left s ≡ in_slot slots (get_or order j 0)) × (s < last))
      (sym (get_or-map (λ s. if s == last then get_or order place 0 else s) order j 0 0 low))
      (moved_by (get_or order j 0) (all j 0 low) (elsewhere j low differ) (eqb_tells (get_or order j 0) last))

  renamed_length : length (renamed last (get_or order place 0) order) ≡ length order
  renamed_length = length-map order (λ s. if s == last then get_or order place 0 else s)

  -- where the slot of a place stood before, and that it is there still
  before : (k : ℕ) (d : ℕ) → k < last → (k < place) ⊎ ((k ≡ place) ⊎ (place < k))
      → (j : ℕ) × (j < length order) × (j ≢ place)
      × (get_or (remove (renamed last (get_or order place 0) order) place) k d ≡ get_or (renamed last (get_or order place 0) order) j 0)
      × (get_or (remove (in_slots order slots) place) k no_tab ≡ in_slot slots (get_or order j 0))
  before k d low (inl front) =
      let inside : place < length (renamed last (get_or order place 0) order) = subst (λ n. place < n) (sym renamed_length) within in
      let tabs : length (in_slots order slots) ≡ length order = length-map order (in_slot slots) in
      let there : k < length order = omega arith in
      let apart : k ≢ place = λ same. omega arith in (
        k,
        there,
        apart,
        get_or-remove_below (renamed last (get_or order place 0) order) place d k front inside
            ∙ get_or_default (renamed last (get_or order place 0) order) k d 0 (subst (λ n. k < n) (sym renamed_length) there),
        get_or-remove_below (in_slots order slots) place no_tab k front (subst (λ n. place < n) (sym tabs) within) ∙ order-at order slots k no_tab there,
      )
  before k d low (inr behind) =
      let inside : place < length (renamed last (get_or order place 0) order) = subst (λ n. place < n) (sym renamed_length) within in
      let tabs : length (in_slots order slots) ≡ length order = length-map order (in_slot slots) in
      let from : place ≤ k = at_least behind in
      let there : k + 1 < length order = omega arith in
      let apart : k + 1 ≢ place = λ same. omega arith in (
        k + 1,
        there,
        apart,
        get_or-remove_above (renamed last (get_or order place 0) order) place d k from inside
            ∙ get_or_default (renamed last (get_or order place 0) order) (k + 1) d 0 (subst (λ n. k + 1 < n) (sym renamed_length) there),
        get_or-remove_above (in_slots order slots) place no_tab k from (subst (λ n. place < n) (sym tabs) within) ∙ order-at order slots (k + 1) no_tab there,
      )
    where
      at_least : (k ≡ place) ⊎ (place < k) → place ≤ k
      at_least (inl same) = omega arith
      at_least (inr more) = omega arith

  shorter : length (remove (renamed last (get_or order place 0) order) place) ≡ last
  shorter =
      let less : length (remove (renamed last (get_or order place 0) order) place) + 1 ≡ length (renamed last (get_or order place 0) order) =
      length-remove (renamed last (get_or order place 0) order) place (subst (λ n. place < n) (sym renamed_length) within) in
      let same : length (renamed last (get_or order place 0) order) ≡ length order = renamed_length in
      omega arith

  pub order-removed : in_slots (remove (renamed last (get_or order place 0) order) place) left ≡ remove (in_slots order slots) place
  order-removed =
      ext_get_or no_tab (in_slots (remove (renamed last (get_or order place 0) order) place) left) (remove (in_slots order slots) place)
      equal (λ k low. by k (subst (λ n. k < n) (length-map (remove (renamed last (get_or order place 0) order) place) (in_slot left) ∙ shorter) low))
    where
      equal : length (in_slots (remove (renamed last (get_or order place 0) order) place) left) ≡ length (remove (in_slots order slots) place)
      equal =
          let one : length (in_slots (remove (renamed last (get_or order place 0) order) place) left) ≡ last =
          length-map (remove (renamed last (get_or order place 0) order) place) (in_slot left) ∙ shorter in
          let tabs : length (in_slots order slots) ≡ length order = length-map order (in_slot slots) in
          let other : length (remove (in_slots order slots) place) + 1 ≡ length (in_slots order slots) =
          length-remove (in_slots order slots) place (subst (λ n. place < n) (sym tabs) within) in
          omega arith

      by : (k : ℕ) → k < last → get_or (in_slots (remove (renamed last (get_or order place 0) order) place) left) k no_tab ≡ get_or (remove (in_slots order slots) place) k no_tab
      by k low =
          let stood = before k 0 low (three k place) in
          order-at (remove (renamed last (get_or order place 0) order) place) left k no_tab (subst (λ n. k < n) (sym shorter) low)
          ∙ ap (in_slot left) stood.3
          ∙ (moved stood.0 stood.1 stood.2).0
          ∙ sym stood.4

  there_removed : All (λ s. s < last) (remove (renamed last (get_or order place 0) order) place)
  there_removed = λ k d low.
      let stood = before k d (subst (λ n. k < n) shorter low) (three k place) in
      subst (λ s. s < last) (sym stood.3) (moved stood.0 stood.1 stood.2).1

  pub slots-removed : (old made : Vec ℕ) (tabs fewer : Vec PlainOpenTab) (room : ℕ) → AreSlots old tabs room → old.items ≡ order → tabs.items ≡ slots
      → made.items ≡ remove (renamed last (get_or order place 0) order) place → vec_capacity made ≡ vec_capacity old
      → length fewer.items ≡ last → vec_capacity fewer ≡ vec_capacity tabs
      → AreSlots made fewer (room + 1)
  slots-removed old made tabs fewer room are is_order is_slots removed capacity less capacity_of =
      let one : length made.items ≡ last = ap length removed ∙ shorter in
      let long : length tabs.items ≡ length slots = ap length is_slots in
      let order_room : length tabs.items + room ≤ vec_capacity old = are.order_room in
      let slots_room : length tabs.items + room ≤ vec_capacity tabs = are.slots_room in
      let fits : length tabs.items + room ≤ 65536 = are.fits in
      record {
        each = one ∙ sym less;
        there =
            subst (λ (l : List ℕ). All (λ s. s < length fewer.items) l) (sym removed)
            (subst (λ n. All (λ s. s < n) (remove (renamed last (get_or order place 0) order) place)) (sym less) there_removed);
        order_room = omega arith;
        slots_room = omega arith;
        fits = omega arith;
      }

-- ---- the documents of the tabs up to a place

pub documents-next : (ts : List PlainOpenTab) (place : ℕ) (t : PlainOpenTab) → place < length ts → t ≡ get_or ts place t
    → documents (take (place + 1) (plain_of ts)) ≡ documents (take place (plain_of ts)) ++ documents_in t.plain
documents-next ts place t within read =
    let long : length (plain_of ts) ≡ length ts = length-map ts (λ u. u.plain) in
    ap documents (take_more (plain_of ts) place t.plain (omega arith))
    ∙ flat_map-append documents_in (take place (plain_of ts)) (get_or (plain_of ts) place t.plain ∷ [])
    ∙ ap (λ l. documents (take place (plain_of ts)) ++ l) (append-nil (documents_in (get_or (plain_of ts) place t.plain)))
    ∙ ap (λ u. documents (take place (plain_of ts)) ++ documents_in u) (get_or-map (λ u. u.plain) ts place t t.plain within ∙ ap (λ u. u.plain) (sym read))
