-- The open tabs after a write to the queues of one.
use Rattle.std.proofs.Common.{◌≡◌, ◌<◌, ℕ, suc, Bool, true, false, cond, not, List, ◌∷◌, ◌++◌, length, take, drop, get_or, set, map, Option, Some, None, refl, ap, sym, subst, ◌∙◌, inl, inr, arith}
use Rattle.std.specs.Prelude.{◌==◌, ◌≢◌, ◌⊎◌, find, nat_lt, option_map, slice_get}
use Rattle.std.specs.List.{insert, list_all, position_or_len, remove}
use Rattle.std.proofs.lemmas.Bool.{eq-eqb}
use Rattle.std.proofs.lemmas.Bool.Decides.{eqb_tells, nat_tests}
use Rattle.std.proofs.lemmas.List.{map-append, map-set, set_split, take-append-drop, take-map}
use Rattle.std.proofs.lemmas.List.Folds.{find_at, list_all-map}
use Rattle.std.proofs.lemmas.Option.{slice_get_read, slice_get_within}
use Rattle.agent_base.specs.declared.refusals.Label.{Label}
use Rattle.live_state.specs.ExistingQueues.{PlainOpenTab, ready_tab}
use Rattle.live_state.specs.TabPlaces.{IsAt, IsGap, are_lower}
use Rattle.live_state.specs.Queues.{is_among, ready_frames}
use Rattle.live_state.specs.Tabs.{PlainTab, is_rising, tab_at}
use Rattle.live_state.proofs.ListLemmas.{all_weaker, find-map, find_past, find-written, first-at, map-none, split_at}
use Rattle.live_state.proofs.TabPlaceLemmas.{found-gap, higher_isnt_it, lower_isnt_it, rising-with}
use Rattle.live_state.proofs.SearchLemmas.{plain_of}
use Rattle.live_state.proofs.StepLemmas.{number-here, plain_here, written-at}

-- the open tab of a number, with its ready frames
abbrev pub found : ℕ → List PlainOpenTab → Option PlainOpenTab
found n ts = find (λ t. t.plain.number == n) ts

-- a frame of a tab is ready
abbrev pub ready_in : ℕ → Option PlainOpenTab → Bool
ready_in frame None = false
ready_in frame (Some tab) = is_among frame tab.ready

ready_by : (frame : ℕ) (o : Option PlainOpenTab) → is_among frame (ready_frames (option_map ready_tab o)) ≡ ready_in frame o
ready_by frame None = refl
ready_by frame (Some t) = refl

pub ready-found : (n frame : ℕ) (ts : List PlainOpenTab)
    → is_among frame (ready_frames (find (λ t. t.number == n) (map ready_tab ts))) ≡ ready_in frame (found n ts)
ready-found n frame ts =
    ap (λ o. is_among frame (ready_frames o)) (find-map ready_tab (λ t. t.number == n) ts) ∙ ready_by frame (found n ts)

pub tab-found : (n : ℕ) (ts : List PlainOpenTab) → tab_at n (plain_of ts) ≡ option_map (λ t. t.plain) (found n ts)
tab-found n ts = find-map (λ t. t.plain) (λ t. t.number == n) ts

none_by : (o : Option PlainOpenTab) → option_map (λ t. t.plain) o ≡ None → o ≡ None
none_by None is = refl
none_by (Some t) is = absurd (cc is)

pub found-none : (n : ℕ) (ts : List PlainOpenTab) (place : ℕ) → IsGap n (plain_of ts) place → found n ts ≡ None
found-none n ts place gap = none_by (found n ts) (sym (tab-found n ts) ∙ found-gap n (plain_of ts) place gap)

module _ (n : ℕ) (ts : List PlainOpenTab) (place : ℕ) (at : IsAt n (plain_of ts) place) (old : PlainOpenTab) (within : place < length ts) (read : old ≡ get_or ts place old) where
  here : slice_get ts place ≡ Some old
  here = slice_get_read ts (length ts) place old refl within read

  before : list_all (λ t. not (t.plain.number == n)) (take place ts) ≡ true
  before =
      all_weaker (λ t. nat_lt t.plain.number n) (λ t. not (t.plain.number == n)) (λ t is. lower_isnt_it t.plain.number n is) (take place ts)
      (sym (list_all-map (λ t. nat_lt t.number n) (λ t. t.plain) (take place ts))
      ∙ ap (are_lower n) (sym (take-map (λ t. t.plain) place ts)) ∙ at.lower)

  first : place ≡ position_or_len (λ t. t.plain.number == n) ts
  first =
      first-at (λ t. t.plain.number == n) ts place old before here
      (eq-eqb old.plain.number n (number-here n ts place at old within read))

  pub found-here : found n ts ≡ Some old
  found-here = find_at (λ t. t.plain.number == n) ts ∙ ap (slice_get ts) (sym first) ∙ here

  module _ (new : PlainOpenTab) (same : new.plain.number ≡ n) where
    pub found-written : (m : ℕ) → found m (set ts place new) ≡ cond (n == m) (Some new) (found m ts)
    found-written m = find-written (λ t. t.plain.number) n ts place first within old read (number-here n ts place at old within read) new same m

-- ---- the documents that are ready

-- the queue of a document is ready
abbrev pub live_ready : Label → List PlainOpenTab → Bool
live_ready at ts = is_among at.frame (ready_frames (find (λ t. t.number == at.tab) (map ready_tab ts)))

module _ (n : ℕ) (ts : List PlainOpenTab) (place : ℕ) (at : IsAt n (plain_of ts) place) (old : PlainOpenTab) (within : place < length ts) (read : old ≡ get_or ts place old) where
  -- a document of the tab is ready
  pub ready-at : (l : Label) → l.tab ≡ n → live_ready l ts ≡ is_among l.frame old.ready
  ready-at l here =
      ready-found l.tab l.frame ts
      ∙ ap (λ m. ready_in l.frame (found m ts)) here
      ∙ ap (ready_in l.frame) (found-here n ts place at old within read)

  module _ (new : PlainOpenTab) (same : new.plain.number ≡ n) where
    after_set : (l : Label) → live_ready l (set ts place new) ≡ ready_in l.frame (cond (n == l.tab) (Some new) (found l.tab ts))
    after_set l =
        ready-found l.tab l.frame (set ts place new)
        ∙ ap (ready_in l.frame) (found-written n ts place at old within read new same l.tab)

    pub ready-set : (l : Label) → l.tab ≡ n → live_ready l (set ts place new) ≡ is_among l.frame new.ready
    ready-set l here =
        after_set l ∙ ap (λ b. ready_in l.frame (cond b (Some new) (found l.tab ts))) (eq-eqb n l.tab (sym here))

    stays_step : (l : Label) → (l.tab ≡ n → is_among l.frame old.ready ≡ true → is_among l.frame new.ready ≡ true)
        → (((n == l.tab) ≡ true) × (n ≡ l.tab)) ⊎ (((n == l.tab) ≡ false) × (n ≢ l.tab))
        → live_ready l ts ≡ true → ready_in l.frame (cond (n == l.tab) (Some new) (found l.tab ts)) ≡ true
    stays_step l stays (inl equal) ready =
        ap (λ b. ready_in l.frame (cond b (Some new) (found l.tab ts))) equal.0
        ∙ stays (sym equal.1) (sym (ready-at l (sym equal.1)) ∙ ready)
    stays_step l stays (inr differ) ready =
        ap (λ b. ready_in l.frame (cond b (Some new) (found l.tab ts))) differ.0
        ∙ sym (ready-found l.tab l.frame ts)
        ∙ ready

    -- what was ready stays so
    pub ready-kept : (l : Label) → (l.tab ≡ n → is_among l.frame old.ready ≡ true → is_among l.frame new.ready ≡ true)
        → live_ready l ts ≡ true → live_ready l (set ts place new) ≡ true
    ready-kept l stays ready = after_set l ∙ stays_step l stays (eqb_tells n l.tab) ready

    -- the numbers rise still
    pub rising-set : is_rising (plain_of ts) ≡ true → is_rising (plain_of (set ts place new)) ≡ true
    rising-set rising =
        subst (λ us. is_rising us ≡ true) (sym (written-at n ts place at old within read new same)) (rising-with new.plain (plain_of ts) rising)

pub ready-gap : (n : ℕ) (ts : List PlainOpenTab) (place : ℕ) → IsGap n (plain_of ts) place → (l : Label) → l.tab ≡ n → live_ready l ts ≡ false
ready-gap n ts place gap l here =
    ready-found l.tab l.frame ts ∙ ap (λ m. ready_in l.frame (found m ts)) here ∙ ap (ready_in l.frame) (found-none n ts place gap)

-- ---- a tab more, or less

-- the tab of another number is found past this one
other-found : (n m : ℕ) (front : List PlainOpenTab) (t : PlainOpenTab) (rest : List PlainOpenTab) → t.plain.number ≡ n → (m == n) ≡ false
    → found m (front ++ t ∷ rest) ≡ found m (front ++ rest)
other-found n m front t rest same differ =
    let fails : t.plain.number == m ≡ false = grind (arith, nat_tests) in find_past (λ u. u.plain.number == m) front t rest fails

-- what was ready is so beside a new tab
pub ready-inserted : (n : ℕ) (ts : List PlainOpenTab) (place : ℕ) → IsGap n (plain_of ts) place → (new : PlainOpenTab) → new.plain.number ≡ n → (l : Label)
    → live_ready l ts ≡ true → live_ready l (insert ts place new) ≡ true
ready-inserted n ts place gap new same l ready = by (eqb_tells l.tab n)
  where
    by : (((l.tab == n) ≡ true) × (l.tab ≡ n)) ⊎ (((l.tab == n) ≡ false) × (l.tab ≢ n)) → live_ready l (insert ts place new) ≡ true
    by (inl equal) = let no : false ≡ true = sym (ready-gap n ts place gap l equal.1) ∙ ready in absurd (cc no)
    by (inr differ) =
        ready-found l.tab l.frame (insert ts place new)
        ∙ ap (ready_in l.frame)
        (other-found n l.tab (take place ts) new (drop place ts) same differ.0 ∙ ap (found l.tab) (take-append-drop place ts))
        ∙ sym (ready-found l.tab l.frame ts)
        ∙ ready

-- what was ready in another tab is so without this one
pub ready-removed : (n : ℕ) (ts : List PlainOpenTab) (place : ℕ) → IsAt n (plain_of ts) place → (old : PlainOpenTab) → place < length ts → old ≡ get_or ts place old
    → (l : Label) → (l.tab == n) ≡ false → live_ready l ts ≡ true → live_ready l (remove ts place) ≡ true
ready-removed n ts place at old within read l differ ready =
    ready-found l.tab l.frame (remove ts place)
    ∙ ap (ready_in l.frame)
    (sym (ap (found l.tab) (split_at ts place old (here n ts place at old within read))
    ∙ other-found n l.tab (take place ts) old (drop (suc place) ts) (number-here n ts place at old within read) differ))
    ∙ sym (ready-found l.tab l.frame ts)
    ∙ ready

-- ---- a map that changes one tab

module _ (n : ℕ) (change : PlainTab → PlainTab) (others : (t : PlainTab) → not (t.number == n) ≡ true → change t ≡ t) where
  pub changed-one : (ts : List PlainTab) (place : ℕ) (t : PlainTab) → IsAt n ts place → slice_get ts place ≡ Some t
      → set ts place (change t) ≡ map change ts
  changed-one ts place t at is =
      set_split ts place (change t) (slice_get_within ts place t is)
      ∙ sym (ap (map change) (split_at ts place t is)
      ∙ map-append change (take place ts) (t ∷ drop (suc place) ts)
      ∙ ap (λ l. l ++ change t ∷ map change (drop (suc place) ts))
      (map-none (λ t. not (t.number == n)) change (take place ts)
      (all_weaker (λ t. nat_lt t.number n) (λ t. not (t.number == n)) (λ t is. lower_isnt_it t.number n is) (take place ts) at.lower) others)
      ∙ ap (λ l. take place ts ++ change t ∷ l)
      (map-none (λ t. not (t.number == n)) change (drop (suc place) ts)
      (all_weaker (λ t. nat_lt n t.number) (λ t. not (t.number == n)) (λ t is. higher_isnt_it t.number n is) (drop (suc place) ts) at.higher) others))

  pub changed-none_of : (ts : List PlainTab) (place : ℕ) → IsGap n ts place → ts ≡ map change ts
  changed-none_of ts place gap =
      sym (ap (map change) (sym (take-append-drop place ts))
      ∙ map-append change (take place ts) (drop place ts)
      ∙ ap (λ l. l ++ map change (drop place ts))
      (map-none (λ t. not (t.number == n)) change (take place ts)
      (all_weaker (λ t. nat_lt t.number n) (λ t. not (t.number == n)) (λ t is. lower_isnt_it t.number n is) (take place ts) gap.lower) others)
      ∙ ap (λ l. take place ts ++ l)
      (map-none (λ t. not (t.number == n)) change (drop place ts)
      (all_weaker (λ t. nat_lt n t.number) (λ t. not (t.number == n)) (λ t is. higher_isnt_it t.number n is) (drop place ts) gap.higher) others)
      ∙ take-append-drop place ts)

  -- the tabs, as contracts see them, where one is changed
  pub changed-set : (ts : List PlainOpenTab) (place : ℕ) (at : IsAt n (plain_of ts) place) (old new : PlainOpenTab) → place < length ts → old ≡ get_or ts place old
      → new.plain ≡ change old.plain → plain_of (set ts place new) ≡ map change (plain_of ts)
  changed-set ts place at old new within read is =
      map-set (λ t. t.plain) ts place new
      ∙ ap (set (plain_of ts) place) is
      ∙ changed-one (plain_of ts) place old.plain at (plain_here n ts place at old within read)
