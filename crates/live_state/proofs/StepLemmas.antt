-- A write at the place of a tab, as contracts see it.
use Rattle.std.proofs.Common.{◌≡◌, ◌<◌, ◌≤◌, ◌+◌, ◌-◌, ℕ, suc, Bool, true, false, List, [], ◌∷◌, ◌++◌, length, take, drop, get_or, set, map, refl, ap, sym, subst, ◌∙◌, arith, Some, None, Option, Result, Ok, Err, MatchResult}
use Rattle.std.specs.Prelude.{◌||◌, if◌then◌else◌, is_err, is_some, nat_lt, option_map, slice_get}
use Rattle.std.specs.List.{insert, remove}
use Rattle.std.proofs.lemmas.Bool.Decides.{nat_tests}
use Rattle.std.proofs.lemmas.List.{drop-map, map-append, map-set, take-map}
use Rattle.std.proofs.lemmas.Option.{slice_get-map, slice_get_read}
use Rattle.frame_tree.specs.Tree.{PlainFrame}
use Rattle.live_state.specs.ExistingQueues.{PlainOpenTab}
use Rattle.live_state.specs.Tabs.{PlainTab, empty_queue, is_fresh, is_open, is_rising, made_tab, queue_after, queue_of, tab_at, tabs_put, with_tab, without_tab}
use Rattle.live_state.specs.TabPlaces.{IsAt, IsGap}
use Rattle.live_state.proofs.TabPlaceLemmas.{found-at, found-gap, put-at, put-gap, rising-with, standing, without-at}
use Rattle.live_state.proofs.SearchLemmas.{plain_of}

module _ (n : ℕ) (ts : List PlainOpenTab) (place : ℕ) (at : IsAt n (plain_of ts) place) where
  -- the tab at the place is gone
  pub dropped-at : plain_of (remove ts place) ≡ without_tab n (plain_of ts)
  dropped-at =
      map-append (λ t. t.plain) (take place ts) (drop (suc place) ts)
      ∙ ap (λ l. l ++ plain_of (drop (suc place) ts)) (sym (take-map (λ t. t.plain) place ts))
      ∙ ap (λ l. take place (plain_of ts) ++ l) (sym (drop-map (λ t. t.plain) (suc place) ts))
      ∙ sym (without-at n (plain_of ts) place at)

  module _ (old : PlainOpenTab) (within : place < length ts) (read : old ≡ get_or ts place old) where
    pub plain_here : slice_get (plain_of ts) place ≡ Some old.plain
    plain_here =
        slice_get-map (λ t. t.plain) ts place
        ∙ ap (option_map (λ t. t.plain)) (slice_get_read ts (length ts) place old refl within read)

    -- the tab that stands at the place
    pub tab-here : tab_at n (plain_of ts) ≡ Some old.plain
    tab-here = found-at n (plain_of ts) place at ∙ plain_here

    pub open-here : is_open n (plain_of ts) ≡ true
    open-here = ap is_some tab-here

    pub number-here : old.plain.number ≡ n
    number-here =
        let same : ◌≡◌ {A = Option ℕ} (Some old.plain.number) (Some n) = sym (ap (option_map (λ t. t.number)) plain_here) ∙ at.here in
        cc

    -- the tab at the place is another of its number
    pub written-at : (new : PlainOpenTab) → new.plain.number ≡ n → plain_of (set ts place new) ≡ with_tab new.plain (plain_of ts)
    written-at new same =
        map-set (λ t. t.plain) ts place new
        ∙ put-at new.plain (plain_of ts) place (subst (λ m. IsAt m (plain_of ts) place) (sym same) at)

module _ (n : ℕ) (ts : List PlainOpenTab) (place : ℕ) (gap : IsGap n (plain_of ts) place) where
  pub closed-gap : is_open n (plain_of ts) ≡ false
  closed-gap = ap is_some (found-gap n (plain_of ts) place gap)

  -- a tab is put into the gap
  pub inserted-gap : (new : PlainOpenTab) → new.plain.number ≡ n → plain_of (insert ts place new) ≡ with_tab new.plain (plain_of ts)
  inserted-gap new same =
      map-append (λ t. t.plain) (take place ts) (new ∷ drop place ts)
      ∙ ap (λ l. l ++ new.plain ∷ plain_of (drop place ts)) (sym (take-map (λ t. t.plain) place ts))
      ∙ ap (λ l. take place (plain_of ts) ++ new.plain ∷ l) (sym (drop-map (λ t. t.plain) place ts))
      ∙ put-gap new.plain (plain_of ts) place (subst (λ m. IsGap m (plain_of ts) place) (sym same) gap)

  room_by : (closed : Bool) (room : ℕ) → closed ≡ false → (closed || nat_lt 0 room) ≡ true → 0 < room
  room_by true room isnt reserved = absurd (cc isnt)
  room_by false room isnt reserved = grind (arith, nat_tests)

  -- where there is no tab, what is reserved is room
  pub room-gap : (room : ℕ) → (is_open n (plain_of ts) || nat_lt 0 room) ≡ true → 0 < room
  room-gap room reserved = room_by (is_open n (plain_of ts)) room closed-gap reserved

-- the tabs made of the ones before, in the place of one that is open
pub put-open : (n : ℕ) (frames : List PlainFrame) (fresh : Option ℕ) (ts : List PlainOpenTab) (place : ℕ) (at : IsAt n (plain_of ts) place)
    (old new : PlainOpenTab) → place < length ts → old ≡ get_or ts place old
    → new.plain ≡ made_tab old.plain.number frames fresh (Some old.plain) → plain_of (set ts place new) ≡ tabs_put n frames fresh (plain_of ts)
put-open n frames fresh ts place at old new within read made =
    let number : old.plain.number ≡ n = number-here n ts place at old within read in
    written-at n ts place at old within read new (ap (λ t. t.number) made ∙ number)
    ∙ ap (λ t. with_tab t (plain_of ts)) made
    ∙ ap (λ m. with_tab (made_tab m frames fresh (Some old.plain)) (plain_of ts)) number
    ∙ ap (λ o. with_tab (made_tab n frames fresh o) (plain_of ts)) (sym (tab-here n ts place at old within read))

empty_by : (fresh : Bool) (frame : ℕ) → (if fresh then empty_queue frame else queue_of frame []) ≡ empty_queue frame
empty_by true frame = refl
empty_by false frame = refl

map_empty : (fresh : Option ℕ) (frames : List PlainFrame)
    → map (λ f. queue_after None [] f.frame) frames ≡ map (λ f. queue_after fresh [] f.frame) frames
map_empty fresh [] = refl
map_empty fresh (f ∷ fs) =
    ap (λ q. q ∷ map (λ f. queue_after None [] f.frame) fs) (sym (empty_by (is_fresh fresh f.frame) f.frame))
    ∙ ap (λ l. queue_after fresh [] f.frame ∷ l) (map_empty fresh fs)

-- a tab that was not open is put
pub put-closed : (n : ℕ) (frames : List PlainFrame) (fresh : Option ℕ) (ts : List PlainOpenTab) (place : ℕ) → IsGap n (plain_of ts) place
    → (new : PlainOpenTab) → new.plain ≡ made_tab n frames None None → plain_of (insert ts place new) ≡ tabs_put n frames fresh (plain_of ts)
put-closed n frames fresh ts place gap new made =
    inserted-gap n ts place gap new (ap (λ t. t.number) made)
    ∙ ap (λ t. with_tab t (plain_of ts)) made
    ∙ ap (λ qs. with_tab (record { number = n; frames = frames; queues = qs }) (plain_of ts)) (map_empty fresh frames)
    ∙ ap (λ o. with_tab (made_tab n frames fresh o) (plain_of ts)) (sym (found-gap n (plain_of ts) place gap))

-- whatever tab is put, the numbers rise
pub rising-put : (n : ℕ) (frames : List PlainFrame) (fresh : Option ℕ) (before after : List PlainTab) → is_rising before ≡ true
    → after ≡ tabs_put n frames fresh before → is_rising after ≡ true
rising-put n frames fresh before after rising is =
    subst (λ ts. is_rising ts ≡ true) (sym is) (rising-with (made_tab n frames fresh (tab_at n before)) before rising)

-- a tab that was not found is not open
pub closed-found : (n : ℕ) (ts : List PlainOpenTab) (r : Result ℕ ℕ) → MatchResult r (IsAt n (plain_of ts)) (IsGap n (plain_of ts))
    → is_err r ≡ true → is_open n (plain_of ts) ≡ false
closed-found n ts (Ok place) at is = absurd (cc is)
closed-found n ts (Err place) gap is = closed-gap n ts place gap

-- a tab that was found is open
pub open-found : (n : ℕ) (ts : List PlainOpenTab) (r : Result ℕ ℕ) → MatchResult r (IsAt n (plain_of ts)) (IsGap n (plain_of ts))
    → is_err r ≡ false → is_open n (plain_of ts) ≡ true
open-found n ts (Ok place) at isnt =
    ap is_some (found-at n (plain_of ts) place at ∙ (standing n (slice_get (plain_of ts) place) at.here).1)
open-found n ts (Err place) gap isnt = absurd (cc isnt)
