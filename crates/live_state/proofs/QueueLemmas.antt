-- A write to one of the queues that a tab holds.
use Rattle.std.proofs.Common.{◌≡◌, ◌+◌, ◌<◌, ◌≤◌, ℕ, Bool, true, false, cond, not, List, [], ◌∷◌, length, take, drop, get_or, set, Option, Some, None, refl, ap, sym, subst, ◌∙◌, arith, inl, inr, Result, Ok, Err}
use Rattle.std.specs.Prelude.{◌==◌, ◌≢◌, ◌⊎◌, nat_lt, slice_get, if◌then◌else◌, IsOk, MatchResult, OnErr, OnOk}
use Rattle.std.specs.List.{insert, list_all, position, position_or_len}
use Rattle.std.specs.List.Sorted.{IsBinarySearchResult, IsSearchInRange}
use Rattle.std.specs.Option.{option_or}
use Rattle.std.specs.Ordering.{nat_cmp}
use Rattle.std.specs.declared.cmp.Ordering.TheVariants.{Equal}
use Rattle.std.proofs.lemmas.Bool.{eq-eqb, ne_eqb}
use Rattle.std.proofs.lemmas.Bool.Decides.{eqb_tells, nat_tests}
use Rattle.std.proofs.lemmas.List.{append-nil, take-append-drop}
use Rattle.std.proofs.lemmas.List.Edits.{get_or-insert_at, length-insert}
use Rattle.std.proofs.lemmas.List.Folds.{find-append, find_at}
use Rattle.std.proofs.lemmas.List.Quantifiers.{position-Some}
use Rattle.std.proofs.lemmas.List.Recursion.{and_at, and_set}
use Rattle.std.proofs.lemmas.Option.{cond_some, slice_get-get_or, slice_get_within}
use Rattle.frame_tree.specs.Tree.{PlainFrame, has_frame}
use Rattle.live_state.specs.declared.frame_queue.FrameQueue.{FrameQueue}
use Rattle.live_state.specs.ExistingQueues.{IsBetween, IsChangedAt, existing_at, are_of_frames, are_sorted, plain_by, ready_by}
use Rattle.live_state.specs.SiteTabs.{are_rising}
use Rattle.live_state.specs.Tabs.{PlainFrameQueue, empty_queue}
use Rattle.live_state.proofs.ListLemmas.{all_inserted, all_weaker, find-written, find_none, first-at, map-written}
use Rattle.live_state.proofs.NumberLemmas.{higher-back, lower-front, none-before, rising-inserted, searchable-by}
use Rattle.live_state.proofs.TabPlaceLemmas.{higher_isnt_it, lower_isnt_it}

-- the first queue of a frame
abbrev pub place_in : ℕ → List FrameQueue → Option ℕ
place_in frame existing = position (λ q. q.frame == frame) existing

turned : (m n : ℕ) → (m == n) ≡ false → (n == m) ≡ false
turned m n differ = grind (arith, nat_tests)

module _ (frame : ℕ) (existing : List FrameQueue) (place : ℕ) (is : place_in frame existing ≡ Some place) (old : FrameQueue) (read : old ≡ get_or existing place old) where
  facts : (place < length existing) × ((get_or existing place old).frame == frame ≡ true) × ((k : ℕ) → k < place → (get_or existing k old).frame == frame ≡ false)
  facts = position-Some (λ q. q.frame == frame) existing place old is

  first : place ≡ position_or_len (λ q. q.frame == frame) existing
  first =
      sym (cond_some (nat_lt (position_or_len (λ q. q.frame == frame) existing) (length existing)) (position_or_len (λ q. q.frame == frame) existing) place is).1

  pub frame-here : old.frame ≡ frame
  frame-here =
      let test : old.frame == frame ≡ true = ap (λ q. q.frame == frame) read ∙ facts.1 in grind (arith, nat_tests)

  pub existing-here : existing_at frame existing ≡ Some old
  existing-here =
      find_at (λ q. q.frame == frame) existing
      ∙ ap (slice_get existing) (sym first)
      ∙ slice_get-get_or existing place old facts.0
      ∙ ap Some (sym read)

  module _ (new : FrameQueue) (same : new.frame ≡ old.frame) where
    -- the queues that are existing afterwards
    pub existing-written : (n : ℕ) → existing_at n (set existing place new) ≡ cond (frame == n) (Some new) (existing_at n existing)
    existing-written n = find-written (λ q. q.frame) frame existing place first facts.0 old read frame-here new (same ∙ frame-here) n

    changed_by : (change : PlainFrameQueue → PlainFrameQueue) → plain_by frame (Some new) ≡ change (plain_by frame (Some old)) → (n : ℕ)
        → (((frame == n) ≡ true) × (frame ≡ n)) ⊎ (((frame == n) ≡ false) × (frame ≢ n))
        → plain_by n (existing_at n (set existing place new)) ≡ (if n == frame then change (plain_by n (existing_at n existing)) else plain_by n (existing_at n existing))
    changed_by change changes n (inl equal) =
        ap (plain_by n) (existing-written n ∙ ap (λ b. cond b (Some new) (existing_at n existing)) equal.0)
        ∙ ap (λ m. plain_by m (Some new)) (sym equal.1)
        ∙ changes
        ∙ ap (λ o. change (plain_by frame o)) (sym existing-here)
        ∙ ap (λ m. change (plain_by m (existing_at m existing))) equal.1
        ∙ ap (λ b. if b then change (plain_by n (existing_at n existing)) else plain_by n (existing_at n existing)) (sym (eq-eqb n frame (sym equal.1)))
    changed_by change changes n (inr differ) =
        ap (plain_by n) (existing-written n ∙ ap (λ b. cond b (Some new) (existing_at n existing)) differ.0)
        ∙ ap (λ b. if b then change (plain_by n (existing_at n existing)) else plain_by n (existing_at n existing)) (sym (ne_eqb n frame (λ e. differ.1 (sym e))))

    -- one queue is changed
    pub changed-at : (change : PlainFrameQueue → PlainFrameQueue) → plain_by frame (Some new) ≡ change (plain_by frame (Some old))
        → IsChangedAt frame change existing (set existing place new)
    changed-at change changes = record {
      plain = λ n. changed_by change changes n (eqb_tells frame n);
      others = λ n differ ready.
          subst (λ o. ready_by o ≡ true)
          (sym (existing-written n ∙ ap (λ b. cond b (Some new) (existing_at n existing)) (turned n frame differ))) ready;
    }

    same_by : plain_by frame (Some new) ≡ plain_by frame (Some old) → (n : ℕ)
        → (((frame == n) ≡ true) × (frame ≡ n)) ⊎ (((frame == n) ≡ false) × (frame ≢ n))
        → plain_by n (cond (frame == n) (Some new) (existing_at n existing)) ≡ plain_by n (existing_at n existing)
    same_by plain n (inl equal) =
        ap (λ b. plain_by n (cond b (Some new) (existing_at n existing))) equal.0
        ∙ ap (λ m. plain_by m (Some new)) (sym equal.1)
        ∙ plain
        ∙ ap (plain_by frame) (sym existing-here)
        ∙ ap (λ m. plain_by m (existing_at m existing)) equal.1
    same_by plain n (inr differ) = ap (λ b. plain_by n (cond b (Some new) (existing_at n existing))) differ.0

    -- a write that contracts do not see
    pub same-written : plain_by frame (Some new) ≡ plain_by frame (Some old) → (n : ℕ)
        → plain_by n (existing_at n (set existing place new)) ≡ plain_by n (existing_at n existing)
    same-written plain n = ap (plain_by n) (existing-written n) ∙ same_by plain n (eqb_tells frame n)

    ready_step : (old.queue.reserved ≡ true → new.queue.reserved ≡ true) → (n : ℕ)
        → (((frame == n) ≡ true) × (frame ≡ n)) ⊎ (((frame == n) ≡ false) × (frame ≢ n))
        → ready_by (existing_at n existing) ≡ true → ready_by (cond (frame == n) (Some new) (existing_at n existing)) ≡ true
    ready_step stays n (inl equal) ready =
        ap (λ b. ready_by (cond b (Some new) (existing_at n existing))) equal.0
        ∙ stays (sym (ap ready_by existing-here) ∙ ap (λ m. ready_by (existing_at m existing)) equal.1 ∙ ready)
    ready_step stays n (inr differ) ready = ap (λ b. ready_by (cond b (Some new) (existing_at n existing))) differ.0 ∙ ready

    pub ready-written : (old.queue.reserved ≡ true → new.queue.reserved ≡ true) → (n : ℕ)
        → ready_by (existing_at n existing) ≡ true → ready_by (existing_at n (set existing place new)) ≡ true
    ready-written stays n ready = ap ready_by (existing-written n) ∙ ready_step stays n (eqb_tells frame n) ready

    -- the queues stand as before
    pub sorted-written : are_sorted existing ≡ true → are_sorted (set existing place new) ≡ true
    sorted-written sorted = ap are_rising (map-written (λ q. q.frame) existing place old new read same) ∙ sorted

    -- each queue is still that of a frame
    pub are_of_frames-written : (frames : List PlainFrame) → are_of_frames frames existing ≡ true → are_of_frames frames (set existing place new) ≡ true
    are_of_frames-written frames all =
        let here : has_frame old.frame frames ≡ true =
        ap (λ q. has_frame q.frame frames) read ∙ and_at (are_of_frames frames) (λ q. has_frame q.frame frames) refl (λ q qs. refl) existing place old facts.0 all in
        and_set (are_of_frames frames) (λ q. has_frame q.frame frames) refl (λ q qs. refl) existing place new (ap (λ n. has_frame n frames) same ∙ here) all

-- ---- where a queue stands, or would stand

-- a queue of the frame that stands at a place is the first one
pub place-at : (frame place : ℕ) (existing : List FrameQueue) (q : FrameQueue) → are_sorted existing ≡ true → slice_get existing place ≡ Some q → q.frame ≡ frame
    → place_in frame existing ≡ Some place
place-at frame place existing q sorted is own =
    let first : place ≡ position_or_len (λ q. q.frame == frame) existing =
    first-at (λ q. q.frame == frame) existing place q (none-before (λ q. q.frame) frame place existing q sorted is own) is (eq-eqb q.frame frame own) in
    let low : place < length existing = slice_get_within existing place q is in
    let within : nat_lt place (length existing) ≡ true = grind (arith, nat_tests) in
    ap (λ i. cond (nat_lt i (length existing)) (Some i) None) (sym first) ∙ ap (λ b. cond b (Some place) None) within

is_equal : (m n : ℕ) → nat_cmp m n ≡ Equal → m ≡ n
is_equal m n is = grind (arith, nat_tests)

pub searched : (frame : ℕ) (existing : List FrameQueue) (r : Result ℕ ℕ) → are_sorted existing ≡ true → IsSearchInRange r (length existing)
    → IsBinarySearchResult (λ q. nat_cmp q.frame frame) existing r
    → MatchResult r (λ place. place_in frame existing ≡ Some place) (IsBetween frame existing)
searched frame [] (Ok i) sorted bound found = absurd (omega arith)
searched frame (d ∷ existing) (Ok i) sorted bound found =
    let all : List FrameQueue = d ∷ existing in
    place-at frame i all (get_or all i d) sorted (slice_get-get_or all i d bound) (is_equal (get_or all i d).frame frame (found d))
searched frame existing (Err i) sorted bound gap =
    let parts = gap (searchable-by (λ q. q.frame) existing frame sorted) in record {
      within = bound;
      lower = lower-front (λ q. q.frame) frame i existing bound parts.0;
      higher = higher-back (λ q. q.frame) frame i existing parts.1;
    }

-- no queue is that of a frame that would stand between two
pub none-between : (frame : ℕ) (existing : List FrameQueue) (place : ℕ) → IsBetween frame existing place → existing_at frame existing ≡ None
none-between frame existing place between =
    ap (existing_at frame) (sym (take-append-drop place existing))
    ∙ find_none (λ q. q.frame == frame) (take place existing) (drop place existing)
    (all_weaker (λ q. nat_lt q.frame frame) (λ q. not (q.frame == frame)) (λ q is. lower_isnt_it q.frame frame is) (take place existing) between.lower)
    ∙ ap (existing_at frame) (sym (append-nil (drop place existing)))
    ∙ find_none (λ q. q.frame == frame) (drop place existing) []
    (all_weaker (λ q. nat_lt frame q.frame) (λ q. not (q.frame == frame)) (λ q is. higher_isnt_it q.frame frame is) (drop place existing) between.higher)

-- ---- a queue more

module _ (frame : ℕ) (existing : List FrameQueue) (place : ℕ) (between : IsBetween frame existing place) (new : FrameQueue) (same : new.frame ≡ frame) where
  none : existing_at frame existing ≡ None
  none = none-between frame existing place between

  front_none : (o p : Option FrameQueue) → option_or o p ≡ None → o ≡ None
  front_none None p is = refl
  front_none (Some q) p is = absurd (cc is)

  -- the queues are those in front and those behind
  parts_at : (n : ℕ) → option_or (existing_at n (take place existing)) (existing_at n (drop place existing)) ≡ existing_at n existing
  parts_at n = sym (find-append (λ q. q.frame == n) (take place existing) (drop place existing)) ∙ ap (existing_at n) (take-append-drop place existing)

  more_by : (n : ℕ) → (((new.frame == n) ≡ true) × (new.frame ≡ n)) ⊎ (((new.frame == n) ≡ false) × (new.frame ≢ n))
      → option_or (existing_at n (take place existing)) (cond (new.frame == n) (Some new) (existing_at n (drop place existing)))
      ≡ cond (frame == n) (Some new) (existing_at n existing)
  more_by n (inl equal) =
      let absent : existing_at n existing ≡ None = ap (λ m. existing_at m existing) (sym equal.1 ∙ same) ∙ none in
      ap (λ o. option_or o (cond (new.frame == n) (Some new) (existing_at n (drop place existing))))
      (front_none (existing_at n (take place existing)) (existing_at n (drop place existing)) (parts_at n ∙ absent))
      ∙ ap (λ b. cond b (Some new) (existing_at n (drop place existing))) equal.0
      ∙ ap (λ b. cond b (Some new) (existing_at n existing)) (sym (ap (λ m. m == n) (sym same) ∙ equal.0))
  more_by n (inr differ) =
      ap (λ b. option_or (existing_at n (take place existing)) (cond b (Some new) (existing_at n (drop place existing)))) differ.0
      ∙ parts_at n
      ∙ ap (λ b. cond b (Some new) (existing_at n existing)) (sym (ap (λ m. m == n) (sym same) ∙ differ.0))

  pub existing-more : (n : ℕ) → existing_at n (insert existing place new) ≡ cond (frame == n) (Some new) (existing_at n existing)
  existing-more n = find-append (λ q. q.frame == n) (take place existing) (new ∷ drop place existing) ∙ more_by n (eqb_tells new.frame n)

  pub sorted-more : are_sorted existing ≡ true → are_sorted (insert existing place new) ≡ true
  sorted-more sorted =
      rising-inserted (λ q. q.frame) new existing place sorted
      (ap (λ n. list_all (λ q. nat_lt q.frame n) (take place existing)) same ∙ between.lower)
      (ap (λ n. list_all (λ q. nat_lt n q.frame) (drop place existing)) same ∙ between.higher)

  pub place-more : are_sorted existing ≡ true → place_in frame (insert existing place new) ≡ Some place
  place-more sorted =
      let within : place ≤ length existing = between.within in
      let long : length (insert existing place new) ≡ length existing + 1 = length-insert existing place new within in
      let low : place < length (insert existing place new) = omega arith in
      place-at frame place (insert existing place new) new (sorted-more sorted)
      (slice_get-get_or (insert existing place new) place new low ∙ ap Some (get_or-insert_at existing place new new within)) same

  pub of_frames-more : (frames : List PlainFrame) → has_frame frame frames ≡ true → are_of_frames frames existing ≡ true
      → are_of_frames frames (insert existing place new) ≡ true
  of_frames-more frames there all = all_inserted (λ q. has_frame q.frame frames) existing place new all (ap (λ n. has_frame n frames) same ∙ there)

  plain_more : new.queue.events ≡ [] → new.queue.lost ≡ 0 → (n : ℕ)
      → (((frame == n) ≡ true) × (frame ≡ n)) ⊎ (((frame == n) ≡ false) × (frame ≢ n))
      → plain_by n (cond (frame == n) (Some new) (existing_at n existing)) ≡ plain_by n (existing_at n existing)
  plain_more events lost n (inl equal) =
      ap (λ b. plain_by n (cond b (Some new) (existing_at n existing))) equal.0
      ∙ ap (λ es. record { frame = n; events = es; lost = new.queue.lost }) events
      ∙ ap (λ l. record { frame = n; events = []; lost = l }) lost
      ∙ ap (plain_by n) (sym none)
      ∙ ap (λ m. plain_by n (existing_at m existing)) equal.1
  plain_more events lost n (inr differ) = ap (λ b. plain_by n (cond b (Some new) (existing_at n existing))) differ.0

  -- an empty queue is seen as none
  pub same-more : new.queue.events ≡ [] → new.queue.lost ≡ 0 → (n : ℕ) → plain_by n (existing_at n (insert existing place new)) ≡ plain_by n (existing_at n existing)
  same-more events lost n = ap (plain_by n) (existing-more n) ∙ plain_more events lost n (eqb_tells frame n)

  ready_more : (n : ℕ) → (((frame == n) ≡ true) × (frame ≡ n)) ⊎ (((frame == n) ≡ false) × (frame ≢ n))
      → ready_by (existing_at n existing) ≡ true → ready_by (cond (frame == n) (Some new) (existing_at n existing)) ≡ true
  ready_more n (inl equal) ready =
      let no : false ≡ true = sym (ap ready_by none) ∙ ap (λ m. ready_by (existing_at m existing)) equal.1 ∙ ready in absurd (cc no)
  ready_more n (inr differ) ready = ap (λ b. ready_by (cond b (Some new) (existing_at n existing))) differ.0 ∙ ready

  pub ready-more : (n : ℕ) → ready_by (existing_at n existing) ≡ true → ready_by (existing_at n (insert existing place new)) ≡ true
  ready-more n ready = ap ready_by (existing-more n) ∙ ready_more n (eqb_tells frame n) ready

-- ---- an answer that takes memory

pub ready-here : (frame : ℕ) (existing : List FrameQueue) (place : ℕ) (is : place_in frame existing ≡ Some place) (old : FrameQueue) (read : old ≡ get_or existing place old)
    (new : FrameQueue) (same : new.frame ≡ old.frame) → new.queue.reserved ≡ true → ready_by (existing_at frame (set existing place new)) ≡ true
ready-here frame existing place is old read new same ready =
    ap ready_by (existing-written frame existing place is old read new same frame)
    ∙ ap (λ b. ready_by (cond b (Some new) (existing_at frame existing))) (eq-eqb frame frame refl)
    ∙ ready

-- who is ready stays so
pub stays_by : {T E : Type 0} (r : Result T E) {old new : Bool} → (old ≡ true → IsOk r) → OnOk r (new ≡ true) → old ≡ true → new ≡ true
stays_by (Ok x) ok is ready = is
stays_by (Err e) ok is ready = let no : false ≡ true = ok ready in absurd (cc no)

-- who is ready is not refused
pub refused_by : {T E : Type 0} (r : Result T E) {old : Bool} → (old ≡ true → IsOk r) → OnErr r (old ≡ false)
refused_by (Ok x) ok = tt
refused_by (Err e) {old = false} ok = refl
refused_by (Err e) {old = true} ok = let no : false ≡ true = ok refl in absurd (cc no)

-- a take of no events
pub changed-none : (frame : ℕ) (existing : List FrameQueue) → existing_at frame existing ≡ None → IsChangedAt frame (λ queue. empty_queue queue.frame) existing existing
changed-none frame existing none = record {
  plain = λ n. none_at n (eqb_tells n frame);
  others = λ n differ ready. ready;
}
  where
    none_at : (n : ℕ) → (((n == frame) ≡ true) × (n ≡ frame)) ⊎ (((n == frame) ≡ false) × (n ≢ frame))
        → plain_by n (existing_at n existing) ≡ (if n == frame then empty_queue (plain_by n (existing_at n existing)).frame else plain_by n (existing_at n existing))
    none_at n (inl equal) =
        let absent : existing_at n existing ≡ None = ap (λ m. existing_at m existing) equal.1 ∙ none in
        ap (plain_by n) absent
        ∙ ap (λ o. empty_queue (plain_by n o).frame) (sym absent)
        ∙ ap (λ b. if b then empty_queue (plain_by n (existing_at n existing)).frame else plain_by n (existing_at n existing)) (sym equal.0)
    none_at n (inr differ) =
        ap (λ b. if b then empty_queue (plain_by n (existing_at n existing)).frame else plain_by n (existing_at n existing)) (sym differ.0)
