-- Documents by their labels, and what one event changes.
use Rattle.std.proofs.Common.{◌≡◌, ℕ, Bool, true, false, cond, not, List, [], ◌∷◌, map, Option, Some, None, refl, ap, sym, ◌∙◌, arith}
use Rattle.std.specs.Prelude.{◌&&◌, ◌==◌, find, is_some, nat_eq, option_map, if◌then◌else◌}
use Rattle.std.specs.List.{list_all, list_any}
use Rattle.std.proofs.lemmas.Bool.{and_from, and_parts, both_ways, eq-eqb, eqb-true, or_parts}
use Rattle.std.proofs.lemmas.Bool.Decides.{nat_tests}
use Rattle.std.proofs.lemmas.List.{map-id}
use Rattle.agent_base.specs.declared.refusals.Label.{Label}
use Rattle.storage_events.specs.Audience.{same_label}
use Rattle.storage_events.specs.Event.{PlainEvent}
use Rattle.storage_events.specs.declared.event.Event.{Event}
use Rattle.live_state.specs.ExistingQueues.{changed_at}
use Rattle.live_state.specs.Queues.{are_distinct, event_for, is_ready, is_told, label_of, plain_sent, queue_told, sent, with_queues}
use Rattle.live_state.specs.Tabs.{PlainLive, PlainFrameQueue, PlainTab, empty_queue}
use Rattle.live_state.proofs.ListLemmas.{map-agree, not_true}

pub label-is : (a b : Label) → same_label a b ≡ true → (a.tab ≡ b.tab) × (a.frame ≡ b.frame)
label-is a b same =
    let parts = and_parts (nat_eq a.tab b.tab) (nat_eq a.frame b.frame) same in
    (eqb-true a.tab b.tab parts.0, eqb-true a.frame b.frame parts.1)

pub label-same : (a b : Label) → a.tab ≡ b.tab → a.frame ≡ b.frame → same_label a b ≡ true
label-same a b tab frame = and_from (nat_eq a.tab b.tab) (nat_eq a.frame b.frame) (eq-eqb a.tab b.tab tab) (eq-eqb a.frame b.frame frame)

-- two documents of one tab are of two frames
pub frame-differs : (a b : Label) → a.tab ≡ b.tab → same_label a b ≡ false → (a.frame == b.frame) ≡ false
frame-differs a b here differ = sym (ap (λ t. t && nat_eq a.frame b.frame) (eq-eqb a.tab b.tab here)) ∙ differ

-- two that are one with a third are one
pub label-joined : (a b c : Label) → same_label a c ≡ true → same_label b c ≡ true → same_label a b ≡ true
label-joined a b c one other =
    let first = label-is a c one in
    let second = label-is b c other in
    label-same a b (first.0 ∙ sym second.0) (first.1 ∙ sym second.1)

flip_by : (a b : Label) (t : Bool) → same_label b a ≡ t → same_label a b ≡ false → t ≡ false
flip_by a b true is differ =
    let back = label-is b a is in absurd (both_ways (same_label a b) differ (label-same a b (sym back.0) (sym back.1)))
flip_by a b false is differ = refl

pub label-flip : (a b : Label) → same_label a b ≡ false → same_label b a ≡ false
label-flip a b differ = flip_by a b (same_label b a) refl differ

-- ---- a change of one queue

other_tab : (m n : ℕ) (b : Bool) → not (m == n) ≡ true → (nat_eq n m && b) ≡ false
other_tab m n b differ =
    let isnt : nat_eq n m ≡ false = grind (arith, nat_tests) in ap (λ t. t && b) isnt

turned : (m n : ℕ) → (m == n) ≡ (n == m)
turned m n = grind (arith, nat_tests)

queues-left : (change : Label → PlainFrameQueue → PlainFrameQueue) (tab : PlainTab) → ((q : PlainFrameQueue) → change (label_of tab q) q ≡ q) → with_queues change tab ≡ tab
queues-left change tab leaves =
    ap (λ qs. record { number = tab.number; frames = tab.frames; queues = qs })
    (map-agree (λ q. change (label_of tab q) q) (λ q. q) tab.queues leaves ∙ map-id tab.queues)

queues-at : (change : Label → PlainFrameQueue → PlainFrameQueue) (frame : ℕ) (next : PlainFrameQueue → PlainFrameQueue) (tab : PlainTab)
    → ((q : PlainFrameQueue) → change (label_of tab q) q ≡ (if q.frame == frame then next q else q))
    → with_queues change tab ≡ changed_at frame next tab
queues-at change frame next tab agrees =
    ap (λ qs. record { number = tab.number; frames = tab.frames; queues = qs })
    (map-agree (λ q. change (label_of tab q) q) (λ q. if q.frame == frame then next q else q) tab.queues agrees)

module _ (at : Label) (event : PlainEvent) where
  -- each queue after this one event
  abbrev pub after_one : Label → PlainFrameQueue → PlainFrameQueue
  after_one l q = queue_told (event_for l ((at, event) ∷ [])) q

  told_by : (b : Bool) (q : PlainFrameQueue) → queue_told (option_map (λ (x : Label × PlainEvent). x.1) (cond b (Some (at, event)) None)) q ≡ cond b (queue_told (Some event) q) q
  told_by true q = refl
  told_by false q = refl

  pub sent-others : (tab : PlainTab) → not (tab.number == at.tab) ≡ true → with_queues after_one tab ≡ tab
  sent-others tab differ =
      queues-left after_one tab
      (λ q. told_by (same_label at (label_of tab q)) q
      ∙ ap (λ b. cond b (queue_told (Some event) q) q) (other_tab tab.number at.tab (nat_eq at.frame q.frame) differ))

  pub sent-here : (tab : PlainTab) → tab.number ≡ at.tab → with_queues after_one tab ≡ changed_at at.frame (queue_told (Some event)) tab
  sent-here tab here =
      queues-at after_one at.frame (queue_told (Some event)) tab
      (λ q. told_by (same_label at (label_of tab q)) q
      ∙ ap (λ b. cond (b && nat_eq at.frame q.frame) (queue_told (Some event) q) q) (eq-eqb at.tab tab.number (sym here))
      ∙ ap (λ b. cond b (queue_told (Some event) q) q) (turned at.frame q.frame))

module _ (at : Label) where
  -- each queue after its events were taken, if it is this document's
  abbrev pub after_take : Label → PlainFrameQueue → PlainFrameQueue
  after_take l q = if same_label l at then empty_queue q.frame else q

  pub taken-others : (tab : PlainTab) → not (tab.number == at.tab) ≡ true → with_queues after_take tab ≡ tab
  taken-others tab differ =
      queues-left after_take tab
      (λ q. ap (λ b. if b && nat_eq q.frame at.frame then empty_queue q.frame else q) (not_true (tab.number == at.tab) differ))

  pub taken-here : (tab : PlainTab) → tab.number ≡ at.tab → with_queues after_take tab ≡ changed_at at.frame (λ q. empty_queue q.frame) tab
  taken-here tab here =
      queues-at after_take at.frame (λ q. empty_queue q.frame) tab
      (λ q. ap (λ b. if b && nat_eq q.frame at.frame then empty_queue q.frame else q) (eq-eqb tab.number at.tab here))

-- ---- many events, one after another

abbrev pub labels_of : List (Label × PlainEvent) → List Label
labels_of events = map (λ e. e.0) events

none_step : (a l : Label) (x : Label × PlainEvent) (t u : Bool) (rest : Option (Label × PlainEvent)) → same_label a x.0 ≡ t → same_label x.0 l ≡ u
    → same_label a l ≡ true → t ≡ false → rest ≡ None → cond u (Some x) rest ≡ None
none_step a l x t true rest is one same differ none =
    absurd (both_ways t differ (sym is ∙ label-joined a x.0 l same one))
none_step a l x t false rest is one same differ none = none

-- there is no event for a document that is not among them
pub no-event : (a l : Label) (events : List (Label × PlainEvent)) → list_any (same_label a) (labels_of events) ≡ false → same_label a l ≡ true
    → find (λ e. same_label e.0 l) events ≡ None
no-event a l [] none same = refl
no-event a l (x ∷ xs) none same =
    let parts = or_parts (same_label a x.0) (list_any (same_label a) (labels_of xs)) none in
    none_step a l x (same_label a x.0) (same_label x.0 l) (find (λ e. same_label e.0 l) xs) refl refl same parts.0 (no-event a l xs parts.1 same)

more_by : (e : Label × PlainEvent) (q : PlainFrameQueue) (later : Option (Label × PlainEvent)) (b : Bool) → (b ≡ true → later ≡ None)
    → queue_told (option_map (λ (x : Label × PlainEvent). x.1) (cond b (Some e) later)) q
    ≡ queue_told (option_map (λ (x : Label × PlainEvent). x.1) later) (queue_told (option_map (λ (x : Label × PlainEvent). x.1) (cond b (Some e) None)) q)
more_by e q None true none = refl
more_by e q None false none = refl
more_by e q (Some x) true none = absurd (cc (none refl))
more_by e q (Some x) false none = refl

-- one event, and then others, none of which is for its document
told-first : (e : Label × PlainEvent) (events : List (Label × PlainEvent)) (l : Label) (q : PlainFrameQueue) → list_any (same_label e.0) (labels_of events) ≡ false
    → queue_told (event_for l (e ∷ events)) q ≡ queue_told (event_for l events) (queue_told (event_for l (e ∷ [])) q)
told-first e events l q none =
    more_by e q (find (λ x. same_label x.0 l) events) (same_label e.0 l) (λ same. no-event e.0 l events none same)

frame_told : (o : Option PlainEvent) (q : PlainFrameQueue) → (queue_told o q).frame ≡ q.frame
frame_told None q = refl
frame_told (Some e) q = refl

queues-first : (e : Label × PlainEvent) (events : List (Label × PlainEvent)) (tab : PlainTab) (qs : List PlainFrameQueue) → list_any (same_label e.0) (labels_of events) ≡ false
    → map (λ q. queue_told (event_for (label_of tab q) (e ∷ events)) q) qs
    ≡ map (λ q. queue_told (event_for (label_of tab q) events) q) (map (λ q. queue_told (event_for (label_of tab q) (e ∷ [])) q) qs)
queues-first e events tab [] none = refl
queues-first e events tab (q ∷ qs) none =
    let now : PlainFrameQueue = queue_told (event_for (label_of tab q) (e ∷ [])) q in
    let first = told-first e events (label_of tab q) q none
    ∙ ap (λ n. queue_told (event_for (record { tab = tab.number; frame = n }) events) now) (sym (frame_told (event_for (label_of tab q) (e ∷ [])) q)) in
    ap (λ x. x ∷ map (λ q. queue_told (event_for (label_of tab q) (e ∷ events)) q) qs) first
    ∙ ap (λ l. queue_told (event_for (label_of tab now) events) now ∷ l) (queues-first e events tab qs none)

pub sent-first : (e : Label × PlainEvent) (events : List (Label × PlainEvent)) (tabs : List PlainTab) → list_any (same_label e.0) (labels_of events) ≡ false
    → sent (e ∷ events) tabs ≡ sent events (sent (e ∷ []) tabs)
sent-first e events [] none = refl
sent-first e events (tab ∷ tabs) none =
    let first = ap (λ qs. record { number = tab.number; frames = tab.frames; queues = qs }) (queues-first e events tab tab.queues none) in
    ap (λ t. t ∷ sent (e ∷ events) tabs) first
    ∙ ap (λ l. with_queues (λ l q. queue_told (event_for l events) q) (with_queues (λ l q. queue_told (event_for l (e ∷ [])) q) tab) ∷ l) (sent-first e events tabs none)

pub sent-none : (tabs : List PlainTab) → sent [] tabs ≡ tabs
sent-none [] = refl
sent-none (tab ∷ tabs) =
    ap (λ qs. record { number = tab.number; frames = tab.frames; queues = qs } ∷ sent [] tabs) (map-id tab.queues)
    ∙ ap (λ l. tab ∷ l) (sent-none tabs)

-- ---- the documents of the events that are left

abbrev pub to_of : List (Label × Event) → List Label
to_of events = map (λ e. e.0) events

labels_same : (events : List (Label × Event)) → labels_of (map plain_sent events) ≡ to_of events
labels_same [] = refl
labels_same (e ∷ es) = ap (λ l. e.0 ∷ l) (labels_same es)

pub sent-rest : (e : Label × Event) (events : List (Label × Event)) (tabs : List PlainTab) → are_distinct (to_of (e ∷ events)) ≡ true
    → sent (map plain_sent (e ∷ events)) tabs ≡ sent (map plain_sent events) (sent (plain_sent e ∷ []) tabs)
sent-rest e events tabs distinct =
    let parts = and_parts (not (list_any (same_label e.0) (to_of events))) (are_distinct (to_of events)) distinct in
    sent-first (plain_sent e) (map plain_sent events) tabs
    (ap (list_any (same_label e.0)) (labels_same events) ∙ not_true (list_any (same_label e.0) (to_of events)) parts.0)

ready_rest : (old new : PlainLive) (at : Label) (events : List (Label × Event)) → list_any (same_label at) (to_of events) ≡ false
    → ((other : Label) → same_label other at ≡ false → is_ready old other ≡ true → is_ready new other ≡ true)
    → list_all (λ e. is_ready old e.0) events ≡ true → list_all (λ e. is_ready new e.0) events ≡ true
ready_rest old new at [] none stays all = refl
ready_rest old new at (e ∷ es) none stays all =
    let differ = or_parts (same_label at e.0) (list_any (same_label at) (to_of es)) none in
    let parts = and_parts (is_ready old e.0) (list_all (λ e. is_ready old e.0) es) all in
    and_from (is_ready new e.0) (list_all (λ e. is_ready new e.0) es)
    (stays e.0 (label-flip at e.0 differ.0) parts.0) (ready_rest old new at es differ.1 stays parts.1)

-- the documents that are left are ready still
pub ready-rest : (old new : PlainLive) (e : Label × Event) (events : List (Label × Event)) → are_distinct (to_of (e ∷ events)) ≡ true
    → ((other : Label) → same_label other e.0 ≡ false → is_ready old other ≡ true → is_ready new other ≡ true)
    → list_all (λ e. is_ready old e.0) (e ∷ events) ≡ true → list_all (λ e. is_ready new e.0) events ≡ true
ready-rest old new e events distinct stays all =
    let parts = and_parts (not (list_any (same_label e.0) (to_of events))) (are_distinct (to_of events)) distinct in
    ready_rest old new e.0 events (not_true (list_any (same_label e.0) (to_of events)) parts.0) stays
    (and_parts (is_ready old e.0) (list_all (λ e. is_ready old e.0) events) all).1

pub distinct-rest : (e : Label × Event) (events : List (Label × Event)) → are_distinct (to_of (e ∷ events)) ≡ true → are_distinct (to_of events) ≡ true
distinct-rest e events distinct = (and_parts (not (list_any (same_label e.0) (to_of events))) (are_distinct (to_of events)) distinct).1

untold_by : (at : Label) (entry : Label × Event) (found : Option (Label × PlainEvent)) (same : Bool) → same_label entry.0 at ≡ same
    → is_some (option_map (λ (x : Label × PlainEvent). x.1) (cond same (Some (plain_sent entry)) found)) ≡ false
    → (same_label at entry.0 ≡ false) × (is_some (option_map (λ (x : Label × PlainEvent). x.1) found) ≡ false)
untold_by at entry found true is told = absurd (cc told)
untold_by at entry found false is told = (label-flip entry.0 at is, told)

-- a document that is not told is not that of the first event, and no later one is for it
pub untold : (entry : Label × Event) (rest : List (Label × Event)) (at : Label) → is_told (map plain_sent (entry ∷ rest)) at ≡ false
    → (same_label at entry.0 ≡ false) × (is_told (map plain_sent rest) at ≡ false)
untold entry rest at isnt =
    untold_by at entry (find (λ e. same_label e.0 at) (map plain_sent rest)) (same_label entry.0 at) refl isnt
