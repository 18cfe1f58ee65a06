-- Which documents go by each change of a tab, that none of their events is left, and that all other
-- queues stay.
use Rattle.std.proofs.Common.{◌≡◌, ℕ, Bool, true, false, cond, not, ◌==◌, ◌&&◌, ◌||◌, List, [], ◌∷◌, ◌++◌, map, Option, Some, None, Ok, Err, refl, sym, ap, ◌∙◌}
use Rattle.std.proofs.lemmas.Bool.{eqb-true, true≢false}
use Rattle.std.proofs.lemmas.Bool.Decides.{Decides-eqb}
use Rattle.std.proofs.lemmas.Cmp.{eq_by_cmp_equiv}
use Rattle.std.specs.Cmp.{nat_cmp_total}
use Rattle.std.specs.Ordering.{nat_cmp, eq_by_cmp}
use Rattle.std.specs.FinMap.{nat_cmp-IsAntisymmetric}
use Rattle.std.specs.Prelude.{IfOk, filter, find, pos, unwrap_or}
use Rattle.agent_base.specs.declared.refusals.Label.{Label}
use Rattle.suffix_list.specs.Suffix.{Rule}
use Rattle.origin_site.specs.Address.{PlainAddress}
use Rattle.frame_tree.specs.declared.tab.TreeFault.TheVariants.{NoFrame, FrameExists}
use Rattle.frame_tree.specs.Calls as tree
use Rattle.frame_tree.specs.Document.{PlainDocument, loaded_below}
use Rattle.frame_tree.specs.Sandbox.{sandbox_of}
use Rattle.frame_tree.specs.Tree.{PlainFrame, document_of, has_frame, is_on_chain, with_next}
use Rattle.live_state.specs.FramesInPlace.{requested}
use Rattle.live_state.specs.Tabs.{PlainFrameQueue, PlainTab, empty_queue, is_fresh, made_tab, queue_after, queue_of, queues_before, stays}
use Rattle.agent_model.specs.Partition.{Holdings, tab_named}
use Rattle.agent_model.specs.Frames.{frames_added, frames_clicked, frames_navigated, frames_removed}
use Rattle.agent_model.specs.CookieUses.{is_granted_nav}
use Rattle.agent_model.specs.Sessions.{arrival}
use Rattle.agent_model.specs.TabChanges.{TabChange, Framed, Gone, goes_by, tab_becomes}
use Rattle.agent_model.proofs.KeptLemmas as kept

-- the queue of a document, and an empty one where it is not there
abbrev queue_in : Label → Holdings → PlainFrameQueue
queue_in at held = queue_of at.frame (queues_before (tab_named at.tab held))

-- a number is its own
eqb-same : (n : ℕ) → (n == n) ≡ true
eqb-same n = (Decides-eqb n n).1 refl

-- ---- the queues of a tab that has these frames

queue_frame : (n : ℕ) (qs : List PlainFrameQueue) → (queue_of n qs).frame ≡ n
queue_frame n [] = refl
queue_frame n (q ∷ qs) = by (q.frame == n) refl (queue_frame n qs)
  where
    by : (b : Bool) → (q.frame == n) ≡ b → (queue_of n qs).frame ≡ n → (unwrap_or (cond b (Some q) (find (λ r. r.frame == n) qs)) (empty_queue n)).frame ≡ n
    by true is later = eqb-true q.frame n is
    by false is later = later

after_frame : (fresh : Option ℕ) (before : List PlainFrameQueue) (n : ℕ) → (queue_after fresh before n).frame ≡ n
after_frame fresh before n = by (is_fresh fresh n)
  where
    by : (b : Bool) → (cond b (empty_queue n) (queue_of n before)).frame ≡ n
    by true = refl
    by false = queue_frame n before

module _ (fresh : Option ℕ) (before : List PlainFrameQueue) (n : ℕ) where
  made_queue : (frames : List PlainFrame)
      → queue_of n (map (λ f. queue_after fresh before f.frame) frames) ≡ cond (has_frame n frames) (queue_after fresh before n) (empty_queue n)
  made_queue [] = refl
  made_queue (f ∷ fs) = ap (λ k. unwrap_or (cond (k == n) (Some own) later) (empty_queue n)) (after_frame fresh before f.frame) ∙ by (f.frame == n) refl (made_queue fs)
    where
      own : PlainFrameQueue
      own = queue_after fresh before f.frame

      later : Option PlainFrameQueue
      later = find (λ q. q.frame == n) (map (λ f. queue_after fresh before f.frame) fs)

      by : (b : Bool) → (f.frame == n) ≡ b → unwrap_or later (empty_queue n) ≡ cond (has_frame n fs) (queue_after fresh before n) (empty_queue n)
          → unwrap_or (cond b (Some own) later) (empty_queue n) ≡ cond (b || has_frame n fs) (queue_after fresh before n) (empty_queue n)
      by true is more = ap (queue_after fresh before) (eqb-true f.frame n is)
      by false is more = more

  left_queue : (frames : List PlainFrame) → stays fresh frames n ≡ false → queue_of n (map (λ f. queue_after fresh before f.frame) frames) ≡ empty_queue n
  left_queue frames gone = made_queue frames ∙ by (is_fresh fresh n) (has_frame n frames) gone
    where
      by : (b there : Bool) → not b && there ≡ false → cond there (cond b (empty_queue n) (queue_of n before)) (empty_queue n) ≡ empty_queue n
      by true true gone = refl
      by true false gone = refl
      by false true gone = absurd (cc gone)
      by false false gone = refl

  kept_queue : (frames : List PlainFrame) → stays fresh frames n ≡ true → queue_of n (map (λ f. queue_after fresh before f.frame) frames) ≡ queue_of n before
  kept_queue frames there = made_queue frames ∙ by (is_fresh fresh n) (has_frame n frames) there
    where
      by : (b there : Bool) → not b && there ≡ true → cond there (cond b (empty_queue n) (queue_of n before)) (empty_queue n) ≡ queue_of n before
      by true true is = absurd (cc is)
      by true false is = absurd (cc is)
      by false true is = refl
      by false false is = absurd (cc is)

-- ---- what a document has after a change

-- the tab after a change of it
abbrev tab_after : ℕ → TabChange → Option PlainTab
tab_after number (Framed frames fresh before) = Some (made_tab number frames fresh before)
tab_after number Gone = None

becomes : (number : ℕ) (change : TabChange) (held : Holdings) → tab_becomes number change held ≡ record held { tabs = kept.changed_at number (tab_after number change) held.tabs }
becomes number (Framed frames fresh before) held = refl
becomes number Gone held = refl

-- the tab of a number is what it became, and every other one is what it was
named : (number : ℕ) (change : TabChange) (held : Holdings) (q : ℕ)
    → tab_named q (tab_becomes number change held) ≡ cond (eq_by_cmp nat_cmp q number) (tab_after number change) (tab_named q held)
named number change held q = ap (tab_named q) (becomes number change held) ∙ kept.get_changed nat_cmp nat_cmp_total nat_cmp-IsAntisymmetric held.tabs number (tab_after number change) q

named_own : (number : ℕ) (change : TabChange) (held : Holdings) → tab_named number (tab_becomes number change held) ≡ tab_after number change
named_own number change held =
    named number change held number ∙ ap (λ b. cond b (tab_after number change) (tab_named number held)) ((eq_by_cmp_equiv nat_cmp_total).refl number)

-- A document that goes leaves no event.
pub none_left : (number frame : ℕ) (change : TabChange) (held : Holdings) → goes_by number change (record { tab = number; frame = frame }) ≡ true
    → queue_in (record { tab = number; frame = frame }) (tab_becomes number change held) ≡ empty_queue frame
none_left number frame change held goes = ap (λ tab. queue_of frame (queues_before tab)) (named_own number change held) ∙ by change goes
  where
    both : (b c : Bool) → b && not c ≡ true → c ≡ false
    both true true is = absurd (cc is)
    both true false is = refl
    both false c is = absurd (cc is)

    by : (change : TabChange) → goes_by number change (record { tab = number; frame = frame }) ≡ true → queue_of frame (queues_before (tab_after number change)) ≡ empty_queue frame
    by (Framed frames fresh before) goes = left_queue fresh (queues_before before) frame frames (both (number == number) (stays fresh frames frame) goes)
    by Gone goes = refl

-- A document of the tab that stays has the events that it had.
pub kept_own : (number frame : ℕ) (frames : List PlainFrame) (fresh : Option ℕ) (tab : PlainTab) (held : Holdings) → tab_named number held ≡ Some tab
    → goes_by number (Framed frames fresh (Some tab)) (record { tab = number; frame = frame }) ≡ false
    → queue_in (record { tab = number; frame = frame }) (tab_becomes number (Framed frames fresh (Some tab)) held) ≡ queue_in (record { tab = number; frame = frame }) held
kept_own number frame frames fresh tab held is stays_there =
    ap (λ t. queue_of frame (queues_before t)) (named_own number (Framed frames fresh (Some tab)) held)
    ∙ kept_queue fresh tab.queues frame frames (at (number == number) (eqb-same number) (stays fresh frames frame) stays_there)
    ∙ ap (λ t. queue_of frame (queues_before t)) (sym is)
  where
    at : (b : Bool) → b ≡ true → (c : Bool) → b && not c ≡ false → c ≡ true
    at true same true none = refl
    at true same false none = absurd (cc none)
    at false same c none = absurd (cc same)

-- Every other tab is what it was.
pub kept_beside : (number : ℕ) (change : TabChange) (held : Holdings) (q : ℕ) → eq_by_cmp nat_cmp q number ≡ false
    → tab_named q (tab_becomes number change held) ≡ tab_named q held
kept_beside number change held q other = named number change held q ∙ ap (λ b. cond b (tab_after number change) (tab_named q held)) other

-- ---- each way

module _ (number frame : ℕ) where
  -- a document of the tab
  abbrev own : Label
  own = record { tab = number; frame = frame }

  -- a tab that is closed or leaves the site: each of its documents goes
  pub gone_goes : goes_by number Gone own ≡ true
  gone_goes = eqb-same number

  -- a tab that shows another page: each of its documents goes, the top too
  pub shown_goes : (rules : List Rule) (url : PlainAddress) → goes_by number (arrival rules url) own ≡ true
  shown_goes rules url = ap (λ b. b && not (not (frame == 0) && (0 == frame || false))) (eqb-same number) ∙ by (frame == 0) (0 == frame) (λ top. (Decides-eqb frame 0).1 (sym ((Decides-eqb 0 frame).0 top)))
    where
      by : (b c : Bool) → (c ≡ true → b ≡ true) → not (not b && (c || false)) ≡ true
      by true c top = refl
      by false false top = refl
      by false true top = absurd (true≢false (sym (top refl)))

  -- other frames, none with a fresh document: a document goes whose frame is not there afterwards
  pub framed_goes : (after : List PlainFrame) (before : Option PlainTab) → goes_by number (Framed after None before) own ≡ not (has_frame frame after)
  framed_goes after before = ap (λ b. b && not (has_frame frame after)) (eqb-same number)

  -- a frame that is navigated: its own document goes
  pub fresh_goes : (after : List PlainFrame) (before : Option PlainTab) → goes_by number (Framed after (Some frame) before) own ≡ true
  fresh_goes after before = ap (λ b. b && not (not (frame == frame) && has_frame frame after)) (eqb-same number) ∙ ap (λ b. not (not b && has_frame frame after)) (eqb-same frame)

-- ---- an added frame, a click and a request for storage access: nobody goes

-- the frames that were there are there
abbrev Keeps : List PlainFrame → List PlainFrame → Type 0
Keeps frames after = (n : ℕ) → has_frame n frames ≡ true → has_frame n after ≡ true

more_keeps : (e : PlainFrame) (frames : List PlainFrame) → Keeps frames (frames ++ e ∷ [])
more_keeps e [] n there = absurd (cc there)
more_keeps e (f ∷ fs) n there = by (f.frame == n) (more_keeps e fs n) there
  where
    by : (b : Bool) → (has_frame n fs ≡ true → has_frame n (fs ++ e ∷ []) ≡ true) → b || has_frame n fs ≡ true → b || has_frame n (fs ++ e ∷ []) ≡ true
    by true later is = refl
    by false later is = later is

same_frames : (next : PlainFrame → PlainFrame) → ((f : PlainFrame) → (next f).frame ≡ f.frame) → (frames : List PlainFrame) (n : ℕ)
    → has_frame n (map next frames) ≡ has_frame n frames
same_frames next same [] n = refl
same_frames next same (f ∷ fs) n = ap (λ k. k == n || has_frame n (map next fs)) (same f) ∙ ap (λ b. f.frame == n || b) (same_frames next same fs n)

same_keeps : (next : PlainFrame → PlainFrame) → ((f : PlainFrame) → (next f).frame ≡ f.frame) → (frames : List PlainFrame) → Keeps frames (map next frames)
same_keeps next same frames n there = same_frames next same frames n ∙ there

pub added_keeps : (rules : List Rule) (at : Label) (parent : ℕ) (url : PlainAddress) (sandbox : Option (List ℕ)) (deny : Bool) (frames : List PlainFrame)
    → IfOk (frames_added rules at parent url sandbox deny frames) (Keeps frames)
added_keeps rules at parent url sandbox deny frames = by (document_of parent frames)
  where
    free : (above : PlainDocument) (b : Bool)
        → IfOk (cond b (Err FrameExists) (Ok (frames ++ record { frame = at.frame; parent = parent; document = loaded_below rules above (sandbox_of sandbox) deny url } ∷ []))) (Keeps frames)
    free above true = tt
    free above false = more_keeps _ frames

    by : (above : Option PlainDocument) → IfOk (tree.added_below above rules parent at.frame url (sandbox_of sandbox) deny frames) (Keeps frames)
    by None = tt
    by (Some above) = free above (has_frame at.frame frames)

next_same : (next : PlainDocument → PlainDocument) (b : Bool) (f : PlainFrame) → (cond b (with_next next f) f).frame ≡ f.frame
next_same next true f = refl
next_same next false f = refl

pub clicked_keeps : (now : ℕ) (at : Label) (frames : List PlainFrame) → IfOk (frames_clicked now at frames) (Keeps frames)
clicked_keeps now at frames = by (has_frame at.frame frames)
  where
    by : (b : Bool) → IfOk (cond b (Ok (tree.activated at.frame (pos now) frames)) (Err NoFrame)) (Keeps frames)
    by true =
        same_keeps _ (λ f. next_same (tree.with_mark (Some (pos now))) (tree.is_activated at.frame (tree.origin_of at.frame frames) frames f) f) frames
    by false = tt

pub requested_keeps : (gives consumes : Bool) (frame : ℕ) (frames : List PlainFrame) → Keeps frames (requested gives consumes frame frames)
requested_keeps gives consumes frame frames = by gives consumes
  where
    flagged : Keeps frames (tree.with_document frame tree.flagged frames)
    flagged = same_keeps _ (λ f. next_same tree.flagged (f.frame == frame) f) frames

    consumed : (fs : List PlainFrame) → Keeps fs (tree.consumed fs)
    consumed fs = same_keeps (with_next (tree.with_mark None)) (λ f. refl) fs

    by : (gives consumes : Bool) → Keeps frames (requested gives consumes frame frames)
    by false false = λ n there. there
    by false true = consumed frames
    by true false = flagged
    by true true = λ n there. consumed (tree.with_document frame tree.flagged frames) n (flagged n there)

-- ---- a frame that is removed or navigated: each frame below it goes

-- of frames that are kept by their numbers, one that is not kept is not there
kept_alone : (keeps : ℕ → Bool) (n : ℕ) → keeps n ≡ false → (frames : List PlainFrame) → has_frame n (filter (λ f. keeps f.frame) frames) ≡ false
kept_alone keeps n out [] = refl
kept_alone keeps n out (f ∷ fs) = by (keeps f.frame) refl (f.frame == n) refl (kept_alone keeps n out fs)
  where
    more : List PlainFrame
    more = filter (λ g. keeps g.frame) fs

    by : (k : Bool) → keeps f.frame ≡ k → (b : Bool) → (f.frame == n) ≡ b → has_frame n more ≡ false → has_frame n (cond k (f ∷ more) more) ≡ false
    by false is b same later = later
    by true is true same later = absurd (true≢false (sym is ∙ ap keeps (eqb-true f.frame n same) ∙ out))
    by true is false same later = ap (λ b. b || has_frame n more) same ∙ later

-- a frame that is removed goes with each frame below it
pub removed_below : (at : Label) (below : ℕ) (frames : List PlainFrame) (before : Option PlainTab) → is_on_chain at.frame below frames ≡ true
    → IfOk (frames_removed at frames) (λ after. goes_by at.tab (Framed after None before) (own at.tab below) ≡ true)
removed_below at below frames before is_below = by (at.frame == 0) (has_frame at.frame frames)
  where
    goes : goes_by at.tab (Framed (tree.without at.frame frames) None before) (own at.tab below) ≡ true
    goes = framed_goes at.tab below (tree.without at.frame frames) before
        ∙ ap not (kept_alone (λ n. not (is_on_chain at.frame n frames)) below (ap not is_below) frames)

    by : (top there : Bool) → IfOk (cond top (Err NoFrame) (cond there (Ok (tree.without at.frame frames)) (Err NoFrame)))
        (λ after. goes_by at.tab (Framed after None before) (own at.tab below) ≡ true)
    by true there = tt
    by false true = goes
    by false false = tt

-- and so does each frame below one that is navigated
pub navigated_below : (rules : List Rule) (at : Label) (url : PlainAddress) (by_self : Bool) (below : ℕ) (frames : List PlainFrame) (before : Option PlainTab)
    → is_on_chain at.frame below frames ≡ true → (below == at.frame) ≡ false
    → IfOk (frames_navigated rules at url by_self frames) (λ after. goes_by at.tab (Framed after (Some at.frame) before) (own at.tab below) ≡ true)
navigated_below rules at url by_self below frames before is_below other = by (at.frame == 0) (document_of at.frame frames)
  where
    Goes : List PlainFrame → Type 0
    Goes after = goes_by at.tab (Framed after (Some at.frame) before) (own at.tab below) ≡ true

    left : List PlainFrame
    left = tree.without_below at.frame frames

    gone : has_frame below left ≡ false
    gone = kept_alone (λ n. n == at.frame || not (is_on_chain at.frame n frames)) below
        (ap (λ b. b || not (is_on_chain at.frame below frames)) other ∙ ap not is_below) frames

    none : (after : List PlainFrame) → has_frame below after ≡ false → Goes after
    none after absent = ap (λ b. b && not (not (below == at.frame) && has_frame below after)) (eqb-same at.tab)
        ∙ ap (λ b. not (not (below == at.frame) && b)) absent ∙ never (below == at.frame)
      where
        never : (b : Bool) → not (not b && false) ≡ true
        never true = refl
        never false = refl

    loaded : (next : PlainDocument → PlainDocument) → Goes (tree.with_document at.frame next left)
    loaded next = none (tree.with_document at.frame next left) (same_frames _ (λ f. next_same next (f.frame == at.frame) f) left below ∙ gone)

    by : (top : Bool) (document : Option PlainDocument)
        → IfOk (cond top (Err NoFrame) (tree.navigated_from document rules at.frame url (is_granted_nav by_self at.frame frames url) frames)) Goes
    by true document = tt
    by false None = tt
    by false (Some document) = loaded _
