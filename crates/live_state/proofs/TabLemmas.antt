-- What contracts see of an open tab after a write to one of its queues.
use Rattle.std.proofs.Common.{◌≡◌, ℕ, Bool, true, false, cond, not, List, [], ◌∷◌, map, Option, Some, None, refl, ap, sym, ◌∙◌, inl, inr}
use Rattle.std.proofs.lemmas.Bool.{and_parts, and_from}
use Rattle.std.specs.Prelude.{◌&&◌, ◌||◌, ◌==◌, ◌≢◌, ◌⊎◌, Ok, filter, unwrap_or, if◌then◌else◌}
use Rattle.std.proofs.lemmas.Bool.Decides.{eqb_tells}
use Rattle.frame_tree.specs.Tree.{IsTree, PlainFrame, has_frame, top_site}
use Rattle.live_state.specs.declared.frame_queue.FrameQueue.{FrameQueue}
use Rattle.live_state.specs.ExistingQueues.{ChangesFrames, FramesStayReadyBut, IsChangedAt, PlainOpenTab, existing_at, are_of_frames, plain_by, queues_of, ready_by, ready_of}
use Rattle.live_state.specs.Queues.{is_among}
use Rattle.live_state.specs.Tabs.{PlainFrameQueue, empty_queue, is_fresh, made_tab, queue_of, stays}
use Rattle.live_state.proofs.ExistingQueueLemmas.{existing-absent, find-queues, frame_by, queues-put}
use Rattle.live_state.proofs.ListLemmas.{fails_too, find-kept, not_false}

pub queues-same : (frames : List PlainFrame) (old new : List FrameQueue)
    → ((n : ℕ) → plain_by n (existing_at n new) ≡ plain_by n (existing_at n old)) → queues_of frames new ≡ queues_of frames old
queues-same [] old new same = refl
queues-same (f ∷ fs) old new same =
    ap (λ q. q ∷ queues_of fs new) (same f.frame) ∙ ap (λ l. plain_by f.frame (existing_at f.frame old) ∷ l) (queues-same fs old new same)

-- one queue of the tab is changed
pub queues-changed : (frame : ℕ) (change : PlainFrameQueue → PlainFrameQueue) (frames : List PlainFrame) (old new : List FrameQueue) → IsChangedAt frame change old new
    → queues_of frames new ≡ map (λ queue. if queue.frame == frame then change queue else queue) (queues_of frames old)
queues-changed frame change [] old new changed = refl
queues-changed frame change (f ∷ fs) old new changed =
    let q : PlainFrameQueue = plain_by f.frame (existing_at f.frame old) in
    ap (λ q. q ∷ queues_of fs new) (changed.plain f.frame)
    ∙ ap (λ m. (if m == frame then change q else q) ∷ queues_of fs new) (sym (frame_by f.frame (existing_at f.frame old)))
    ∙ ap (λ l. (if q.frame == frame then change q else q) ∷ l) (queues-changed frame change fs old new changed)

existing_by : (n : ℕ) (there : Bool) (h : Option FrameQueue) → (there ≡ false → h ≡ None)
    → unwrap_or (cond there (Some (plain_by n h)) None) (empty_queue n) ≡ plain_by n h
existing_by n true h absent = refl
existing_by n false h absent = ap (plain_by n) (sym (absent refl))

-- the queue of a frame is the one that is existing, if there is one
pub queue-existing : (n : ℕ) (frames : List PlainFrame) (existing : List FrameQueue) → are_of_frames frames existing ≡ true
    → queue_of n (queues_of frames existing) ≡ plain_by n (existing_at n existing)
queue-existing n frames existing all =
    ap (λ o. unwrap_or o (empty_queue n)) (find-queues n existing frames)
    ∙ existing_by n (has_frame n frames) (existing_at n existing) (existing-absent n frames existing all)

-- ---- the frames that are ready

among_step : (n : ℕ) (r : ℕ → Bool) (f : PlainFrame) (rest : List ℕ) (there : Bool) (b : Bool) → r f.frame ≡ b
    → (((f.frame == n) ≡ true) × (f.frame ≡ n)) ⊎ (((f.frame == n) ≡ false) × (f.frame ≢ n))
    → is_among n rest ≡ (there && r n)
    → is_among n (cond b (f.frame ∷ rest) rest) ≡ (((f.frame == n) || there) && r n)
among_step n r f rest there true is (inl equal) more =
    ap (λ t. t || is_among n rest) equal.0
    ∙ sym (ap (λ t. (t || there) && r n) equal.0 ∙ ap r (sym equal.1) ∙ is)
among_step n r f rest there false is (inl equal) more =
    more
    ∙ ap (λ t. there && t) (ap r (sym equal.1) ∙ is)
    ∙ and_false there
    ∙ sym (ap (λ t. (t || there) && r n) equal.0 ∙ ap r (sym equal.1) ∙ is)
  where
    and_false : (b : Bool) → (b && false) ≡ false
    and_false true = refl
    and_false false = refl
among_step n r f rest there true is (inr differ) more =
    ap (λ t. t || is_among n rest) differ.0 ∙ more ∙ sym (ap (λ t. (t || there) && r n) differ.0)
among_step n r f rest there false is (inr differ) more =
    more ∙ sym (ap (λ t. (t || there) && r n) differ.0)

pub among-ready : (n : ℕ) (frames : List PlainFrame) (existing : List FrameQueue)
    → is_among n (ready_of frames existing) ≡ (has_frame n frames && ready_by (existing_at n existing))
among-ready n [] existing = refl
among-ready n (f ∷ fs) existing =
    among_step n (λ m. ready_by (existing_at m existing)) f (ready_of fs existing) (has_frame n fs) (ready_by (existing_at f.frame existing)) refl (eqb_tells f.frame n)
    (among-ready n fs existing)

-- a frame that is there is ready where its queue is
pub ready-there : (n : ℕ) (frames : List PlainFrame) (existing : List FrameQueue) → has_frame n frames ≡ true → ready_by (existing_at n existing) ≡ true
    → is_among n (ready_of frames existing) ≡ true
ready-there n frames existing there ready = among-ready n frames existing ∙ and_from (has_frame n frames) (ready_by (existing_at n existing)) there ready

pub ready-parts : (n : ℕ) (frames : List PlainFrame) (existing : List FrameQueue) → is_among n (ready_of frames existing) ≡ true
    → (has_frame n frames ≡ true) × (ready_by (existing_at n existing) ≡ true)
ready-parts n frames existing ready = and_parts (has_frame n frames) (ready_by (existing_at n existing)) (sym (among-ready n frames existing) ∙ ready)

-- a frame whose queue is not ready is not
pub unready : (n : ℕ) (frames : List PlainFrame) (existing : List FrameQueue) → ready_by (existing_at n existing) ≡ false
    → is_among n (ready_of frames existing) ≡ false
unready n frames existing isnt =
    fails_too (is_among n (ready_of frames existing)) (ready_by (existing_at n existing)) (λ ready. (ready-parts n frames existing ready).1) isnt

-- what is ready stays so
pub ready-stays : (n : ℕ) (frames : List PlainFrame) (old new : List FrameQueue)
    → (ready_by (existing_at n old) ≡ true → ready_by (existing_at n new) ≡ true)
    → is_among n (ready_of frames old) ≡ true → is_among n (ready_of frames new) ≡ true
ready-stays n frames old new stays ready =
    let parts = ready-parts n frames old ready in ready-there n frames new parts.0 (stays parts.1)

-- what is ready and stays where frames are put into the tab is ready still
ready-put : (fresh : Option ℕ) (frames made : List PlainFrame) (existing : List FrameQueue) (n : ℕ) → not (stays fresh made n) ≡ false
    → is_among n (ready_of frames existing) ≡ true → is_among n (ready_of made (filter (λ q. stays fresh made q.frame) existing)) ≡ true
ready-put fresh frames made existing n stay ready =
    let there : stays fresh made n ≡ true = not_false (stays fresh made n) stay in
    ready-there n made (filter (λ q. stays fresh made q.frame) existing) (and_parts (not (is_fresh fresh n)) (has_frame n made) there).1
    (ap ready_by (find-kept (λ q. q.frame) (stays fresh made) n existing ∙ ap (λ b. cond b (existing_at n existing) None) there)
    ∙ (ready-parts n frames existing ready).1)

-- each frame has a queue
pub queues-each : (frames : List PlainFrame) (existing : List FrameQueue) → map (λ q. q.frame) (queues_of frames existing) ≡ map (λ f. f.frame) frames
queues-each [] existing = refl
queues-each (f ∷ fs) existing =
    ap (λ n. n ∷ map (λ q. q.frame) (queues_of fs existing)) (frame_by f.frame (existing_at f.frame existing)) ∙ ap (λ l. f.frame ∷ l) (queues-each fs existing)

-- ---- other frames in the tab, and the queues that are kept

-- a tab of these frames and existing queues
abbrev pub open_tab : ℕ → List PlainFrame → List FrameQueue → PlainOpenTab
open_tab number frames existing = record {
  plain = record { number = number; frames = frames; queues = queues_of frames existing };
  ready = ready_of frames existing;
}

module _ (fresh : Option ℕ) (frames made : List PlainFrame) (existing kept : List FrameQueue) (is : kept ≡ filter (λ q. stays fresh made q.frame) existing)
    (number : ℕ) (old : PlainOpenTab) (seen : open_tab number frames existing ≡ old) where
  pub tab-made : are_of_frames frames existing ≡ true → (open_tab number made kept).plain ≡ made_tab old.plain.number made fresh (Some old.plain)
  tab-made all =
      ap (λ qs. record { number = number; frames = made; queues = qs })
      (ap (queues_of made) is ∙ sym (queues-put fresh frames made existing all))
      ∙ ap (λ tab. made_tab tab.plain.number made fresh (Some tab.plain)) seen

  pub ready-made : FramesStayReadyBut (λ n. not (stays fresh made n)) old (open_tab number made kept)
  ready-made = λ n stay ready.
      ap (λ l. is_among n (ready_of made l)) is ∙ ready-put fresh frames made existing n stay (ap (λ tab. is_among n tab.ready) seen ∙ ready)

  -- where a call changed the frames
  pub frames-changed : {T E : Type 0} {value : T} → are_of_frames frames existing ≡ true → top_site made ≡ top_site frames → IsTree made
      → ChangesFrames {T = T} {E = E} (Ok value) fresh old (open_tab number made kept)
  frames-changed all site tree = record {
    put = tab-made all;
    unchanged = tt;
    number = ap (λ tab. tab.plain.number) seen;
    site = site ∙ ap (λ tab. top_site tab.plain.frames) seen;
    tree = tree;
    kept = ready-made;
  }
