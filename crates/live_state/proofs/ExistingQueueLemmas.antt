-- The queues that a tab holds, and the queue of each frame.
use Rattle.std.proofs.Common.{◌≡◌, ℕ, Bool, true, false, cond, not, List, [], ◌∷◌, map, Option, Some, None, refl, ap, sym, ◌∙◌, inl, inr}
use Rattle.std.proofs.lemmas.Bool.{and_parts, and_from, or_right}
use Rattle.std.specs.Prelude.{◌&&◌, ◌||◌, ◌==◌, ◌≢◌, ◌⊎◌, filter, find, unwrap_or, if◌then◌else◌}
use Rattle.std.specs.List.{list_all}
use Rattle.std.proofs.lemmas.Bool.Decides.{eqb_tells}
use Rattle.frame_tree.specs.Tree.{PlainFrame, has_frame}
use Rattle.live_state.specs.declared.frame_queue.FrameQueue.{FrameQueue}
use Rattle.live_state.specs.ExistingQueues.{existing_at, are_of_frames, plain_by, queues_of}
use Rattle.live_state.specs.Tabs.{empty_queue, is_fresh, queue_after, stays}
use Rattle.live_state.proofs.ListLemmas.{all_pass, all_weaker, find-kept}

pub frame_by : (n : ℕ) (o : Option FrameQueue) → (plain_by n o).frame ≡ n
frame_by n None = refl
frame_by n (Some q) = refl

-- ---- the queue of a frame

queue_step : (n : ℕ) (existing : List FrameQueue) (f : PlainFrame) (fs : List PlainFrame)
    → (((f.frame == n) ≡ true) × (f.frame ≡ n)) ⊎ (((f.frame == n) ≡ false) × (f.frame ≢ n))
    → find (λ q. q.frame == n) (queues_of fs existing) ≡ cond (has_frame n fs) (Some (plain_by n (existing_at n existing))) None
    → cond (f.frame == n) (Some (plain_by f.frame (existing_at f.frame existing))) (find (λ q. q.frame == n) (queues_of fs existing))
    ≡ cond ((f.frame == n) || has_frame n fs) (Some (plain_by n (existing_at n existing))) None
queue_step n existing f fs (inl is) rest =
    ap (λ t. cond t (Some (plain_by f.frame (existing_at f.frame existing))) (find (λ q. q.frame == n) (queues_of fs existing))) is.0
    ∙ ap (λ m. Some (plain_by m (existing_at m existing))) is.1
    ∙ sym (ap (λ t. cond (t || has_frame n fs) (Some (plain_by n (existing_at n existing))) None) is.0)
queue_step n existing f fs (inr isnt) rest =
    ap (λ t. cond t (Some (plain_by f.frame (existing_at f.frame existing))) (find (λ q. q.frame == n) (queues_of fs existing))) isnt.0
    ∙ rest
    ∙ sym (ap (λ t. cond (t || has_frame n fs) (Some (plain_by n (existing_at n existing))) None) isnt.0)

pub find-queues : (n : ℕ) (existing : List FrameQueue) (frames : List PlainFrame)
    → find (λ q. q.frame == n) (queues_of frames existing) ≡ cond (has_frame n frames) (Some (plain_by n (existing_at n existing))) None
find-queues n existing [] = refl
find-queues n existing (f ∷ fs) =
    ap (λ m. cond (m == n) (Some (plain_by f.frame (existing_at f.frame existing))) (find (λ q. q.frame == n) (queues_of fs existing)))
    (frame_by f.frame (existing_at f.frame existing))
    ∙ queue_step n existing f fs (eqb_tells f.frame n) (find-queues n existing fs)

-- ---- what is existing is of a frame

absent_step : (n : ℕ) (frames : List PlainFrame) (q : FrameQueue) (rest : Option FrameQueue)
    → (((q.frame == n) ≡ true) × (q.frame ≡ n)) ⊎ (((q.frame == n) ≡ false) × (q.frame ≢ n))
    → has_frame q.frame frames ≡ true → has_frame n frames ≡ false → rest ≡ None
    → cond (q.frame == n) (Some q) rest ≡ None
absent_step n frames q rest (inl is) there none same =
    let no : false ≡ true = sym none ∙ ap (λ m. has_frame m frames) (sym is.1) ∙ there in absurd (cc no)
absent_step n frames q rest (inr isnt) there none same = ap (λ t. cond t (Some q) rest) isnt.0 ∙ same

pub existing-absent : (n : ℕ) (frames : List PlainFrame) (existing : List FrameQueue) → are_of_frames frames existing ≡ true → has_frame n frames ≡ false
    → existing_at n existing ≡ None
existing-absent n frames [] all none = refl
existing-absent n frames (q ∷ existing) all none =
    let parts = and_parts (has_frame q.frame frames) (are_of_frames frames existing) all in
    absent_step n frames q (existing_at n existing) (eqb_tells q.frame n) parts.0 none (existing-absent n frames existing parts.1 none)

-- ---- a put

queue_by : (n : ℕ) (fresh there : Bool) (h : Option FrameQueue) → (there ≡ false → h ≡ None)
    → (if fresh then empty_queue n else unwrap_or (cond there (Some (plain_by n h)) None) (empty_queue n))
    ≡ plain_by n (cond (not fresh && true) h None)
queue_by n true there h absent = refl
queue_by n false true h absent = refl
queue_by n false false h absent = ap (plain_by n) (sym (absent refl))

-- the queue of a frame that is there afterwards
queue-put : (fresh : Option ℕ) (frames made : List PlainFrame) (existing : List FrameQueue) (n : ℕ) → are_of_frames frames existing ≡ true
    → has_frame n made ≡ true
    → queue_after fresh (queues_of frames existing) n ≡ plain_by n (existing_at n (filter (λ q. stays fresh made q.frame) existing))
queue-put fresh frames made existing n all there =
    ap (λ o. if is_fresh fresh n then empty_queue n else unwrap_or o (empty_queue n)) (find-queues n existing frames)
    ∙ queue_by n (is_fresh fresh n) (has_frame n frames) (existing_at n existing) (existing-absent n frames existing all)
    ∙ ap (λ b. plain_by n (cond (not (is_fresh fresh n) && b) (existing_at n existing) None)) (sym there)
    ∙ ap (plain_by n) (sym (find-kept (λ q. q.frame) (stays fresh made) n existing))

queues-put_of : (fresh : Option ℕ) (frames made : List PlainFrame) (existing : List FrameQueue) (fs : List PlainFrame) → are_of_frames frames existing ≡ true
    → list_all (λ f. has_frame f.frame made) fs ≡ true
    → map (λ f. queue_after fresh (queues_of frames existing) f.frame) fs ≡ queues_of fs (filter (λ q. stays fresh made q.frame) existing)
queues-put_of fresh frames made existing [] all there = refl
queues-put_of fresh frames made existing (f ∷ fs) all there =
    let parts = and_parts (has_frame f.frame made) (list_all (λ f. has_frame f.frame made) fs) there in
    ap (λ q. q ∷ map (λ f. queue_after fresh (queues_of frames existing) f.frame) fs) (queue-put fresh frames made existing f.frame all parts.0)
    ∙ ap (λ l. plain_by f.frame (existing_at f.frame (filter (λ q. stays fresh made q.frame) existing)) ∷ l) (queues-put_of fresh frames made existing fs all parts.1)

own_by : (n : ℕ) (b : Bool) → (((n == n) ≡ true) × (n ≡ n)) ⊎ (((n == n) ≡ false) × (n ≢ n)) → ((n == n) || b) ≡ true
own_by n b (inl is) = ap (λ t. t || b) is.0
own_by n b (inr isnt) = absurd (isnt.1 refl)

-- each frame is there
pub all_there : (fs : List PlainFrame) → list_all (λ f. has_frame f.frame fs) fs ≡ true
all_there [] = refl
all_there (f ∷ fs) =
    and_from (has_frame f.frame (f ∷ fs)) (list_all (λ g. has_frame g.frame (f ∷ fs)) fs)
    (own_by f.frame (has_frame f.frame fs) (eqb_tells f.frame f.frame))
    (all_weaker (λ g. has_frame g.frame fs) (λ g. has_frame g.frame (f ∷ fs)) (λ g there. or_right (f.frame == g.frame) (has_frame g.frame fs) there) fs (all_there fs))

pub queues-put : (fresh : Option ℕ) (frames made : List PlainFrame) (existing : List FrameQueue) → are_of_frames frames existing ≡ true
    → map (λ f. queue_after fresh (queues_of frames existing) f.frame) made ≡ queues_of made (filter (λ q. stays fresh made q.frame) existing)
queues-put fresh frames made existing all = queues-put_of fresh frames made existing made all (all_there made)

-- what is kept is of a frame that is there
pub existing-put : (fresh : Option ℕ) (made : List PlainFrame) (existing : List FrameQueue) → are_of_frames made (filter (λ q. stays fresh made q.frame) existing) ≡ true
existing-put fresh made existing =
    all_weaker (λ q. stays fresh made q.frame) (λ q. has_frame q.frame made)
    (λ q stays. (and_parts (not (is_fresh fresh q.frame)) (has_frame q.frame made) stays).1)
    (filter (λ q. stays fresh made q.frame) existing) (all_pass (λ q. stays fresh made q.frame) existing)
