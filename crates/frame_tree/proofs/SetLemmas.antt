-- Sets of frames, one frame more at a time.
use Rattle.std.proofs.Common.{◌≡◌, ◌≢◌, ℕ, ◌<◌, ◌≤◌, ◌+◌, Bool, true, false, cond, not, replicate, arith, List, [], ◌∷◌, ◌++◌, map, reverse, take, length, get_or, set, inl, inr, refl, ap, ◌∙◌, sym, subst, get_or-set_other, get_or-set_same}
use Rattle.std.specs.Prelude.{◌||◌, ◌==◌, ◌⊎◌, filter}
use Rattle.std.proofs.lemmas.Bool.{cases_lt, eq-eqb, ne_eqb}
use Rattle.std.proofs.lemmas.Bool.Decides.{eqb_tells}
use Rattle.std.proofs.lemmas.List.{get_or-replicate, length-replicate, map-append, take_more}
use Rattle.std.proofs.Math.ListN.{get_or-eq_default}
use Rattle.frame_tree.specs.Plain.{plain_frame}
use Rattle.frame_tree.specs.Sets.{IsSetOf, found}
use Rattle.frame_tree.specs.Tree.{PlainFrame, is_on_chain}
use Rattle.frame_tree.specs.declared.frames.Frame.{Frame}
use Rattle.frame_tree.proofs.ApartLemmas.{put_at}
use Rattle.frame_tree.proofs.ShapeLemmas.{filter-kept, on_back, on_back-step, or_flip, reverse-snoc, same-frame}
use Rattle.frame_tree.specs.Calls.{with_document, without, without_below}
use Rattle.frame_tree.specs.Document.{PlainDocument}

-- one frame more of the list
pub frames-more : (fs : List Frame) (i : ℕ) (d : Frame) → i < length fs
    → map plain_frame (take (i + 1) fs) ≡ map plain_frame (take i fs) ++ plain_frame (get_or fs i d) ∷ []
frames-more fs i d low = ap (map plain_frame) (take_more fs i d low) ∙ map-append plain_frame (take i fs) (get_or fs i d ∷ [])

set_by : (s : List Bool) (k n : ℕ) (b : Bool) → k < length s
    → (((k == n) ≡ true) × (k ≡ n)) ⊎ (((k == n) ≡ false) × (k ≢ n))
    → get_or (set s k b) n false ≡ cond (k == n) b (get_or s n false)
set_by s k n b low (inl is) =
    subst (λ m. get_or (set s k b) m false ≡ b) is.1 (get_or-set_same s k b false low)
    ∙ ap (λ t. cond t b (get_or s n false)) (sym is.0)
set_by s k n b low (inr is) =
    get_or-set_other s k n b false (λ same. is.1 (sym same)) ∙ ap (λ t. cond t b (get_or s n false)) (sym is.0)

pub set-read : (s : List Bool) (k n : ℕ) (b : Bool) → k < length s → get_or (set s k b) n false ≡ cond (k == n) b (get_or s n false)
set-read s k n b low = set_by s k n b low (eqb_tells k n)

pub from-more : (frame : ℕ) (fs : List PlainFrame) (e : PlainFrame) (s : List Bool) (b : Bool) → e.frame < length s
    → b ≡ (e.frame == frame || get_or s e.parent false) → IsSetOf (λ n. is_on_chain frame n fs) s
    → IsSetOf (λ n. is_on_chain frame n (fs ++ e ∷ [])) (set s e.frame b)
from-more frame fs e s b low is so = λ n.
    set-read s e.frame n b low
    ∙ ap (λ t. cond (e.frame == n) t (get_or s n false))
    (is ∙ ap (λ t. (e.frame == frame) || t) (so e.parent) ∙ or_flip (e.frame == frame) (on_back frame e.parent (reverse fs)))
    ∙ ap (λ t. cond (e.frame == n) (on_back frame e.parent (reverse fs) || (e.frame == frame)) t) (so n)
    ∙ sym (on_back-step frame n e (reverse fs))
    ∙ ap (on_back frame n) (sym (reverse-snoc fs e))

pub found-more : (passes : PlainFrame → Bool) (fs : List PlainFrame) (e : PlainFrame) (s : List Bool) (b : Bool) → e.frame < length s
    → b ≡ passes e → IsSetOf (λ n. found passes n (reverse fs)) s → IsSetOf (λ n. found passes n (reverse (fs ++ e ∷ []))) (set s e.frame b)
found-more passes fs e s b low is so = λ n.
    set-read s e.frame n b low
    ∙ ap (λ t. cond (e.frame == n) t (get_or s n false)) is
    ∙ ap (λ t. cond (e.frame == n) (passes e) t) (so n)
    ∙ ap (found passes n) (sym (reverse-snoc fs e))

empty_by : (n : ℕ) → (n < 256) ⊎ (256 ≤ n) → get_or (replicate 256 false) n false ≡ false
empty_by n (inl low) = get_or-replicate 256 n false false low
empty_by n (inr high) =
    let short : length (replicate 256 false) ≤ n = omega (arith, high, length-replicate 256 false) in
    get_or-eq_default (replicate 256 false) false {n = n} short

-- the set without a frame
pub set-empty : (n : ℕ) → get_or (replicate 256 false) n false ≡ false
set-empty n = empty_by n (cases_lt n 256)

but_own : (t u : Bool) (a : Bool) → (t ≡ u) → not (cond t false a) ≡ (u || not a)
but_own true u a is = ap (λ b. b || not a) is
but_own false u a is = ap (λ b. b || not a) is

same_by : (a b : ℕ) → (((a == b) ≡ true) × (a ≡ b)) ⊎ (((a == b) ≡ false) × (a ≢ b)) → (a == b) ≡ (b == a)
same_by a b (inl is) = is.0 ∙ sym (eq-eqb b a (sym is.1))
same_by a b (inr is) = is.0 ∙ sym (ne_eqb b a (λ same. is.1 (sym same)))

-- a set without one of its frames
pub set-but : (frame n : ℕ) (s : List Bool) → frame < length s
    → not (get_or (set s frame false) n false) ≡ ((n == frame) || not (get_or s n false))
set-but frame n s low =
    ap not (set-read s frame n false low)
    ∙ but_own (frame == n) (n == frame) (get_or s n false) (same_by frame n (eqb_tells frame n))

filtered_by : (b : Bool) (f : Frame) (fs : List Frame)
    → map plain_frame (cond b (f ∷ fs) fs) ≡ cond b (plain_frame f ∷ map plain_frame fs) (map plain_frame fs)
filtered_by true f fs = refl
filtered_by false f fs = refl

-- a filter of frames is one of what contracts see of them
pub filtered-plain : (q : PlainFrame → Bool) (fs : List Frame) → map plain_frame (filter (λ f. q (plain_frame f)) fs) ≡ filter q (map plain_frame fs)
filtered-plain q [] = refl
filtered-plain q (f ∷ fs) =
    filtered_by (q (plain_frame f)) f (filter (λ g. q (plain_frame g)) fs)
    ∙ ap (λ l. cond (q (plain_frame f)) (plain_frame f ∷ l) l) (filtered-plain q fs)

-- what is left where a set was dropped that has the frames from one
pub removed-as : (frame : ℕ) (gone : List Bool) (fs left : List PlainFrame) → ((n : ℕ) → get_or gone n false ≡ is_on_chain frame n fs)
    → left ≡ filter (λ f. not (get_or gone f.frame false)) fs → left ≡ without frame fs
removed-as frame gone fs left so is =
    is ∙ ap (λ (p : ℕ → Bool). filter (λ f. not (p f.frame)) fs) (λ i n. so n i)

-- what is left where a frame has another document, and a set was dropped that has the frames below
pub navigated-as : (frame : ℕ) (next : PlainDocument → PlainDocument) (below : List Bool) (fs mid left : List PlainFrame)
    → ((n : ℕ) → not (get_or below n false) ≡ (n == frame || not (is_on_chain frame n fs)))
    → mid ≡ with_document frame next fs → left ≡ filter (λ f. not (get_or below f.frame false)) mid
    → left ≡ with_document frame next (without_below frame fs)
navigated-as frame next below fs mid left so put is =
    is ∙ ap (filter (λ f. not (get_or below f.frame false))) put
    ∙ filter-kept (λ n. not (get_or below n false)) (put_at frame next) (same-frame (λ n. n == frame) next) fs
    ∙ ap (λ (p : ℕ → Bool). with_document frame next (filter (λ f. p f.frame) fs)) (λ i n. so n i)
