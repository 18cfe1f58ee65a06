-- The site of the top document, in each change of the frames.
use Rattle.std.proofs.Common.{◌≡◌, ◌≢◌, ℕ, Bool, true, false, cond, List, [], ◌∷◌, ◌++◌, map, reverse, refl, ap, ◌∙◌, sym, subst}
use Rattle.std.specs.Prelude.{◌||◌, ◌==◌, filter, find, option_and_then, option_map, Some, if◌then◌else◌}
use Rattle.std.proofs.lemmas.Bool.{eq-eqb, eqb-true, both_ways}
use Rattle.std.proofs.lemmas.List.{reverse-reverse}
use Rattle.std.proofs.lemmas.List.Folds.{list_any-append}
use Rattle.frame_tree.specs.Calls.{with_document, without_below}
use Rattle.frame_tree.specs.Document.{PlainDocument}
use Rattle.frame_tree.specs.Tree.{PlainFrame, IsGrown, IsTree, chain_of, document_of, has_frame, top_site, with_next}
use Rattle.frame_tree.proofs.ShapeLemmas.{chain-top, flip_apart, has-reversed, has_none, is_kept, or_none, or_true, reverse-cons, tree-filter}

-- in a list of frames, newest first, the oldest is frame 0
oldest_frame : (fs : List PlainFrame) (top : PlainFrame) → IsGrown (fs ++ top ∷ []) → top.frame ≡ 0
oldest_frame [] top grown = grown.0
oldest_frame (e ∷ []) top grown = grown.2.0
oldest_frame (e ∷ next ∷ fs) top grown = oldest_frame (next ∷ fs) top grown.2

-- a number that is not there is not 0
not_zero : (n : ℕ) (fs : List PlainFrame) (top : PlainFrame) → top.frame ≡ 0 → has_frame n (fs ++ top ∷ []) ≡ false → (n == 0) ≡ false
not_zero n fs top zero none =
    let parts = or_none (has_frame n fs) (has_frame n (top ∷ [])) (sym (list_any-append (λ f. f.frame == n) fs (top ∷ [])) ∙ none) in
    flip_apart 0 n (ap (λ m. m == n) (sym zero) ∙ (or_none (top.frame == n) false parts.1).0)

newer_frames : (fs : List PlainFrame) (top : PlainFrame) → IsGrown (fs ++ top ∷ []) → has_frame 0 fs ≡ false
newer_frames [] top grown = refl
newer_frames (e ∷ []) top grown = ap (λ b. b || false) (not_zero e.frame [] top grown.2.0 grown.0)
newer_frames (e ∷ next ∷ fs) top grown =
    ap (λ b. b || has_frame 0 (next ∷ fs)) (not_zero e.frame (next ∷ fs) top (oldest_frame (next ∷ fs) top grown.2) grown.0)
    ∙ newer_frames (next ∷ fs) top grown.2

-- frame 0 is there
pub has_zero : (fs : List PlainFrame) → IsGrown fs → has_frame 0 fs ≡ true
has_zero [] grown = absurd grown
has_zero (f ∷ []) grown = ap (λ n. (n == 0) || false) grown.0
has_zero (f ∷ next ∷ older) grown =
    ap (λ b. (f.frame == 0) || b) (has_zero (next ∷ older) grown.2) ∙ or_true (f.frame == 0)

-- the document of frame 0 is the top's
pub top-document : (fs : List PlainFrame) → IsTree fs → option_and_then (λ d. d.site) (document_of 0 fs) ≡ top_site fs
top-document [] tree = absurd tree
top-document (f ∷ fs) tree =
    ap (λ b. option_and_then (λ d. d.site) (option_map (λ (g : PlainFrame). g.document) (cond b (Some f) (find (λ g. g.frame == 0) fs))))
    (eq-eqb f.frame 0 (oldest_frame (reverse fs) f (subst IsGrown (reverse-cons f fs) tree)))

-- a frame more
pub top-added : (fs : List PlainFrame) (e : PlainFrame) → IsTree fs → top_site (fs ++ e ∷ []) ≡ top_site fs
top-added [] e tree = absurd tree
top-added (f ∷ fs) e tree = refl

-- other documents, where the top keeps its site
pub top-marked : (p : PlainFrame → Bool) (next : PlainDocument → PlainDocument)
    → ((f : PlainFrame) → f.frame ≡ 0 → p f ≡ true → (next f.document).site ≡ f.document.site)
    → (fs : List PlainFrame) → IsTree fs → top_site (map (λ f. if p f then with_next next f else f) fs) ≡ top_site fs
top-marked p next keeps [] tree = absurd tree
top-marked p next keeps (f ∷ fs) tree =
    at (p f) (keeps f (oldest_frame (reverse fs) f (subst IsGrown (reverse-cons f fs) tree)))
  where
    at : (b : Bool) → (b ≡ true → (next f.document).site ≡ f.document.site)
        → (cond b (with_next next f) f).document.site ≡ f.document.site
    at true same = same refl
    at false same = refl

top_filtered_by : (b : Bool) (f : PlainFrame) (left : List PlainFrame) → has_frame 0 left ≡ false
    → IsTree (cond b (f ∷ left) left) → top_site (cond b (f ∷ left) left) ≡ f.document.site
top_filtered_by true f left none tree = refl
top_filtered_by false f left none tree =
    absurd (both_ways (has_frame 0 left) none (sym (has-reversed 0 left) ∙ has_zero (reverse left) tree))

-- a tree that is left of a tree
pub top-filtered : (p : PlainFrame → Bool) (fs : List PlainFrame) → IsTree fs → IsTree (filter p fs)
    → top_site (filter p fs) ≡ top_site fs
top-filtered p [] tree left = absurd tree
top-filtered p (f ∷ fs) tree left =
    let newer : has_frame 0 (reverse fs) ≡ false = newer_frames (reverse fs) f (subst IsGrown (reverse-cons f fs) tree) in
    top_filtered_by (p f) f (filter p fs) (has_none 0 p fs (sym (has-reversed 0 fs) ∙ newer)) left

-- a navigation of a frame that is not the top
pub top-navigated : (frame : ℕ) (next : PlainDocument → PlainDocument) (fs : List PlainFrame) → frame ≢ 0 → IsTree fs
    → top_site (with_document frame next (without_below frame fs)) ≡ top_site fs
top-navigated frame next fs low tree =
    let left : IsTree (without_below frame fs) = tree-filter true frame low fs tree in
    top-marked (λ f. f.frame == frame) next (λ f top is. absurd (low (sym (eqb-true f.frame frame is) ∙ top)))
    (without_below frame fs) left
    ∙ top-filtered (is_kept true frame (reverse fs)) fs tree left

-- the chain of a frame that is there
pub top-of-chain : (frame : ℕ) (fs : List PlainFrame) → IsTree fs → has_frame frame fs ≡ true
    → top_site (chain_of frame fs) ≡ top_site fs
top-of-chain frame fs tree there =
    chain-top frame (reverse fs) tree (has-reversed frame fs ∙ there) ∙ ap top_site (reverse-reverse fs)
