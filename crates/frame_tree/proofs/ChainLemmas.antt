-- Where the frames of a tab stand: each chain is that of the parent and the frame itself.
use Rattle.std.proofs.Common.{◌≡◌, ◌≢◌, ℕ, Bool, true, false, not, cond, List, [], ◌∷◌, ◌++◌, map, reverse, inl, inr, refl, ap, ◌∙◌, sym, subst}
use Rattle.std.specs.Prelude.{◌&&◌, ◌||◌, ◌==◌, ◌⊎◌, filter}
use Rattle.std.specs.List.{All}
use Rattle.std.proofs.lemmas.Bool.{both_ways, eqb-true, eq-eqb, ne_eqb}
use Rattle.std.proofs.lemmas.Bool.Decides.{eqb_tells}
use Rattle.std.proofs.lemmas.List.{map-append, reverse-reverse}
use Rattle.std.proofs.lemmas.List.Elements.{All-append, All-cons, All-head, All-nil, All-tail, All-weaker}
use Rattle.std.proofs.lemmas.List.Folds.{list_any-append}
use Rattle.frame_tree.specs.Tree.{PlainFrame, IsGrown, IsTree, chain_back, chain_of, has_frame}
use Rattle.frame_tree.proofs.ShapeLemmas.{filter-reversed, is_kept, map-reversed, on_back, on_back-absent, on_back-newer, or_true, reverse-cons, reverse-snoc}
use Rattle.frame_tree.proofs.TopLemmas.{has_zero}

map_by : (b : Bool) (h : PlainFrame → PlainFrame) (xs ys : List PlainFrame) (e : PlainFrame)
    → cond b (map h xs ++ h e ∷ []) (map h ys) ≡ map h (cond b (xs ++ e ∷ []) ys)
map_by true h xs ys e = sym (map-append h xs (e ∷ []))
map_by false h xs ys e = refl

-- frames that keep number and parent have the same chains
pub chain-map : (h : PlainFrame → PlainFrame) → ((f : PlainFrame) → ((h f).frame ≡ f.frame) × ((h f).parent ≡ f.parent))
    → (n : ℕ) (fs : List PlainFrame) → chain_back n (map h fs) ≡ map h (chain_back n fs)
chain-map h same n [] = refl
chain-map h same n (f ∷ older) =
    ap (λ m. cond (m == n) (chain_back (h f).parent (map h older) ++ h f ∷ []) (chain_back n (map h older))) (same f).0
    ∙ ap (λ m. cond (f.frame == n) (chain_back m (map h older) ++ h f ∷ []) (chain_back n (map h older))) (same f).1
    ∙ ap (λ l. cond (f.frame == n) (l ++ h f ∷ []) (chain_back n (map h older))) (chain-map h same f.parent older)
    ∙ ap (λ l. cond (f.frame == n) (map h (chain_back f.parent older) ++ h f ∷ []) l) (chain-map h same n older)
    ∙ map_by (f.frame == n) h (chain_back f.parent older) (chain_back n older) f

-- the chain of a tab's frame, where frames keep number and parent
pub chain-of-map : (h : PlainFrame → PlainFrame) → ((f : PlainFrame) → ((h f).frame ≡ f.frame) × ((h f).parent ≡ f.parent))
    → (n : ℕ) (fs : List PlainFrame) → chain_of n (map h fs) ≡ map h (chain_of n fs)
chain-of-map h same n fs = ap (chain_back n) (map-reversed h fs) ∙ chain-map h same n (reverse fs)

pub chain-newer : (n : ℕ) (e : PlainFrame) (older : List PlainFrame) → (e.frame == n) ≡ false
    → chain_back n (e ∷ older) ≡ chain_back n older
chain-newer n e older apart = ap (λ b. cond b (chain_back e.parent older ++ e ∷ []) (chain_back n older)) apart

pub chain-own : (e : PlainFrame) (older : List PlainFrame) → chain_back e.frame (e ∷ older) ≡ chain_back e.parent older ++ e ∷ []
chain-own e older =
    ap (λ b. cond b (chain_back e.parent older ++ e ∷ []) (chain_back e.frame older)) (eq-eqb e.frame e.frame refl)

-- the numbers of what is there and of what is not differ
pub apart-of : (a b : ℕ) (fs : List PlainFrame) → has_frame a fs ≡ false → has_frame b fs ≡ true → (a == b) ≡ false
apart-of a b fs none there =
    ne_eqb a b (λ same. both_ways (has_frame b fs) (ap (λ n. has_frame n fs) (sym same) ∙ none) there)

-- where a frame stands among those of a tab, newest first
pub record IsPlaced (fs : List PlainFrame) (e : PlainFrame) : Type 0 where
  pub there : has_frame e.frame fs ≡ true
  pub above : has_frame e.parent fs ≡ true
  pub top : (e.frame == 0) ≡ true → e.parent ≡ 0
  pub clear : (e.frame == 0) ≡ false → on_back e.frame e.parent fs ≡ false
  pub step : (e.frame == 0) ≡ false → chain_back e.frame fs ≡ chain_back e.parent fs ++ e ∷ []

placed_newest : (f : PlainFrame) (fs : List PlainFrame) → has_frame f.frame fs ≡ false → has_frame f.parent fs ≡ true
    → has_frame 0 fs ≡ true → IsPlaced (f ∷ fs) f
placed_newest f fs fresh parent zero =
    let apart : (f.frame == f.parent) ≡ false = apart-of f.frame f.parent fs fresh parent in record {
      there = ap (λ b. b || has_frame f.frame fs) (eq-eqb f.frame f.frame refl);
      above = ap (λ b. (f.frame == f.parent) || b) parent ∙ or_true (f.frame == f.parent);
      top = λ is. absurd (both_ways (f.frame == 0) (apart-of f.frame 0 fs fresh zero) is);
      clear = λ low. on_back-newer f.frame f.parent f fs apart ∙ on_back-absent f.frame f.parent fs fresh;
      step = λ low. chain-own f fs ∙ ap (λ l. l ++ f ∷ []) (sym (chain-newer f.parent f fs apart));
    }

placed_older : (f : PlainFrame) (fs : List PlainFrame) → has_frame f.frame fs ≡ false → (e : PlainFrame) → IsPlaced fs e
    → IsPlaced (f ∷ fs) e
placed_older f fs fresh e is =
    let own : (f.frame == e.frame) ≡ false = apart-of f.frame e.frame fs fresh is.there in
    let apart : (f.frame == e.parent) ≡ false = apart-of f.frame e.parent fs fresh is.above in record {
      there = ap (λ b. (f.frame == e.frame) || b) is.there ∙ or_true (f.frame == e.frame);
      above = ap (λ b. (f.frame == e.parent) || b) is.above ∙ or_true (f.frame == e.parent);
      top = is.top;
      clear = λ low. on_back-newer e.frame e.parent f fs apart ∙ is.clear low;
      step = λ low.
          chain-newer e.frame f fs own ∙ is.step low
          ∙ ap (λ l. l ++ e ∷ []) (sym (chain-newer e.parent f fs apart));
    }

-- every frame of a tab has its place
pub placed : (fs : List PlainFrame) → IsGrown fs → All (IsPlaced fs) fs
placed [] grown = absurd grown
placed (f ∷ []) grown = All-cons (IsPlaced (f ∷ [])) f [] (record {
  there = ap (λ b. b || false) (eq-eqb f.frame f.frame refl);
  above = ap (λ b. b || false) (eq-eqb f.frame f.parent (grown.0 ∙ sym grown.1));
  top = λ is. grown.1;
  clear = λ low. absurd (both_ways (f.frame == 0) low (eq-eqb f.frame 0 grown.0));
  step = λ low. absurd (both_ways (f.frame == 0) low (eq-eqb f.frame 0 grown.0));
}) (All-nil (IsPlaced (f ∷ [])))
placed (f ∷ next ∷ older) grown =
    All-cons (IsPlaced (f ∷ next ∷ older)) f (next ∷ older)
    (placed_newest f (next ∷ older) grown.0 grown.1 (has_zero (next ∷ older) grown.2))
    (All-weaker (IsPlaced (next ∷ older)) (IsPlaced (f ∷ next ∷ older)) (placed_older f (next ∷ older) grown.0)
    (next ∷ older) (placed (next ∷ older) grown.2))

all_reversed : (P : PlainFrame → Type 0) (xs : List PlainFrame) → All P xs → All P (reverse xs)
all_reversed P [] all = All-nil P
all_reversed P (x ∷ xs) all =
    subst (All P) (sym (reverse-cons x xs)) (All-append P (reverse xs) (x ∷ []) (all_reversed P xs (All-tail P x xs all))
    (All-cons P x [] (All-head P x xs all) (All-nil P)))

-- the same, the top first
pub placed-tree : (fs : List PlainFrame) → IsTree fs → All (IsPlaced (reverse fs)) fs
placed-tree fs tree =
    subst (All (IsPlaced (reverse fs))) (reverse-reverse fs)
    (all_reversed (IsPlaced (reverse fs)) (reverse fs) (placed (reverse fs) tree))

-- a chain keeps the frames that stay, where the parent of each that stays does
pub chain-kept : (kept : ℕ → Bool) (fs : List PlainFrame) → All (λ f. kept f.frame ≡ true → kept f.parent ≡ true) fs
    → (n : ℕ) → kept n ≡ true → chain_back n (filter (λ f. kept f.frame) fs) ≡ chain_back n fs
chain-kept kept [] closed n is = refl
chain-kept kept (f ∷ older) closed n is =
    let rest = All-tail (λ f. kept f.frame ≡ true → kept f.parent ≡ true) f older closed in
    by (kept f.frame) refl (eqb_tells f.frame n) (chain-kept kept older rest n is)
    (λ own. chain-kept kept older rest f.parent (All-head (λ f. kept f.frame ≡ true → kept f.parent ≡ true) f older closed own))
  where
    by : (b : Bool) → kept f.frame ≡ b → (((f.frame == n) ≡ true) × (f.frame ≡ n)) ⊎ (((f.frame == n) ≡ false) × (f.frame ≢ n))
        → chain_back n (filter (λ f. kept f.frame) older) ≡ chain_back n older
        → (kept f.frame ≡ true → chain_back f.parent (filter (λ f. kept f.frame) older) ≡ chain_back f.parent older)
        → chain_back n (cond b (f ∷ filter (λ f. kept f.frame) older) (filter (λ f. kept f.frame) older))
        ≡ cond (f.frame == n) (chain_back f.parent older ++ f ∷ []) (chain_back n older)
    by true own which rest above =
        ap (λ l. cond (f.frame == n) (l ++ f ∷ []) (chain_back n (filter (λ f. kept f.frame) older))) (above own)
        ∙ ap (λ l. cond (f.frame == n) (chain_back f.parent older ++ f ∷ []) l) rest
    by false own (inl same) rest above = absurd (both_ways (kept f.frame) own (ap kept same.1 ∙ is))
    by false own (inr differ) rest above =
        rest ∙ sym (ap (λ b. cond b (chain_back f.parent older ++ f ∷ []) (chain_back n older)) differ.0)

-- the numbers of the frames that are left where one goes with those below, or those below alone
abbrev pub stays_by : Bool → ℕ → List PlainFrame → ℕ → Bool
stays_by strict frame fs n = (strict && (n == frame)) || not (on_back frame n fs)

or_first : (a b : Bool) → not (a || b) ≡ true → not a ≡ true
or_first true b is = is
or_first false b is = refl

or_later : (a b : Bool) → b ≡ true → (a || b) ≡ true
or_later a b is = ap (λ t. a || t) is ∙ or_true a

only_later : (a b c : Bool) → b ≡ false → ((a && b) || c) ≡ true → c ≡ true
only_later true b c isnt is = sym (ap (λ t. t || c) isnt) ∙ is
only_later false b c isnt is = is

-- the parent of a frame that is left is left
stays_above : (strict : Bool) (frame : ℕ) (fs : List PlainFrame) (e : PlainFrame) → IsPlaced fs e
    → stays_by strict frame fs e.frame ≡ true → stays_by strict frame fs e.parent ≡ true
stays_above strict frame fs e place kept = at (e.frame == 0) refl
  where
    own : (e.frame == 0) ≡ false → (same : Bool) → (e.frame == frame) ≡ same → not (on_back frame e.parent fs) ≡ true
    own low true is = ap not (ap (λ n. on_back n e.parent fs) (sym (eqb-true e.frame frame is)) ∙ place.clear low)
    own low false is =
        or_first (on_back frame e.parent fs) ((e.frame == frame) || false)
        (ap not (sym (list_any-append (λ f. f.frame == frame) (chain_back e.parent fs) (e ∷ [])) ∙ ap (has_frame frame) (sym (place.step low)))
        ∙ only_later strict (e.frame == frame) (not (on_back frame e.frame fs)) is kept)

    at : (zero : Bool) → (e.frame == 0) ≡ zero → stays_by strict frame fs e.parent ≡ true
    at true is = ap (stays_by strict frame fs) (place.top is ∙ sym (eqb-true e.frame 0 is)) ∙ kept
    at false low =
        or_later (strict && (e.parent == frame)) (not (on_back frame e.parent fs)) (own low (e.frame == frame) refl)

-- so the chain of each frame that is left stays
pub chain-stays : (strict : Bool) (frame : ℕ) (fs : List PlainFrame) → IsTree fs
    → (n : ℕ) → stays_by strict frame (reverse fs) n ≡ true → chain_of n (filter (is_kept strict frame (reverse fs)) fs) ≡ chain_of n fs
chain-stays strict frame fs tree n kept =
    ap (chain_back n) (filter-reversed (is_kept strict frame (reverse fs)) fs)
    ∙ chain-kept (stays_by strict frame (reverse fs)) (reverse fs)
    (All-weaker (IsPlaced (reverse fs)) (λ f. stays_by strict frame (reverse fs) f.frame ≡ true → stays_by strict frame (reverse fs) f.parent ≡ true)
    (λ f is. stays_above strict frame (reverse fs) f is) (reverse fs) (placed (reverse fs) tree)) n kept

-- the chain of a frame more, and of the others
pub chain-more : (e : PlainFrame) (fs : List PlainFrame) → chain_of e.frame (fs ++ e ∷ []) ≡ chain_of e.parent fs ++ e ∷ []
chain-more e fs = ap (chain_back e.frame) (reverse-snoc fs e) ∙ chain-own e (reverse fs)

pub chain-before : (n : ℕ) (e : PlainFrame) (fs : List PlainFrame) → (e.frame == n) ≡ false → chain_of n (fs ++ e ∷ []) ≡ chain_of n fs
chain-before n e fs apart = ap (chain_back n) (reverse-snoc fs e) ∙ chain-newer n e (reverse fs) apart
