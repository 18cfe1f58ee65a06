-- Frames that have numbers of their own, and what is written at one of them.
use Rattle.std.proofs.Common.{◌≡◌, ◌≢◌, ℕ, zero, suc, ◌<◌, Bool, true, false, cond, List, [], ◌∷◌, ◌++◌, map, reverse, length, get_or, set, inl, inr, refl, ap, ◌∙◌, sym, subst, arith}
use Rattle.std.specs.Prelude.{◌||◌, ◌==◌, ◌⊎◌, if◌then◌else◌, Some, option_map, slice_get, unwrap_or}
use Rattle.std.proofs.lemmas.List.{get_or-map, length-map, map-set, reverse-reverse}
use Rattle.std.proofs.lemmas.Option.{slice_get-get_or}
use Rattle.frame_tree.specs.Kept.{KeptDocument, KeptFrame, kept_frame, kept_instead}
use Rattle.frame_tree.specs.Plain.{plain_frame}
use Rattle.frame_tree.specs.declared.frames.Frame.{Frame}
use Rattle.std.proofs.Math.Bool.{or-false}
use Rattle.std.proofs.lemmas.Bool.{eq-eqb, both_ways}
use Rattle.std.proofs.lemmas.Bool.Decides.{eqb_tells}
use Rattle.std.specs.List.{list_any}
use Rattle.std.proofs.lemmas.List.Folds.{list_any-append}
use Rattle.frame_tree.specs.Calls.{is_activated, origin_of}
use Rattle.frame_tree.specs.Document.{PlainDocument}
use Rattle.frame_tree.specs.Sets.{found}
use Rattle.frame_tree.specs.Tree.{PlainFrame, IsGrown, IsTree, has_frame, with_next}
use Rattle.frame_tree.proofs.ShapeLemmas.{flip_apart, has-reversed, map-reversed, or_none, or_true, reverse-cons}

-- no two frames have one number
abbrev pub Apart : List PlainFrame → Type 0
Apart [] = Unit {0}
Apart (f ∷ fs) = (has_frame f.frame fs ≡ false) × Apart fs

pub apart-grown : (fs : List PlainFrame) → IsGrown fs → Apart fs
apart-grown [] grown = tt
apart-grown (f ∷ []) grown = (refl, tt)
apart-grown (f ∷ next ∷ older) grown = (grown.0, apart-grown (next ∷ older) grown.2)

apart-snoc : (fs : List PlainFrame) (e : PlainFrame) → Apart fs → has_frame e.frame fs ≡ false → Apart (fs ++ e ∷ [])
apart-snoc [] e apart fresh = (refl, tt)
apart-snoc (f ∷ fs) e apart fresh =
    let parts = or_none (f.frame == e.frame) (has_frame e.frame fs) fresh in (
      list_any-append (λ g. g.frame == f.frame) fs (e ∷ [])
          ∙ ap (λ b. b || ((e.frame == f.frame) || false)) apart.0
          ∙ or-false (e.frame == f.frame) ∙ flip_apart f.frame e.frame parts.0,
      apart-snoc fs e apart.1 parts.1,
    )

pub apart-reversed : (fs : List PlainFrame) → Apart fs → Apart (reverse fs)
apart-reversed [] apart = tt
apart-reversed (f ∷ fs) apart =
    subst Apart (sym (reverse-cons f fs))
    (apart-snoc (reverse fs) f (apart-reversed fs apart.1) (has-reversed f.frame fs ∙ apart.0))

pub apart-tree : (fs : List PlainFrame) → IsTree fs → Apart fs
apart-tree fs tree = subst Apart (reverse-reverse fs) (apart-reversed (reverse fs) (apart-grown (reverse fs) tree))

pub has_at : (n : ℕ) (fs : List PlainFrame) (i : ℕ) (d : PlainFrame) → i < length fs → (get_or fs i d).frame ≡ n → has_frame n fs ≡ true
has_at n [] i d low is = absurd (omega (arith, low))
has_at n (f ∷ fs) zero d low is = ap (λ b. b || has_frame n fs) (eq-eqb f.frame n is)
has_at n (f ∷ fs) (suc i) d low is =
    ap (λ b. (f.frame == n) || b) (has_at n fs i d (omega (arith, low)) is) ∙ or_true (f.frame == n)

-- a change of what has this number
abbrev pub change_at : {X : Type 0} → (X → ℕ) → ℕ → (X → X) → X → X
change_at number n change x = if number x == n then change x else x

-- no two have one number
abbrev pub ApartBy : {X : Type 0} → (X → ℕ) → List X → Type 0
ApartBy number [] = Unit {0}
ApartBy number (x ∷ xs) = (list_any (λ y. number y == number x) xs ≡ false) × ApartBy number xs

change_nowhere : {X : Type 0} (number : X → ℕ) (n : ℕ) (change : X → X) (xs : List X) → list_any (λ x. number x == n) xs ≡ false
    → xs ≡ map (change_at number n change) xs
change_nowhere number n change [] fresh = refl
change_nowhere number n change (x ∷ xs) fresh =
    let parts = or_none (number x == n) (list_any (λ x. number x == n) xs) fresh in
    ap (λ l. x ∷ l) (change_nowhere number n change xs parts.1)
    ∙ ap (λ b. cond b (change x) x ∷ map (change_at number n change) xs) (sym parts.0)

-- another document in the frame of this number
abbrev pub put_at : ℕ → (PlainDocument → PlainDocument) → PlainFrame → PlainFrame
put_at frame next f = if f.frame == frame then with_next next f else f

pub put_nowhere : (frame : ℕ) (next : PlainDocument → PlainDocument) (fs : List PlainFrame) → has_frame frame fs ≡ false
    → fs ≡ map (put_at frame next) fs
put_nowhere frame next fs fresh = change_nowhere (λ (f : PlainFrame). f.frame) frame (with_next next) fs fresh

pub any_at : {X : Type 0} (number : X → ℕ) (n : ℕ) (xs : List X) (i : ℕ) (d : X) → i < length xs → number (get_or xs i d) ≡ n
    → list_any (λ x. number x == n) xs ≡ true
any_at number n [] i d low is = absurd (omega (arith, low))
any_at number n (x ∷ xs) zero d low is = ap (λ b. b || list_any (λ x. number x == n) xs) (eq-eqb (number x) n is)
any_at number n (x ∷ xs) (suc i) d low is =
    ap (λ b. (number x == n) || b) (any_at number n xs i d (omega (arith, low)) is) ∙ or_true (number x == n)

pub elsewhere : {X : Type 0} (number : X → ℕ) (x : X) (n : ℕ) (xs : List X) → list_any (λ y. number y == number x) xs ≡ false
    → list_any (λ y. number y == n) xs ≡ true
    → (((number x == n) ≡ true) × (number x ≡ n)) ⊎ (((number x == n) ≡ false) × (number x ≢ n)) → (number x == n) ≡ false
elsewhere number x n xs fresh there (inl is) =
    absurd (both_ways (list_any (λ y. number y == n) xs) (ap (λ m. list_any (λ y. number y == m) xs) (sym is.1) ∙ fresh) there)
elsewhere number x n xs fresh there (inr is) = is.0

-- a write at a place is one at its number
pub change-place : {X : Type 0} (number : X → ℕ) (n : ℕ) (change : X → X) (xs : List X) (i : ℕ) (d : X)
    → i < length xs → ApartBy number xs → number (get_or xs i d) ≡ n
    → set xs i (change (get_or xs i d)) ≡ map (change_at number n change) xs
change-place number n change [] i d low apart is = absurd (omega (arith, low))
change-place number n change (x ∷ xs) zero d low apart is =
    ap (λ l. change x ∷ l)
    (change_nowhere number n change xs (ap (λ m. list_any (λ y. number y == m) xs) (sym is) ∙ apart.0))
    ∙ ap (λ b. cond b (change x) x ∷ map (change_at number n change) xs) (sym (eq-eqb (number x) n is))
change-place number n change (x ∷ xs) (suc i) d low apart is =
    let less : i < length xs = omega (arith, low) in
    ap (λ l. x ∷ l) (change-place number n change xs i d less apart.1 is)
    ∙ ap (λ b. cond b (change x) x ∷ map (change_at number n change) xs)
    (sym (elsewhere number x n xs apart.0 (any_at number n xs i d less is) (eqb_tells (number x) n)))

any_kept : (n : ℕ) (fs : List Frame) → list_any (λ k. k.plain.frame == n) (map kept_frame fs) ≡ has_frame n (map plain_frame fs)
any_kept n [] = refl
any_kept n (f ∷ fs) = ap (λ b. (f.frame == n) || b) (any_kept n fs)

apart_kept : (fs : List Frame) → Apart (map plain_frame fs) → ApartBy (λ k. k.plain.frame) (map kept_frame fs)
apart_kept [] apart = tt
apart_kept (f ∷ fs) apart = (any_kept f.frame fs ∙ apart.0, apart_kept fs apart.1)

got : (fs : List Frame) (i n : ℕ) (d : Frame) → option_map (λ f. f.frame) (slice_get fs i) ≡ Some n → i < length fs
    → (get_or fs i d).frame ≡ n
got fs i n d is low =
    ap (λ o. unwrap_or o 0) (ap (option_map (λ f. f.frame)) (sym (slice_get-get_or fs i d low)) ∙ is)

-- a write of a document at the place of a frame
pub put-frame : (frame : ℕ) (made : KeptDocument) (fs : List Frame) (i : ℕ) (v d : Frame)
    → IsTree (map plain_frame fs) → i < length fs → option_map (λ f. f.frame) (slice_get fs i) ≡ Some frame
    → kept_frame v ≡ kept_instead made (kept_frame (get_or fs i d))
    → map kept_frame (set fs i v) ≡ map (λ k. if k.plain.frame == frame then kept_instead made k else k) (map kept_frame fs)
put-frame frame made fs i v d tree low at is =
    let fs' : List PlainFrame = map plain_frame fs in
    let ks : List KeptFrame = map kept_frame fs in
    let read : get_or ks i (kept_frame d) ≡ kept_frame (get_or fs i d) = get_or-map kept_frame fs i d (kept_frame d) low in
    map-set kept_frame fs i v
    ∙ ap (set ks i) (is ∙ ap (kept_instead made) (sym read))
    ∙ change-place (λ (k : KeptFrame). k.plain.frame) frame (kept_instead made) ks i (kept_frame d)
    (subst (λ n. i < n) (sym (length-map fs kept_frame)) low) (apart_kept fs (apart-tree fs' tree))
    (ap (λ (k : KeptFrame). k.plain.frame) read ∙ got fs i frame d at low)

found_newer : (passes : PlainFrame → Bool) (next : PlainDocument → PlainDocument) (e : PlainFrame) (older fs : List PlainFrame)
    → has_frame e.frame fs ≡ false
    → map (λ f. if found passes f.frame (e ∷ older) then with_next next f else f) fs
    ≡ map (λ f. if found passes f.frame older then with_next next f else f) fs
found_newer passes next e older [] fresh = refl
found_newer passes next e older (f ∷ fs) fresh =
    let parts = or_none (f.frame == e.frame) (has_frame e.frame fs) fresh in
    ap (λ b. cond (cond b (passes e) (found passes f.frame older)) (with_next next f) f
    ∷ map (λ f. if found passes f.frame (e ∷ older) then with_next next f else f) fs) (flip_apart f.frame e.frame parts.0)
    ∙ ap (λ l. cond (found passes f.frame older) (with_next next f) f ∷ l) (found_newer passes next e older fs parts.1)

-- a set that was found by numbers tells each frame what the passes does
pub found-map : (passes : PlainFrame → Bool) (next : PlainDocument → PlainDocument) (fs : List PlainFrame) → Apart fs
    → map (λ f. if found passes f.frame fs then with_next next f else f) fs ≡ map (λ f. if passes f then with_next next f else f) fs
found-map passes next [] apart = refl
found-map passes next (f ∷ fs) apart =
    ap (λ b. cond (cond b (passes f) (found passes f.frame fs)) (with_next next f) f
    ∷ map (λ g. if found passes g.frame (f ∷ fs) then with_next next g else g) fs) (eq-eqb f.frame f.frame refl)
    ∙ ap (λ l. cond (passes f) (with_next next f) f ∷ l) (found_newer passes next f fs fs apart.0 ∙ found-map passes next fs apart.1)

-- the marks of a set are those of the test by which it was made, whatever stands first
pub found-tree : (passes : PlainFrame → Bool) (next : PlainDocument → PlainDocument) (fs : List PlainFrame) → IsTree fs
    → map (λ f. if found passes f.frame (reverse fs) then with_next next f else f) fs
    ≡ map (λ f. if passes f then with_next next f else f) fs
found-tree passes next fs tree =
    let marks : PlainFrame → PlainFrame = λ f. if found passes f.frame (reverse fs) then with_next next f else f in
    let sure : PlainFrame → PlainFrame = λ f. if passes f then with_next next f else f in
    let back : map marks (reverse fs) ≡ map sure (reverse fs) = found-map passes next (reverse fs) (apart-grown (reverse fs) tree) in
    sym (reverse-reverse (map marks fs))
    ∙ ap reverse (map-reversed marks fs ∙ back ∙ sym (map-reversed sure fs))
    ∙ reverse-reverse (map sure fs)

-- the frames of an activation, where a set tells them
pub activated-as : (frame : ℕ) (next : PlainDocument → PlainDocument) (set : List Bool) (fs left : List PlainFrame) → IsTree fs
    → ((n : ℕ) → get_or set n false ≡ found (is_activated frame (origin_of frame fs) fs) n (reverse fs))
    → left ≡ map (λ f. if get_or set f.frame false then with_next next f else f) fs
    → left ≡ map (λ f. if is_activated frame (origin_of frame fs) fs f then with_next next f else f) fs
activated-as frame next set fs left tree so is =
    is ∙ ap (λ (p : ℕ → Bool). map (λ f. if p f.frame then with_next next f else f) fs) (λ i n. so n i)
    ∙ found-tree (is_activated frame (origin_of frame fs) fs) next fs tree
