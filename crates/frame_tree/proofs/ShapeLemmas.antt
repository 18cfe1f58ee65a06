-- Chains of a list of frames whose newest is first, and what keeps its shape.
use Rattle.std.proofs.Common.{◌≡◌, ◌≢◌, ℕ, Bool, true, false, cond, not, List, [], ◌∷◌, ◌++◌, map, reverse, inl, inr, refl, ap, ◌∙◌, sym, subst}
use Rattle.std.specs.Prelude.{◌||◌, ◌&&◌, ◌==◌, ◌⊎◌, filter, find, is_some, Option, Some, option_map, if◌then◌else◌}
use Rattle.std.specs.List.{list_any}
use Rattle.std.proofs.Math.Bool.{or-false}
use Rattle.std.proofs.lemmas.Bool.{eqb-true, eq-eqb, ne_eqb, both_ways}
use Rattle.std.proofs.lemmas.Bool.Decides.{eqb_tells}
use Rattle.std.proofs.lemmas.List.{append-nil, map-append, reverse-append}
use Rattle.std.proofs.lemmas.List.Folds.{list_any-append}
use Rattle.std.proofs.lemmas.List.Elements.{filter-append}
use Rattle.origin_site.specs.Site.{PlainSite}
use Rattle.frame_tree.specs.Calls.{begins_with_site, with_document, without_below}
use Rattle.frame_tree.specs.Document.{PlainDocument}
use Rattle.frame_tree.specs.Tree.{PlainFrame, IsGrown, IsTree, chain_back, document_of, has_frame, top_site, with_next}

pub or_true : (a : Bool) → (a || true) ≡ true
or_true true = refl
or_true false = refl

pub or_flip : (a b : Bool) → (a || b) ≡ (b || a)
or_flip true true = refl
or_flip true false = refl
or_flip false true = refl
or_flip false false = refl

pub or_none : (a b : Bool) → (a || b) ≡ false → (a ≡ false) × (b ≡ false)
or_none true b none = absurd (both_ways true none refl)
or_none false b none = (refl, none)

pub same_cond : {X : Type 0} (b : Bool) (x : X) → cond b x x ≡ x
same_cond true x = refl
same_cond false x = refl

pub flip_apart : (a b : ℕ) → (a == b) ≡ false → (b == a) ≡ false
flip_apart a b apart = ne_eqb b a (λ same. both_ways (a == b) apart (eq-eqb a b (sym same)))

pub reverse-snoc : {X : Type 0} (xs : List X) (e : X) → reverse (xs ++ e ∷ []) ≡ e ∷ reverse xs
reverse-snoc xs e = reverse-append xs (e ∷ [])

pub reverse-cons : {X : Type 0} (e : X) (xs : List X) → reverse (e ∷ xs) ≡ reverse xs ++ e ∷ []
reverse-cons e xs = reverse-append (e ∷ []) xs

any_reversed : {X : Type 0} (p : X → Bool) (xs : List X) → list_any p (reverse xs) ≡ list_any p xs
any_reversed p [] = refl
any_reversed p (x ∷ xs) =
    ap (list_any p) (reverse-cons x xs)
    ∙ list_any-append p (reverse xs) (x ∷ [])
    ∙ ap (λ b. b || (p x || false)) (any_reversed p xs)
    ∙ or_flip (list_any p xs) (p x || false)
    ∙ ap (λ b. b || list_any p xs) (or-false (p x))

-- a frame is there, in whichever order
pub has-reversed : (n : ℕ) (fs : List PlainFrame) → has_frame n (reverse fs) ≡ has_frame n fs
has-reversed n fs = any_reversed (λ f. f.frame == n) fs

-- a frame is on the chain of another
abbrev pub on_back : ℕ → ℕ → List PlainFrame → Bool
on_back a n frames = list_any (λ f. f.frame == a) (chain_back n frames)

any_step : (p : PlainFrame → Bool) (b : Bool) (xs ys : List PlainFrame) (e : PlainFrame)
    → list_any p (cond b (xs ++ e ∷ []) ys) ≡ cond b (list_any p xs || p e) (list_any p ys)
any_step p true xs ys e = list_any-append p xs (e ∷ []) ∙ ap (λ t. list_any p xs || t) (or-false (p e))
any_step p false xs ys e = refl

pub on_back-step : (a n : ℕ) (e : PlainFrame) (older : List PlainFrame)
    → on_back a n (e ∷ older) ≡ cond (e.frame == n) (on_back a e.parent older || (e.frame == a)) (on_back a n older)
on_back-step a n e older =
    any_step (λ f. f.frame == a) (e.frame == n) (chain_back e.parent older) (chain_back n older) e

pub on_back-newer : (a n : ℕ) (e : PlainFrame) (older : List PlainFrame) → (e.frame == n) ≡ false
    → on_back a n (e ∷ older) ≡ on_back a n older
on_back-newer a n e older apart =
    on_back-step a n e older
    ∙ ap (λ b. cond b (on_back a e.parent older || (e.frame == a)) (on_back a n older)) apart

-- what is not there is on no chain
pub on_back-absent : (a n : ℕ) (fs : List PlainFrame) → has_frame a fs ≡ false → on_back a n fs ≡ false
on_back-absent a n [] none = refl
on_back-absent a n (e ∷ older) none =
    let parts = or_none (e.frame == a) (has_frame a older) none in
    on_back-step a n e older
    ∙ ap (λ b. cond (e.frame == n) (b || (e.frame == a)) (on_back a n older)) (on_back-absent a e.parent older parts.1)
    ∙ ap (λ b. cond (e.frame == n) b (on_back a n older)) parts.0
    ∙ ap (λ b. cond (e.frame == n) false b) (on_back-absent a n older parts.1)
    ∙ same_cond (e.frame == n) false

-- a frame more, whose number is new and whose parent is there
pub grown-more : (e : PlainFrame) (fs : List PlainFrame) → has_frame e.frame fs ≡ false → has_frame e.parent fs ≡ true
    → IsGrown fs → IsGrown (e ∷ fs)
grown-more e [] fresh parent grown = absurd grown
grown-more e (f ∷ fs) fresh parent grown = (fresh, parent, grown)

-- the first frame stays where others follow
pub top_more : (xs zs : List PlainFrame) → is_some (top_site xs) ≡ true → top_site (xs ++ zs) ≡ top_site xs
top_more [] zs there = absurd (both_ways false refl there)
top_more (x ∷ xs) zs there = refl

-- the oldest frame has a site
oldest_site : (fs : List PlainFrame) → IsGrown fs → is_some (top_site (reverse fs)) ≡ true
oldest_site [] grown = absurd grown
oldest_site (f ∷ []) grown = grown.2
oldest_site (f ∷ next ∷ older) grown =
    let rest = oldest_site (next ∷ older) grown.2 in
    ap (λ l. is_some (top_site l)) (reverse-cons f (next ∷ older))
    ∙ ap is_some (top_more (reverse (next ∷ older)) (f ∷ []) rest) ∙ rest

top_by : (b : Bool) (xs ys : List PlainFrame) (e : PlainFrame) (site : Option PlainSite) → is_some site ≡ true
    → (b ≡ true → top_site xs ≡ site) → (b ≡ false → top_site ys ≡ site) → top_site (cond b (xs ++ e ∷ []) ys) ≡ site
top_by true xs ys e site there above other = top_more xs (e ∷ []) (ap is_some (above refl) ∙ there) ∙ above refl
top_by false xs ys e site there above other = other refl

-- each chain begins with the top
pub chain-top : (n : ℕ) (fs : List PlainFrame) → IsGrown fs → has_frame n fs ≡ true
    → top_site (chain_back n fs) ≡ top_site (reverse fs)
chain-top n [] grown there = absurd grown
chain-top n (f ∷ []) grown there = rw (sym (or-false (f.frame == n)) ∙ there) refl
chain-top n (f ∷ next ∷ older) grown there =
    let rest : List PlainFrame = next ∷ older in
    top_by (f.frame == n) (chain_back f.parent rest) (chain_back n rest) f (top_site (reverse rest)) (oldest_site rest grown.2)
    (λ is. chain-top f.parent (next ∷ older) grown.2 grown.1)
    (λ is. chain-top n (next ∷ older) grown.2 (sym (ap (λ b. b || has_frame n rest) is) ∙ there))
    ∙ sym (top_more (reverse rest) (f ∷ []) (oldest_site rest grown.2)) ∙ ap top_site (sym (reverse-cons f rest))

begins_by : (fs : List PlainFrame) → begins_with_site (map (λ f. f.document.site) fs) ≡ is_some (top_site fs)
begins_by [] = refl
begins_by (f ∷ fs) = refl

-- which has a site
pub chain-begins : (n : ℕ) (fs : List PlainFrame) → IsGrown fs → has_frame n fs ≡ true
    → begins_with_site (map (λ f. f.document.site) (chain_back n fs)) ≡ true
chain-begins n fs grown there =
    begins_by (chain_back n fs) ∙ ap is_some (chain-top n fs grown there) ∙ oldest_site fs grown

-- a frame is left: it is not below this one, or is it where that counts
abbrev pub is_kept : Bool → ℕ → List PlainFrame → PlainFrame → Bool
is_kept strict frame fs f = (strict && (f.frame == frame)) || not (on_back frame f.frame fs)

has_none_by : (n : ℕ) (b : Bool) (f : PlainFrame) (fs : List PlainFrame) → (f.frame == n) ≡ false
    → has_frame n fs ≡ false → has_frame n (cond b (f ∷ fs) fs) ≡ false
has_none_by n true f fs apart none = ap (λ b. b || has_frame n fs) apart ∙ none
has_none_by n false f fs apart none = none

not_both : (a b : Bool) → (a || not (b || false)) ≡ true → a ≡ false → b ≡ false
not_both true b kept isnt = absurd (both_ways true isnt refl)
not_both false true kept isnt = absurd (both_ways false refl kept)
not_both false false kept isnt = refl

and_no : (a b : Bool) → b ≡ false → (a && b) ≡ false
and_no true b isnt = isnt
and_no false b isnt = refl

own_step : (a : ℕ) (e : PlainFrame) (fs : List PlainFrame)
    → on_back a e.frame (e ∷ fs) ≡ (on_back a e.parent fs || (e.frame == a))
own_step a e fs =
    on_back-step a e.frame e fs
    ∙ ap (λ b. cond b (on_back a e.parent fs || (e.frame == a)) (on_back a e.frame fs)) (eq-eqb e.frame e.frame refl)

has_rest : (n : ℕ) (b : Bool) (f : PlainFrame) (fs : List PlainFrame) → has_frame n fs ≡ true
    → has_frame n (cond b (f ∷ fs) fs) ≡ true
has_rest n true f fs there = ap (λ b. (f.frame == n) || b) there ∙ or_true (f.frame == n)
has_rest n false f fs there = there

clear_by : (strict : Bool) (frame : ℕ) (e : PlainFrame) (fs : List PlainFrame) → has_frame e.frame fs ≡ false
    → (((e.frame == frame) ≡ true) × (e.frame ≡ frame)) ⊎ (((e.frame == frame) ≡ false) × (e.frame ≢ frame))
    → is_kept strict frame (e ∷ fs) e ≡ true → on_back frame e.parent fs ≡ false
clear_by strict frame e fs fresh (inl is) kept =
    on_back-absent frame e.parent fs (ap (λ n. has_frame n fs) (sym is.1) ∙ fresh)
clear_by strict frame e fs fresh (inr is) kept =
    not_both (strict && (e.frame == frame)) (on_back frame e.parent fs)
    (ap (λ b. (strict && (e.frame == frame)) || not (on_back frame e.parent fs || b)) (sym is.0)
    ∙ ap (λ b. (strict && (e.frame == frame)) || not b) (sym (own_step frame e fs))
    ∙ kept)
    (and_no strict (e.frame == frame) is.0)

has_kept_by : (n : ℕ) (f : PlainFrame) (b : Bool) (fs left : List PlainFrame) → (f.frame ≡ n → b ≡ true)
    → (has_frame n fs ≡ true → has_frame n left ≡ true)
    → (((f.frame == n) ≡ true) × (f.frame ≡ n)) ⊎ (((f.frame == n) ≡ false) × (f.frame ≢ n))
    → has_frame n (f ∷ fs) ≡ true → has_frame n (cond b (f ∷ left) left) ≡ true
has_kept_by n f b fs left kept rest (inl is) there =
    ap (λ t. has_frame n (cond t (f ∷ left) left)) (kept is.1) ∙ ap (λ t. t || has_frame n left) is.0
has_kept_by n f b fs left kept rest (inr is) there =
    has_rest n b f left (rest (sym (ap (λ t. t || has_frame n fs) is.0) ∙ there))

pub has_kept_in : (n : ℕ) (p : PlainFrame → Bool) → ((f : PlainFrame) → f.frame ≡ n → p f ≡ true) → (fs : List PlainFrame)
    → has_frame n fs ≡ true → has_frame n (filter p fs) ≡ true
has_kept_in n p kept [] there = there
has_kept_in n p kept (f ∷ fs) there =
    has_kept_by n f (p f) fs (filter p fs) (kept f) (has_kept_in n p kept fs) (eqb_tells f.frame n) there

has_kept : (strict : Bool) (frame n : ℕ) (fs : List PlainFrame) → on_back frame n fs ≡ false
    → has_frame n fs ≡ true → has_frame n (filter (is_kept strict frame fs) fs) ≡ true
has_kept strict frame n fs clear there =
    has_kept_in n (is_kept strict frame fs)
    (λ f is. ap (λ m. (strict && (f.frame == frame)) || not (on_back frame m fs)) is
    ∙ ap (λ b. (strict && (f.frame == frame)) || not b) clear ∙ or_true (strict && (f.frame == frame))) fs there

top_stays : (strict : Bool) (frame : ℕ) → (0 == frame) ≡ false → (f : PlainFrame) → IsGrown (f ∷ [])
    → IsGrown (filter (is_kept strict frame (f ∷ [])) (f ∷ []))
top_stays strict frame low f grown =
    let clear : on_back frame f.frame (f ∷ []) ≡ false =
    own_step frame f [] ∙ ap (λ n. n == frame) grown.0 ∙ low in
    subst (λ b. IsGrown (cond b (f ∷ []) []))
    (sym (ap (λ b. (strict && (f.frame == frame)) || not b) clear ∙ or_true (strict && (f.frame == frame)))) grown

has-map : (h : PlainFrame → PlainFrame) → ((f : PlainFrame) → ((h f).frame ≡ f.frame) × ((h f).parent ≡ f.parent))
    → (n : ℕ) (fs : List PlainFrame) → has_frame n (map h fs) ≡ has_frame n fs
has-map h same n [] = refl
has-map h same n (f ∷ fs) =
    ap (λ m. (m == n) || has_frame n (map h fs)) (same f).0 ∙ ap (λ b. (f.frame == n) || b) (has-map h same n fs)

-- what a filter keeps of the frames, by a test of the frames and of their numbers alone
kept_newer : (strict : Bool) (frame : ℕ) (e : PlainFrame) (older fs : List PlainFrame) → has_frame e.frame fs ≡ false
    → filter (is_kept strict frame (e ∷ older)) fs ≡ filter (is_kept strict frame older) fs
kept_newer strict frame e older [] fresh = refl
kept_newer strict frame e older (f ∷ fs) fresh =
    let parts = or_none (f.frame == e.frame) (has_frame e.frame fs) fresh in
    ap (λ b. cond ((strict && (f.frame == frame)) || not b) (f ∷ filter (is_kept strict frame (e ∷ older)) fs) (filter (is_kept strict frame (e ∷ older)) fs))
    (on_back-newer frame f.frame e older (flip_apart f.frame e.frame parts.0))
    ∙ ap (λ l. cond (is_kept strict frame older f) (f ∷ l) l) (kept_newer strict frame e older fs parts.1)

pub has_none : (n : ℕ) (p : PlainFrame → Bool) (fs : List PlainFrame) → has_frame n fs ≡ false → has_frame n (filter p fs) ≡ false
has_none n p [] none = refl
has_none n p (f ∷ fs) none =
    let parts = or_none (f.frame == n) (has_frame n fs) none in
    has_none_by n (p f) f (filter p fs) parts.0 (has_none n p fs parts.1)

-- an ancestor of what is kept is kept
clear_parent : (strict : Bool) (frame : ℕ) (e : PlainFrame) (fs : List PlainFrame) → has_frame e.frame fs ≡ false
    → is_kept strict frame (e ∷ fs) e ≡ true → on_back frame e.parent fs ≡ false
clear_parent strict frame e fs fresh kept = clear_by strict frame e fs fresh (eqb_tells e.frame frame) kept

grown_by : (b : Bool) (e : PlainFrame) (fs : List PlainFrame) → (b ≡ true → IsGrown (e ∷ fs)) → IsGrown fs
    → IsGrown (cond b (e ∷ fs) fs)
grown_by true e fs more grown = more refl
grown_by false e fs more grown = grown

-- what is left of a tree without the frames at or below one, which is not the top
pub grown-filter : (strict : Bool) (frame : ℕ) → (0 == frame) ≡ false → (fs : List PlainFrame) → IsGrown fs
    → IsGrown (filter (is_kept strict frame fs) fs)
grown-filter strict frame low [] grown = absurd grown
grown-filter strict frame low (f ∷ []) grown = top_stays strict frame low f grown
grown-filter strict frame low (f ∷ next ∷ older) grown =
    let fs : List PlainFrame = next ∷ older in
    let left : List PlainFrame = filter (is_kept strict frame fs) fs in
    let same : filter (is_kept strict frame (f ∷ fs)) fs ≡ left = kept_newer strict frame f fs fs grown.0 in
    let rest : IsGrown left = grown-filter strict frame low (next ∷ older) grown.2 in
    subst (λ l. IsGrown (cond (is_kept strict frame (f ∷ fs) f) (f ∷ l) l)) (sym same)
    (grown_by (is_kept strict frame (f ∷ fs) f) f left
    (λ kept. grown-more f left (has_none f.frame (is_kept strict frame fs) fs grown.0)
    (has_kept strict frame f.parent fs (clear_parent strict frame f fs grown.0 kept) grown.1) rest) rest)

-- frames that keep number and parent, and the top its site
pub grown-map : (h : PlainFrame → PlainFrame)
    → ((f : PlainFrame) → ((h f).frame ≡ f.frame) × ((h f).parent ≡ f.parent))
    → ((f : PlainFrame) → f.frame ≡ 0 → is_some f.document.site ≡ true → is_some (h f).document.site ≡ true)
    → (fs : List PlainFrame) → IsGrown fs → IsGrown (map h fs)
grown-map h same site [] grown = absurd grown
grown-map h same site (f ∷ []) grown =
    ((same f).0 ∙ grown.0, (same f).1 ∙ grown.1, site f grown.0 grown.2)
grown-map h same site (f ∷ next ∷ older) grown =
    grown-more (h f) (map h (next ∷ older))
    (ap (λ n. has_frame n (map h (next ∷ older))) (same f).0 ∙ has-map h same f.frame (next ∷ older) ∙ grown.0)
    (ap (λ n. has_frame n (map h (next ∷ older))) (same f).1 ∙ has-map h same f.parent (next ∷ older) ∙ grown.1)
    (grown-map h same site (next ∷ older) grown.2)

-- a map, a filter and the order
pub map-reversed : {X Y : Type 0} (h : X → Y) (xs : List X) → reverse (map h xs) ≡ map h (reverse xs)
map-reversed h [] = refl
map-reversed h (x ∷ xs) =
    reverse-cons (h x) (map h xs) ∙ ap (λ l. l ++ h x ∷ []) (map-reversed h xs)
    ∙ sym (map-append h (reverse xs) (x ∷ [])) ∙ ap (map h) (sym (reverse-cons x xs))

cond_snoc : {X : Type 0} (b : Bool) (xs : List X) (x : X) → reverse (cond b (x ∷ xs) xs) ≡ reverse xs ++ cond b (x ∷ []) []
cond_snoc true xs x = reverse-cons x xs
cond_snoc false xs x = sym (append-nil (reverse xs))

pub filter-reversed : {X : Type 0} (p : X → Bool) (xs : List X) → reverse (filter p xs) ≡ filter p (reverse xs)
filter-reversed p [] = refl
filter-reversed p (x ∷ xs) =
    cond_snoc (p x) (filter p xs) x
    ∙ ap (λ l. l ++ cond (p x) (x ∷ []) []) (filter-reversed p xs)
    ∙ sym (filter-append p (reverse xs) (x ∷ [])) ∙ ap (filter p) (sym (reverse-cons x xs))

-- a tree with a frame more
pub tree-more : (e : PlainFrame) (fs : List PlainFrame) → has_frame e.frame fs ≡ false → has_frame e.parent fs ≡ true
    → IsTree fs → IsTree (fs ++ e ∷ [])
tree-more e fs fresh parent tree =
    subst IsGrown (sym (reverse-snoc fs e))
    (grown-more e (reverse fs) (has-reversed e.frame fs ∙ fresh) (has-reversed e.parent fs ∙ parent) tree)

-- a tree whose frames keep number and parent, and the top its site
pub tree-map : (h : PlainFrame → PlainFrame)
    → ((f : PlainFrame) → ((h f).frame ≡ f.frame) × ((h f).parent ≡ f.parent))
    → ((f : PlainFrame) → f.frame ≡ 0 → is_some f.document.site ≡ true → is_some (h f).document.site ≡ true)
    → (fs : List PlainFrame) → IsTree fs → IsTree (map h fs)
tree-map h same site fs tree = subst IsGrown (sym (map-reversed h fs)) (grown-map h same site (reverse fs) tree)

-- a tree without the frames below one, and without that one where it does not count
pub tree-filter : (strict : Bool) (frame : ℕ) → (frame ≢ 0) → (fs : List PlainFrame) → IsTree fs
    → IsTree (filter (is_kept strict frame (reverse fs)) fs)
tree-filter strict frame low fs tree =
    subst IsGrown (sym (filter-reversed (is_kept strict frame (reverse fs)) fs))
    (grown-filter strict frame (ne_eqb 0 frame (λ is. low (sym is))) (reverse fs) tree)

-- a frame is there where it has a document
there_by : (b : Bool) (f : PlainFrame) (r : Option PlainFrame)
    → is_some (option_map (λ g. g.document) (cond b (Some f) r)) ≡ (b || is_some (option_map (λ g. g.document) r))
there_by true f r = refl
there_by false f r = refl

pub document_there : (n : ℕ) (fs : List PlainFrame) → is_some (document_of n fs) ≡ has_frame n fs
document_there n [] = refl
document_there n (f ∷ fs) =
    there_by (f.frame == n) f (find (λ g. g.frame == n) fs) ∙ ap (λ b. (f.frame == n) || b) (document_there n fs)

pub has-document : (n : ℕ) (fs : List PlainFrame) (d : PlainDocument) → Some d ≡ document_of n fs → has_frame n fs ≡ true
has-document n fs d is = sym (document_there n fs) ∙ ap is_some (sym is)

kept_by : (b : Bool) (h : PlainFrame → PlainFrame) (f : PlainFrame) (fs : List PlainFrame)
    → cond b (h f ∷ map h fs) (map h fs) ≡ map h (cond b (f ∷ fs) fs)
kept_by true h f fs = refl
kept_by false h f fs = refl

-- a filter of numbers alone passes a change that keeps them
pub filter-kept : (p : ℕ → Bool) (h : PlainFrame → PlainFrame) → ((f : PlainFrame) → (h f).frame ≡ f.frame)
    → (fs : List PlainFrame) → filter (λ f. p f.frame) (map h fs) ≡ map h (filter (λ f. p f.frame) fs)
filter-kept p h same [] = refl
filter-kept p h same (f ∷ fs) =
    ap (λ n. cond (p n) (h f ∷ filter (λ g. p g.frame) (map h fs)) (filter (λ g. p g.frame) (map h fs))) (same f)
    ∙ ap (λ l. cond (p f.frame) (h f ∷ l) l) (filter-kept p h same fs)
    ∙ kept_by (p f.frame) h f (filter (λ g. p g.frame) fs)

mark_same : (b : Bool) (next : PlainDocument → PlainDocument) (f : PlainFrame)
    → ((cond b (with_next next f) f).frame ≡ f.frame) × ((cond b (with_next next f) f).parent ≡ f.parent)
mark_same true next f = (refl, refl)
mark_same false next f = (refl, refl)

mark_site : (b : Bool) (next : PlainDocument → PlainDocument) (f : PlainFrame)
    → (b ≡ true → is_some (next f.document).site ≡ true) → is_some f.document.site ≡ true
    → is_some (cond b (with_next next f) f).document.site ≡ true
mark_site true next f keeps site = keeps refl
mark_site false next f keeps site = site

-- a frame keeps its number where its document changes
pub same-frame : (p : ℕ → Bool) (next : PlainDocument → PlainDocument) (f : PlainFrame)
    → (if p f.frame then with_next next f else f).frame ≡ f.frame
same-frame p next f = (mark_same (p f.frame) next f).0

-- a tree with other documents at some numbers, where the top keeps a site
pub tree-mark : (p : ℕ → Bool) (next : PlainDocument → PlainDocument)
    → ((f : PlainFrame) → f.frame ≡ 0 → p f.frame ≡ true → is_some f.document.site ≡ true → is_some (next f.document).site ≡ true)
    → (fs : List PlainFrame) → IsTree fs → IsTree (map (λ f. if p f.frame then with_next next f else f) fs)
tree-mark p next keeps fs tree =
    tree-map (λ f. if p f.frame then with_next next f else f) (λ f. mark_same (p f.frame) next f)
    (λ f top site. mark_site (p f.frame) next f (λ is. keeps f top is site) site) fs tree

-- a tree after a navigation of a frame that is not the top
pub tree-navigated : (frame : ℕ) (next : PlainDocument → PlainDocument) (fs : List PlainFrame) → frame ≢ 0 → IsTree fs
    → IsTree (with_document frame next (without_below frame fs))
tree-navigated frame next fs low tree =
    tree-mark (λ n. n == frame) next (λ f top is site. absurd (low (sym (eqb-true f.frame frame is) ∙ top)))
    (without_below frame fs) (tree-filter true frame low fs tree)
