-- The bit and the key that a frame keeps are those of its chain, whatever else changes.
use Rattle.std.proofs.Common.{◌≡◌, ℕ, Bool, true, false, cond, List, [], ◌∷◌, ◌++◌, map, refl, ap, ◌∙◌, sym, subst}
use Rattle.std.specs.Prelude.{◌==◌, filter, find, IfSome, Option, Some, option_map, if◌then◌else◌}
use Rattle.std.specs.List.{All}
use Rattle.std.proofs.lemmas.Bool.{eqb-true}
use Rattle.std.proofs.lemmas.List.Elements.{All-cons, All-head, All-map, All-nil, All-tail, All-weaker}
use Rattle.std.proofs.lemmas.Simd.{map-map}
use Rattle.storage_key.specs.Key.{own_bit, storage_key}
use Rattle.frame_tree.specs.Document.{PlainDocument}
use Rattle.frame_tree.specs.Kept.{KeepsChain, KeptFrame, kept_frame, kept_with}
use Rattle.frame_tree.specs.Keys.{sites}
use Rattle.frame_tree.specs.Plain.{plain_frame}
use Rattle.frame_tree.specs.Tree.{PlainFrame, chain_of, has_frame, with_next}
use Rattle.frame_tree.specs.declared.frames.Frame.{Frame}
use Rattle.frame_tree.proofs.ChainLemmas.{chain-before, chain-of-map}
use Rattle.frame_tree.proofs.ShapeLemmas.{flip_apart, or_none}

-- what is kept stays where the sites of the chain and the origin do
kept_same : (fs gs : List PlainFrame) (k l : KeptFrame) → sites (chain_of l.plain.frame gs) ≡ sites (chain_of k.plain.frame fs)
    → l.bit ≡ k.bit → l.key ≡ k.key → l.plain.document.origin ≡ k.plain.document.origin → KeepsChain fs k → KeepsChain gs l
kept_same fs gs k l chain bit key origin is = record {
  bit = bit ∙ is.bit ∙ ap own_bit (sym chain);
  key = key ∙ is.key
      ∙ ap (λ s. storage_key s k.plain.document.origin) (sym chain)
      ∙ ap (storage_key (sites (chain_of l.plain.frame gs))) (sym origin);
}

-- a change of documents that keeps number, parent, site and origin
pub record KeepsPlace (next : PlainFrame → PlainFrame) : Type 0 where
  pub place : (f : PlainFrame) → ((next f).frame ≡ f.frame) × ((next f).parent ≡ f.parent)
  pub site : (f : PlainFrame) → (next f).document.site ≡ f.document.site
  pub origin : (f : PlainFrame) → (next f).document.origin ≡ f.document.origin

sites_map : (next : PlainFrame → PlainFrame) → ((f : PlainFrame) → (next f).document.site ≡ f.document.site)
    → (fs : List PlainFrame) → sites (map next fs) ≡ sites fs
sites_map next same [] = refl
sites_map next same (f ∷ fs) =
    ap (λ s. s ∷ sites (map next fs)) (same f) ∙ ap (λ l. f.document.site ∷ l) (sites_map next same fs)

-- the frames of what is kept
pub plain-kept : (xs : List Frame) → map plain_frame xs ≡ map (λ k. k.plain) (map kept_frame xs)
plain-kept xs = sym (map-map (λ k. k.plain) kept_frame xs)

pub plain-same : (xs ys : List Frame) → map kept_frame xs ≡ map kept_frame ys → map plain_frame xs ≡ map plain_frame ys
plain-same xs ys is = plain-kept xs ∙ ap (map (λ (k : KeptFrame). k.plain)) is ∙ sym (plain-kept ys)

-- the frames after a change of each
pub plain-changed : (next : PlainFrame → PlainFrame) (change : KeptFrame → KeptFrame)
    → ((k : KeptFrame) → (change k).plain ≡ next k.plain)
    → (xs ys : List Frame) → map kept_frame ys ≡ map change (map kept_frame xs) → map plain_frame ys ≡ map next (map plain_frame xs)
plain-changed next change same xs ys is =
    plain-kept ys ∙ ap (map (λ (k : KeptFrame). k.plain)) is ∙ each (map kept_frame xs) ∙ ap (map next) (sym (plain-kept xs))
  where
    each : (ks : List KeptFrame) → map (λ (k : KeptFrame). k.plain) (map change ks) ≡ map next (map (λ (k : KeptFrame). k.plain) ks)
    each [] = refl
    each (k ∷ ks) = ap (λ f. f ∷ map (λ (k : KeptFrame). k.plain) (map change ks)) (same k) ∙ ap (λ l. next k.plain ∷ l) (each ks)

-- a frame of which a part of the document changes where it counts
abbrev pub kept_where : (ℕ → Bool) → (PlainDocument → PlainDocument) → KeptFrame → KeptFrame
kept_where counts next k = if counts k.plain.frame then kept_with next k else k

abbrev pub next_where : (ℕ → Bool) → (PlainDocument → PlainDocument) → PlainFrame → PlainFrame
next_where counts next f = if counts f.frame then with_next next f else f

-- a change of what is neither site nor origin
pub record KeepsOrigin (next : PlainDocument → PlainDocument) : Type 0 where
  pub site : (d : PlainDocument) → (next d).site ≡ d.site
  pub origin : (d : PlainDocument) → (next d).origin ≡ d.origin

pub keeps-place : (counts : ℕ → Bool) (next : PlainDocument → PlainDocument) → KeepsOrigin next → KeepsPlace (next_where counts next)
keeps-place counts next same = record {
  place = λ f. place (counts f.frame) f;
  site = λ f. site (counts f.frame) f;
  origin = λ f. origin (counts f.frame) f;
}
  where
    place : (b : Bool) (f : PlainFrame) → ((cond b (with_next next f) f).frame ≡ f.frame) × ((cond b (with_next next f) f).parent ≡ f.parent)
    place true f = (refl, refl)
    place false f = (refl, refl)

    site : (b : Bool) (f : PlainFrame) → (cond b (with_next next f) f).document.site ≡ f.document.site
    site true f = same.site f.document
    site false f = refl

    origin : (b : Bool) (f : PlainFrame) → (cond b (with_next next f) f).document.origin ≡ f.document.origin
    origin true f = same.origin f.document
    origin false f = refl

pub plain-where : (counts : ℕ → Bool) (next : PlainDocument → PlainDocument) (k : KeptFrame)
    → (kept_where counts next k).plain ≡ next_where counts next k.plain
plain-where counts next k = at (counts k.plain.frame)
  where
    at : (b : Bool) → (cond b (kept_with next k) k).plain ≡ cond b (with_next next k.plain) k.plain
    at true = refl
    at false = refl

-- what is kept after such a change
pub kept-marked : (counts : ℕ → Bool) (next : PlainDocument → PlainDocument) → KeepsOrigin next → (fs : List PlainFrame) (ks : List KeptFrame)
    → All (KeepsChain fs) ks → All (KeepsChain (map (next_where counts next) fs)) (map (kept_where counts next) ks)
kept-marked counts next same fs ks all =
    All-map (KeepsChain gs) (kept_where counts next) ks
    (All-weaker (KeepsChain fs) (λ k. KeepsChain gs (kept_where counts next k)) (λ k is. each (counts k.plain.frame) k is) ks all)
  where
    keeps : KeepsPlace (next_where counts next)
    keeps = keeps-place counts next same

    gs : List PlainFrame
    gs = map (next_where counts next) fs

    chains : (n : ℕ) → sites (chain_of n (map (next_where counts next) fs)) ≡ sites (chain_of n fs)
    chains n = ap sites (chain-of-map (next_where counts next) keeps.place n fs) ∙ sites_map (next_where counts next) keeps.site (chain_of n fs)

    each : (b : Bool) (k : KeptFrame) → KeepsChain fs k → KeepsChain (map (next_where counts next) fs) (cond b (kept_with next k) k)
    each true k is = kept_same fs gs k (kept_with next k) (chains k.plain.frame) refl refl (same.origin k.plain.document) is
    each false k is = kept_same fs gs k k (chains k.plain.frame) refl refl refl is

-- what is kept where some frames go
pub kept-filtered : (stays : ℕ → Bool) (fs gs : List PlainFrame) → ((n : ℕ) → stays n ≡ true → chain_of n gs ≡ chain_of n fs)
    → (xs : List Frame) → All (KeepsChain fs) (map kept_frame xs) → All (KeepsChain gs) (map kept_frame (filter (λ f. stays f.frame) xs))
kept-filtered stays fs gs same [] all = All-nil (KeepsChain gs)
kept-filtered stays fs gs same (x ∷ xs) all =
    by (stays x.frame) refl (kept-filtered stays fs gs same xs (All-tail (KeepsChain fs) (kept_frame x) (map kept_frame xs) all))
  where
    by : (b : Bool) → stays x.frame ≡ b → All (KeepsChain gs) (map kept_frame (filter (λ f. stays f.frame) xs))
        → All (KeepsChain gs) (map kept_frame (cond b (x ∷ filter (λ f. stays f.frame) xs) (filter (λ f. stays f.frame) xs)))
    by true is rest =
        All-cons (KeepsChain gs) (kept_frame x) (map kept_frame (filter (λ f. stays f.frame) xs))
        (kept_same fs gs (kept_frame x) (kept_frame x) (ap sites (same x.frame is)) refl refl refl
        (All-head (KeepsChain fs) (kept_frame x) (map kept_frame xs) all)) rest
    by false is rest = rest

-- what is kept where a frame is added
pub kept-more : (e : PlainFrame) (k : KeptFrame) (fs : List PlainFrame) (xs : List Frame) → has_frame e.frame (map plain_frame xs) ≡ false
    → KeepsChain (fs ++ e ∷ []) k → All (KeepsChain fs) (map kept_frame xs) → All (KeepsChain (fs ++ e ∷ [])) (map kept_frame xs ++ k ∷ [])
kept-more e k fs [] fresh own all = All-cons (KeepsChain (fs ++ e ∷ [])) k [] own (All-nil (KeepsChain (fs ++ e ∷ [])))
kept-more e k fs (x ∷ xs) fresh own all =
    let parts = or_none (x.frame == e.frame) (has_frame e.frame (map plain_frame xs)) fresh in
    All-cons (KeepsChain (fs ++ e ∷ [])) (kept_frame x) (map kept_frame xs ++ k ∷ [])
    (kept_same fs (fs ++ e ∷ []) (kept_frame x) (kept_frame x)
    (ap sites (chain-before x.frame e fs (flip_apart x.frame e.frame parts.0))) refl refl refl
    (All-head (KeepsChain fs) (kept_frame x) (map kept_frame xs) all))
    (kept-more e k fs xs parts.1 own (All-tail (KeepsChain fs) (kept_frame x) (map kept_frame xs) all))

-- the first frame of a number has it, and what holds of every frame
pub found : (P : Frame → Type 0) (n : ℕ) (xs : List Frame) → All P xs → IfSome (find (λ g. g.frame == n) xs) (λ f. (f.frame ≡ n) × P f)
found P n [] all = tt
found P n (x ∷ xs) all = by (x.frame == n) refl (found P n xs (All-tail P x xs all))
  where
    by : (b : Bool) → (x.frame == n) ≡ b → IfSome (find (λ g. g.frame == n) xs) (λ f. (f.frame ≡ n) × P f)
        → IfSome (cond b (Some x) (find (λ g. g.frame == n) xs)) (λ f. (f.frame ≡ n) × P f)
    by true own rest = (eqb-true x.frame n own, All-head P x xs all)
    by false own rest = rest

pub found-at : (P : Frame → Type 0) (n : ℕ) (xs : List Frame) (f : Frame) → Some f ≡ find (λ g. g.frame == n) xs → All P xs
    → (f.frame ≡ n) × P f
found-at P n xs f is all = subst (λ (o : Option Frame). IfSome o (λ g. (g.frame ≡ n) × P g)) (sym is) (found P n xs all)

-- the first frame of a number, as contracts see it
pub find-plain : (n : ℕ) (xs : List Frame) → find (λ f. f.frame == n) (map plain_frame xs) ≡ option_map plain_frame (find (λ f. f.frame == n) xs)
find-plain n [] = refl
find-plain n (x ∷ xs) = by (x.frame == n) (find-plain n xs)
  where
    by : (b : Bool) → find (λ f. f.frame == n) (map plain_frame xs) ≡ option_map plain_frame (find (λ f. f.frame == n) xs)
        → cond b (Some (plain_frame x)) (find (λ f. f.frame == n) (map plain_frame xs))
        ≡ option_map plain_frame (cond b (Some x) (find (λ f. f.frame == n) xs))
    by true rest = refl
    by false rest = rest
