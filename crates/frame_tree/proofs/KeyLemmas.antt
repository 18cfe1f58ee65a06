-- The bit and the key that are made at a load are those of the chain, and are read as such.
use Rattle.std.proofs.Common.{◌≡◌, ◌≢◌, ℕ, Bool, true, false, not, cond, List, [], ◌∷◌, ◌++◌, map, reverse, refl, ap, ◌∙◌, sym, subst}
use Rattle.std.specs.Prelude.{◌||◌, ◌&&◌, ◌==◌, find, is_some, Option, Some, None, option_and_then, option_map, unwrap_or, if◌then◌else◌}
use Rattle.std.specs.List.{All}
use Rattle.std.proofs.lemmas.Bool.{both_ways, eqb-true, eq-eqb, ne_eqb}
use Rattle.std.proofs.lemmas.List.{map-append}
use Rattle.std.proofs.lemmas.List.Elements.{All-cons, All-head, All-nil, All-tail}
use Rattle.origin_site.specs.Origin.{PlainOrigin}
use Rattle.origin_site.specs.Site.{PlainSite, same_plain_site}
use Rattle.storage_key.specs.Context.{is_first_party, is_of, top_of}
use Rattle.storage_key.specs.Key.{own_bit, storage_key}
use Rattle.storage_key.specs.Plain.{plain_key}
use Rattle.storage_key.proofs.ContextLemmas.{bit-below, bit-of-chain, first-of-chain, top-below}
use Rattle.frame_tree.specs.Calls.{with_document, without_below}
use Rattle.frame_tree.specs.Document.{PlainDocument}
use Rattle.frame_tree.specs.Kept.{KeepsChain, KeepsChainAt, KeptDocument, KeptFrame, kept_frame, kept_instead, kept_under, sites_instead}
use Rattle.frame_tree.specs.Keys.{is_first_at, key_of_document, key_of_frame, sites}
use Rattle.frame_tree.specs.Plain.{plain_document, plain_frame}
use Rattle.frame_tree.specs.Tree.{PlainFrame, IsTree, chain_of, document_of, has_frame, top_site, with_next}
use Rattle.frame_tree.specs.declared.frames.Frame.{Frame}
use Rattle.frame_tree.proofs.ApartLemmas.{put_at, put_nowhere}
use Rattle.frame_tree.proofs.ChainLemmas.{IsPlaced, chain-more, chain-of-map, chain-stays, placed-tree, stays_by}
use Rattle.frame_tree.proofs.KeptLemmas.{find-plain, found-at}
use Rattle.frame_tree.proofs.ShapeLemmas.{has-reversed, on_back}
use Rattle.frame_tree.proofs.TopLemmas.{top-of-chain}

top_first : (fs : List PlainFrame) → top_of (sites fs) ≡ top_site fs
top_first [] = refl
top_first (f ∷ below) = refl

-- the chain of each frame begins with the site of the tab
pub top-of-sites : (site : PlainSite) (n : ℕ) (fs : List PlainFrame) → IsTree fs → top_site fs ≡ Some site → has_frame n fs ≡ true
    → top_of (sites (chain_of n fs)) ≡ Some site
top-of-sites site n fs tree top there = top_first (chain_of n fs) ∙ top-of-chain n fs tree there ∙ top

-- the key of a chain that begins with a site
key_from : (top : PlainSite) (bit : Bool) (chain : List (Option PlainSite)) (origin : Option PlainOrigin) → top_of chain ≡ Some top
    → bit ≡ own_bit chain → option_map (λ o. record { top = top; origin = o; bit = bit }) origin ≡ storage_key chain origin
key_from top bit chain None is own = refl
key_from top bit chain (Some origin) is own =
    ap (λ b. Some (record { top = top; origin = origin; bit = b })) own
    ∙ ap (option_map (λ t. record { top = t; origin = origin; bit = own_bit chain })) (sym is)

-- what is made of a document below a chain
under_chain : (top : PlainSite) (above : Bool) (document : PlainDocument) (chain : List (Option PlainSite)) → top_of chain ≡ Some top
    → above ≡ own_bit chain → (above || not (is_of top document.site)) ≡ own_bit (chain ++ document.site ∷ [])
under_chain top above document chain is own =
    ap (λ b. b || not (is_of top document.site)) own ∙ sym (bit-below top chain document.site is)

module _ (top : PlainSite) (above : Bool) (document : PlainDocument) (chain : List (Option PlainSite)) (is : top_of chain ≡ Some top) (own : above ≡ own_bit chain) where
  pub made-bit : (kept_under top above document).bit ≡ own_bit (chain ++ document.site ∷ [])
  made-bit = under_chain top above document chain is own

  pub made-key : (kept_under top above document).key ≡ storage_key (chain ++ document.site ∷ []) document.origin
  made-key =
      key_from top (above || not (is_of top document.site)) (chain ++ document.site ∷ []) document.origin
      (top-below top chain (document.site ∷ []) is) made-bit

sites_below : (fs : List PlainFrame) (f : PlainFrame) → sites (fs ++ f ∷ []) ≡ sites fs ++ f.document.site ∷ []
sites_below fs f = map-append (λ g. g.document.site) fs (f ∷ [])

-- what is made of a frame more
pub kept-below : (site : PlainSite) (above : Bool) (e : PlainFrame) (k : KeptFrame) (fs : List PlainFrame) → IsTree fs → top_site fs ≡ Some site
    → has_frame e.parent fs ≡ true → above ≡ own_bit (sites (chain_of e.parent fs)) → k.plain ≡ e
    → k.bit ≡ (kept_under site above e.document).bit → k.key ≡ (kept_under site above e.document).key → KeepsChain (fs ++ e ∷ []) k
kept-below site above e k fs tree top there own plain bit key =
    let chain = sites (chain_of e.parent fs) in
    let is : top_of chain ≡ Some site = top-of-sites site e.parent fs tree top there in
    let grown : sites (chain_of k.plain.frame (fs ++ e ∷ [])) ≡ chain ++ e.document.site ∷ [] =
    ap (λ (f : PlainFrame). sites (chain_of f.frame (fs ++ e ∷ []))) plain ∙ ap sites (chain-more e fs) ∙ sites_below (chain_of e.parent fs) e in record {
      bit = bit ∙ made-bit site above e.document chain is own ∙ ap own_bit (sym grown);
      key = key ∙ made-key site above e.document chain is own
          ∙ ap (λ s. storage_key s e.document.origin) (sym grown)
          ∙ ap (λ (f : PlainFrame). storage_key (sites (chain_of k.plain.frame (fs ++ e ∷ []))) f.document.origin) (sym plain);
    }

-- what is made of the top
pub kept-top : (site : PlainSite) (k : KeptFrame) → k.plain.frame ≡ 0 → k.plain.parent ≡ 0 → k.plain.document.site ≡ Some site
    → k.bit ≡ (kept_under site false k.plain.document).bit → k.key ≡ (kept_under site false k.plain.document).key → KeepsChain (k.plain ∷ []) k
kept-top site k zero parent own bit key =
    let chain : List (Option PlainSite) = k.plain.document.site ∷ [] in
    let alone : sites (chain_of k.plain.frame (k.plain ∷ [])) ≡ chain =
    ap (λ b. sites (cond b (k.plain ∷ []) [])) (eq-eqb k.plain.frame k.plain.frame refl) in
    let same : (kept_under site false k.plain.document).bit ≡ own_bit chain =
    one (is_of site k.plain.document.site) ∙ sym (bit-of-chain site chain own) in record {
      bit = bit ∙ same ∙ ap own_bit (sym alone);
      key = key ∙ key_from site (kept_under site false k.plain.document).bit chain k.plain.document.origin own same
          ∙ ap (λ s. storage_key s k.plain.document.origin) (sym alone);
    }
  where
    one : (b : Bool) → not b ≡ not (b && true)
    one true = refl
    one false = refl

keeps_put : (frame : ℕ) (next : PlainDocument → PlainDocument) (f : PlainFrame)
    → ((put_at frame next f).frame ≡ f.frame) × ((put_at frame next f).parent ≡ f.parent)
keeps_put frame next f = by (f.frame == frame)
  where
    by : (b : Bool) → ((cond b (with_next next f) f).frame ≡ f.frame) × ((cond b (with_next next f) f).parent ≡ f.parent)
    by true = (refl, refl)
    by false = (refl, refl)

put_own : (frame : ℕ) (next : PlainDocument → PlainDocument) (f : PlainFrame) → f.frame ≡ frame → put_at frame next f ≡ with_next next f
put_own frame next f is = ap (λ b. cond b (with_next next f) f) (eq-eqb f.frame frame is)

-- the sites of a chain with another document at its end
pub sites-instead : (f : PlainFrame) (fs : List PlainFrame) (document : PlainDocument) → IsPlaced (reverse fs) f → (f.frame == 0) ≡ false
    → sites_instead f.frame fs document ≡ sites (chain_of f.parent fs) ++ document.site ∷ []
sites-instead f fs document place low =
    let next = λ (d : PlainDocument). document in
    let above : List PlainFrame = chain_of f.parent fs in
    ap sites (chain-of-map (put_at f.frame next) (keeps_put f.frame next) f.frame fs)
    ∙ ap (λ l. sites (map (put_at f.frame next) l)) (place.step low)
    ∙ ap sites (map-append (put_at f.frame next) above (f ∷ []))
    ∙ ap (λ l. sites (l ++ put_at f.frame next f ∷ [])) (sym (put_nowhere f.frame next above (place.clear low)))
    ∙ ap (λ g. sites (above ++ g ∷ [])) (put_own f.frame next f refl)
    ∙ sites_below above (with_next next f)

-- what is made of a document in the place of another
pub kept-at : (site : PlainSite) (above : Bool) (f : PlainFrame) (k : KeptDocument) (fs : List PlainFrame) → IsTree fs → top_site fs ≡ Some site
    → IsPlaced (reverse fs) f → (f.frame == 0) ≡ false → above ≡ own_bit (sites (chain_of f.parent fs))
    → k ≡ kept_under site above k.plain → KeepsChainAt f.frame fs k
kept-at site above f k fs tree top place low own made =
    let chain = sites (chain_of f.parent fs) in
    let is : top_of chain ≡ Some site = top-of-sites site f.parent fs tree top (sym (has-reversed f.parent fs) ∙ place.above) in
    let instead : sites_instead f.frame fs k.plain ≡ chain ++ k.plain.site ∷ [] = sites-instead f fs k.plain place low in record {
      bit = ap (λ (d : KeptDocument). d.bit) made ∙ made-bit site above k.plain chain is own ∙ ap own_bit (sym instead);
      key = ap (λ (d : KeptDocument). d.key) made ∙ made-key site above k.plain chain is own
          ∙ ap (λ s. storage_key s k.plain.origin) (sym instead);
    }

-- where the frames below go, that stays so
pub kept-at-left : (frame : ℕ) (k : KeptDocument) (fs : List PlainFrame) → IsTree fs → KeepsChainAt frame fs k
    → KeepsChainAt frame (without_below frame fs) k
kept-at-left frame k fs tree is =
    let next = λ (d : PlainDocument). k.plain in
    let left : List PlainFrame = without_below frame fs in
    let own : stays_by true frame (reverse fs) frame ≡ true = ap (λ b. b || not (on_back frame frame (reverse fs))) (eq-eqb frame frame refl) in
    let same : sites_instead frame left k.plain ≡ sites_instead frame fs k.plain =
    ap sites (chain-of-map (put_at frame next) (keeps_put frame next) frame left
    ∙ ap (map (put_at frame next)) (chain-stays true frame fs tree frame own)
    ∙ sym (chain-of-map (put_at frame next) (keeps_put frame next) frame fs)) in record {
      bit = is.bit ∙ ap own_bit (sym same);
      key = is.key ∙ ap (λ s. storage_key s k.plain.origin) (sym same);
    }

-- the others keep what they have, where that frame is on no other chain
pub kept-put : (frame : ℕ) (made : KeptDocument) (fs : List PlainFrame) (ks : List KeptFrame)
    → All (λ k. (k.plain.frame == frame) ≡ false → on_back frame k.plain.frame (reverse fs) ≡ false) ks
    → KeepsChainAt frame fs made → All (KeepsChain fs) ks
    → All (KeepsChain (with_document frame (λ _. made.plain) fs)) (map (λ k. if k.plain.frame == frame then kept_instead made k else k) ks)
kept-put frame made fs [] clear own all = All-nil (KeepsChain (with_document frame (λ _. made.plain) fs))
kept-put frame made fs (k ∷ ks) clear own all =
    All-cons (KeepsChain (with_document frame (λ _. made.plain) fs)) (if k.plain.frame == frame then kept_instead made k else k)
    (map (λ k. if k.plain.frame == frame then kept_instead made k else k) ks)
    (by (k.plain.frame == frame) refl (All-head (KeepsChain fs) k ks all)
    (All-head (λ k. (k.plain.frame == frame) ≡ false → on_back frame k.plain.frame (reverse fs) ≡ false) k ks clear))
    (kept-put frame made fs ks (All-tail (λ k. (k.plain.frame == frame) ≡ false → on_back frame k.plain.frame (reverse fs) ≡ false) k ks clear) own
    (All-tail (KeepsChain fs) k ks all))
  where
    by : (b : Bool) → (k.plain.frame == frame) ≡ b → KeepsChain fs k
        → ((k.plain.frame == frame) ≡ false → on_back frame k.plain.frame (reverse fs) ≡ false)
        → KeepsChain (with_document frame (λ _. made.plain) fs) (cond b (kept_instead made k) k)
    by true at is clear =
        let same : k.plain.frame ≡ frame = eqb-true k.plain.frame frame at in
        let chain : sites_instead frame fs made.plain ≡ sites (chain_of k.plain.frame (with_document frame (λ _. made.plain) fs)) =
        ap (λ n. sites (chain_of n (with_document frame (λ _. made.plain) fs))) (sym same) in record {
          bit = own.bit ∙ ap own_bit chain;
          key = own.key ∙ ap (λ s. storage_key s made.plain.origin) chain;
        }
    by false at is clear =
        let next = λ (d : PlainDocument). made.plain in
        let chain : sites (chain_of k.plain.frame fs) ≡ sites (chain_of k.plain.frame (with_document frame (λ _. made.plain) fs)) =
        ap sites (put_nowhere frame next (chain_of k.plain.frame fs) (clear at)
        ∙ sym (chain-of-map (put_at frame next) (keeps_put frame next) k.plain.frame fs)) in record {
          bit = is.bit ∙ ap own_bit chain;
          key = is.key ∙ ap (λ s. storage_key s k.plain.document.origin) chain;
        }

all_of : {X Y : Type 0} (P : Y → Type 0) (h : X → Y) (xs : List X) → All P (map h xs) → All (λ x. P (h x)) xs
all_of P h [] all = All-nil (λ x. P (h x))
all_of P h (x ∷ xs) all =
    All-cons (λ y. P (h y)) x xs (All-head P (h x) (map h xs) all) (all_of P h xs (All-tail P (h x) (map h xs) all))

-- what a frame that was found keeps
kept_found : (n : ℕ) (fs : List PlainFrame) (xs : List Frame) (f : Frame) → Some f ≡ find (λ g. g.frame == n) xs
    → All (KeepsChain fs) (map kept_frame xs) → (f.frame ≡ n) × KeepsChain fs (kept_frame f)
kept_found n fs xs f is all = found-at (λ g. KeepsChain fs (kept_frame g)) n xs f is (all_of (KeepsChain fs) kept_frame xs all)

-- its bit
pub bit-found : (n : ℕ) (xs : List Frame) (f : Frame) → Some f ≡ find (λ g. g.frame == n) xs
    → All (KeepsChain (map plain_frame xs)) (map kept_frame xs) → f.loaded.bit ≡ own_bit (sites (chain_of n (map plain_frame xs)))
bit-found n xs f is all =
    let at = kept_found n (map plain_frame xs) xs f is all in
    at.1.bit ∙ ap (λ m. own_bit (sites (chain_of m (map plain_frame xs)))) at.0

-- its document
pub document-found : (n : ℕ) (xs : List Frame) (o : Option Frame) → o ≡ find (λ g. g.frame == n) xs
    → option_map (λ f. plain_document f.loaded.document) o ≡ document_of n (map plain_frame xs)
document-found n xs o is =
    by o ∙ ap (option_map (λ (f : PlainFrame). f.document)) (ap (option_map plain_frame) is ∙ sym (find-plain n xs))
  where
    by : (o : Option Frame) → option_map (λ f. plain_document f.loaded.document) o ≡ option_map (λ (f : PlainFrame). f.document) (option_map plain_frame o)
    by None = refl
    by (Some f) = refl

-- its key
key-found : (n : ℕ) (xs : List Frame) (f : Frame) → Some f ≡ find (λ g. g.frame == n) xs
    → All (KeepsChain (map plain_frame xs)) (map kept_frame xs) → (kept_frame f).key ≡ key_of_frame n (map plain_frame xs)
key-found n xs f is all =
    let fs : List PlainFrame = map plain_frame xs in
    let at = kept_found n fs xs f is all in
    at.1.key ∙ ap (λ m. key_of_document m fs (plain_frame f).document) at.0
    ∙ ap (option_and_then (key_of_document n fs)) (document-found n xs (Some f) is)

key-absent : (n : ℕ) (xs : List Frame) → None ≡ find (λ g. g.frame == n) xs → None ≡ key_of_frame n (map plain_frame xs)
key-absent n xs is = ap (option_and_then (key_of_document n (map plain_frame xs))) (document-found n xs None is)

-- the key of what was found, if anything was
pub key-of-found : (n : ℕ) (xs : List Frame) (o : Option Frame) → o ≡ find (λ g. g.frame == n) xs
    → All (KeepsChain (map plain_frame xs)) (map kept_frame xs)
    → option_and_then (λ f. option_map plain_key f.loaded.key) o ≡ key_of_frame n (map plain_frame xs)
key-of-found n xs None is all = key-absent n xs is
key-of-found n xs (Some f) is all = key-found n xs f is all

-- what was found in a slice of the frames was found among them
pub found-in : (n : ℕ) (xs searched : List Frame) (o : Option Frame) → o ≡ find (λ g. g.frame == n) searched → searched ≡ xs
    → o ≡ find (λ g. g.frame == n) xs
found-in n xs searched o is same = is ∙ ap (find (λ g. g.frame == n)) same

-- a frame is there where it is found
pub has-found : (n : ℕ) (xs : List Frame) → has_frame n (map plain_frame xs) ≡ is_some (find (λ g. g.frame == n) xs)
has-found n [] = refl
has-found n (x ∷ xs) = ap (λ b. (x.frame == n) || b) (has-found n xs) ∙ by (x.frame == n)
  where
    by : (b : Bool) → (b || is_some (find (λ g. g.frame == n) xs)) ≡ is_some (cond b (Some x) (find (λ g. g.frame == n) xs))
    by true = refl
    by false = refl

pub there-found : (n : ℕ) (xs : List Frame) (f : Frame) → Some f ≡ find (λ g. g.frame == n) xs → has_frame n (map plain_frame xs) ≡ true
there-found n xs f is = has-found n xs ∙ ap is_some (sym is)

-- first party, from the bit and the tab's site
pub first-found : (site url : PlainSite) (n : ℕ) (xs : List Frame) (f : Frame) → Some f ≡ find (λ g. g.frame == n) xs
    → IsTree (map plain_frame xs) → top_site (map plain_frame xs) ≡ Some site → All (KeepsChain (map plain_frame xs)) (map kept_frame xs)
    → (not f.loaded.bit && same_plain_site site url) ≡ is_first_at n (map plain_frame xs) url
first-found site url n xs f is tree top all =
    let fs : List PlainFrame = map plain_frame xs in
    let there : has_frame n fs ≡ true = there-found n xs f is in
    ap (λ b. not b && same_plain_site site url) (bit-found n xs f is all)
    ∙ sym (first-of-chain site (sites (chain_of n fs)) url (top-of-sites site n fs tree top there))
    ∙ ap (λ b. b && is_first_party (sites (chain_of n fs)) url) (sym there)

pub first-absent : (url : PlainSite) (n : ℕ) (xs : List Frame) → None ≡ find (λ g. g.frame == n) xs
    → false ≡ is_first_at n (map plain_frame xs) url
first-absent url n xs is =
    ap (λ b. b && is_first_party (sites (chain_of n (map plain_frame xs))) url) (sym (has-found n xs ∙ ap is_some (sym is)))

-- the bit of a frame that is there
pub bit-there : (n : ℕ) (xs : List Frame) → has_frame n (map plain_frame xs) ≡ true → All (KeepsChain (map plain_frame xs)) (map kept_frame xs)
    → unwrap_or (option_map (λ f. f.loaded.bit) (find (λ g. g.frame == n) xs)) true ≡ own_bit (sites (chain_of n (map plain_frame xs)))
bit-there n xs there all = by (find (λ g. g.frame == n) xs) refl
  where
    by : (o : Option Frame) → o ≡ find (λ g. g.frame == n) xs
        → unwrap_or (option_map (λ f. f.loaded.bit) o) true ≡ own_bit (sites (chain_of n (map plain_frame xs)))
    by None is = absurd (both_ways (has_frame n (map plain_frame xs)) (has-found n xs ∙ ap is_some (sym is)) there)
    by (Some f) is = bit-found n xs f is all

-- what is made of a document is so of its own
pub under-own : (site : PlainSite) (above : Bool) (k : KeptDocument) (document : PlainDocument) → k ≡ kept_under site above document
    → k ≡ kept_under site above k.plain
under-own site above k document is = is ∙ ap (kept_under site above) (sym (ap (λ (d : KeptDocument). d.plain) is))

-- what is made of a document in the place of that of a frame that was found
pub kept-instead : (site : PlainSite) (frame : ℕ) (xs : List Frame) (f : Frame) (above : Bool) (k : KeptDocument) → frame ≢ 0
    → Some f ≡ find (λ g. g.frame == frame) xs → IsTree (map plain_frame xs) → top_site (map plain_frame xs) ≡ Some site
    → All (KeepsChain (map plain_frame xs)) (map kept_frame xs)
    → above ≡ unwrap_or (option_map (λ g. g.loaded.bit) (find (λ g. g.frame == f.parent) xs)) true
    → k ≡ kept_under site above k.plain → KeepsChainAt frame (map plain_frame xs) k
kept-instead site frame xs f above k low is tree top keys bit made =
    let fs : List PlainFrame = map plain_frame xs in
    let at = found-at (λ g. IsPlaced (reverse fs) (plain_frame g)) frame xs f is
    (all_of (IsPlaced (reverse fs)) plain_frame xs (placed-tree fs tree)) in
    let own : above ≡ own_bit (sites (chain_of f.parent fs)) =
    bit ∙ bit-there f.parent xs (sym (has-reversed f.parent fs) ∙ at.1.above) keys in
    subst (λ n. KeepsChainAt n fs k) at.0
    (kept-at site above (plain_frame f) k fs tree top at.1 (ne_eqb f.frame 0 (λ zero. low (sym at.0 ∙ zero))) own made)
