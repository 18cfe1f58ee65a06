-- A tab stays sound in each change of its frames.
use Rattle.std.proofs.Common.{◌≡◌, ◌≢◌, ℕ, Bool, true, false, not, cond, List, [], ◌∷◌, ◌++◌, map, reverse, refl, ap, ◌∙◌, sym, subst}
use Rattle.std.specs.Prelude.{◌||◌, ◌&&◌, ◌==◌, filter, is_some, if◌then◌else◌}
use Rattle.std.specs.List.{All}
use Rattle.std.proofs.lemmas.Bool.{eq-eqb, eqb-true}
use Rattle.std.proofs.lemmas.List.{map-append}
use Rattle.std.proofs.lemmas.List.Elements.{All-cons, All-nil}
use Rattle.origin_site.specs.Site.{PlainSite}
use Rattle.frame_tree.specs.Calls.{with_document}
use Rattle.frame_tree.specs.Document.{PlainDocument}
use Rattle.frame_tree.specs.Kept.{KeepsChain, KeepsChainAt, IsSound, KeptDocument, KeptFrame, kept_frame, kept_instead}
use Rattle.frame_tree.specs.Plain.{plain_frame}
use Rattle.frame_tree.specs.Tree.{PlainFrame, IsTree, has_frame, top_site, with_next}
use Rattle.frame_tree.specs.declared.frames.Frame.{Frame}
use Rattle.frame_tree.proofs.ApartLemmas.{put_at}
use Rattle.frame_tree.proofs.ChainLemmas.{chain-stays, stays_by}
use Rattle.frame_tree.proofs.KeptLemmas.{KeepsOrigin, kept-filtered, kept-marked, kept-more, kept_where, next_where, plain-changed, plain-same, plain-where}
use Rattle.frame_tree.proofs.KeyLemmas.{kept-put}
use Rattle.frame_tree.proofs.SetLemmas.{filtered-plain}
use Rattle.frame_tree.proofs.ShapeLemmas.{has_kept_in, is_kept, on_back, tree-filter, tree-mark, tree-more}
use Rattle.frame_tree.proofs.TopLemmas.{top-added, top-filtered, top-marked}

-- the frames of a list, and what is kept of them
abbrev pub SoundOf : PlainSite → List Frame → Type 0
SoundOf site xs = IsSound site (map plain_frame xs) (map kept_frame xs)

sound_as : (site : PlainSite) (fs gs : List PlainFrame) (ks ls : List KeptFrame) → fs ≡ gs → ks ≡ ls → IsSound site gs ls → IsSound site fs ks
sound_as site fs gs ks ls same kept is =
    subst (λ l. IsSound site l ks) (sym same) (subst (λ l. IsSound site gs l) (sym kept) is)

-- copies
pub sound-same : (site : PlainSite) (xs ys : List Frame) → map kept_frame ys ≡ map kept_frame xs → SoundOf site xs → SoundOf site ys
sound-same site xs ys is sound = sound_as site _ _ _ _ (plain-same ys xs is) is sound

module _ (counts : ℕ → Bool) (next : PlainDocument → PlainDocument) (same : KeepsOrigin next) (xs ys : List Frame) (is : map kept_frame ys ≡ map (kept_where counts next) (map kept_frame xs)) where
  -- the frames after a change of documents
  pub plain-marked : map plain_frame ys ≡ map (next_where counts next) (map plain_frame xs)
  plain-marked = plain-changed (next_where counts next) (kept_where counts next) (plain-where counts next) xs ys is

  pub top-kept : IsTree (map plain_frame xs) → top_site (map plain_frame ys) ≡ top_site (map plain_frame xs)
  top-kept tree =
      ap top_site plain-marked
      ∙ top-marked (λ f. counts f.frame) next (λ f top own. same.site f.document) (map plain_frame xs) tree

  pub sound-marked : (site : PlainSite) → SoundOf site xs → SoundOf site ys
  sound-marked site sound = record {
    tree = subst IsTree (sym plain-marked)
        (tree-mark counts next (λ f top own there. ap is_some (same.site f.document) ∙ there) (map plain_frame xs) sound.tree);
    keys = subst (λ l. All (KeepsChain l) (map kept_frame ys)) (sym plain-marked)
        (subst (All (KeepsChain (map (next_where counts next) (map plain_frame xs)))) (sym is)
        (kept-marked counts next same (map plain_frame xs) (map kept_frame xs) sound.keys));
    top = top-kept sound.tree ∙ sound.top;
  }

-- a frame more
pub sound-added : (site : PlainSite) (e : Frame) (xs ys : List Frame) → ys ≡ xs ++ e ∷ [] → has_frame e.frame (map plain_frame xs) ≡ false
    → has_frame e.parent (map plain_frame xs) ≡ true → KeepsChain (map plain_frame xs ++ plain_frame e ∷ []) (kept_frame e)
    → SoundOf site xs → SoundOf site ys
sound-added site e xs ys is fresh parent own sound =
    let fs : List PlainFrame = map plain_frame xs in
    sound_as site (map plain_frame ys) (fs ++ plain_frame e ∷ []) (map kept_frame ys) (map kept_frame xs ++ kept_frame e ∷ [])
    (ap (map plain_frame) is ∙ map-append plain_frame xs (e ∷ [])) (ap (map kept_frame) is ∙ map-append kept_frame xs (e ∷ [])) (record {
      tree = tree-more (plain_frame e) fs fresh parent sound.tree;
      keys = kept-more (plain_frame e) (kept_frame e) fs xs fresh own sound.keys;
      top = top-added fs (plain_frame e) sound.tree ∙ sound.top;
    })

module _ (strict : Bool) (frame : ℕ) (low : frame ≢ 0) (stays : ℕ → Bool) (xs ys : List Frame) (so : (n : ℕ) → stays n ≡ stays_by strict frame (reverse (map plain_frame xs)) n) (is : ys ≡ filter (λ f. stays f.frame) xs) where
  abbrev fs : List PlainFrame
  fs = map plain_frame xs

  -- the frames that are left
  pub plain-left : map plain_frame ys ≡ filter (is_kept strict frame (reverse (map plain_frame xs))) (map plain_frame xs)
  plain-left =
      ap (map plain_frame) is ∙ filtered-plain (λ f. stays f.frame) xs
      ∙ ap (λ (p : ℕ → Bool). filter (λ f. p f.frame) fs) (λ i n. so n i)

  pub top-left : IsTree (map plain_frame xs) → top_site (map plain_frame ys) ≡ top_site (map plain_frame xs)
  top-left tree =
      ap top_site plain-left ∙ top-filtered (is_kept strict frame (reverse fs)) fs tree (tree-filter strict frame low fs tree)

  pub sound-left : (site : PlainSite) → SoundOf site xs → SoundOf site ys
  sound-left site sound =
      let left : List PlainFrame = filter (is_kept strict frame (reverse fs)) fs in record {
        tree = subst IsTree (sym plain-left) (tree-filter strict frame low fs sound.tree);
        keys = subst (λ l. All (KeepsChain l) (map kept_frame ys)) (sym plain-left)
            (subst (λ (zs : List Frame). All (KeepsChain left) (map kept_frame zs)) (sym is)
            (kept-filtered stays fs left (λ n own. chain-stays strict frame fs sound.tree n (sym (so n) ∙ own)) xs sound.keys));
        top = top-left sound.tree ∙ sound.top;
      }

  pub clear-left : IsTree (map plain_frame xs)
      → All (λ k. (k.plain.frame == frame) ≡ false → on_back frame k.plain.frame (reverse (map plain_frame ys)) ≡ false) (map kept_frame ys)
  clear-left tree =
      subst (λ (zs : List Frame). All (λ k. (k.plain.frame == frame) ≡ false → on_back frame k.plain.frame (reverse (map plain_frame ys)) ≡ false) (map kept_frame zs)) (sym is)
      (each xs)
    where
      own : (n : ℕ) → stays n ≡ true → (n == frame) ≡ false → on_back frame n (reverse (map plain_frame ys)) ≡ false
      own n stay apart =
          ap (λ l. on_back frame n (reverse l)) plain-left
          ∙ ap (has_frame frame) (chain-stays strict frame fs tree n (sym (so n) ∙ stay))
          ∙ none strict (n == frame) (on_back frame n (reverse fs)) apart (sym (so n) ∙ stay)
        where
          none : (a b c : Bool) → b ≡ false → ((a && b) || not c) ≡ true → c ≡ false
          none a b false apart is = refl
          none true b true apart is = absurd (cc (sym (ap (λ t. t || false) apart) ∙ is))
          none false b true apart is = absurd (cc is)

      each : (zs : List Frame) → All (λ k. (k.plain.frame == frame) ≡ false → on_back frame k.plain.frame (reverse (map plain_frame ys)) ≡ false) (map kept_frame (filter (λ f. stays f.frame) zs))
      each [] = All-nil (λ k. (k.plain.frame == frame) ≡ false → on_back frame k.plain.frame (reverse (map plain_frame ys)) ≡ false)
      each (z ∷ zs) = by (stays z.frame) refl (each zs)
        where
          by : (b : Bool) → stays z.frame ≡ b
              → All (λ k. (k.plain.frame == frame) ≡ false → on_back frame k.plain.frame (reverse (map plain_frame ys)) ≡ false) (map kept_frame (filter (λ f. stays f.frame) zs))
              → All (λ k. (k.plain.frame == frame) ≡ false → on_back frame k.plain.frame (reverse (map plain_frame ys)) ≡ false) (map kept_frame (cond b (z ∷ filter (λ f. stays f.frame) zs) (filter (λ f. stays f.frame) zs)))
          by true stay rest =
              All-cons (λ k. (k.plain.frame == frame) ≡ false → on_back frame k.plain.frame (reverse (map plain_frame ys)) ≡ false)
              (kept_frame z) (map kept_frame (filter (λ f. stays f.frame) zs)) (own z.frame stay) rest
          by false stay rest = rest

-- the frame itself is left where those below go
pub there-left : (frame : ℕ) (fs : List PlainFrame) → has_frame frame fs ≡ true
    → has_frame frame (filter (is_kept true frame (reverse fs)) fs) ≡ true
there-left frame fs there =
    has_kept_in frame (is_kept true frame (reverse fs))
    (λ f is. ap (λ b. b || not (on_back frame f.frame (reverse fs))) (eq-eqb f.frame frame is)) fs there

-- a document in the place of another, where the frames below are gone
module _ (frame : ℕ) (low : frame ≢ 0) (made : KeptDocument) (xs ys : List Frame) (is : map kept_frame ys ≡ map (λ k. if k.plain.frame == frame then kept_instead made k else k) (map kept_frame xs)) where
  pub plain-put : map plain_frame ys ≡ with_document frame (λ _. made.plain) (map plain_frame xs)
  plain-put =
      plain-changed (put_at frame (λ _. made.plain)) (λ k. if k.plain.frame == frame then kept_instead made k else k)
      (λ k. each (k.plain.frame == frame) k) xs ys is
    where
      each : (b : Bool) (k : KeptFrame) → (cond b (kept_instead made k) k).plain ≡ cond b (with_next (λ _. made.plain) k.plain) k.plain
      each true k = refl
      each false k = refl

  pub top-put : IsTree (map plain_frame xs) → top_site (map plain_frame ys) ≡ top_site (map plain_frame xs)
  top-put tree =
      ap top_site plain-put
      ∙ top-marked (λ f. f.frame == frame) (λ _. made.plain) (λ f top own. absurd (low (sym (eqb-true f.frame frame own) ∙ top)))
      (map plain_frame xs) tree

  pub sound-put : (site : PlainSite) → All (λ k. (k.plain.frame == frame) ≡ false → on_back frame k.plain.frame (reverse (map plain_frame xs)) ≡ false) (map kept_frame xs)
      → KeepsChainAt frame (map plain_frame xs) made → SoundOf site xs → SoundOf site ys
  sound-put site clear own sound = record {
    tree = subst IsTree (sym plain-put)
        (tree-mark (λ n. n == frame) (λ _. made.plain) (λ f top is site. absurd (low (sym (eqb-true f.frame frame is) ∙ top)))
        (map plain_frame xs) sound.tree);
    keys = subst (λ l. All (KeepsChain l) (map kept_frame ys)) (sym plain-put)
        (subst (All (KeepsChain (with_document frame (λ _. made.plain) (map plain_frame xs)))) (sym is)
        (kept-put frame made (map plain_frame xs) (map kept_frame xs) clear own sound.keys));
    top = top-put sound.tree ∙ sound.top;
  }
