-- The keys of documents that were read are named keys, and their sites are named.
use Rattle.std.proofs.Common.{◌≡◌, ℕ, Bool, true, false, cond, not, List, [], ◌∷◌, ◌++◌, reverse, Option, Some, None, refl, sym, ap, subst, ◌∙◌, ⊎_elim}
use Rattle.std.specs.Prelude.{◌==◌, ◌||◌, find, option_map}
use Rattle.std.specs.List.{All, Contains, list_all}
use Rattle.std.specs.Option.{option_or}
use Rattle.std.proofs.lemmas.Bool.{and_from, both_ways, eqb-true}
use Rattle.std.proofs.lemmas.List.Elements.{All-contains, All-head, All-tail, Contains-push}
use Rattle.std.proofs.lemmas.List.Folds.{find-append, list_all-map}
use Rattle.std.proofs.lemmas.List.Sums.{AllPass-from_list_all}
use Rattle.std.proofs.lemmas.Option.{none-some, same_Some}
use Rattle.suffix_list.specs.Suffix.{Rule}
use Rattle.origin_site.specs.Origin.{PlainOrigin, origin_of_address, origin_text}
use Rattle.origin_site.specs.Site.{PlainSite, same_plain_site, site_of_address, site_of_origin}
use Rattle.origin_site.proofs.SameLemmas.{same_plain_site-Decides}
use Rattle.storage_key.specs.Context.{has_only, is_of, top_of}
use Rattle.storage_key.specs.Key.{PlainKey, own_bit, storage_key}
use Rattle.storage_key.proofs.ContextLemmas.{bit-of-chain}
use Rattle.frame_tree.specs.Document.{PlainDocument}
use Rattle.frame_tree.specs.Keys.{key_of_document, sites}
use Rattle.frame_tree.specs.Tree.{PlainFrame, IsTree, chain_back, chain_of, document_of, has_frame, top_site}
use Rattle.frame_tree.proofs.ApartLemmas.{Apart, apart-tree}
use Rattle.frame_tree.proofs.KeyLemmas.{top-of-sites}
use Rattle.frame_tree.proofs.ShapeLemmas.{has-document, has-reversed, reverse-cons}
use Rattle.row_changes.specs.Names.{origin_of_text}
use Rattle.spelled_model.specs.Frames.{AreReadFrames, IsReadDocument}
use Rattle.spelled_model.specs.Rows.{IsNamedKey}
use Rattle.spelled_model.proofs.NameLemmas.{IsNamedSite, origin_named, site_named}

-- ---- the frame of a number

-- a frame has this number
abbrev is_numbered : ℕ → PlainFrame → Bool
is_numbered n f = f.frame == n

none_found : (n : ℕ) (fs : List PlainFrame) → has_frame n fs ≡ false → find (is_numbered n) fs ≡ None
none_found n [] none = refl
none_found n (f ∷ fs) none = by (f.frame == n) (none_found n fs) none
  where
    by : (b : Bool) → (has_frame n fs ≡ false → find (is_numbered n) fs ≡ None) → (b || has_frame n fs) ≡ false → cond b (Some f) (find (is_numbered n) fs) ≡ None
    by true later none = absurd (both_ways true none refl)
    by false later none = later none

-- it is the same one, whether the newest frame is first or the oldest
found_back : (n : ℕ) (fs : List PlainFrame) → Apart fs → find (is_numbered n) (reverse fs) ≡ find (is_numbered n) fs
found_back n [] apart = refl
found_back n (f ∷ fs) apart = ap (find (is_numbered n)) (reverse-cons f fs) ∙ find-append (is_numbered n) (reverse fs) (f ∷ []) ∙ by (f.frame == n) refl (found_back n fs apart.1)
  where
    later : (o : Option PlainFrame) → option_or o None ≡ o
    later None = refl
    later (Some g) = refl

    by : (b : Bool) → (f.frame == n) ≡ b → find (is_numbered n) (reverse fs) ≡ find (is_numbered n) fs → option_or (find (is_numbered n) (reverse fs)) (cond b (Some f) None) ≡ cond b (Some f) (find (is_numbered n) fs)
    by true is same =
        ap (λ o. option_or o (Some f))
        (none_found n (reverse fs) (has-reversed n fs ∙ subst (λ m. has_frame m fs ≡ false) (eqb-true f.frame n is) apart.0))
    by false is same = later (find (is_numbered n) (reverse fs)) ∙ same

-- it stands on its own chain
on_own_chain : (n : ℕ) (back : List PlainFrame) (f : PlainFrame) → find (is_numbered n) back ≡ Some f → Contains (chain_back n back) f
on_own_chain n [] f e = absurd (none-some f e)
on_own_chain n (g ∷ older) f e = by (g.frame == n) (on_own_chain n older f) e
  where
    by : (b : Bool) → (find (is_numbered n) older ≡ Some f → Contains (chain_back n older) f) → cond b (Some g) (find (is_numbered n) older) ≡ Some f → Contains (cond b (chain_back g.parent older ++ g ∷ []) (chain_back n older)) f
    by true later e = subst (λ h. Contains (chain_back g.parent older ++ g ∷ []) h) (same_Some g f e) (Contains-push (chain_back g.parent older) g)
    by false later e = later e

-- what holds of each item holds of one that is found
pub found_all : {X : Type 0} (P : X → Type 0) (p : X → Bool) (xs : List X) (x : X) → All P xs → find p xs ≡ Some x → P x
found_all P p [] x all e = absurd (none-some x e)
found_all P p (y ∷ ys) x all e = by (p y) (found_all P p ys x (All-tail P y ys all)) e
  where
    by : (b : Bool) → (find p ys ≡ Some x → P x) → cond b (Some y) (find p ys) ≡ Some x → P x
    by true later e = subst P (same_Some y x e) (All-head P y ys all)
    by false later e = later e

-- ---- sites

module _ (rules : List Rule) where
  -- the site of a document that was read is that of its address
  pub site_from : (document : PlainDocument) → IsReadDocument rules document → (site : PlainSite) → document.site ≡ Some site → site_of_address rules document.address ≡ site
  site_from document read site e =
      ⊎_elim
      (λ opaque. absurd (none-some site (sym (read.site ∙ ap (option_map (site_of_origin rules)) opaque) ∙ e)))
      (λ own. same_Some (site_of_address rules document.address) site (sym (read.site ∙ ap (option_map (site_of_origin rules)) own) ∙ e))
      read.origin

  -- the top document of a tab
  top_read : (frames : List PlainFrame) → AreReadFrames rules frames → (site : PlainSite) → top_site frames ≡ Some site
      → (document : PlainDocument) × IsReadDocument rules document × (document.site ≡ Some site)
  top_read [] all site e = absurd (none-some site e)
  top_read (top ∷ below) all site e = (top.document, All-head (λ f. IsReadDocument rules f.document) top below all, e)

  -- the site of a tab is named
  pub top_named : (frames : List PlainFrame) → AreReadFrames rules frames → (site : PlainSite) → top_site frames ≡ Some site → IsNamedSite rules site
  top_named frames all site e =
      let top = top_read frames all site e in
      subst (IsNamedSite rules) (site_from top.0 top.1 site top.2) (site_named rules top.0.address top.1.address)

-- ---- documents

-- the frame of a document
document_frame : (n : ℕ) (frames : List PlainFrame) (document : PlainDocument) → document_of n frames ≡ Some document
    → (f : PlainFrame) × (find (is_numbered n) frames ≡ Some f) × (f.document ≡ document)
document_frame n frames document e = by (find (is_numbered n) frames) refl e
  where
    by : (found : Option PlainFrame) → find (is_numbered n) frames ≡ found → option_map (λ f. f.document) found ≡ Some document
        → (f : PlainFrame) × (find (is_numbered n) frames ≡ Some f) × (f.document ≡ document)
    by None is e = absurd (none-some document e)
    by (Some f) is e = (f, is, same_Some f.document document e)

-- a document that is there was read
pub document_read : (rules : List Rule) (n : ℕ) (frames : List PlainFrame) → AreReadFrames rules frames → (document : PlainDocument) → document_of n frames ≡ Some document → IsReadDocument rules document
document_read rules n frames all document e =
    let frame = document_frame n frames document e in
    subst (IsReadDocument rules) frame.2 (found_all (λ f. IsReadDocument rules f.document) (is_numbered n) frames frame.0 all frame.1)

-- what holds of each document of a chain holds of its own document
pub chain_passes : (p : PlainDocument → Bool) (n : ℕ) (frames : List PlainFrame) → IsTree frames → (document : PlainDocument) → document_of n frames ≡ Some document
    → list_all (λ f. p f.document) (chain_of n frames) ≡ true → p document ≡ true
chain_passes p n frames grown document e all =
    let frame = document_frame n frames document e in
    let on : Contains (chain_of n frames) frame.0 = on_own_chain n (reverse frames) frame.0 (found_back n frames (apart-tree frames grown) ∙ frame.1) in
    subst (λ d. p d ≡ true) frame.2 (All-contains (λ f. p f.document ≡ true) (chain_of n frames) frame.0 (AllPass-from_list_all (λ f. p f.document) (chain_of n frames) all) on)

-- ---- keys

key_parts : (chain : List (Option PlainSite)) (origin : PlainOrigin) (key : PlainKey) → storage_key chain (Some origin) ≡ Some key
    → (key.origin ≡ origin) × (top_of chain ≡ Some key.top) × (key.bit ≡ own_bit chain)
key_parts chain origin key e = by (top_of chain) e
  where
    by : (top : Option PlainSite) → option_map (λ t. record { top = t; origin = origin; bit = own_bit chain }) top ≡ Some key
        → (key.origin ≡ origin) × (top ≡ Some key.top) × (key.bit ≡ own_bit chain)
    by None e = absurd (none-some key e)
    by (Some t) e =
        let own : ◌≡◌ {A = PlainKey} (record { top = t; origin = origin; bit = own_bit chain }) key = same_Some _ key e in
        (ap (λ (k : PlainKey). k.origin) (sym own), ap (λ (k : PlainKey). Some k.top) own, ap (λ (k : PlainKey). k.bit) (sym own))

-- a bit that is clear where each document of a chain has the top's site
bit_kept : (bit only same : Bool) → bit ≡ not only → (only ≡ true → same ≡ true) → (bit || same) ≡ true
bit_kept bit true same is each = ap (λ b. b || same) is ∙ each refl
bit_kept bit false same is each = ap (λ b. b || same) is

module _ (rules : List Rule) (frames : List PlainFrame) (all : AreReadFrames rules frames) (grown : IsTree frames) (site : PlainSite) (top : top_site frames ≡ Some site) where
  -- the key of a document is a named key
  pub key_named : (n : ℕ) (document : PlainDocument) (key : PlainKey) → document_of n frames ≡ Some document → key_of_document n frames document ≡ Some key → IsNamedKey rules key
  key_named n document key there e =
      ⊎_elim
      (λ opaque. absurd (none-some key (sym (ap (storage_key chain) opaque) ∙ e)))
      (λ own. named own)
      read.origin
    where
      chain : List (Option PlainSite)
      chain = sites (chain_of n frames)

      read : IsReadDocument rules document
      read = document_read rules n frames all document there

      named : document.origin ≡ Some (origin_of_address document.address) → IsNamedKey rules key
      named own =
          let parts = key_parts chain (origin_of_address document.address) key (sym (ap (storage_key chain) own) ∙ e) in
          let under : key.top ≡ site = same_Some key.top site (sym parts.1 ∙ top-of-sites site n frames grown top (has-document n frames document (sym there))) in
          let named_top : IsNamedSite rules key.top = subst (IsNamedSite rules) (sym under) (top_named rules frames all site top) in
          record {
            read = record {
              origin = subst (λ o. origin_of_text (origin_text o) ≡ Some o) (sym parts.0) (origin_named document.address read.address);
              top = named_top.0;
            };
            stays = and_from _ _ named_top.1 (bit_kept key.bit (has_only key.top chain) _ (parts.2 ∙ bit-of-chain key.top chain parts.1) (λ only. own_site_is parts.0 (only_own only)));
          }
        where
          only_own : has_only key.top chain ≡ true → is_of key.top document.site ≡ true
          only_own only =
              chain_passes (λ d. is_of key.top d.site) n frames grown document there (sym (list_all-map (is_of key.top) (λ f. f.document.site) (chain_of n frames)) ∙ only)

          own_site_is : key.origin ≡ origin_of_address document.address → is_of key.top document.site ≡ true → same_plain_site (site_of_origin rules key.origin) key.top ≡ true
          own_site_is same is =
              let has : is_of key.top (Some (site_of_address rules document.address)) ≡ true = ap (is_of key.top) (sym (read.site ∙ ap (option_map (site_of_origin rules)) own)) ∙ is in
              let tops : key.top ≡ site_of_address rules document.address = (same_plain_site-Decides key.top (site_of_address rules document.address)).0 has in
              (same_plain_site-Decides (site_of_origin rules key.origin) key.top).1 (ap (site_of_origin rules) same ∙ sym tops)
