-- The key of each document of a tab is under the site of the tab's top document.
use Rattle.std.proofs.Common.{◌≡◌, ℕ, List, [], ◌∷◌, map, Option, Some, None, refl, ap, sym, ◌∙◌}
use Rattle.std.specs.Prelude.{option_and_then, option_map}
use Rattle.origin_site.specs.Origin.{PlainOrigin}
use Rattle.origin_site.specs.Site.{PlainSite}
use Rattle.storage_key.specs.Context.{top_of}
use Rattle.storage_key.specs.Key.{PlainKey, own_bit, storage_key}
use Rattle.frame_tree.specs.Document.{PlainDocument}
use Rattle.frame_tree.specs.Tree.{PlainFrame, IsTree, chain_of, document_of, top_site}
use Rattle.frame_tree.proofs.ShapeLemmas.{has-document}
use Rattle.frame_tree.proofs.TopLemmas.{top-of-chain}
use Rattle.frame_tree.specs.Keys.{key_of_document, key_of_frame}

-- the first site of a chain is that of its first document
top_first : (frames : List PlainFrame) → top_of (map (λ f. f.document.site) frames) ≡ top_site frames
top_first [] = refl
top_first (f ∷ below) = refl

-- a key has the first site of its chain
key_top : (chain : List (Option PlainSite)) (origin : Option PlainOrigin) (key : PlainKey) → storage_key chain origin ≡ Some key
    → top_of chain ≡ Some key.top
key_top chain None key is = absurd (cc is)
key_top chain (Some origin) key is = at (top_of chain) is
  where
    at : (top : Option PlainSite) → option_map (λ t. record { origin = origin; top = t; bit = own_bit chain }) top ≡ Some key → top ≡ Some key.top
    at None e = absurd (cc e)
    at (Some t) e =
        let own : ◌≡◌ {A = PlainKey} (record { origin = origin; top = t; bit = own_bit chain }) key = cc in ap (λ k. Some k.top) own

-- the key of each document of a tab has the site of the tab's top document
pub key-under-top : (frame : ℕ) (frames : List PlainFrame) (key : PlainKey) → IsTree frames → key_of_frame frame frames ≡ Some key
    → top_site frames ≡ Some key.top
key-under-top frame frames key tree is = at (document_of frame frames) refl is
  where
    at : (document : Option PlainDocument) → document ≡ document_of frame frames
        → option_and_then (key_of_document frame frames) document ≡ Some key → top_site frames ≡ Some key.top
    at None there e = absurd (cc e)
    at (Some document) there e =
        sym (top-of-chain frame frames tree (has-document frame frames document there))
        ∙ sym (top_first (chain_of frame frames))
        ∙ key_top (map (λ f. f.document.site) (chain_of frame frames)) document.origin key e
