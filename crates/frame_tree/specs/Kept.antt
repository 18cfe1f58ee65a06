-- What a frame keeps of its chain beside its document.
use Rattle.std.specs.Prelude.{◌≡◌, ◌||◌, ℕ, Bool, not, List, Option, Some, option_map}
use Rattle.std.specs.List.{All}
use Rattle.origin_site.specs.Site.{PlainSite}
use Rattle.storage_key.specs.Context.{is_of}
use Rattle.storage_key.specs.Key.{PlainKey, own_bit, storage_key}
use Rattle.storage_key.specs.Plain.{plain_key}
use Rattle.frame_tree.specs.Calls.{with_document}
use Rattle.frame_tree.specs.Document.{PlainDocument}
use Rattle.frame_tree.specs.Keys.{key_of_document, sites}
use Rattle.frame_tree.specs.Plain.{plain_document, plain_frame}
use Rattle.frame_tree.specs.Tree.{IsTree, PlainFrame, chain_of, top_site, with_next}
use Rattle.frame_tree.specs.declared.frames.Frame.{Frame}
use Rattle.frame_tree.specs.declared.keys.Loaded.{Loaded}

-- a document with the ancestor bit of its own context and its storage key
pub record KeptDocument : Type 0 where
  pub plain : PlainDocument
  pub bit : Bool
  pub key : Option PlainKey

-- a frame with the bit and the key of its document
pub record KeptFrame : Type 0 where
  pub plain : PlainFrame
  pub bit : Bool
  pub key : Option PlainKey

-- a document and what was made with it
abbrev pub kept_document : Loaded → KeptDocument
kept_document l =
    record { plain = plain_document l.document; bit = l.bit; key = option_map plain_key l.key }

-- a frame of the list and what was made with its document
abbrev pub kept_frame : Frame → KeptFrame
kept_frame f = record {
  plain = plain_frame f;
  bit = f.loaded.bit;
  key = option_map plain_key f.loaded.key;
}

-- a frame whose document is changed, where bit and key stay
abbrev pub kept_with : (PlainDocument → PlainDocument) → KeptFrame → KeptFrame
kept_with next k = record { plain = with_next next k.plain; bit = k.bit; key = k.key }

-- a frame with this document in it
abbrev pub kept_instead : KeptDocument → KeptFrame → KeptFrame
kept_instead made k =
    record { plain = with_next (λ _. made.plain) k.plain; bit = made.bit; key = made.key }

-- a document below another of this bit, in a tab at this site
abbrev pub kept_under : PlainSite → Bool → PlainDocument → KeptDocument
kept_under top above document =
    let bit = above || not (is_of top document.site) in record {
      plain = document;
      bit = bit;
      key = option_map (λ origin. record { top = top; origin = origin; bit = bit }) document.origin;
    }

-- a frame keeps the bit and the key of its document's chain
pub record KeepsChain (frames : List PlainFrame) (k : KeptFrame) : Type 0 where
  pub bit : k.bit ≡ own_bit (sites (chain_of k.plain.frame frames))
  pub key : k.key ≡ key_of_document k.plain.frame frames k.plain.document

-- the frames of a tab at a site, and what is kept of each
pub record IsSound (site : PlainSite) (frames : List PlainFrame) (kept : List KeptFrame)
    : Type 0 where
  pub tree : IsTree frames
  pub keys : All (KeepsChain frames) kept
  pub top : top_site frames ≡ Some site

-- the sites of a chain whose last document is another one
abbrev pub sites_instead : ℕ → List PlainFrame → PlainDocument → List (Option PlainSite)
sites_instead frame frames document =
    sites (chain_of frame (with_document frame (λ _. document) frames))

-- a document keeps the bit and the key that it has in the place of the present one of a frame
pub record KeepsChainAt (frame : ℕ) (frames : List PlainFrame) (made : KeptDocument) : Type 0 where
  pub bit : made.bit ≡ own_bit (sites_instead frame frames made.plain)
  pub key : made.key ≡ storage_key (sites_instead frame frames made.plain) made.plain.origin
