-- The storage key of a document of a tab.
-- Source: Storage Standard, "Storage keys" (obtain a storage key: failure for an opaque origin).
use Rattle.std.specs.Prelude.{ℕ, Bool, ◌&&◌, List, map, Option, option_and_then}
use Rattle.origin_site.specs.Site.{PlainSite}
use Rattle.storage_key.specs.Context.{is_first_party}
use Rattle.storage_key.specs.Key.{PlainKey, storage_key}
use Rattle.frame_tree.specs.Document.{PlainDocument}
use Rattle.frame_tree.specs.Tree.{PlainFrame, chain_of, document_of, has_frame}

-- the sites of the documents of a chain
abbrev pub sites : List PlainFrame → List (Option PlainSite)
sites chain = map (λ f. f.document.site) chain

-- the storage key of a frame's document, by the sites of its chain and its origin
abbrev pub key_of_document : ℕ → List PlainFrame → PlainDocument → Option PlainKey
key_of_document frame frames document =
    storage_key (sites (chain_of frame frames)) document.origin

-- the storage key of a frame: None where the frame is not there or its document is opaque
abbrev pub key_of_frame : ℕ → List PlainFrame → Option PlainKey
key_of_frame frame frames =
    option_and_then (key_of_document frame frames) (document_of frame frames)

-- a frame is there, and what is at the URL's site is first party below its chain
abbrev pub is_first_at : ℕ → List PlainFrame → PlainSite → Bool
is_first_at frame frames url =
    has_frame frame frames && is_first_party (sites (chain_of frame frames)) url
