-- The frames of a tab as loads of read addresses leave them.
-- Source: HTML, "Sandboxing" (a document in the sandboxed origin browsing context has an opaque
-- origin) and "Sites".
use Rattle.std.specs.Prelude.{◌≡◌, ◌⊎◌, List, Option, Some, None, option_map}
use Rattle.std.specs.List.{All}
use Rattle.suffix_list.specs.Suffix.{Rule}
use Rattle.origin_site.specs.Origin.{origin_of_address}
use Rattle.origin_site.specs.Site.{site_of_origin}
use Rattle.frame_tree.specs.Document.{PlainDocument}
use Rattle.frame_tree.specs.Tree.{PlainFrame}
use Rattle.live_state.specs.Tabs.{PlainTab}
use Rattle.spelled_model.specs.Addresses.{IsReadAddress}

-- a document's address is read; its origin is that of its address, or it is opaque; and its site is
-- that origin's
pub record IsReadDocument (rules : List Rule) (document : PlainDocument) : Type 0 where
  pub address : IsReadAddress document.address
  pub origin : (document.origin ≡ None)
      ⊎ (document.origin ≡ Some (origin_of_address document.address))
  pub site : document.site ≡ option_map (site_of_origin rules) document.origin

-- each document of a tab's frames is so
abbrev pub AreReadFrames : List Rule → List PlainFrame → Type 0
AreReadFrames rules frames = All (λ f. IsReadDocument rules f.document) frames

-- and of a tab's, where it is open
abbrev pub IsReadTab : List Rule → Option PlainTab → Type 0
IsReadTab rules None = Unit {0}
IsReadTab rules (Some tab) = AreReadFrames rules tab.frames
