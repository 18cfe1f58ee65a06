-- The frames of a tab: a list of frame, parent and document, the top first.
-- Source: HTML, "Navigables", parent, ancestor and descendant navigables.
-- Our own choice: frames have numbers, and the top is frame 0. A frame is added behind its parent,
-- and the list keeps that order.
use Rattle.std.specs.Prelude.{◌≡◌, ◌≤◌, ℕ, Bool, true, false, ◌==◌, List, [], ◌∷◌, ◌++◌, reverse}
use Rattle.std.specs.Prelude.{find, Option, None, Some, is_some, option_map, if◌then◌else◌}
use Rattle.std.specs.List.{All, Contains, list_any}
use Rattle.origin_site.specs.Site.{PlainSite}
use Rattle.frame_tree.specs.Document.{PlainDocument}

-- a frame of the list
pub record PlainFrame : Type 0 where
  pub frame : ℕ
  pub parent : ℕ
  pub document : PlainDocument

-- a frame with another document in it
abbrev pub with_next : (PlainDocument → PlainDocument) → PlainFrame → PlainFrame
with_next next f = record { frame = f.frame; parent = f.parent; document = next f.document }

-- there is a frame of this number
abbrev pub has_frame : ℕ → List PlainFrame → Bool
has_frame frame frames = list_any (λ f. f.frame == frame) frames

-- the highest number of a frame: one has it, and none has a higher one
pub record IsLastFrame (last : ℕ) (frames : List PlainFrame) : Type 0 where
  pub there : has_frame last frames ≡ true
  pub highest : (frame : ℕ) → has_frame frame frames ≡ true → frame ≤ last

-- the document of a frame
abbrev pub document_of : ℕ → List PlainFrame → Option PlainDocument
document_of frame frames = option_map (λ f. f.document) (find (λ f. f.frame == frame) frames)

-- the site of the top document
abbrev pub top_site : List PlainFrame → Option PlainSite
top_site [] = None
top_site (top ∷ below) = top.document.site

-- the frames from the top to this one, of a list whose newest frame is first: those of its parent,
-- which is older, and itself
abbrev pub chain_back : ℕ → List PlainFrame → List PlainFrame
chain_back frame [] = []
chain_back frame (f ∷ older) =
    if f.frame == frame then chain_back f.parent older ++ f ∷ [] else chain_back frame older

-- the chain of a frame: the frames from the top to it, and none where it is not there
abbrev pub chain_of : ℕ → List PlainFrame → List PlainFrame
chain_of frame frames = chain_back frame (reverse frames)

-- a frame is on the chain of another: it is that frame, or an ancestor of it
abbrev pub is_on_chain : ℕ → ℕ → List PlainFrame → Bool
is_on_chain ancestor frame frames = list_any (λ f. f.frame == ancestor) (chain_of frame frames)

-- the frames of a tab, newest first: the oldest is frame 0, each other one has a number of its own
-- and a parent that is older
abbrev pub IsGrown : List PlainFrame → Type 0
IsGrown [] = ⊥
IsGrown (f ∷ []) = (f.frame ≡ 0) × (f.parent ≡ 0) × (is_some f.document.site ≡ true)
IsGrown (f ∷ next ∷ older) =
    (has_frame f.frame (next ∷ older) ≡ false) × (has_frame f.parent (next ∷ older) ≡ true)
    × IsGrown (next ∷ older)

-- the frames of a tab: the top is frame 0 and has a site, each other frame has a number of its own
-- and a parent that stands before it
abbrev pub IsTree : List PlainFrame → Type 0
IsTree frames = IsGrown (reverse frames)

-- each frame of a list has the one before it as its parent
abbrev pub IsLine : List PlainFrame → Type 0
IsLine [] = Unit {0}
IsLine (f ∷ []) = Unit {0}
IsLine (f ∷ below ∷ rest) = (below.parent ≡ f.frame) × IsLine (below ∷ rest)

-- the number of the first frame of a list
abbrev pub first_number : List PlainFrame → Option ℕ
first_number [] = None
first_number (f ∷ rest) = Some f.frame

-- the number of the last one
abbrev pub last_number : List PlainFrame → Option ℕ
last_number [] = None
last_number (f ∷ []) = Some f.frame
last_number (f ∷ below ∷ rest) = last_number (below ∷ rest)

-- what a chain is: frames of the tab, from the top to this one, each the parent of the next
pub record IsChain (frame : ℕ) (frames chain : List PlainFrame) : Type 0 where
  pub first : first_number chain ≡ Some 0
  pub last : last_number chain ≡ Some frame
  pub line : IsLine chain
  pub members : All (Contains frames) chain
