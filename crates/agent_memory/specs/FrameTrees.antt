-- The frames of open tabs: a tree, whose frames have numbers.
-- Source: HTML, "Navigables", parent, ancestor and descendant navigables.
-- Our own choice: a frame has a number from 0 to 255.
use Rattle.std.specs.Prelude.{◌≡◌, ℕ, Bool, true, nat_lt, List, Option, Some, None}
use Rattle.std.specs.List.{list_all}
use Rattle.frame_tree.specs.Tree.{IsTree, PlainFrame}
use Rattle.live_state.specs.Tabs.{PlainTab, tab_at}

-- how many numbers a frame can have
abbrev pub most_frames : ℕ
most_frames = 256

-- the frames have such numbers
abbrev pub are_numbered : List PlainFrame → Bool
are_numbered frames = list_all (λ f. nat_lt f.frame most_frames) frames

-- the frames of an open tab
pub record IsFrameTree (frames : List PlainFrame) : Type 0 where
  pub tree : IsTree frames
  pub numbered : are_numbered frames ≡ true

-- the same of a tab that may not be open
abbrev pub IsFrameTreeAt : Option PlainTab → Type 0
IsFrameTreeAt None = Unit {0}
IsFrameTreeAt (Some tab) = IsFrameTree tab.frames

-- every open tab has such frames
abbrev pub AreTrees : List PlainTab → Type 0
AreTrees tabs = (number : ℕ) → IsFrameTreeAt (tab_at number tabs)
