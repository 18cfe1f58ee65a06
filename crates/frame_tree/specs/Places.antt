-- The places of frames by their numbers.
use Rattle.std.specs.Prelude.{◌≡◌, ℕ, true, List, Option, Some, option_map, slice_get, slice_index}
use Rattle.frame_tree.specs.Tree.{PlainFrame, has_frame}

-- the number of the frame at a place
abbrev pub number_at : ℕ → List PlainFrame → Option ℕ
number_at place frames = option_map (λ f. f.frame) (slice_get frames place)

-- a frame of this number, if there is one, stands at this place
abbrev pub IsPlaceOf : ℕ → ℕ → List PlainFrame → Type 0
IsPlaceOf frame place frames = has_frame frame frames ≡ true → number_at place frames ≡ Some frame

-- each number has the place of its frame
abbrev pub ArePlaces : List ℕ → List PlainFrame → Type 0
ArePlaces places frames = (frame : ℕ) → IsPlaceOf frame (slice_index places frame) frames
