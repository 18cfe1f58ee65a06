-- Where a tab stands among the open tabs, or would stand.
use Rattle.std.specs.Prelude.{◌≡◌, ◌≤◌, ℕ, suc, Bool, true, nat_lt, List, length, take, drop, Some, option_map, slice_get}
use Rattle.std.specs.List.{list_all}
use Rattle.live_state.specs.Tabs.{PlainTab}

-- each tab has a lower number
abbrev pub are_lower : ℕ → List PlainTab → Bool
are_lower number tabs = list_all (λ tab. nat_lt tab.number number) tabs

-- each tab has a higher number
abbrev pub are_higher : ℕ → List PlainTab → Bool
are_higher number tabs = list_all (λ tab. nat_lt number tab.number) tabs

-- the tab of a number stands at this place
pub record IsAt (number : ℕ) (tabs : List PlainTab) (place : ℕ) : Type 0 where
  pub here : option_map (λ tab. tab.number) (slice_get tabs place) ≡ Some number
  pub lower : are_lower number (take place tabs) ≡ true
  pub higher : are_higher number (drop (suc place) tabs) ≡ true

-- no tab has the number, and it would stand at this place
pub record IsGap (number : ℕ) (tabs : List PlainTab) (place : ℕ) : Type 0 where
  pub within : place ≤ length tabs
  pub lower : are_lower number (take place tabs) ≡ true
  pub higher : are_higher number (drop place tabs) ≡ true
