-- What an area's running weight stands for.
use Rattle.std.specs.Prelude.{◌≡◌, ◌≤◌, ℕ, List}
use Rattle.local_area.specs.Area.{Pair, area_weight, quota, HasDistinctNames}

-- names are distinct, the running weight is the weight, and it is within the quota
pub record IsArea (pairs : List Pair) (running : ℕ) : Type 0 where
  pub distinct : HasDistinctNames pairs
  pub weight : running ≡ area_weight pairs
  pub within : running ≤ quota
