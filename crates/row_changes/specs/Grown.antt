-- How bytes that are written to stand to those that were there, as private functions tell it.
use Rattle.std.specs.Prelude.{◌≡◌, ℕ, List, ◌++◌}

-- bytes stand behind what was there
pub record Grown (before after : List ℕ) : Type 0 where
  pub rest : List ℕ
  pub is : after ≡ before ++ rest
