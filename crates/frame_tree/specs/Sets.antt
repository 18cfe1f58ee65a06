-- A set of frames, as a truth value at each number.
use Rattle.std.specs.Prelude.{◌≡◌, ◌==◌, ℕ, Bool, false, List, [], ◌∷◌, if◌then◌else◌}
use Rattle.std.proofs.Common.{get_or}
use Rattle.frame_tree.specs.Tree.{PlainFrame}

-- the set has exactly the numbers that pass
abbrev pub IsSetOf : (ℕ → Bool) → List Bool → Type 0
IsSetOf passes set = (n : ℕ) → get_or set n false ≡ passes n

-- what the newest frame of this number passes, of a list whose newest frame is first
abbrev pub found : (PlainFrame → Bool) → ℕ → List PlainFrame → Bool
found passes n [] = false
found passes n (f ∷ older) = if f.frame == n then passes f else found passes n older
