-- Ascending numbers by the group that they are of. Only private functions see them.
-- Source: none.
-- Our own choice: a group without numbers and an absent group are not told apart.
use Rattle.std.specs.Prelude.{◌≡◌, ℕ, Bool, List, [], unwrap_or, if◌then◌else◌}
use Rattle.std.specs.declared.cmp.Ordering.{Ordering}
use Rattle.key_map.specs.Entries.{map_get}
use Rattle.web_locks.specs.Numbers.{with_number, without_number}

module _ {G : Type 0} (cmp : G → G → Ordering) where
  -- the numbers of a group
  abbrev pub group_of : G → List (G × List ℕ) → List ℕ
  group_of group groups = unwrap_or (map_get cmp group groups) []

  -- each group has the numbers that it had
  abbrev pub SameGroups : (old new : List (G × List ℕ)) → Type 0
  SameGroups old new = (q : G) → group_of q new ≡ group_of q old

  module _ (within : G → Bool) (number : ℕ) where
    -- the numbers of a group, without one where the group is among these
    abbrev pub trimmed : G → List (G × List ℕ) → List ℕ
    trimmed q groups =
        if within q then without_number number (group_of q groups) else group_of q groups

    -- these groups have one number more, and the others the numbers that they had
    abbrev pub Adds : (old new : List (G × List ℕ)) → Type 0
    Adds old new =
        (q : G) → group_of q new
        ≡ (if within q then with_number number (group_of q old) else group_of q old)

    -- these groups have one number more at most
    abbrev pub AddsAtMost : (old new : List (G × List ℕ)) → Type 0
    AddsAtMost old new = (q : G) → trimmed q new ≡ trimmed q old

    -- these groups are without a number, and the others have the numbers that they had
    abbrev pub Removes : (old new : List (G × List ℕ)) → Type 0
    Removes old new = (q : G) → group_of q new ≡ trimmed q old
