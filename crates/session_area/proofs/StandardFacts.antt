-- Values worked out by hand from the standard's steps and from this repository's own choices.
use Rattle.std.proofs.Common.{◌≡◌, ℕ, refl, List, [], ◌∷◌, Some, None}
use Rattle.std.specs.Prelude.{codes}
use Rattle.std.specs.Ordering.{nat_cmp}
use Rattle.local_area.specs.Area.{Pair}
use Rattle.session_area.specs.Sessions.{areas_of, session_area, session_pairs}

abbrev one : List Pair
one = record { name = codes "k"; value = codes "v" } ∷ []

-- tab 1 has areas at 3 and 5, tab 2 has none, and tab 4 has one at 3
abbrev tabs : List (ℕ × List (ℕ × List Pair))
tabs = (1, (3, one) ∷ (5, []) ∷ []) ∷ (2, []) ∷ (4, (3, []) ∷ []) ∷ []

area_of_tab : session_area nat_cmp 1 3 tabs ≡ Some one
area_of_tab = refl

area_of_another_tab : session_area nat_cmp 4 3 tabs ≡ Some []
area_of_another_tab = refl

no_area_in_tab : session_area nat_cmp 4 5 tabs ≡ None
no_area_in_tab = refl

no_such_tab : session_area nat_cmp 3 3 tabs ≡ None
no_such_tab = refl

pairs_of_no_area : session_pairs nat_cmp 4 5 tabs ≡ []
pairs_of_no_area = refl

tab_without_areas : areas_of 2 tabs ≡ []
tab_without_areas = refl

absent_tab : areas_of 9 tabs ≡ []
absent_tab = refl
