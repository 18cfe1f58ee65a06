-- Session areas: a map from tabs to a map from storage keys to areas.
-- Source: Storage Standard, "Storage sheds": each traversable navigable holds a storage shed.
-- Our own choice: a tab without areas and an absent tab are not told apart.
use Rattle.std.specs.Prelude.{◌≡◌, ◌≢◌, ℕ, Bool, false, List, [], length, ◌==◌, Option, None, option_map, is_some, unwrap_or, if◌then◌else◌}
use Rattle.std.specs.declared.cmp.Ordering.{Ordering}
use Rattle.std.specs.Ordering.{nat_cmp}
use Rattle.local_area.specs.Area.{Pair}
use Rattle.key_map.specs.Entries.{map_get, map_put, map_remove, is_among}

module _ {K : Type 0} where
  -- the areas of a tab, by key
  abbrev pub areas_of : ℕ → List (ℕ × List (K × List Pair)) → List (K × List Pair)
  areas_of tab sessions = unwrap_or (map_get nat_cmp tab sessions) []

  -- every tab has the areas that it had
  abbrev pub SameAreas : (old new : List (ℕ × List (K × List Pair))) → Type 0
  SameAreas old new = (tab : ℕ) → areas_of tab new ≡ areas_of tab old

  -- every other tab has the areas that it had
  abbrev pub KeepsOthers : ℕ → (old new : List (ℕ × List (K × List Pair))) → Type 0
  KeepsOthers tab old new = (other : ℕ) → tab ≢ other → areas_of other new ≡ areas_of other old

  -- a tab has these areas, and every other tab those that it had
  pub record ChangesTab (tab : ℕ) (areas : List (K × List Pair))
      (old new : List (ℕ × List (K × List Pair))) : Type 0 where
    pub here : areas_of tab new ≡ areas
    pub elsewhere : KeepsOthers tab old new

module _ {K : Type 0} (cmp : K → K → Ordering) where
  -- the area of a tab and a key, if there is one
  abbrev pub session_area : ℕ → K → List (ℕ × List (K × List Pair)) → Option (List Pair)
  session_area tab key sessions = map_get cmp key (areas_of tab sessions)

  -- the pairs of a tab and a key: those of the area, and none where there is no area
  abbrev pub session_pairs : ℕ → K → List (ℕ × List (K × List Pair)) → List Pair
  session_pairs tab key sessions = unwrap_or (session_area tab key sessions) []

  -- the areas of a tab with one at the key: its own, or an empty one
  abbrev pub made_area : K → List (K × List Pair) → List (K × List Pair)
  made_area key areas = if is_some (map_get cmp key areas) then areas else map_put cmp key [] areas

  -- whether the key has an area, which is empty
  abbrev pub has_empty : K → List (K × List Pair) → Bool
  has_empty key areas =
      unwrap_or (option_map (λ pairs. length pairs == 0) (map_get cmp key areas)) false

  -- the areas of a tab without that of a key, where it is empty
  abbrev pub without_empty : K → List (K × List Pair) → List (K × List Pair)
  without_empty key areas = if has_empty key areas then map_remove cmp key areas else areas

  -- a map of areas holds those of another under these keys, and no others
  abbrev pub IsCopied : List K → (from to : List (K × List Pair)) → Type 0
  IsCopied keys from to =
      (key : K)
      → map_get cmp key to ≡ (if is_among cmp keys key then map_get cmp key from else None)
