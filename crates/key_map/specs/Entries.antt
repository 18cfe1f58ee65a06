-- A map from keys to values, as the list of its entries in the order of the keys.
-- Source: none; these are the words of an ordered map.
use Rattle.std.specs.Prelude.{◌≡◌, Bool, true, List, Option, Some, None, option_map, find, filter, not}
use Rattle.std.specs.List.{AllZip, list_any}
use Rattle.std.specs.declared.cmp.Ordering.{Ordering}
use Rattle.std.specs.declared.cmp.Ordering.TheVariants.{Equal}
use Rattle.std.specs.BTreeMap.{is_at, insert_entry}
use Rattle.std.specs.Map.{lookup, set_value}
use Rattle.std.specs.Ordering.{is_eq, is_le, is_lt}

-- whether a key is greater than this one, or any key at all without one
abbrev pub is_after : {K : Type 0} → (K → K → Ordering) → Option K → K → Bool
is_after cmp None key = true
is_after cmp (Some after) key = is_lt (cmp after key)

-- whether a key is one of these
abbrev pub is_among : {K : Type 0} → (K → K → Ordering) → List K → K → Bool
is_among cmp keys key = list_any (λ k. is_eq (cmp k key)) keys

module _ {K V : Type 0} (cmp : K → K → Ordering) where
  -- the value of a key
  abbrev pub map_get : K → List (K × V) → Option V
  map_get key entries = lookup (is_at (cmp key)) entries

  -- the entries with this value at the key where it is there, and as they were else
  abbrev pub map_set : K → V → List (K × V) → List (K × V)
  map_set key value entries = set_value (is_at (cmp key)) entries value

  -- the entries with this value at the key: in its place where the key is there, else in its order
  abbrev pub map_put : K → V → List (K × V) → List (K × V)
  map_put key value entries = insert_entry cmp entries key value

  -- the entries without this key
  abbrev pub map_remove : K → List (K × V) → List (K × V)
  map_remove key entries = filter (λ e. not (is_eq (cmp key e.0))) entries

  -- the first key that is greater. The entries are in the order of the keys, so it is the least.
  abbrev pub next_key : Option K → List (K × V) → Option K
  next_key after entries = option_map (λ e. e.0) (find (λ e. is_after cmp after e.0) entries)

  -- the entries whose keys are not less than this one
  abbrev pub entries_from : K → List (K × V) → List (K × V)
  entries_from from entries = filter (λ e. is_le (cmp from e.0)) entries

  -- the entries whose keys are less than this one
  abbrev pub entries_below : K → List (K × V) → List (K × V)
  entries_below to entries = filter (λ e. not (is_le (cmp to e.0))) entries

  -- each key has the same value in both
  abbrev pub HasSameValues : (old new : List (K × V)) → Type 0
  HasSameValues old new = (key : K) → map_get key new ≡ map_get key old

-- a clone of a key compares equal to it
abbrev pub ClonesCompareEqual : {K : Type 0} → (K → K → Ordering) → (K → K → Type 0) → Type 0
ClonesCompareEqual {K} cmp is_clone = (key clone : K) → is_clone key clone → cmp key clone ≡ Equal

-- a map whose keys and values are clones of another's, by what a clone of each is
abbrev pub IsCopy : {K V : Type 0} → (K → K → Type 0) → (V → V → Type 0) → List (K × V)
    → List (K × V) → Type 0
IsCopy is_key is_value entries copy = AllZip (λ e c. is_key e.0 c.0 × is_value e.1 c.1) entries copy
