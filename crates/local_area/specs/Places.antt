-- What the entries of an area's map and the counts of its pairs stand for.
use Rattle.std.specs.Prelude.{◌≡◌, ◌≤◌, ◌+◌, ◌*◌, ℕ, zero, suc, Bool, true, false, not, ◌&&◌, nat_eq, List, [], ◌∷◌, ◌++◌, map, filter, take, length, slice_index, String, Vec, string_bytes}
use Rattle.std.specs.Str.{IsUtf8}
use Rattle.std.specs.List.{AllByRecursion}
use Rattle.std.specs.declared.alloc.Global.{Global}
use Rattle.local_area.specs.Area.{Pair, HasDistinctNames}

abbrev pub Entry : Type 0
Entry = Vec ℕ Global × String Global

-- a key of a mark begins with a byte that continues a character
abbrev pub is_mark_key : List ℕ → Bool
is_mark_key [] = false
is_mark_key (byte ∷ bytes) = nat_eq byte 128

-- a mark has an empty value
abbrev pub is_empty_value : List ℕ → Bool
is_empty_value [] = true
is_empty_value (byte ∷ bytes) = false

abbrev pub is_mark : List ℕ → List ℕ → Bool
is_mark key value = is_mark_key key && is_empty_value value

-- whether an entry is a pair, and no mark
abbrev pub is_pair : Entry → Bool
is_pair entry = not (is_mark entry.0.items (string_bytes entry.1))

-- an entry of the map, as a pair
abbrev pub pair_of : Entry → Pair
pair_of entry = record { name = entry.0.items; value = string_bytes entry.1 }

-- the entries that are no marks, as pairs
abbrev pub pairs_of : List Entry → List Pair
pairs_of entries = map pair_of (filter is_pair entries)

-- the number of entries that are pairs
abbrev pub count_of : List Entry → ℕ
count_of entries = length (filter is_pair entries)

-- the entries, and a mark behind them
abbrev pub EndsWithMark : List Entry → List Entry → Type 0
EndsWithMark old new = (mark : Entry) × (is_pair mark ≡ false) × (new ≡ old ++ mark ∷ [])

-- the pairs before a block, counted from 0
abbrev pub pairs_before : List ℕ → ℕ → ℕ
pairs_before counts zero = 0
pairs_before counts (suc block) = slice_index counts block

-- each count is the number of pairs up to the end of its block
pub record IsCounted (entries : List Entry) (counts : List ℕ) : Type 0 where
  pub within : length counts * 256 ≤ length entries
  pub each : (block : ℕ) → block ≤ length counts
      → pairs_before counts block ≡ count_of (take (block * 256) entries)

-- names are texts
abbrev pub AreTexts : List Pair → Type 0
AreTexts pairs = AllByRecursion (λ pair. IsUtf8 pair.name) pairs

-- names are texts and distinct, and marks and pairs are counted
pub record IsPlaces (entries : List Entry) (marks : ℕ) (counts : List ℕ) : Type 0 where
  pub distinct : HasDistinctNames (pairs_of entries)
  pub texts : AreTexts (pairs_of entries)
  pub marked : length (pairs_of entries) + marks ≡ length entries
  pub counted : IsCounted entries counts
