-- What a `Medium` keeps in its buffers.
-- Source: none.
use Rattle.std.specs.Prelude.{◌≡◌, ℕ, ◌+◌, ◌<◌, ◌≤◌, Bool, true, false, List, [], length, Vec}
use Rattle.std.specs.Prelude.{slice_index, vec_capacity, vec_len, if◌then◌else◌}
use Rattle.std.specs.declared.alloc.Global.{Global}
use Rattle.disk_model.specs.Image.{IsOutside, greatest_end}
use Rattle.disk_model.specs.History.{Event, replay, at_first}
use Rattle.disk_model.specs.Recovery.{placed_end}

-- until the first write there is one content
abbrev pub unless_fresh : Bool → List ℕ → List ℕ → List ℕ
unless_fresh fresh contents other = if fresh then contents else other

-- the file has the bytes of the contents in each range, and elsewhere what was synced. It reaches
-- to the last byte in place.
pub record IsPlaced (synced contents : List ℕ) (ranges : List (ℕ × ℕ)) (file : List ℕ)
    : Type 0 where
  pub len : length file ≡ placed_end (length synced) ranges
  pub outside : (i : ℕ) → IsOutside i ranges → slice_index file i ≡ slice_index synced i
  pub inside : (i : ℕ) → (IsOutside i ranges → ⊥) → slice_index file i ≡ slice_index contents i

-- the buffers hold what the history leaves
pub record AreBuffersOf (contents synced_bytes : List ℕ) (fresh : Bool) (ranges : List (ℕ × ℕ))
    (first : List ℕ) (events : List Event) : Type 0 where
  pub replayed : replay (at_first first) events ≡ record {
    contents = contents;
    synced = unless_fresh fresh contents synced_bytes;
    ranges = ranges;
  }
  pub within : greatest_end 0 ranges ≤ length contents
  -- contents and synced bytes differ in the ranges alone
  pub placed : IsPlaced (unless_fresh fresh contents synced_bytes) contents ranges contents
  pub untouched : fresh ≡ true → ranges ≡ []

-- there is room for so many writes, and for what may have to be copied
pub record HasRoom (contents synced_bytes : Vec ℕ Global) (fresh : Bool)
    (ranges : Vec (ℕ × ℕ) Global) (room_end room_writes : ℕ) : Type 0 where
  pub in_contents : room_end ≤ vec_capacity contents
  pub in_synced : room_end ≤ vec_capacity synced_bytes
  pub in_ranges : vec_len ranges + room_writes ≤ vec_capacity ranges
  pub fits : fresh ≡ false → vec_len contents ≤ room_end
  pub fits_next : 0 < room_writes → vec_len contents ≤ room_end
