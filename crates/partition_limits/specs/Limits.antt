-- How much a cell of cookies may hold.
-- Source: RFC 6265bis, "Limits" and "Storage Model" (a user agent may have an upper bound);
-- the draft "Cookies Having Independent Partitioned State" (CHIPS), "Limits on partitions".
-- Our own choice: 180 cookies in each cell, as the draft proposes for a partition, also in an
-- unpartitioned one; 10,240 bytes of names and values in a partition; no limit over all cells.
use Rattle.std.specs.Prelude.{ℕ, Bool, true, ◌&&◌, nat_le, List, length, sum_by}
use Rattle.partition_limits.specs.declared.tally.CellKind.{CellKind}
use Rattle.partition_limits.specs.declared.tally.CellKind.TheVariants.{Own, Partition}
use Rattle.partition_limits.specs.declared.excess.Weighed.{Weighed}

-- the most cookies of a cell
abbrev pub cookie_limit : ℕ
cookie_limit = 180

-- the most bytes of names and values in a partition
abbrev pub byte_limit : ℕ
byte_limit = 10240

-- whether a cell may hold so many bytes of names and values
abbrev pub is_light : CellKind → ℕ → Bool
is_light Own bytes = true
is_light Partition bytes = nat_le bytes byte_limit

-- whether a cell may hold so many cookies of so many bytes
abbrev pub fits : CellKind → ℕ → ℕ → Bool
fits kind cookies bytes = nat_le cookies cookie_limit && is_light kind bytes

-- whether a cell may hold the cookies that were weighed so
abbrev pub holds : CellKind → List Weighed → Bool
holds kind rows = fits kind (length rows) (sum_by (λ r. r.bytes) rows)
