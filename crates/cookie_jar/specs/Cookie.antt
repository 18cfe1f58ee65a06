-- A cell of cookies, and when two of them are the same.
-- Source: RFC 6265bis, "Storage Model".
-- Our own choice: bytes count in a partition alone, since nothing limits those of an unpartitioned
-- cell.
use Rattle.std.specs.Prelude.{◌≡◌, ℕ, ◌+◌, ◌≤◌, Bool, true, ◌&&◌, List, length, sum_by}
use Rattle.std.specs.Prelude.{bytes_eq}
use Rattle.std.specs.Bool.{beq}
use Rattle.std.specs.List.{count_by}
pub use Rattle.stored_cookie.specs.StoredCookie.{PlainCookie}
use Rattle.partition_limits.specs.declared.tally.CellKind.{CellKind}
use Rattle.partition_limits.specs.declared.tally.CellKind.TheVariants.{Own, Partition}
use Rattle.partition_limits.specs.declared.tally.Tally.{Tally}
use Rattle.partition_limits.specs.Limits.{fits}

-- a cell: its kind, its cookies in order of place, and for how many more there is room
pub record PlainJar : Type 0 where
  pub kind : CellKind
  pub cookies : List PlainCookie
  pub spare : ℕ

-- two cookies are the same: equal name, domain, host-only-flag and path
abbrev pub same : PlainCookie → PlainCookie → Bool
same a b =
    bytes_eq a.name b.name
    && (bytes_eq a.domain b.domain && (beq a.host_only b.host_only && bytes_eq a.path b.path))

-- how many of these are the same as a cookie
abbrev pub copies : PlainCookie → List PlainCookie → ℕ
copies c cs = count_by (λ d. same c d) cs

-- the bytes of name and value
abbrev pub pair_bytes : PlainCookie → ℕ
pair_bytes c = length c.name + length c.value

-- the bytes that count in a cell
abbrev pub counted : CellKind → PlainCookie → ℕ
counted Own c = 0
counted Partition c = pair_bytes c

-- whether a cell may hold these cookies
abbrev pub keeps_limits : CellKind → List PlainCookie → Bool
keeps_limits kind cs = fits kind (length cs) (sum_by (counted kind) cs)

-- what holds of each cell and its tally: it keeps its limits, and no two cookies are the same
pub record IsCell (kind : CellKind) (tally : Tally) (cs : List PlainCookie) : Type 0 where
  pub cookies : tally.cookies ≡ length cs
  pub bytes : tally.bytes ≡ sum_by (counted kind) cs
  pub within : keeps_limits kind cs ≡ true
  pub distinct : (c : PlainCookie) → copies c cs ≤ 1
