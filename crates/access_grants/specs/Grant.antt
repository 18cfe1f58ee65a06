-- Permissions of storage access: one row for a pair of a top-level site and an embedded site.
-- Source: Storage Access API, "Permissions Integration"; Permissions, "Permission key" and
-- "Permission lifetime".
-- Our own choice: the answer to a prompt counts for 30 days, a denial too, where the standards
-- leave the lifetime open. A pair's new answer stands in the place of its old one.
use Rattle.std.specs.Prelude.{ℕ, ◌-◌, ℤ, pos, ◌+ℤ◌, int_lt, Bool, ◌&&◌, List, [], ◌∷◌, ◌++◌, map}
use Rattle.std.specs.Prelude.{Option, Some, None, if◌then◌else◌}
use Rattle.std.specs.List.{find, list_any, IsDistinct}
use Rattle.std.specs.Int.{saturate_signed, w64}
use Rattle.origin_site.specs.Site.{PlainSite, same_plain_site}
use Rattle.access_grants.specs.declared.permission.GrantState.{GrantState}
use Rattle.access_grants.specs.declared.permission.GrantState.TheVariants.{Granted, Denied, Unset}
use Rattle.access_grants.specs.declared.permission.Permission.{Permission}

-- a row: the permission of `site` embedded under `top`, which ends with the second before `until`
pub record PlainGrant : Type 0 where
  pub top : PlainSite
  pub site : PlainSite
  pub granted : Bool
  pub until : ℤ

-- the rows in the order in which their pairs came, and how many more need no memory
pub record PlainGrants : Type 0 where
  pub rows : List PlainGrant
  pub spare : ℕ

-- the seconds for which an answer counts: 30 days
abbrev pub lifetime : ℕ
lifetime = 2592000

-- the permission of an answer that is given now; its end stays at the last value of 64 bits
abbrev pub permission_at : Bool → ℤ → Permission
permission_at granted now =
    record { granted = granted; until = saturate_signed w64 (now +ℤ pos lifetime) }

-- whether a row is that of a pair: both its top-level site and its embedded site
abbrev pub is_of : PlainSite → PlainSite → PlainGrant → Bool
is_of top site row = same_plain_site top row.top && same_plain_site site row.site

-- what a row says at a moment
abbrev pub state_of : ℤ → PlainGrant → GrantState
state_of now row =
    if int_lt now row.until then (if row.granted then Granted else Denied) else Unset

-- what the row of a pair says, if there is one
abbrev pub state_by : ℤ → Option PlainGrant → GrantState
state_by now (Some row) = state_of now row
state_by now None = Unset

-- what is known of a pair at a moment
abbrev pub grant_state : PlainSite → PlainSite → ℤ → List PlainGrant → GrantState
grant_state top site now rows = state_by now (find (is_of top site) rows)

-- whether there is a row of this row's pair
abbrev pub has_row : PlainGrant → List PlainGrant → Bool
has_row row rows = list_any (is_of row.top row.site) rows

-- the rows after a row is kept: in the place of its pair's row, or last where the pair has none
abbrev pub with_row : PlainGrant → List PlainGrant → List PlainGrant
with_row row rows =
    if has_row row rows
    then map (λ other. if is_of row.top row.site other then row else other) rows
    else rows ++ row ∷ []

-- how many rows need no memory after a row is kept: one fewer where it came last
abbrev pub spare_after : PlainGrant → PlainGrants → ℕ
spare_after row grants =
    if has_row row grants.rows then grants.spare else grants.spare - 1

-- whether two rows are of one pair
abbrev pub same_pair : PlainSite × PlainSite → PlainSite × PlainSite → Bool
same_pair a b = same_plain_site a.0 b.0 && same_plain_site a.1 b.1

-- no two rows are of one pair
abbrev pub HasDistinctPairs : List PlainGrant → Type 0
HasDistinctPairs rows = IsDistinct same_pair (map (λ row. (row.top, row.site)) rows)
