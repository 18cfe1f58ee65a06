-- Domains and paths that match.
-- Source: RFC 6265bis, "Domain Matching", "Paths and Path-Match" (the default path).
use Rattle.std.specs.Prelude.{ℕ, ◌-◌, Bool, ◌&&◌, ◌||◌, not, ◌==◌, nat_le, nat_lt, nat_eq, List}
use Rattle.std.specs.Prelude.{length, codes, bytes_eq, if◌then◌else◌}
use Rattle.std.specs.List.{starts_with, ends_with, before_last, count_by, slice_index}
use Rattle.std.specs.Str.{byte}

-- a text ends with a domain, before which stands a dot
abbrev pub is_below : List ℕ → List ℕ → Bool
is_below host domain =
    nat_lt (length domain) (length host)
    && (ends_with nat_eq host domain
    && (slice_index host (length host - length domain - 1) == byte "."))

-- a host domain-matches a domain: they are equal, or it is no IP address and below the domain
abbrev pub domain_matches : Bool → List ℕ → List ℕ → Bool
domain_matches ip host domain = bytes_eq host domain || (not ip && is_below host domain)

-- whether a byte is `/`
abbrev pub is_slash : ℕ → Bool
is_slash b = b == byte "/"

-- a text ends with `/`
abbrev pub ends_with_slash : List ℕ → Bool
ends_with_slash text = is_slash (slice_index text (length text - 1))

-- a text begins with another one, behind which stands `/`
abbrev pub goes_on_with_slash : List ℕ → List ℕ → Bool
goes_on_with_slash text front =
    nat_lt (length front) (length text) && is_slash (slice_index text (length front))

-- a path path-matches a cookie's path: they are equal, or it begins with that path, which ends with
-- `/` or behind which stands `/`
abbrev pub path_matches : List ℕ → List ℕ → Bool
path_matches path base =
    bytes_eq path base
    || (starts_with nat_eq path base && (ends_with_slash base || goes_on_with_slash path base))

-- a text begins with `/`
abbrev pub begins_with_slash : List ℕ → Bool
begins_with_slash text = is_slash (slice_index text 0)

-- the default path of a URL's path: `/` where that does not begin with `/` or has but one, else
-- what stands before its last `/`
abbrev pub default_path : List ℕ → List ℕ
default_path path =
    if not (begins_with_slash path) || nat_le (count_by is_slash path) 1 then codes "/"
    else before_last is_slash path
