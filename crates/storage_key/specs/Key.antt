-- The storage key of a document: its origin, the site of the top, and the ancestor bit.
-- Source: Storage Standard, "Storage keys" (obtain a storage key: failure for an opaque origin).
-- Our own choice: the key has the top-level site and the ancestor bit of the document's own context
-- beside the origin. The own context is that of the document's chain and of its own site, which is
-- the chain's last. The order of keys is one for maps, and not that of the texts of origins: the
-- top-level site comes first, so the keys under a site are one range of an ordered map.
use Rattle.std.specs.Prelude.{◌-◌, Bool, true, List, length, Option, Some, None, option_map}
use Rattle.std.specs.Prelude.{slice_get, unwrap_or}
use Rattle.std.specs.declared.cmp.Ordering.{Ordering}
use Rattle.std.specs.Ordering.{bool_cmp, nat_cmp, ordering_then}
use Rattle.std.specs.Cmp.Lexicographic.{slice_cmp}
use Rattle.origin_site.specs.Origin.{PlainOrigin}
use Rattle.origin_site.specs.Site.{PlainSite}
use Rattle.storage_key.specs.Context.{context_of, top_of}

-- a storage key, as contracts see it
pub record PlainKey : Type 0 where
  pub top : PlainSite
  pub origin : PlainOrigin
  pub bit : Bool

-- the site of the document itself: the last of its chain
abbrev pub own_site : List (Option PlainSite) → Option PlainSite
own_site chain = unwrap_or (slice_get chain (length chain - 1)) None

-- the ancestor bit of a document with this own site; without one nothing is first party
abbrev pub bit_by : List (Option PlainSite) → Option PlainSite → Bool
bit_by chain None = true
bit_by chain (Some own) = (context_of chain own).bit

-- the ancestor bit of a document's own context
abbrev pub own_bit : List (Option PlainSite) → Bool
own_bit chain = bit_by chain (own_site chain)

-- the storage key of a document with this chain and this origin; an opaque origin has none
abbrev pub storage_key : List (Option PlainSite) → Option PlainOrigin → Option PlainKey
storage_key chain None = None
storage_key chain (Some origin) =
    option_map (λ top. record { top = top; origin = origin; bit = own_bit chain }) (top_of chain)

-- origins by scheme, kind of host, host and port
abbrev pub origin_order : PlainOrigin → PlainOrigin → Ordering
origin_order a b =
    ordering_then (bool_cmp a.https b.https)
    (ordering_then (bool_cmp a.ip b.ip)
    (ordering_then (slice_cmp nat_cmp a.host b.host) (nat_cmp a.port b.port)))

-- sites by scheme and host
abbrev pub site_order : PlainSite → PlainSite → Ordering
site_order a b =
    ordering_then (bool_cmp a.https b.https) (slice_cmp nat_cmp a.host b.host)

-- keys by top-level site, origin and ancestor bit
abbrev pub key_order : PlainKey → PlainKey → Ordering
key_order a b =
    ordering_then (site_order a.top b.top)
    (ordering_then (origin_order a.origin b.origin) (bool_cmp a.bit b.bit))
