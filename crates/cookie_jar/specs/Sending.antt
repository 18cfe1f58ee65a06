-- The cookies that go out, and the text that they go out in.
-- Source: RFC 6265bis, "Retrieval Algorithm" and "Non-HTTP APIs"; the draft "Cookies Having
-- Independent Partitioned State" (CHIPS), "Using Set-Cookie with Partitioned".
-- Our own choice: of granted unpartitioned cookies those with SameSite None alone go out; of equal
-- path length and creation unpartitioned ones stand first, and then those of lower place.
use Rattle.std.specs.Prelude.{ℕ, ℤ, Bool, true, false, ◌&&◌, ◌||◌, not, ◌==◌, List, [], ◌∷◌, ◌++◌}
use Rattle.std.specs.Prelude.{map, filter, fold, length, take, drop, flat_map, codes, bytes_eq}
use Rattle.std.specs.Prelude.{if◌then◌else◌}
use Rattle.std.specs.List.{list_any, enumerate_from}
use Rattle.std.specs.List.Sorted.{IsPermutation, IsSortedBy}
use Rattle.std.specs.declared.cmp.Ordering.{Ordering}
use Rattle.std.specs.Ordering.{nat_cmp, int_cmp, bool_cmp, ordering_then, is_lt}
use Rattle.setcookie_parse.specs.declared.cookie.SameSite.{SameSite}
use Rattle.setcookie_parse.specs.declared.cookie.SameSite.TheVariants as site
use Rattle.partition_limits.specs.declared.tally.CellKind.{CellKind}
use Rattle.partition_limits.specs.declared.tally.CellKind.TheVariants.{Own, Partition}
use Rattle.cookie_jar.specs.Access.{PlainAccess}
use Rattle.cookie_jar.specs.Cookie.{PlainCookie}
use Rattle.cookie_jar.specs.Drops.{is_none}
use Rattle.cookie_jar.specs.Lifetime.{is_expired}
use Rattle.cookie_match.specs.Matching.{domain_matches, path_matches}

-- SameSite is Strict
abbrev pub is_strict : SameSite → Bool
is_strict site.Default = false
is_strict site.NoneSent = false
is_strict site.Lax = false
is_strict site.Strict = true

-- a cookie of a cell that the context sees: where access was granted, with SameSite None alone
abbrev pub is_seen : CellKind → PlainAccess → PlainCookie → Bool
is_seen Own access c = access.first || (access.granted && is_none c.same_site)
is_seen Partition access c = true

-- the host is the cookie's domain, or domain-matches it where the cookie is not host-only
abbrev pub is_of_host : PlainAccess → PlainCookie → Bool
is_of_host access c =
    if c.host_only then bytes_eq access.host c.domain
    else domain_matches access.ip access.host c.domain

-- SameSite lets a cookie out: into same-site requests; with None into all; unless Strict into a
-- load of a top document by a safe method
abbrev pub is_let_out : PlainAccess → PlainCookie → Bool
is_let_out access c =
    access.same_site || (is_none c.same_site
    || (access.top_load && (access.safe && not (is_strict c.same_site))))

-- a cookie of a cell goes out
abbrev pub goes_out : CellKind → PlainAccess → ℤ → PlainCookie → Bool
goes_out kind access now c =
    is_seen kind access c && (is_of_host access c && (path_matches access.path c.path
    && (not (is_expired now c) && ((access.https || not c.secure)
    && ((not access.script || not c.http_only) && is_let_out access c)))))

-- the places of the cookies that go out
abbrev pub select : CellKind → PlainAccess → ℤ → List PlainCookie → List ℕ
select kind access now cs =
    map (λ c. c.0) (filter (λ c. goes_out kind access now c.1) (enumerate_from 0 cs))

-- a cookie that was used at a moment
abbrev pub used : ℤ → PlainCookie → PlainCookie
used now c = record c { last = now }

-- the cookies, where those at these places were used at a moment
abbrev pub marked : List ℕ → ℤ → List PlainCookie → List PlainCookie
marked places now cs =
    map (λ c. if list_any (λ p. p == c.0) places then used now c.1 else c.1)
    (enumerate_from 0 cs)

-- a cookie that goes out: whether its cell is a partition, its place there, and itself
pub record PlainSent : Type 0 where
  pub partitioned : Bool
  pub place : ℕ
  pub cookie : PlainCookie

-- how two of them compare: longer path, then earlier creation, then unpartitioned, then lower place
abbrev pub sent_cmp : PlainSent → PlainSent → Ordering
sent_cmp a b =
    ordering_then (nat_cmp (length b.cookie.path) (length a.cookie.path))
    (ordering_then (int_cmp a.cookie.creation b.cookie.creation)
    (ordering_then (bool_cmp a.partitioned b.partitioned) (nat_cmp a.place b.place)))

-- one stands before another
abbrev pub stands_before : PlainSent → PlainSent → Bool
stands_before a b = is_lt (sent_cmp a b)

-- the cookie at a place, if one is there
abbrev pub sent_at : Bool → List PlainCookie → ℕ → List PlainSent
sent_at partitioned cs p =
    map (λ c. record { partitioned = partitioned; place = p; cookie = c }) (take 1 (drop p cs))

-- the cookies at these places
abbrev pub sent_of : Bool → List ℕ → List PlainCookie → List PlainSent
sent_of partitioned places cs = flat_map (sent_at partitioned cs) places

-- the cookies at these places of both cells
abbrev pub sent : List PlainCookie → List ℕ → List PlainCookie → List ℕ → List PlainSent
sent own own_places part part_places =
    sent_of false own_places own ++ sent_of true part_places part

-- cookies that are in order, with one more
abbrev pub in_order : List PlainSent → PlainSent → List PlainSent
in_order [] s = s ∷ []
in_order (t ∷ ts) s = if stands_before s t then s ∷ t ∷ ts else t ∷ in_order ts s

-- these cookies in order
abbrev pub ordered : List PlainSent → List PlainSent
ordered ss = fold in_order [] ss

-- a list is an order of these cookies: it has each of them, and none stands before the one ahead
pub record IsOrderOf (ss order : List PlainSent) : Type 0 where
  pub same : IsPermutation ss order
  pub sorted : IsSortedBy stands_before order

-- `name=value`, or the value where the name is empty
abbrev pub pair_text : PlainCookie → List ℕ
pair_text c = if bytes_eq c.name [] then c.value else c.name ++ (codes "=" ++ c.value)

-- the pairs, with `; ` between them
abbrev pub joined : List PlainSent → List ℕ
joined [] = []
joined (s ∷ ss) =
    pair_text s.cookie ++ flat_map (λ t. codes "; " ++ pair_text t.cookie) ss

-- the text of the cookies at these places, empty where there is none
abbrev pub header : List PlainCookie → List ℕ → List PlainCookie → List ℕ → List ℕ
header own own_places part part_places = joined (ordered (sent own own_places part part_places))
