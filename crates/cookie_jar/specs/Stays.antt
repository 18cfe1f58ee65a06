-- Which cells of cookies a list of rules has.
-- Source: RFC 6265bis, "Storage Model" (a cookie's domain is no public suffix, but for the host
-- that set it); HTML, "Sites"; CHIPS (Cookies Having Independent Partitioned State), "Partitioning
-- model".
-- Our own choice: a cell stays under another list where its domain is its own domain there, each of
-- its cookies has a host of this domain, and the top-level site of a partition is a site. It stays
-- or goes whole.
use Rattle.std.specs.Prelude.{ℕ, Bool, ◌&&◌, List, bytes_eq}
use Rattle.std.specs.List.{list_all}
use Rattle.suffix_list.specs.Suffix.{Rule}
use Rattle.origin_site.specs.Own.{domain_under, is_own_host}
use Rattle.cookie_jar.specs.Cookie.{PlainCookie}
use Rattle.cookie_jar.specs.Key.{PlainKey, OwnCell, PartitionCell}

-- a cell's domain
abbrev pub domain_of_cell : PlainKey → List ℕ
domain_of_cell (OwnCell domain) = domain
domain_of_cell (PartitionCell top bit domain) = domain

-- the name of a cell is one under a list of rules
abbrev pub name_stays : List Rule → PlainKey → Bool
name_stays rules (OwnCell domain) = is_own_host rules domain
name_stays rules (PartitionCell top bit domain) =
    is_own_host rules top.host && is_own_host rules domain

-- a cookie's domain is a host of a cell's domain
abbrev pub cookie_stays : List Rule → List ℕ → PlainCookie → Bool
cookie_stays rules domain c = bytes_eq (domain_under rules c.domain) domain

-- a cell with these cookies is one under a list of rules
abbrev pub cell_stays : List Rule → PlainKey → List PlainCookie → Bool
cell_stays rules cell cookies =
    name_stays rules cell && list_all (cookie_stays rules (domain_of_cell cell)) cookies
