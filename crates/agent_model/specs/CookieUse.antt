-- A use of cookies: by a load, by a request of a document, or by a script; and in which cells.
-- Source: RFC 6265bis, "Same-site and cross-site requests" and "Non-HTTP APIs"; CHIPS,
-- "Partitioning model"; Storage Access API, "Cookies".
-- Our own choice: unpartitioned cookies are those of first parties and of granted access alone, so
-- that no one else consults a shared cell.
use Rattle.std.specs.Prelude.{Bool, ◌||◌, List, [], ◌∷◌, if◌then◌else◌}
use Rattle.suffix_list.specs.Suffix.{Rule}
use Rattle.origin_site.specs.Address.{PlainAddress}
use Rattle.origin_site.specs.Site.{PlainSite, site_of_address}
use Rattle.storage_key.specs.Context.{PlainContext}
use Rattle.cookie_jar.specs.Access.{PlainAccess}
use Rattle.cookie_jar.specs.Key.{PlainKey as PlainCell, OwnCell, PartitionCell}
use Rattle.agent_model.specs.CookieCells.{Domain}
use Rattle.agent_model.specs.PartitionedCells.{PartitionedKey}

-- a use of a URL's cookies: the top-level site, the context, what SameSite goes by, and whether
-- storage access is granted
pub record CookieUse : Type 0 where
  pub url : PlainAddress
  pub top : PlainSite
  pub context : PlainContext
  pub same_site : Bool
  pub top_load : Bool
  pub safe : Bool
  pub script : Bool
  pub granted : Bool

-- the same in the words of `cookie_jar`
abbrev pub access_of : CookieUse → PlainAccess
access_of how =
    record {
      https = how.url.https;
      host = how.url.host;
      ip = how.url.ip;
      path = how.url.path;
      first = how.context.first;
      same_site = how.same_site;
      top_load = how.top_load;
      safe = how.safe;
      script = how.script;
      granted = how.granted;
    }

-- ---- its cells

-- the domain of the URL, whose cookies are used
abbrev pub cookie_domain : List Rule → CookieUse → Domain
cookie_domain rules how = (site_of_address rules how.url).host

-- the partitioned cell: that of the domain, under the top-level site
abbrev pub key_of : List Rule → CookieUse → PartitionedKey
key_of rules how =
    record {
      top = how.top;
      bit = how.context.bit;
      domain = cookie_domain rules how;
    }

-- the name of the unpartitioned cell
abbrev pub own_cell : List Rule → CookieUse → PlainCell
own_cell rules how = OwnCell (cookie_domain rules how)

-- the name of the partitioned cell
abbrev pub partition_cell : List Rule → CookieUse → PlainCell
partition_cell rules how = PartitionCell how.top how.context.bit (cookie_domain rules how)

-- the unpartitioned cookies are used: the context is first party, or access is granted
abbrev pub uses_own : CookieUse → Bool
uses_own how = how.context.first || how.granted

-- the shared cells that it consults: that of the domain, where the unpartitioned cookies are used
abbrev pub consulted_by : List Rule → CookieUse → List Domain
consulted_by rules how = if uses_own how then cookie_domain rules how ∷ [] else []
