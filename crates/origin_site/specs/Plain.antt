-- What contracts see of an address, an origin and a site: the bytes of the texts.
use Rattle.std.specs.Prelude.{string_bytes}
use Rattle.origin_site.specs.Address.{PlainAddress}
use Rattle.origin_site.specs.Origin.{PlainOrigin}
use Rattle.origin_site.specs.Site.{PlainSite}
use Rattle.origin_site.specs.declared.address.Address.{Address}
use Rattle.origin_site.specs.declared.origin.Origin.{Origin}
use Rattle.origin_site.specs.declared.site.Site.{Site}

-- an address
abbrev pub plain_address : Address → PlainAddress
plain_address a = record {
  text = string_bytes a.text;
  https = a.https;
  ip = a.ip;
  host = string_bytes a.host;
  port = a.port;
  path = string_bytes a.path;
}

-- an origin
abbrev pub plain_origin : Origin → PlainOrigin
plain_origin o =
    record { https = o.https; ip = o.ip; host = string_bytes o.host; port = o.port }

-- a site
abbrev pub plain_site : Site → PlainSite
plain_site s = record { https = s.https; host = string_bytes s.host }
