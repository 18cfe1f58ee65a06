-- Texts that name an origin or a host, which no suffix list is asked for. A text that names a site
-- is read by `site_of_text` of `origin_site`.
-- Source: HTML, "Serialization of an origin" and "Sites" (how a site is serialized); URL Standard,
-- "URL parsing", by which an address is read from a text.
-- Our own choice: a name has one text, which is the one that the standard writes. A host is that of
-- an http or an https address, where it is what the standard writes for the host.
use Rattle.std.specs.Prelude.{ℕ, Bool, true, false, ◌&&◌, ◌||◌, nat_le, List, length, bytes_eq}
use Rattle.std.specs.Prelude.{Option, Some, None, Result, Ok, Err, is_ok, if◌then◌else◌}
use Rattle.origin_site.specs.Address.{PlainAddress, address_of}
use Rattle.origin_site.specs.Origin.{PlainOrigin, origin_of_address, origin_text}
use Rattle.origin_site.specs.Site.{site_of_text, site_text}

-- the most bytes of an origin's text
abbrev pub origin_limit : ℕ
origin_limit = 8192

-- the origin of an address, where a text is the origin's
abbrev pub own_origin : List ℕ → PlainAddress → Option PlainOrigin
own_origin text address =
    if bytes_eq (origin_text (origin_of_address address)) text && nat_le (length text) origin_limit
    then Some (origin_of_address address) else None

-- the same, of what the text was read as
abbrev pub origin_by : {E : Type 0} → List ℕ → Result PlainAddress E → Option PlainOrigin
origin_by text (Ok address) = own_origin text address
origin_by text (Err why) = None

-- the origin that a text is: of the address that it is, where the text is that origin's
abbrev pub origin_of_text : List ℕ → Option PlainOrigin
origin_of_text text = origin_by text (address_of text)

-- a text is a host of this scheme: `scheme://host` is the text of a site
abbrev pub is_host_by : Bool → List ℕ → Bool
is_host_by https host = is_ok (site_of_text (site_text (record { https = https; host = host })))

-- a text is the host of an http or an https address
abbrev pub is_host : List ℕ → Bool
is_host host = is_host_by true host || is_host_by false host
