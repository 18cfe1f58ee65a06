-- The site of an origin: its scheme and the domain of its host. Ports do not count.
-- Source: HTML, "Sites" (site, same site, and how a site is serialized).
-- Only origins that have a host are defined here. HTML gives an opaque origin as its own site.
-- Our own choice: a text is a site's where it is `scheme://host` of the address that it is.
use Rattle.std.specs.Prelude.{◌≡◌, ℕ, Bool, ◌&&◌, List, ◌++◌, codes, bytes_eq, Result, Ok, Err, if◌then◌else◌}
use Rattle.std.proofs.Math.Bool.{beq}
use Rattle.suffix_list.specs.Suffix.{Rule}
use Rattle.origin_site.specs.declared.address.AddressFault.{AddressFault}
use Rattle.origin_site.specs.declared.site.SiteFault.{SiteFault}
use Rattle.origin_site.specs.declared.site.SiteFault.TheVariants.{NotSite}
use Rattle.origin_site.specs.Address.{PlainAddress, address_of}
use Rattle.origin_site.specs.Origin.{PlainOrigin, origin_of_address, scheme_text}
use Rattle.origin_site.specs.Domain.{host_domain}

-- a scheme and a domain, as contracts see them
pub record PlainSite : Type 0 where
  pub https : Bool
  pub host : List ℕ

-- the site of an origin under a list of rules
abbrev pub site_of_origin : List Rule → PlainOrigin → PlainSite
site_of_origin rules origin =
    record { https = origin.https; host = host_domain rules origin.ip origin.host }

-- two sites are the same: scheme and domain are equal
abbrev pub same_plain_site : PlainSite → PlainSite → Bool
same_plain_site a b = beq a.https b.https && bytes_eq a.host b.host

-- `scheme://domain`
abbrev pub site_text : PlainSite → List ℕ
site_text site = scheme_text site.https ++ (codes "://" ++ site.host)

-- the scheme and the whole host of an address
abbrev pub whole_host : PlainAddress → PlainSite
whole_host address = record { https = address.https; host = address.host }

-- the site of a text, from the address that the text is
abbrev pub site_by : List ℕ → Result PlainAddress AddressFault → Result PlainSite SiteFault
site_by text (Ok address) =
    if bytes_eq (site_text (whole_host address)) text then Ok (whole_host address) else Err NotSite
site_by text (Err why) = Err NotSite

-- the site that a text is, under no list: its host may be any
abbrev pub site_of_text : List ℕ → Result PlainSite SiteFault
site_of_text text = site_by text (address_of text)

-- the site's text is the text of this site
abbrev pub SiteReadsBack : PlainSite → Type 0
SiteReadsBack site = site_of_text (site_text site) ≡ Ok site

-- the site of an address under a list of rules: that of its origin
abbrev pub site_of_address : List Rule → PlainAddress → PlainSite
site_of_address rules address = site_of_origin rules (origin_of_address address)

-- the same, of what a text was read as
abbrev pub site_under : {E : Type 0} → List Rule → Result PlainAddress E → Result PlainSite E
site_under rules (Ok address) = Ok (site_of_address rules address)
site_under rules (Err why) = Err why

-- the site is one under a list of rules: its text is an address, whose site is this site
abbrev pub IsOwnSite : List Rule → PlainSite → Type 0
IsOwnSite rules site = site_under rules (address_of (site_text site)) ≡ Ok site
