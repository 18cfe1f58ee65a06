-- An origin: scheme, host and port.
-- Source: HTML, "Origin" (tuple origins and same origin) and "Serialization of an origin".
use Rattle.std.specs.Prelude.{◌≡◌, ℕ, Bool, ◌&&◌, ◌==◌, List, ◌++◌, codes, decimal, bytes_eq, Ok}
use Rattle.std.specs.Prelude.{if◌then◌else◌}
use Rattle.std.proofs.Math.Bool.{beq}
use Rattle.origin_site.specs.Address.{PlainAddress, address_of}
use Rattle.origin_site.specs.Domain.{IsLabelSuffix}

-- an origin, as contracts see it; whether the host is an IP address follows from the host
pub record PlainOrigin : Type 0 where
  pub https : Bool
  pub ip : Bool
  pub host : List ℕ
  pub port : ℕ

-- the origin of an address
abbrev pub origin_of_address : PlainAddress → PlainOrigin
origin_of_address address =
    record { https = address.https; ip = address.ip; host = address.host; port = address.port }

-- HTML's rule for two tuple origins: scheme, host and port are equal
abbrev pub IsSameOrigin : PlainOrigin → PlainOrigin → Type 0
IsSameOrigin a b = (a.https ≡ b.https) × (a.host ≡ b.host) × (a.port ≡ b.port)

-- the same as a test, which looks at `ip` too. That makes no difference where both texts read
-- back, since equal hosts are of one kind there.
abbrev pub same_plain_origin : PlainOrigin → PlainOrigin → Bool
same_plain_origin a b =
    beq a.https b.https && (beq a.ip b.ip && (bytes_eq a.host b.host && (a.port == b.port)))

-- `https` or `http`
abbrev pub scheme_text : Bool → List ℕ
scheme_text https = if https then codes "https" else codes "http"

-- the scheme's default port
abbrev pub default_port_of : Bool → ℕ
default_port_of https = if https then 443 else 80

-- the port is the scheme's default
abbrev pub is_default : Bool → ℕ → Bool
is_default https port = port == default_port_of https

-- `scheme://host`, with `:port` where it is not the default
abbrev pub origin_text : PlainOrigin → List ℕ
origin_text origin =
    scheme_text origin.https ++ (codes "://"
    ++ (if is_default origin.https origin.port then origin.host
    else origin.host ++ (codes ":" ++ decimal origin.port)))

-- the address of the origin's root: its text and path end with `/`
abbrev pub root_address : PlainOrigin → PlainAddress
root_address origin = record {
  text = origin_text origin ++ codes "/";
  https = origin.https;
  ip = origin.ip;
  host = origin.host;
  port = origin.port;
  path = codes "/";
}

-- the origin's text is the text of an address, which is its root
abbrev pub ReadsBack : PlainOrigin → Type 0
ReadsBack origin = address_of (origin_text origin) ≡ Ok (root_address origin)

-- the origin of a host at the scheme's default port, whose text is that of a site
abbrev pub default_origin : Bool → Bool → List ℕ → PlainOrigin
default_origin https ip host =
    record { https = https; ip = ip; host = host; port = default_port_of https }

-- each label suffix of the host is a host of the same kind: with the scheme, its text reads back
abbrev pub SuffixesReadBack : Bool → Bool → List ℕ → Type 0
SuffixesReadBack https ip host =
    (suffix : List ℕ) → IsLabelSuffix ip host suffix → ReadsBack (default_origin https ip suffix)
