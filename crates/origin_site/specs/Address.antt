-- An address: what its text stands for, over the URL Standard's parser as `url` states it.
-- Source: URL Standard, "URL parsing", "URL serializing", "Host serializing".
-- Our own choice: an address is an http or https URL whose host does not end with a dot, and whose
-- text has at most 8,192 bytes. A port that is not written is the scheme's default.
use Rattle.std.specs.Prelude.{ℕ, Bool, not, ◌||◌, ◌==◌, ◌-◌, nat_lt, List, [], length, slice_index}
use Rattle.std.specs.Prelude.{codes, bytes_eq, is_some, unwrap_or, option_map, option_and_then}
use Rattle.std.specs.Prelude.{None, Result, Ok, Err, if◌then◌else◌}
use Rattle.std.specs.Option.{option_or}
use Rattle.std.specs.Str.{byte}
use Rattle.url.specs.Scheme.{default_port}
use Rattle.url.specs.Host.{host_text, domain_of}
use Rattle.url.specs.Parts.{Parts, serialize, nonempty_host}
use Rattle.url.specs.Parser.{parse_url}
use Rattle.origin_site.specs.declared.address.AddressFault.{AddressFault}
use Rattle.origin_site.specs.declared.address.AddressFault.TheVariants.{NotUrl, OtherScheme}
use Rattle.origin_site.specs.declared.address.AddressFault.TheVariants.{TrailingDot, TooLong}

-- an address, as contracts see it: texts are their bytes
pub record PlainAddress : Type 0 where
  pub text : List ℕ
  pub https : Bool
  pub ip : Bool
  pub host : List ℕ
  pub port : ℕ
  pub path : List ℕ

-- the most bytes of an address's text
abbrev pub address_limit : ℕ
address_limit = 8192

-- the scheme is http or https
abbrev pub is_web : Parts → Bool
is_web url = bytes_eq url.scheme (codes "https") || bytes_eq url.scheme (codes "http")

-- the host's text, empty where there is no host
abbrev pub host_of : Parts → List ℕ
host_of url = unwrap_or (option_map host_text (nonempty_host url)) []

-- the host is an IP address, and no domain
abbrev pub is_ip : Parts → Bool
is_ip url = not (is_some (option_and_then domain_of (nonempty_host url)))

-- the port that is written, or the scheme's default
abbrev pub port_of : Parts → ℕ
port_of url = unwrap_or (option_or url.port (default_port url.scheme)) 0

-- the text's last byte is a dot
abbrev pub ends_with_dot : List ℕ → Bool
ends_with_dot host = slice_index host (length host - 1) == byte "."

-- the address that a web URL is, with its whole text
abbrev pub address_parts : Parts → PlainAddress
address_parts url = record {
  text = serialize url;
  https = bytes_eq url.scheme (codes "https");
  ip = is_ip url;
  host = host_of url;
  port = port_of url;
  path = url.path;
}

-- the address, or the first fault that applies
abbrev pub address_of_parts : Parts → Result PlainAddress AddressFault
address_of_parts url =
    if not (is_web url) then Err OtherScheme
    else (if ends_with_dot (host_of url) then Err TrailingDot
    else (if nat_lt address_limit (length (serialize url)) then Err TooLong
    else Ok (address_parts url)))

-- the same, of what the parser answered
abbrev pub address_by : {E : Type 0} → Result Parts E → Result PlainAddress AddressFault
address_by (Ok url) = address_of_parts url
address_by (Err why) = Err NotUrl

-- what a text stands for as an address
abbrev pub address_of : List ℕ → Result PlainAddress AddressFault
address_of text = address_by (parse_url None text)
