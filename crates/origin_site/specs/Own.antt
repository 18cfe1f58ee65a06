-- Hosts by their text alone, and which of them are their own domain under a list.
-- Source: URL Standard, "Host serializing" (an IPv6 address stands in brackets, an IPv4 address is
-- four decimal numbers with dots between them), "Host parsing" and its "ends-in-a-number checker",
-- by which no domain ends with a number; HTML, "Sites".
-- Our own choice: whether a host is an IP address is read off its text, so that what is stored can
-- be held against a list without the parser and without memory. The law `addresses_tell_their_kind`
-- says that it is what the parser says of every address.
use Rattle.std.specs.Prelude.{◌≡◌, ℕ, Bool, not, ◌&&◌, ◌||◌, ◌==◌, nat_le, List, slice_index}
use Rattle.std.specs.Prelude.{bytes_eq, Ok}
use Rattle.std.specs.List.{list_all}
use Rattle.std.specs.Str.{byte}
use Rattle.url.specs.Ascii.{left_bracket}
use Rattle.url.specs.Input.{is_empty}
use Rattle.suffix_list.specs.Suffix.{Rule, last_labels}
use Rattle.origin_site.specs.Address.{PlainAddress, address_of}
use Rattle.origin_site.specs.Domain.{host_domain}

-- a byte is a decimal digit
abbrev pub is_decimal_digit : ℕ → Bool
is_decimal_digit b = nat_le (byte "0") b && nat_le b (byte "9")

-- a label is a number: it has digits, and nothing else
abbrev pub is_decimal : List ℕ → Bool
is_decimal label = not (is_empty label) && list_all is_decimal_digit label

-- a host is the text of an IP address: it stands in brackets, or its last label is a number
abbrev pub is_ip_host : List ℕ → Bool
is_ip_host host = (slice_index host 0 == left_bracket) || is_decimal (last_labels 1 host)

-- the domain of a host under a list of rules, by the host's text
abbrev pub domain_under : List Rule → List ℕ → List ℕ
domain_under rules host = host_domain rules (is_ip_host host) host

-- a host is its own domain under a list of rules
abbrev pub is_own_host : List Rule → List ℕ → Bool
is_own_host rules host = bytes_eq (domain_under rules host) host

-- an address is one of an IP address exactly where its host's text says so
abbrev pub AddressesTellTheirKind : Type 0
AddressesTellTheirKind =
    (text : List ℕ) (address : PlainAddress) → address_of text ≡ Ok address
    → address.ip ≡ is_ip_host address.host
