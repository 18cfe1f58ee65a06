-- Values of the URL Standard and of HTML, so that a wrong rule in the specs does not check.
use Rattle.std.proofs.Common.{◌≡◌, refl, true, false}
use Rattle.std.specs.Prelude.{ℕ, List, [], ◌∷◌, ◌++◌, codes, None, Result, Ok, Err}
use Rattle.url.proofs.OnLiterals.{url_on_literals}
use Rattle.origin_site.specs.Address.{address_of}
use Rattle.suffix_list.specs.Suffix.{Rule, registrable_domain}
use Rattle.origin_site.specs.Origin.{PlainOrigin, default_origin, origin_text}
use Rattle.origin_site.specs.Site.{PlainSite, same_plain_site, site_of_origin, site_of_text}
use Rattle.origin_site.specs.Site.{site_text, site_under}
use Rattle.origin_site.specs.declared.site.SiteFault.TheVariants.{NotSite}
use Rattle.origin_site.specs.declared.address.AddressFault.{AddressFault}
use Rattle.origin_site.specs.declared.address.AddressFault.TheVariants.{NotUrl, OtherScheme}
use Rattle.origin_site.specs.declared.address.AddressFault.TheVariants.{TrailingDot}

-- the whole text is kept, and the path is without query and fragment
whole_text : address_of (codes "https://x.www.ck/a?b#c") ≡ Ok (record {
  text = codes "https://x.www.ck/a?b#c";
  https = true;
  ip = false;
  host = codes "x.www.ck";
  port = 443;
  path = codes "/a";
})
unfolding url_on_literals
whole_text = refl

written_port : address_of (codes "HTTP://A.test:8080") ≡ Ok (record {
  text = codes "http://a.test:8080/";
  https = false;
  ip = false;
  host = codes "a.test";
  port = 8080;
  path = codes "/";
})
unfolding url_on_literals
written_port = refl

default_port : address_of (codes "http://a.test:80/") ≡ Ok (record {
  text = codes "http://a.test/";
  https = false;
  ip = false;
  host = codes "a.test";
  port = 80;
  path = codes "/";
})
unfolding url_on_literals
default_port = refl

-- an IPv4 address may be written with fewer parts and with a dot behind it
short_ipv4 : address_of (codes "http://1.2.3./") ≡ Ok (record {
  text = codes "http://1.2.0.3/";
  https = false;
  ip = true;
  host = codes "1.2.0.3";
  port = 80;
  path = codes "/";
})
unfolding url_on_literals
short_ipv4 = refl

ipv6 : address_of (codes "https://[::1]/") ≡ Ok (record {
  text = codes "https://[::1]/";
  https = true;
  ip = true;
  host = codes "[::1]";
  port = 443;
  path = codes "/";
})
unfolding url_on_literals
ipv6 = refl

-- two Chinese characters
abbrev lion : List ℕ
lion = 0xE9 ∷ 0xA3 ∷ 0x9F ∷ 0xE7 ∷ 0x8B ∷ 0xAE ∷ []

not_ascii : address_of (codes "https://a." ++ lion ++ codes ".test/") ≡ Ok (record {
  text = codes "https://a.xn--85x722f.test/";
  https = true;
  ip = false;
  host = codes "a.xn--85x722f.test";
  port = 443;
  path = codes "/";
})
unfolding url_on_literals
not_ascii = refl

no_host : address_of (codes "https://") ≡ Err NotUrl
unfolding url_on_literals
no_host = refl

other_scheme : address_of (codes "ftp://a.test./") ≡ Err OtherScheme
unfolding url_on_literals
other_scheme = refl

trailing_dot : address_of (codes "http://a.test./") ≡ Err TrailingDot
unfolding url_on_literals
trailing_dot = refl

-- an https origin with a port
abbrev at : List ℕ → PlainOrigin
at host = record { https = true; ip = false; host = host; port = 8443 }

text_of_origin : origin_text (at (codes "a.test")) ≡ codes "https://a.test:8443"
unfolding url_on_literals
text_of_origin = refl

-- a rule of these labels, without `!`
abbrev named : List (List ℕ) → Rule
named labels = record { is_exception = false; labels = labels }

-- `*.ck` and `!www.ck`
abbrev ck : List Rule
ck =
    named (codes "*" ∷ codes "ck" ∷ [])
    ∷ record { is_exception = true; labels = codes "www" ∷ codes "ck" ∷ [] } ∷ []

one_label : site_of_origin [] (at (codes "localhost")) ≡ record { https = true; host = codes "localhost" }
one_label = refl

two_labels : site_of_origin [] (at (codes "a.test")) ≡ record { https = true; host = codes "a.test" }
two_labels = refl

three_labels : site_of_origin [] (at (codes "x.a.test")) ≡ record { https = true; host = codes "a.test" }
three_labels = refl

empty_label : site_of_origin [] (at (codes "a..test")) ≡ record { https = true; host = codes ".test" }
empty_label = refl

-- the site of a text's address under rules, and the site of a text
abbrev site_at : List Rule → List ℕ → Result PlainSite AddressFault
site_at rules text = site_under rules (address_of text)

exception : site_at ck (codes "https://www.ck/") ≡ Ok (record { https = true; host = codes "www.ck" })
unfolding url_on_literals
exception = refl

below_exception : site_at ck (codes "https://x.www.ck/") ≡ Ok (record { https = true; host = codes "www.ck" })
unfolding url_on_literals
below_exception = refl

below_wildcard : site_at ck (codes "https://x.a.b.ck/") ≡ Ok (record { https = true; host = codes "a.b.ck" })
unfolding url_on_literals
below_wildcard = refl

-- a host without a registrable domain is its own domain
public_suffix : site_at ck (codes "https://b.ck/") ≡ Ok (record { https = true; host = codes "b.ck" })
unfolding url_on_literals
public_suffix = refl

no_registrable_domain : registrable_domain ck (codes "b.ck") ≡ None
no_registrable_domain = refl

-- the rule of the two characters and `.test`, and a host in which they stand
in_ascii : site_at (named (codes "xn--85x722f" ∷ codes "test" ∷ []) ∷ []) (codes "https://x.a." ++ lion ++ codes ".test/")
    ≡ Ok (record { https = true; host = codes "a.xn--85x722f.test" })
unfolding url_on_literals
in_ascii = refl

-- a rule of an address's last numbers does not divide it
ip_address : site_at (named (codes "7" ∷ []) ∷ []) (codes "https://192.0.2.7:8443/") ≡ Ok (record { https = true; host = codes "192.0.2.7" })
unfolding url_on_literals
ip_address = refl

site_text_read : site_of_text (codes "https://www.a.test") ≡ Ok (record { https = true; host = codes "www.a.test" })
unfolding url_on_literals
site_text_read = refl

site_with_path : site_of_text (codes "https://a.test/") ≡ Err NotSite
unfolding url_on_literals
site_with_path = refl

site_with_port : site_of_text (codes "https://a.test:443") ≡ Err NotSite
unfolding url_on_literals
site_with_port = refl

no_address : site_of_text (codes "a.test") ≡ Err NotSite
unfolding url_on_literals
no_address = refl

text_at_default : origin_text (default_origin false false (codes "a.test")) ≡ codes "http://a.test"
unfolding url_on_literals
text_at_default = refl

text_of_site : site_text (record { https = true; host = codes "a.test" }) ≡ codes "https://a.test"
text_of_site = refl

schemes_differ : same_plain_site (record { https = true; host = codes "a.test" }) (record { https = false; host = codes "a.test" }) ≡ false
schemes_differ = refl
