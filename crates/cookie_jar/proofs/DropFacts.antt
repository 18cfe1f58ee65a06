-- The table of drops row by row, which cookies go out, and what a replaced cookie hands on, worked out
-- by hand from RFC 6265bis and from the order of the rows.
use Rattle.std.proofs.Common.{◌≡◌, refl, List, [], ◌∷◌, true, false, Bool, Option, Some, None, ℕ}
use Rattle.std.specs.Prelude.{codes, pos, ℤ}
use Rattle.suffix_list.specs.Suffix.{Rule}
use Rattle.setcookie_parse.specs.SetCookie.{CookieText}
use Rattle.setcookie_parse.specs.declared.cookie.SameSite.{SameSite}
use Rattle.setcookie_parse.specs.declared.cookie.SameSite.TheVariants as site
use Rattle.partition_limits.specs.declared.tally.CellKind.TheVariants as kind
use Rattle.cookie_jar.specs.declared.cause.CookieDrop.{CookieDrop}
use Rattle.cookie_jar.specs.declared.cause.CookieDrop.TheVariants as why
use Rattle.cookie_jar.specs.Access.{PlainAccess}
use Rattle.cookie_jar.specs.Cookie.{PlainCookie}
use Rattle.cookie_jar.specs.Drops.{dropped, is_not_ascii}
use Rattle.cookie_jar.specs.NewCookie.{fresh, made, own_domain}
use Rattle.cookie_jar.specs.Sending.{select}
use Rattle.cookie_jar.specs.Steps.{stored}

-- `pub.test` and `*.wild.test`
abbrev list : List Rule
list = record { is_exception = false; labels = codes "pub" ∷ codes "test" ∷ [] }
    ∷ record { is_exception = false; labels = codes "*" ∷ codes "wild" ∷ codes "test" ∷ [] } ∷ []

-- the text `n=1`
abbrev plain : CookieText
plain =
    record {
      name = codes "n";
      value = codes "1";
      domain = None;
      path = None;
      has_path = false;
      secure = false;
      http_only = false;
      partitioned = false;
      same_site = site.Default;
      expiry = None;
    }

-- a request of a page of `https://x.a.pub.test/` for itself, and the same over http
abbrev here : PlainAccess
here =
    record {
      https = true;
      host = codes "x.a.pub.test";
      ip = false;
      path = codes "/";
      first = true;
      same_site = true;
      top_load = false;
      safe = true;
      script = false;
      granted = false;
    }

abbrev over_http : PlainAccess
over_http = record here { https = false }

abbrev script : PlainAccess
script = record here { script = true }

-- the first row that applies at the second 5 over no cookies, or over these
abbrev drops : CookieText → PlainAccess → Option CookieDrop
drops text access = dropped list text access (pos 5) []

abbrev drops_over : List PlainCookie → CookieText → PlainAccess → Option CookieDrop
drops_over cs text access = dropped list text access (pos 5) cs

kept : drops plain here ≡ None
kept = refl

-- ---- Domain

not_ascii : drops (record plain { domain = Some (195 ∷ 169 ∷ []) }) here ≡ Some why.NonAsciiDomain
not_ascii = refl

-- a byte is one of ASCII up to 7F
last_ascii : is_not_ascii 127 ≡ false
last_ascii = refl

first_past_ascii : drops (record plain { domain = Some (128 ∷ []) }) here ≡ Some why.NonAsciiDomain
first_past_ascii = refl

not_ascii_first : drops (record plain { domain = Some (195 ∷ 169 ∷ []); secure = true }) over_http ≡ Some why.NonAsciiDomain
not_ascii_first = refl

-- a public suffix comes before a domain that the host does not match
suffix_first : drops (record plain { domain = Some (codes "org") }) here ≡ Some why.PublicSuffix
suffix_first = refl

below_the_host : drops (record plain { domain = Some (codes "y.x.a.pub.test") }) here ≡ Some why.DomainMismatch
below_the_host = refl

above_the_host : drops (record plain { domain = Some (codes "a.pub.test") }) here ≡ None
above_the_host = refl

-- the host is below the Domain, which is no suffix, and is another registrable domain
other_domain : drops (record plain { domain = Some (codes "wild.test") }) (record here { host = codes "x.y.wild.test" }) ≡ Some why.DomainMismatch
other_domain = refl

-- the Domain in lower case, without which the cookie is host-only
lower_case : (made list (record plain { domain = Some (codes "A.Pub.test") }) here (pos 5)).domain ≡ codes "a.pub.test"
lower_case = refl

-- a public suffix counts as absent where it is the host, and is not taken for absent below it
suffix_at_the_host : own_domain list (record here { host = codes "pub.test" }) (Some (codes "pub.test")) ≡ None
suffix_at_the_host = refl

suffix_below : own_domain list here (Some (codes "pub.test")) ≡ Some (codes "pub.test")
suffix_below = refl

-- the host is an IP address, of which nothing is a public suffix: the Domain counts
abbrev at_ip : PlainAccess
at_ip = record here { host = codes "[::1]"; ip = true }

domain_of_an_address : (made list (record plain { domain = Some (codes "[::1]") }) at_ip (pos 5)).host_only ≡ false
domain_of_an_address = refl

-- without a Path the path is what stands before the last `/` of the URL's
path_of_the_url : (made list plain (record here { path = codes "/p/q" }) (pos 5)).path ≡ codes "/p"
path_of_the_url = refl

expiry_of_the_text : (made list (record plain { expiry = Some (pos 9) }) here (pos 5)).expiry ≡ Some (pos 9)
expiry_of_the_text = refl

mismatch_before_secure : drops (record plain { domain = Some (codes "y.x.a.pub.test"); secure = true }) over_http
    ≡ Some why.DomainMismatch
mismatch_before_secure = refl

-- ---- Secure and HttpOnly

secure_over_http : drops (record plain { secure = true }) over_http ≡ Some why.NotSecureUrl
secure_over_http = refl

secure_before_http_only : drops (record plain { secure = true; http_only = true }) (record over_http { script = true }) ≡ Some why.NotSecureUrl
secure_before_http_only = refl

http_only_from_script : drops (record plain { http_only = true }) script ≡ Some why.HttpOnlyFromScript
http_only_from_script = refl

http_only_from_http : drops (record plain { http_only = true }) here ≡ None
http_only_from_http = refl

-- ---- a Secure cookie is not hidden by one that is not

-- a Secure cookie of this name, domain and path, and when it expires
abbrev secure_one : (name domain path : List ℕ) → Option ℤ → PlainCookie
secure_one name domain path expiry = record (made list plain here (pos 1)) { name = name; domain = domain; path = path; secure = true; expiry = expiry }

abbrev same_one : PlainCookie
same_one = secure_one (codes "n") (codes "x.a.pub.test") (codes "/") None

overlaid : drops_over (same_one ∷ []) plain over_http ≡ Some why.OverlaysSecure
overlaid = refl

http_only_before_overlaid : drops_over (same_one ∷ []) (record plain { http_only = true }) (record over_http { script = true })
    ≡ Some why.HttpOnlyFromScript
http_only_before_overlaid = refl

-- one that is not Secure itself may be hidden
not_secure_itself : drops_over (record same_one { secure = false } ∷ []) plain over_http ≡ None
not_secure_itself = refl

over_http_alone : drops plain over_http ≡ None
over_http_alone = refl

over_https_it_may : drops_over (same_one ∷ []) plain here ≡ None
over_https_it_may = refl

other_name : drops_over (secure_one (codes "m") (codes "x.a.pub.test") (codes "/") None ∷ []) plain over_http ≡ None
other_name = refl

-- one of several is enough
other_and_same : drops_over (secure_one (codes "m") (codes "x.a.pub.test") (codes "/") None ∷ same_one ∷ []) plain over_http
    ≡ Some why.OverlaysSecure
other_and_same = refl

expired_one : drops_over (secure_one (codes "n") (codes "x.a.pub.test") (codes "/") (Some (pos 5)) ∷ []) plain over_http ≡ None
expired_one = refl

live_one : drops_over (secure_one (codes "n") (codes "x.a.pub.test") (codes "/") (Some (pos 6)) ∷ []) plain over_http ≡ Some why.OverlaysSecure
live_one = refl

-- each of the two domains may match the other
of_the_domain_above : drops_over (secure_one (codes "n") (codes "a.pub.test") (codes "/") None ∷ []) plain over_http ≡ Some why.OverlaysSecure
of_the_domain_above = refl

of_the_host_below : drops_over (same_one ∷ []) (record plain { domain = Some (codes "a.pub.test") }) over_http ≡ Some why.OverlaysSecure
of_the_host_below = refl

-- the new path has to match the old one, and not the other way round
below_its_path : drops_over (same_one ∷ []) (record plain { path = Some (codes "/p") }) over_http ≡ Some why.OverlaysSecure
below_its_path = refl

above_its_path : drops_over (secure_one (codes "n") (codes "x.a.pub.test") (codes "/p") None ∷ []) plain over_http ≡ None
above_its_path = refl

-- ---- SameSite

abbrev cross_site : PlainAccess
cross_site = record here { same_site = false }

default_cross_site : drops plain cross_site ≡ Some why.SameSite
default_cross_site = refl

strict_cross_site : drops (record plain { same_site = site.Strict }) cross_site ≡ Some why.SameSite
strict_cross_site = refl

none_cross_site : drops (record plain { same_site = site.NoneSent; secure = true }) cross_site ≡ None
none_cross_site = refl

-- a load of a top document may store, whoever starts it
top_load : drops (record plain { same_site = site.Lax }) (record cross_site { top_load = true; safe = false }) ≡ None
top_load = refl

third_party_script : drops plain (record script { first = false; granted = true }) ≡ Some why.SameSite
third_party_script = refl

overlaid_before_same_site : drops_over (same_one ∷ []) plain (record over_http { same_site = false }) ≡ Some why.OverlaysSecure
overlaid_before_same_site = refl

none_needs_secure : drops (record plain { same_site = site.NoneSent }) here ≡ Some why.NoneNeedsSecure
none_needs_secure = refl

-- ---- prefixes of names

secure_prefix : drops (record plain { name = codes "__secure-n" }) here ≡ Some why.SecurePrefix
secure_prefix = refl

secure_prefix_met : drops (record plain { name = codes "__Secure-n"; secure = true }) here ≡ None
secure_prefix_met = refl

none_before_prefix : drops (record plain { name = codes "__Secure-n"; same_site = site.NoneSent }) here ≡ Some why.NoneNeedsSecure
none_before_prefix = refl

abbrev for_host : CookieText
for_host = record plain { name = codes "__HOST-n"; secure = true; path = Some (codes "/"); has_path = true }

host_prefix_met : drops for_host here ≡ None
host_prefix_met = refl

host_not_secure : drops (record for_host { secure = false }) here ≡ Some why.HostPrefix
host_not_secure = refl

host_with_domain : drops (record for_host { domain = Some (codes "x.a.pub.test") }) here ≡ Some why.HostPrefix
host_with_domain = refl

host_without_path : drops (record for_host { path = None; has_path = false }) here ≡ Some why.HostPrefix
host_without_path = refl

host_other_path : drops (record for_host { path = Some (codes "/p") }) here ≡ Some why.HostPrefix
host_other_path = refl

-- a prefix ends with its dash, and is whole
other_host_name : drops (record plain { name = codes "__Host_n" }) here ≡ None
other_host_name = refl

other_secure_name : drops (record plain { name = codes "__Secure_n" }) here ≡ None
other_secure_name = refl

shorter_name : drops (record plain { name = codes "__Host" }) here ≡ None
shorter_name = refl

-- the value counts where there is no name
named_value : drops (record plain { value = codes "__Host-n" }) here ≡ None
named_value = refl

nameless_secure : drops (record plain { name = []; value = codes "__SECURE-n" }) here ≡ Some why.NamelessPrefix
nameless_secure = refl

nameless_host : drops (record plain { name = []; value = codes "__host-n" }) here ≡ Some why.NamelessPrefix
nameless_host = refl

nameless_other : drops (record plain { name = []; value = codes "_Host-n" }) here ≡ None
nameless_other = refl

-- ---- a script does not overwrite an HttpOnly cookie

abbrev hidden : PlainCookie
hidden = record (made list plain here (pos 1)) { http_only = true }

overwrites : drops_over (hidden ∷ []) plain script ≡ Some why.OverwritesHttpOnly
overwrites = refl

nameless_before_overwrites : drops_over (record hidden { name = [] }
    ∷ []) (record plain { name = []; value = codes "__Host-n" }) script
    ≡ Some why.NamelessPrefix
nameless_before_overwrites = refl

script_alone : drops plain script ≡ None
script_alone = refl

-- a script may overwrite a cookie that is not HttpOnly
shown_is_overwritten : drops_over (made list plain here (pos 1) ∷ []) plain script ≡ None
shown_is_overwritten = refl

request_overwrites : drops_over (hidden ∷ []) plain here ≡ None
request_overwrites = refl

-- one of the same name and another path or domain is another cookie, and an expired one is none
other_path : drops_over (record hidden { path = codes "/p" } ∷ []) plain script ≡ None
other_path = refl

other_cookie : drops_over (record hidden { domain = codes "a.pub.test"; host_only = false } ∷ []) plain script ≡ None
other_cookie = refl

expired_hidden : drops_over (record hidden { expiry = Some (pos 5) } ∷ []) plain script ≡ None
expired_hidden = refl

-- ---- Partitioned, and third parties

partitioned_needs_secure : drops (record plain { partitioned = true }) here ≡ Some why.PartitionedNeedsSecure
partitioned_needs_secure = refl

overwrites_before_partitioned : drops_over (hidden ∷ []) (record plain { partitioned = true }) script ≡ Some why.OverwritesHttpOnly
overwrites_before_partitioned = refl

third_party : drops (record plain { same_site = site.NoneSent; secure = true }) (record cross_site { first = false }) ≡ Some why.ThirdParty
third_party = refl

-- a third party has its partition
partition_of_a_third_party :
    drops (record plain { same_site = site.NoneSent; secure = true; partitioned = true }) (record cross_site { first = false })
    ≡ None
partition_of_a_third_party = refl

granted_third_party : drops (record plain { same_site = site.NoneSent; secure = true }) (record cross_site { first = false; granted = true }) ≡ None
granted_third_party = refl

prefix_before_third_party : drops (record plain { name = codes "__Host-n"; same_site = site.NoneSent; secure = true }) (record cross_site { first = false }) ≡ Some why.HostPrefix
prefix_before_third_party = refl

-- ---- which cookies go out

-- the cookie `n=1` of this SameSite
abbrev of_kind : SameSite → PlainCookie
of_kind same_site = record (made list plain here (pos 1)) { same_site = same_site }

abbrev all_kinds : List PlainCookie
all_kinds = of_kind site.Default ∷ of_kind site.NoneSent ∷ of_kind site.Lax ∷ of_kind site.Strict ∷ []

to_own_site : select kind.Own here (pos 5) all_kinds ≡ 0 ∷ 1 ∷ 2 ∷ 3 ∷ []
to_own_site = refl

-- across sites into a load of a top document by a safe method, and into no other request
to_top_load : select kind.Own (record cross_site { top_load = true }) (pos 5) all_kinds ≡ 0 ∷ 1 ∷ 2 ∷ []
to_top_load = refl

to_other_load : select kind.Own cross_site (pos 5) all_kinds ≡ 1 ∷ []
to_other_load = refl

-- by granted access `None` alone, whatever the request is
by_grant : select kind.Own (record here { first = false; granted = true }) (pos 5) all_kinds ≡ 1 ∷ []
by_grant = refl

without_grant : select kind.Own (record here { first = false }) (pos 5) all_kinds ≡ []
without_grant = refl

of_partition : select kind.Partition (record here { first = false }) (pos 5) all_kinds ≡ 0 ∷ 1 ∷ 2 ∷ 3 ∷ []
of_partition = refl

-- ---- what a replaced cookie hands on

-- its second of creation and its place
hands_on : fresh list (record plain { value = codes "2" }) here (pos 5) (of_kind site.Default ∷ []) ≡ record (of_kind site.Default) { value = codes "2"; last = pos 5 }
hands_on = refl

-- the second of creation, and not that of the last use
hands_on_creation : (fresh list plain here (pos 5) (record (of_kind site.Default) { last = pos 3 } ∷ [])).creation ≡ pos 1
hands_on_creation = refl

in_its_place : stored kind.Own (pos 5) (fresh list plain here (pos 5) (of_kind site.Default ∷ [])) (of_kind site.Default ∷ record (of_kind site.Default) { name = codes "m" } ∷ [])
    ≡ record (of_kind site.Default) { last = pos 5 } ∷ record (of_kind site.Default) { name = codes "m" } ∷ []
in_its_place = refl

-- an expired one hands on its place alone
expired_hands_none : (fresh list plain here (pos 5) (record (of_kind site.Default) { expiry = Some (pos 5) } ∷ [])).creation ≡ pos 5
expired_hands_none = refl
