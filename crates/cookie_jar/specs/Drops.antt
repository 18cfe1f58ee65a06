-- Why the cookie of a text is dropped: the first row of a table that applies.
-- Source: RFC 6265bis, "Storage Model" and "Cookie Name Prefixes"; the draft "Cookies Having
-- Independent Partitioned State" (CHIPS), "Partitioned".
-- Our own choice: the order of the rows; that the domains of host and Domain are equal; the row on
-- a cookie without a name; prefixes without regard to case whatever the edition of the draft.
use Rattle.std.specs.Prelude.{ℕ, ℤ, Bool, true, false, ◌&&◌, ◌||◌, not, nat_lt, nat_le, List, []}
use Rattle.std.specs.Prelude.{◌∷◌, length, take, codes, bytes_eq, Option, option_map}
use Rattle.std.specs.Prelude.{if◌then◌else◌}
use Rattle.std.specs.List.{find, list_any}
use Rattle.case_tables.specs.Rows.{same_in_any_case}
use Rattle.suffix_list.specs.Suffix.{Rule}
use Rattle.setcookie_parse.specs.declared.cookie.SameSite.{SameSite}
use Rattle.setcookie_parse.specs.declared.cookie.SameSite.TheVariants as site
use Rattle.setcookie_parse.specs.SetCookie.{CookieText}
use Rattle.origin_site.specs.Domain.{host_domain}
use Rattle.cookie_jar.specs.declared.cause.CookieDrop.{CookieDrop}
use Rattle.cookie_jar.specs.declared.cause.CookieDrop.TheVariants as why
use Rattle.cookie_jar.specs.Access.{PlainAccess, destination, is_nowhere}
use Rattle.cookie_jar.specs.Cookie.{PlainCookie, same}
use Rattle.cookie_jar.specs.Lifetime.{is_expired}
use Rattle.cookie_match.specs.Matching.{domain_matches, path_matches}
use Rattle.cookie_jar.specs.NewCookie.{has_such, is_suffix_to, lower_domain}
use Rattle.cookie_jar.specs.NewCookie.{made_with, own_domain}

-- SameSite is None
abbrev pub is_none : SameSite → Bool
is_none site.Default = false
is_none site.NoneSent = true
is_none site.Lax = false
is_none site.Strict = false

-- a byte over 7F
abbrev pub is_not_ascii : ℕ → Bool
is_not_ascii b = nat_lt 127 b

-- a text begins with a prefix, without regard to ASCII case
abbrev pub has_prefix : List ℕ → List ℕ → Bool
has_prefix prefix text =
    nat_le (length prefix) (length text)
    && same_in_any_case (take (length prefix) text) prefix

-- the prefix of cookies that are Secure
abbrev pub secure_prefix : List ℕ
secure_prefix = codes "__Secure-"

-- the prefix of cookies of one host
abbrev pub host_prefix : List ℕ
host_prefix = codes "__Host-"

-- a Domain that is a public suffix and not the host
abbrev pub is_other_suffix : List Rule → PlainAccess → List ℕ → Bool
is_other_suffix rules access d = is_suffix_to rules access d && not (bytes_eq d access.host)

-- a Domain that the host does not domain-match, or whose own domain is another than the host's
abbrev pub is_mismatch : List Rule → PlainAccess → List ℕ → Bool
is_mismatch rules access d =
    not (domain_matches access.ip access.host d)
    || not (bytes_eq (host_domain rules access.ip d) (host_domain rules access.ip access.host))

-- a cookie that a new one without Secure would hide
abbrev pub is_overlaid : PlainAccess → PlainCookie → PlainCookie → Bool
is_overlaid access new c =
    c.secure && (bytes_eq c.name new.name
    && ((domain_matches access.ip c.domain new.domain
    || domain_matches access.ip new.domain c.domain)
    && path_matches new.path c.path))

-- a context that sets cookies with SameSite None alone
abbrev pub is_cross_site : PlainAccess → Bool
is_cross_site access =
    if access.script then not access.first else not access.same_site && not access.top_load

-- what the prefix for one host asks
abbrev pub is_for_host : CookieText → PlainCookie → Bool
is_for_host text new =
    text.secure && (new.host_only && (text.has_path && bytes_eq new.path (codes "/")))

-- a cookie that is not expired and passes a test
abbrev pub is_live_such : ℤ → (PlainCookie → Bool) → PlainCookie → Bool
is_live_such now test c = not (is_expired now c) && test c

-- whether there is such a cookie
abbrev pub has_live : ℤ → (PlainCookie → Bool) → List PlainCookie → Bool
has_live now test cs = list_any (is_live_such now test) cs

-- the same cookie as a new one, and HttpOnly
abbrev pub is_same_http_only : PlainCookie → PlainCookie → Bool
is_same_http_only new c = same new c && c.http_only

-- no name, and a value that begins with a prefix of names
abbrev pub is_nameless_prefix : CookieText → Bool
is_nameless_prefix text =
    bytes_eq text.name []
    && (has_prefix secure_prefix text.value || has_prefix host_prefix text.value)

-- an unpartitioned cookie where there is no cell for it
abbrev pub is_third_party : CookieText → PlainAccess → Bool
is_third_party text access = is_nowhere (destination text access)

-- the rows after the first, by the Domain in lower case, over the cookies of the destination, which
-- has none if it is nowhere
abbrev pub later_rows : List Rule → Option (List ℕ) → CookieText → PlainAccess → ℤ
    → List PlainCookie → List (Bool × CookieDrop)
later_rows rules lower text access now cs =
    let own = own_domain rules access lower in
    let new = made_with own text access now in
    (has_such (is_other_suffix rules access) lower, why.PublicSuffix)
    ∷ (has_such (is_mismatch rules access) own, why.DomainMismatch)
    ∷ (text.secure && not access.https, why.NotSecureUrl)
    ∷ (text.http_only && access.script, why.HttpOnlyFromScript)
    ∷ (
      not text.secure && (not access.https && has_live now (is_overlaid access new) cs),
      why.OverlaysSecure,
    )
    ∷ (not (is_none text.same_site) && is_cross_site access, why.SameSite)
    ∷ (is_none text.same_site && not text.secure, why.NoneNeedsSecure)
    ∷ (has_prefix secure_prefix text.name && not text.secure, why.SecurePrefix)
    ∷ (has_prefix host_prefix text.name && not (is_for_host text new), why.HostPrefix)
    ∷ (is_nameless_prefix text, why.NamelessPrefix)
    ∷ (access.script && has_live now (is_same_http_only new) cs, why.OverwritesHttpOnly)
    ∷ (text.partitioned && not text.secure, why.PartitionedNeedsSecure)
    ∷ (is_third_party text access, why.ThirdParty)
    ∷ []

-- whether the first row applies
abbrev pub is_not_ascii_domain : CookieText → Bool
is_not_ascii_domain text = has_such (list_any is_not_ascii) text.domain

-- the table of drops
abbrev pub drop_rows : List Rule → CookieText → PlainAccess → ℤ → List PlainCookie
    → List (Bool × CookieDrop)
drop_rows rules text access now cs =
    (is_not_ascii_domain text, why.NonAsciiDomain)
    ∷ later_rows rules (lower_domain text) text access now cs

-- the answer of the first row that applies
abbrev pub first_drop : List (Bool × CookieDrop) → Option CookieDrop
first_drop rows = option_map (λ row. row.1) (find (λ row. row.0) rows)

-- why the cookie of a text is dropped, or none where it is kept
abbrev pub dropped : List Rule → CookieText → PlainAccess → ℤ → List PlainCookie
    → Option CookieDrop
dropped rules text access now cs = first_drop (drop_rows rules text access now cs)
