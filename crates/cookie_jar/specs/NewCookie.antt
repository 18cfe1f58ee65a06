-- The cookie that a Set-Cookie text gives.
-- Source: RFC 6265bis, "Storage Model" (domain, host-only-flag, path, creation and last access, and
-- the creation time that a replaced cookie hands on).
-- Our own choice: times are whole seconds; an expired old cookie hands no creation time on, since
-- the draft counts it as gone.
use Rattle.std.specs.Prelude.{ℕ, ℤ, Bool, false, not, ◌&&◌, List, bytes_eq, Option, Some, None}
use Rattle.std.specs.Prelude.{option_map, is_some, unwrap_or, if◌then◌else◌}
use Rattle.std.specs.List.{find}
use Rattle.std.proofs.lemmas.Map.Entries.{option_filter}
use Rattle.std.specs.Str.{str_to_ascii_lowercase}
use Rattle.suffix_list.specs.Suffix.{Rule, is_public_suffix}
use Rattle.setcookie_parse.specs.SetCookie.{CookieText}
use Rattle.cookie_jar.specs.declared.plan.StoredKind.{StoredKind}
use Rattle.cookie_jar.specs.declared.plan.StoredKind.TheVariants.{Added, Replaced, Removed}
use Rattle.cookie_jar.specs.Access.{PlainAccess}
use Rattle.cookie_jar.specs.Cookie.{PlainCookie, same}
use Rattle.cookie_jar.specs.Lifetime.{is_expired}
use Rattle.cookie_match.specs.Matching.{default_path}

-- whether an attribute's value is there and passes a test
abbrev pub has_such : (List ℕ → Bool) → Option (List ℕ) → Bool
has_such test None = false
has_such test (Some value) = test value

-- the Domain attribute in lower case
abbrev pub lower_domain : CookieText → Option (List ℕ)
lower_domain text = option_map str_to_ascii_lowercase text.domain

-- whether a domain is a public suffix to a host; one of an IP address is none
abbrev pub is_suffix_to : List Rule → PlainAccess → List ℕ → Bool
is_suffix_to rules access domain = not access.ip && is_public_suffix rules domain

-- whether a domain is a public suffix and the host itself
abbrev pub is_host_suffix : List Rule → PlainAccess → List ℕ → Bool
is_host_suffix rules access domain =
    is_suffix_to rules access domain && bytes_eq domain access.host

-- the Domain that counts, of one in lower case: a public suffix that is the host itself counts as
-- absent
abbrev pub own_domain : List Rule → PlainAccess → Option (List ℕ) → Option (List ℕ)
own_domain rules access domain =
    option_filter (λ d. not (is_host_suffix rules access d)) domain

-- the cookie that a text gives with a Domain that counts
abbrev pub made_with : Option (List ℕ) → CookieText → PlainAccess → ℤ → PlainCookie
made_with domain text access now =
    record {
      name = text.name;
      value = text.value;
      domain = unwrap_or domain access.host;
      path = unwrap_or text.path (default_path access.path);
      host_only = not (is_some domain);
      secure = text.secure;
      http_only = text.http_only;
      same_site = text.same_site;
      creation = now;
      expiry = text.expiry;
      last = now;
    }

-- the cookie that a text gives
abbrev pub made : List Rule → CookieText → PlainAccess → ℤ → PlainCookie
made rules text access now =
    made_with (own_domain rules access (lower_domain text)) text access now

-- the cookie that a new one replaces: the same one, where it is not expired
abbrev pub replaced : ℤ → PlainCookie → List PlainCookie → Option PlainCookie
replaced now new cs = option_filter (λ c. not (is_expired now c)) (find (λ c. same new c) cs)

-- the new cookie with the creation second of the one that it replaces
abbrev pub renewed : ℤ → PlainCookie → List PlainCookie → PlainCookie
renewed now new cs =
    record new {
      creation = unwrap_or (option_map (λ c. c.creation) (replaced now new cs)) new.creation;
    }

-- the cookie of a text as a cell of these cookies keeps it
abbrev pub fresh : List Rule → CookieText → PlainAccess → ℤ → List PlainCookie → PlainCookie
fresh rules text access now cs = renewed now (made rules text access now) cs

-- what storing a cookie does, in a word, by whether it replaces one
abbrev pub kind_with : ℤ → PlainCookie → Bool → StoredKind
kind_with now new replaces =
    if is_expired now new then Removed else (if replaces then Replaced else Added)

-- what storing a cookie in a cell does, in a word
abbrev pub stored_kind : ℤ → PlainCookie → List PlainCookie → StoredKind
stored_kind now new cs = kind_with now new (is_some (replaced now new cs))
