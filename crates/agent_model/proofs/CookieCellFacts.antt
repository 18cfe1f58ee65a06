-- The cells of cookies, worked out by hand: whose home one is, and when two contents are the same.
use Rattle.std.proofs.Common.{◌≡◌, ℤ, pos, true, false, [], ◌∷◌, Option, Some, None, refl, ◌∙◌}
use Rattle.std.specs.Prelude.{codes}
use Rattle.unwinding.specs.FiniteCells.{get_cell, set_cell}
use Rattle.origin_site.specs.Site.{PlainSite}
use Rattle.setcookie_parse.specs.declared.cookie.SameSite.{SameSite}
use Rattle.setcookie_parse.specs.declared.cookie.SameSite.TheVariants as when
use Rattle.stored_cookie.specs.StoredCookie.{PlainCookie}
use Rattle.agent_model.specs.CookieCells.{domain_order, no_cookies, is_home, is_own, equal_cookie, equal_cookies}
use Rattle.agent_model.proofs.CookieCellsLemmas.{get_none, get_set}
use Rattle.agent_model.proofs.StandardFacts.{site, a, b}

-- ---- home

-- `http://a.test`
abbrev http_a : PlainSite
http_a = record { https = false; host = a }

both_schemes : is_home (site a) a ≡ true
both_schemes = refl

http_too : is_home http_a a ≡ true
http_too = refl

other_domain : is_home (site b) a ≡ false
other_domain = refl

-- no site has a cell for itself alone
shared : is_own (site a) a ≡ false
shared = refl

-- ---- the same content

-- the cookie `s=1` of `a.test`
abbrev cookie : SameSite → Option ℤ → ℤ → PlainCookie
cookie same_site expiry last =
    record {
      name = codes "s";
      value = codes "1";
      domain = a;
      path = codes "/";
      host_only = true;
      secure = false;
      http_only = false;
      same_site = same_site;
      creation = pos 7;
      expiry = expiry;
      last = last;
    }

abbrev fresh : PlainCookie
fresh = cookie when.Default None (pos 7)

itself : equal_cookie fresh fresh ≡ true
itself = refl

-- another time of the last use is a difference, and so is another expiry, SameSite, value or scheme
used_later : equal_cookie fresh (cookie when.Default None (pos 8)) ≡ false
used_later = refl

persistent : equal_cookie fresh (cookie when.Default (Some (pos 9)) (pos 7)) ≡ false
persistent = refl

lax : equal_cookie fresh (cookie when.Lax None (pos 7)) ≡ false
lax = refl

other_value : equal_cookie fresh (record fresh { value = codes "2" }) ≡ false
other_value = refl

secure : equal_cookie fresh (record fresh { secure = true }) ≡ false
secure = refl

-- the same cookies in another order are another content, and so are fewer
abbrev second : PlainCookie
second = record fresh { name = codes "t" }

in_order : equal_cookies (fresh ∷ second ∷ []) (fresh ∷ second ∷ []) ≡ true
in_order = refl

other_order : equal_cookies (fresh ∷ second ∷ []) (second ∷ fresh ∷ []) ≡ false
other_order = refl

fewer : equal_cookies (fresh ∷ second ∷ []) (fresh ∷ []) ≡ false
fewer = refl

-- ---- the container

-- a domain has the cookies that its cell was given, and another domain has none of them
own_cell : get_cell domain_order (set_cell domain_order a (fresh ∷ []) no_cookies) a ≡ fresh ∷ []
own_cell = get_set a a (fresh ∷ []) no_cookies

other_cell : get_cell domain_order (set_cell domain_order a (fresh ∷ []) no_cookies) b ≡ []
other_cell = get_set b a (fresh ∷ []) no_cookies ∙ get_none b
