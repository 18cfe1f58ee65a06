-- Values of the definitions, worked out by hand, so that a wrong rule in the specs does not check.
use Rattle.std.proofs.Common.{◌≡◌, refl, List, [], ◌∷◌, true, false, Some, None, ℕ}
use Rattle.std.specs.Prelude.{codes, pos, ℤ}
use Rattle.suffix_list.specs.Suffix.{Rule}
use Rattle.setcookie_parse.specs.SetCookie.{CookieText}
use Rattle.setcookie_parse.specs.declared.cookie.SameSite.TheVariants as site
use Rattle.partition_limits.specs.declared.tally.CellKind.TheVariants as kind
use Rattle.cookie_jar.specs.declared.cause.CookieDrop.TheVariants as why
use Rattle.cookie_jar.specs.declared.step.JarStep.TheVariants.{Replace}
use Rattle.cookie_jar.specs.Access.{PlainAccess}
use Rattle.cookie_jar.specs.Cookie.{PlainCookie}
use Rattle.cookie_jar.specs.Drops.{dropped}
use Rattle.cookie_jar.specs.NewCookie.{made}
use Rattle.cookie_jar.specs.Sending.{select}
use Rattle.cookie_jar.specs.Steps.{steps}

-- `pub.test`
abbrev list : List Rule
list = record { is_exception = false; labels = codes "pub" ∷ codes "test" ∷ [] } ∷ []

-- a text of a name, a value and a Domain
abbrev text : List ℕ → List ℕ → CookieText
text name value =
    record {
      name = name;
      value = value;
      domain = None;
      path = None;
      has_path = false;
      secure = false;
      http_only = false;
      partitioned = false;
      same_site = site.Default;
      expiry = None;
    }

-- a first-party request of `https://pub.test/`
abbrev on_pub : PlainAccess
on_pub =
    record {
      https = true;
      host = codes "pub.test";
      ip = false;
      path = codes "/";
      first = true;
      same_site = true;
      top_load = false;
      safe = true;
      script = false;
      granted = false;
    }

secure_prefix_in_any_case : dropped list (text (codes "__SECURE-a") (codes "1")) on_pub (pos 0) [] ≡ Some why.SecurePrefix
secure_prefix_in_any_case = refl

prefix_without_name : dropped list (text [] (codes "__Host-x")) on_pub (pos 0) [] ≡ Some why.NamelessPrefix
prefix_without_name = refl

suffix_that_is_the_host : dropped list (record (text (codes "x") (codes "1")) { domain = Some (codes "Pub.test") }) on_pub (pos 0) [] ≡ None
suffix_that_is_the_host = refl

suffix_above_the_host :
    dropped list (record (text (codes "x") (codes "1")) { domain = Some (codes "pub.test") }) (record on_pub { host = codes "a.pub.test" }) (pos 0) [] ≡ Some why.PublicSuffix
suffix_above_the_host = refl

third_party : dropped list (text (codes "x") (codes "1")) (record on_pub { first = false; same_site = true }) (pos 0) [] ≡ Some why.ThirdParty
third_party = refl

-- a cookie of `pub.test` that was last used at a second
abbrev cookie : List ℕ → ℤ → PlainCookie
cookie name last = record (made list (text name (codes "1")) on_pub (pos 0)) { last = last }

same_cookie_is_replaced :
    steps kind.Own (pos 5) (cookie (codes "b") (pos 5)) (cookie (codes "a") (pos 1) ∷ cookie (codes "b") (pos 2) ∷ []) ≡ Replace 1 0 false ∷ []
same_cookie_is_replaced = refl

both_go_out : select kind.Own on_pub (pos 9) (cookie (codes "a") (pos 1) ∷ cookie (codes "b") (pos 2) ∷ []) ≡ 0 ∷ 1 ∷ []
both_go_out = refl

lax_stays_in_a_cross_site_post :
    select kind.Own (record on_pub { same_site = false; top_load = true; safe = false }) (pos 9) (cookie (codes "a") (pos 1) ∷ []) ≡ []
lax_stays_in_a_cross_site_post = refl
