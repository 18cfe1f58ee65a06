-- A text that needs no escape stands for itself.
use Rattle.std.proofs.Common.{◌≡◌, refl, ℕ, Bool, true, false, ◌==◌, List, [], ◌∷◌, ◌++◌}
use Rattle.std.specs.Prelude.{codes}
use Rattle.std.specs.List.{list_all}
use Rattle.std.proofs.lemmas.Bool.{and_parts, or_parts, not-true, eqb-false, ltb-false}
use Rattle.origin_site.specs.Site.{PlainSite, site_text}
use Rattle.json.specs.Print.{escape}
use Rattle.json.specs.Run.{is_plain, is_stop}
use Rattle.json.proofs.Printed.Strings.{escape_byte_plain}

pub plain_stands : (text : List ℕ) → list_all is_plain text ≡ true → escape text ≡ text
plain_stands [] plain = refl
plain_stands (x ∷ xs) plain =
    let both = and_parts (is_plain x) (list_all is_plain xs) plain in
    let none = or_parts _ _ (not-true (is_stop x) both.0) in
    let tests = or_parts (x == 34) _ none.0 in
    let rest = plain_stands xs both.1 in
    λ i. escape_byte_plain x (eqb-false x 34 tests.0) (eqb-false x 92 tests.1) (ltb-false x 32 none.1) i ++ rest i

scheme_stands : (https : Bool) (host : List ℕ) → list_all is_plain host ≡ true
    → escape (site_text (record { https = https; host = host })) ≡ site_text (record { https = https; host = host })
scheme_stands true host plain = plain_stands (codes "https://" ++ host) plain
scheme_stands false host plain = plain_stands (codes "http://" ++ host) plain

-- so does the text of a site whose host needs none
pub site_stands : (site : PlainSite) → list_all is_plain site.host ≡ true → escape (site_text site) ≡ site_text site
site_stands site plain = scheme_stands site.https site.host plain
