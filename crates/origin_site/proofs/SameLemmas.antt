-- The tests of equal origins and equal sites decide equality.
use Rattle.std.proofs.Common.{◌≡◌, Decides}
use Rattle.std.specs.Cmp.{booleans_Decides}
use Rattle.std.proofs.lemmas.Bool.Decides.{Decides-and, Decides-like, Decides-eqb}
use Rattle.std.proofs.lemmas.Slice.Eq.{bytes_eq-Decides}
use Rattle.origin_site.specs.Origin.{PlainOrigin, same_plain_origin}
use Rattle.origin_site.specs.Site.{PlainSite, same_plain_site}

-- two sites pass the test exactly where they are equal
pub same_plain_site-Decides : (a b : PlainSite) → Decides (same_plain_site a b) (a ≡ b)
same_plain_site-Decides a b =
    Decides-like _ (λ e i. record { https = e.0 i; host = e.1 i }) (λ e. (λ i. (e i).https, λ i. (e i).host))
    (Decides-and _ _ (booleans_Decides a.https b.https) (bytes_eq-Decides a.host b.host))

-- two origins pass the test exactly where they are equal
pub same_plain_origin-Decides : (a b : PlainOrigin) → Decides (same_plain_origin a b) (a ≡ b)
same_plain_origin-Decides a b =
    Decides-like _ (λ e i. record { https = e.0 i; ip = e.1.0 i; host = e.1.1.0 i; port = e.1.1.1 i })
    (λ e. (λ i. (e i).https, (λ i. (e i).ip, (λ i. (e i).host, λ i. (e i).port))))
    (Decides-and _ _ (booleans_Decides a.https b.https)
    (Decides-and _ _ (booleans_Decides a.ip b.ip)
    (Decides-and _ _ (bytes_eq-Decides a.host b.host) (Decides-eqb a.port b.port))))
