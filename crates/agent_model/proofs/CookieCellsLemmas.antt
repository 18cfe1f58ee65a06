-- The tests on cells decide equality, and cells that no event consults.
use Rattle.std.proofs.Common.{◌≡◌, ℕ, zero, suc, Bool, false, cond, Decides, [], Option, Some, None, refl, sym, ap, ◌∙◌}
use Rattle.std.specs.Cmp.{booleans_Decides, IsTotalOrder}
use Rattle.std.specs.FinMap.{IsAntisymmetric, nat_cmp-IsAntisymmetric, slice_cmp-IsAntisymmetric, get-empty}
use Rattle.std.specs.Option.{option_eq}
use Rattle.std.specs.Ordering.{int_eq}
use Rattle.std.specs.Prelude.{ℤ, ◌==◌, bytes_eq}
use Rattle.std.proofs.lemmas.Bool.Decides.{Decides-and, Decides-like, Decides-eqb, Decides-int_eq}
use Rattle.std.proofs.lemmas.Cmp.{nat_list_cmp_total}
use Rattle.std.proofs.lemmas.Map.Text.{is_eq-slice_cmp}
use Rattle.std.proofs.lemmas.Slice.Eq.{bytes_eq-Decides, slice_eq-Decides}
use Rattle.unwinding.specs.FiniteCells.{list_of, get_cell, set_cell, restrict_cells, merge_cells}
use Rattle.unwinding.proofs.FiniteCellsLemmas as cells
use Rattle.setcookie_parse.specs.declared.cookie.SameSite.{SameSite}
use Rattle.setcookie_parse.specs.declared.cookie.SameSite.TheVariants as when
use Rattle.stored_cookie.specs.StoredCookie.{PlainCookie}
use Rattle.agent_model.specs.CookieCells.{Domain, Cookies, CookieCells, domain_order, no_cookies, same_site_number, equal_cookie, equal_cookies}

-- ---- the tests

option_int-Decides : (x y : Option ℤ) → Decides (option_eq int_eq x y) (x ≡ y)
option_int-Decides None None = (λ e. refl, λ e. refl)
option_int-Decides None (Some y) = (λ e. cc, λ e. cc)
option_int-Decides (Some x) None = (λ e. cc, λ e. cc)
option_int-Decides (Some x) (Some y) = Decides-like _ (λ e. ap Some e) (λ e. cc) (Decides-int_eq x y)

-- the SameSite of a number
abbrev of_number : ℕ → SameSite
of_number zero = when.Default
of_number (suc zero) = when.NoneSent
of_number (suc (suc zero)) = when.Lax
of_number (suc (suc (suc n))) = when.Strict

back : (s : SameSite) → of_number (same_site_number s) ≡ s
back when.Default = refl
back when.NoneSent = refl
back when.Lax = refl
back when.Strict = refl

same_site-Decides : (a b : SameSite) → Decides (same_site_number a == same_site_number b) (a ≡ b)
same_site-Decides a b =
    Decides-like _ (λ e. sym (back a) ∙ ap of_number e ∙ back b) (ap same_site_number)
    (Decides-eqb (same_site_number a) (same_site_number b))

-- two cookies pass the test exactly where they are equal
pub equal_cookie-Decides : (a b : PlainCookie) → Decides (equal_cookie a b) (a ≡ b)
equal_cookie-Decides a b =
    Decides-like _
    (λ e i. record {
      name = e.0 i;
      value = e.1.0 i;
      domain = e.1.1.0 i;
      path = e.1.1.1.0 i;
      host_only = e.1.1.1.1.0 i;
      secure = e.1.1.1.1.1.0 i;
      http_only = e.1.1.1.1.1.1.0 i;
      same_site = e.1.1.1.1.1.1.1.0 i;
      creation = e.1.1.1.1.1.1.1.1.0 i;
      expiry = e.1.1.1.1.1.1.1.1.1.0 i;
      last = e.1.1.1.1.1.1.1.1.1.1 i;
    })
    (λ e. (
      λ i. (e i).name,
      (
        λ i. (e i).value,
        (
          λ i. (e i).domain,
          (
            λ i. (e i).path,
            (
              λ i. (e i).host_only,
              (
                λ i. (e i).secure,
                (λ i. (e i).http_only, (λ i. (e i).same_site, (λ i. (e i).creation, (λ i. (e i).expiry, λ i. (e i).last)))),
              ),
            ),
          ),
        ),
      ),
    ))
    (Decides-and _ _ (bytes_eq-Decides a.name b.name)
    (Decides-and _ _ (bytes_eq-Decides a.value b.value)
    (Decides-and _ _ (bytes_eq-Decides a.domain b.domain)
    (Decides-and _ _ (bytes_eq-Decides a.path b.path)
    (Decides-and _ _ (booleans_Decides a.host_only b.host_only)
    (Decides-and _ _ (booleans_Decides a.secure b.secure)
    (Decides-and _ _ (booleans_Decides a.http_only b.http_only)
    (Decides-and _ _ (same_site-Decides a.same_site b.same_site)
    (Decides-and _ _ (Decides-int_eq a.creation b.creation)
    (Decides-and _ _ (option_int-Decides a.expiry b.expiry) (Decides-int_eq a.last b.last)))))))))))

-- and so do the cookies of two cells
pub equal_cookies-Decides : (a b : Cookies) → Decides (equal_cookies a b) (a ≡ b)
equal_cookies-Decides a b = slice_eq-Decides equal_cookie-Decides a b (equal_cookies a b) refl

-- ---- the container

pub domain_order_total : IsTotalOrder domain_order
domain_order_total = nat_list_cmp_total

pub domain_order_same : IsAntisymmetric domain_order
domain_order_same = slice_cmp-IsAntisymmetric nat_cmp-IsAntisymmetric

pub get_set : (c d : Domain) (xs : Cookies) (m : CookieCells) → get_cell domain_order (set_cell domain_order d xs m) c ≡ cond (bytes_eq c d) xs (get_cell domain_order m c)
get_set c d xs m =
    cells.get_set domain_order domain_order_total domain_order_same c d xs m
    ∙ ap (λ b. cond b xs (get_cell domain_order m c)) (is_eq-slice_cmp c d)

pub get_restrict : (test : Domain → Bool) (m : CookieCells) (c : Domain) → get_cell domain_order (restrict_cells domain_order test m) c ≡ cond (test c) (get_cell domain_order m c) []
get_restrict = cells.get_restrict domain_order domain_order_total domain_order_same

pub get_merge : (test : Domain → Bool) (new old : CookieCells) (c : Domain) → get_cell domain_order (merge_cells domain_order test new old) c ≡ cond (test c) (get_cell domain_order new c) (get_cell domain_order old c)
get_merge = cells.get_merge domain_order domain_order_total domain_order_same

pub same_cells : (x y : CookieCells) → ((c : Domain) → get_cell domain_order x c ≡ get_cell domain_order y c) → x ≡ y
same_cells = cells.same_cells domain_order domain_order_total domain_order_same

-- a cell of none
pub get_none : (c : Domain) → get_cell domain_order no_cookies c ≡ []
unfolding get_cell no_cookies
get_none c = ap list_of (get-empty domain_order c)

-- ---- cells that no event consults

-- of none of the cells nothing is seen
pub none_seen : (m : CookieCells) → restrict_cells domain_order (λ c. false) m ≡ no_cookies
none_seen m = same_cells _ _ (λ c. get_restrict (λ c. false) m c ∙ sym (get_none c))

-- and none of them is left different
pub none_left : (new old : CookieCells) → merge_cells domain_order (λ c. false) new old ≡ old
none_left new old = same_cells _ _ (λ c. get_merge (λ c. false) new old c)
