-- The numbers of the tabs at a site after a change of the tabs, and the map that has them.
use Rattle.std.proofs.Common.{◌≡◌, ℕ, Bool, true, false, cond, not, List, [], ◌∷◌, ◌++◌, map, Some, refl, ap, sym, ◌∙◌, arith}
use Rattle.std.proofs.lemmas.Bool.{and_parts, and_from}
use Rattle.std.specs.Prelude.{◌==◌, ◌&&◌, ◌||◌, filter, nat_lt, unwrap_or, if◌then◌else◌}
use Rattle.std.specs.Global.{Vec}
use Rattle.std.specs.List.{list_all, list_any}
use Rattle.std.specs.Map.{lookup}
use Rattle.std.specs.Ordering.{is_eq}
use Rattle.std.proofs.lemmas.Bool.Decides.{nat_tests, Decides-like, same_from_decides}
use Rattle.std.proofs.lemmas.List.{map-append}
use Rattle.std.proofs.lemmas.List.Elements.{filter-append}
use Rattle.std.proofs.lemmas.List.Folds.{list_all-map, list_any-append}
use Rattle.origin_site.proofs.SameLemmas.{same_plain_site-Decides}
use Rattle.origin_site.specs.Plain.{plain_site}
use Rattle.origin_site.specs.Site.{PlainSite, same_plain_site}
use Rattle.origin_site.specs.declared.site.Site.{Site}
use Rattle.storage_key.specs.Context.{is_of}
use Rattle.storage_key.specs.Key.{site_order}
use Rattle.frame_tree.specs.Tree.{IsTree, PlainFrame, top_site}
use Rattle.live_state.specs.SiteTabs.{AreTrees, are_rising, is_at, moved, numbers_at, site_rooms, takes_one, with_number, without_number}
use Rattle.live_state.specs.TabPlaces.{are_higher, are_lower}
use Rattle.live_state.specs.Tabs.{PlainLive, PlainTab, has_site_room, has_top_room, is_open, is_reserved, is_rising}
use Rattle.live_state.proofs.ListLemmas.{all_kept}
use Rattle.live_state.proofs.NumberLemmas.{with-between, without-between}
use Rattle.live_state.proofs.SiteTabsLemmas.{equal_sites}

-- ---- room at a site

-- the room that contracts see is that of the map
pub room-seen : (site : PlainSite) (entries : List (Site × Vec ℕ))
    → unwrap_or (lookup (same_plain_site site) (site_rooms entries)) false
    ≡ takes_one (lookup (λ key. is_eq (site_order site (plain_site key))) entries)
room-seen site [] = refl
room-seen site (e ∷ es) =
    ap (λ b. unwrap_or (cond b (Some (takes_one (Some e.1))) (lookup (same_plain_site site) (site_rooms es))) false) (sym (equal_sites site (plain_site e.0)))
    ∙ by (is_eq (site_order site (plain_site e.0))) (room-seen site es)
  where
    by : (b : Bool) → unwrap_or (lookup (same_plain_site site) (site_rooms es)) false ≡ takes_one (lookup (λ key. is_eq (site_order site (plain_site key))) es)
        → unwrap_or (cond b (Some (takes_one (Some e.1))) (lookup (same_plain_site site) (site_rooms es))) false
        ≡ takes_one (cond b (Some e.1) (lookup (λ key. is_eq (site_order site (plain_site key))) es))
    by true rest = refl
    by false rest = rest

-- ---- numbers of tabs

-- the numbers of the tabs at a site rise
pub numbers-rise : (site : PlainSite) (tabs : List PlainTab) → is_rising tabs ≡ true → are_rising (numbers_at site tabs) ≡ true
numbers-rise site [] rising = refl
numbers-rise site (t ∷ ts) rising =
    let parts = and_parts (list_all (λ u. nat_lt t.number u.number) ts) (is_rising ts) rising in
    by (is_at site t)
    (list_all-map (λ m. nat_lt t.number m) (λ u. u.number) (filter (is_at site) ts)
    ∙ all_kept (is_at site) (λ u. nat_lt t.number u.number) ts parts.0)
    (numbers-rise site ts parts.1)
  where
    by : (b : Bool) → list_all (λ m. nat_lt t.number m) (numbers_at site ts) ≡ true → are_rising (numbers_at site ts) ≡ true
        → are_rising (map (λ u. u.number) (cond b (t ∷ filter (is_at site) ts) (filter (is_at site) ts))) ≡ true
    by true low rest = and_from (list_all (λ m. nat_lt t.number m) (numbers_at site ts)) (are_rising (numbers_at site ts)) low rest
    by false low rest = rest

numbers-append : (site : PlainSite) (front rest : List PlainTab) → numbers_at site (front ++ rest) ≡ numbers_at site front ++ numbers_at site rest
numbers-append site front rest =
    ap (map (λ t. t.number)) (filter-append (is_at site) front rest)
    ∙ map-append (λ t. t.number) (filter (is_at site) front) (filter (is_at site) rest)

-- the numbers at a site of tabs that begin with this one
numbers-first : (site : PlainSite) (t : PlainTab) (rest : List PlainTab)
    → numbers_at site (t ∷ rest) ≡ cond (is_at site t) (t.number ∷ numbers_at site rest) (numbers_at site rest)
numbers-first site t rest = by (is_at site t)
  where
    by : (b : Bool) → map (λ (u : PlainTab). u.number) (cond b (t ∷ filter (is_at site) rest) (filter (is_at site) rest))
        ≡ cond b (t.number ∷ numbers_at site rest) (numbers_at site rest)
    by true = refl
    by false = refl

-- one site is the other, from either side
turned : (a b : PlainSite) → same_plain_site a b ≡ same_plain_site b a
turned a b =
    same_from_decides (same_plain_site a b) (same_plain_site b a) (same_plain_site-Decides a b)
    (Decides-like (same_plain_site b a) (λ e. sym e) (λ e. sym e) (same_plain_site-Decides b a))

-- a tab is at the site of its top document
pub at-top : (site own : PlainSite) (t : PlainTab) → top_site t.frames ≡ Some own → is_at site t ≡ same_plain_site own site
at-top site own t top = ap (is_of site) top ∙ turned site own

module _ (n : ℕ) (front rest : List PlainTab) (low : are_lower n front ≡ true) (high : are_higher n rest ≡ true) (site : PlainSite) where
  low_numbers : list_all (λ m. nat_lt m n) (numbers_at site front) ≡ true
  low_numbers =
      list_all-map (λ m. nat_lt m n) (λ t. t.number) (filter (is_at site) front)
      ∙ all_kept (is_at site) (λ t. nat_lt t.number n) front low

  high_numbers : list_all (λ m. nat_lt n m) (numbers_at site rest) ≡ true
  high_numbers =
      list_all-map (λ m. nat_lt n m) (λ t. t.number) (filter (is_at site) rest)
      ∙ all_kept (is_at site) (λ t. nat_lt n t.number) rest high

  -- the numbers at the site with this one between, or without it
  abbrev between : Bool → List ℕ
  between there = numbers_at site front ++ cond there (n ∷ numbers_at site rest) (numbers_at site rest)

  pub numbers-gap : numbers_at site (front ++ rest) ≡ between false
  numbers-gap = numbers-append site front rest

  pub numbers-here : (t : PlainTab) → t.number ≡ n → (own : PlainSite) → top_site t.frames ≡ Some own
      → numbers_at site (front ++ t ∷ rest) ≡ between (same_plain_site own site)
  numbers-here t same own top =
      numbers-append site front (t ∷ rest)
      ∙ ap (λ l. numbers_at site front ++ l) (numbers-first site t rest)
      ∙ ap (λ b. numbers_at site front ++ cond b (t.number ∷ numbers_at site rest) (numbers_at site rest)) (at-top site own t top)
      ∙ ap (λ m. numbers_at site front ++ cond (same_plain_site own site) (m ∷ numbers_at site rest) (numbers_at site rest)) same

  none_of : (ns : List ℕ) → list_all (λ m. not (m == n)) ns ≡ true → list_any (λ m. m == n) ns ≡ false
  none_of [] all = refl
  none_of (m ∷ ns) all =
      let parts = and_parts (not (m == n)) (list_all (λ m. not (m == n)) ns) all in
      by (m == n) parts.0 (none_of ns parts.1)
    where
      by : (b : Bool) → not b ≡ true → list_any (λ m. m == n) ns ≡ false → (b || list_any (λ m. m == n) ns) ≡ false
      by true isnt rest = absurd (cc isnt)
      by false isnt rest = rest

  differs_low : (ns : List ℕ) → list_all (λ m. nat_lt m n) ns ≡ true → list_all (λ m. not (m == n)) ns ≡ true
  differs_low [] all = refl
  differs_low (m ∷ ns) all =
      let parts = and_parts (nat_lt m n) (list_all (λ m. nat_lt m n) ns) all in
      let one : not (m == n) ≡ true = grind (arith, nat_tests) in
      and_from (not (m == n)) (list_all (λ m. not (m == n)) ns) one (differs_low ns parts.1)

  differs_high : (ns : List ℕ) → list_all (λ m. nat_lt n m) ns ≡ true → list_all (λ m. not (m == n)) ns ≡ true
  differs_high [] all = refl
  differs_high (m ∷ ns) all =
      let parts = and_parts (nat_lt n m) (list_all (λ m. nat_lt n m) ns) all in
      let one : not (m == n) ≡ true = grind (arith, nat_tests) in
      and_from (not (m == n)) (list_all (λ m. not (m == n)) ns) one (differs_high ns parts.1)

  -- the number is not among those beside it
  pub absent-between : list_any (λ m. m == n) (between false) ≡ false
  absent-between =
      list_any-append (λ m. m == n) (numbers_at site front) (numbers_at site rest)
      ∙ ap (λ b. b || list_any (λ m. m == n) (numbers_at site rest)) (none_of (numbers_at site front) (differs_low (numbers_at site front) low_numbers))
      ∙ none_of (numbers_at site rest) (differs_high (numbers_at site rest) high_numbers)

  -- a tab that comes to a site, or to another
  pub put-between : (there : Bool) → (if there then with_number n (between false) else between false) ≡ between there
  put-between true = with-between n (numbers_at site front) (numbers_at site rest) low_numbers high_numbers
  put-between false = refl

  -- a tab that goes from a site, or from another
  pub dropped-between : (there : Bool) → (if there then without_number n (between there) else between there) ≡ between false
  dropped-between true = without-between n (numbers_at site front) (numbers_at site rest) low_numbers high_numbers
  dropped-between false = refl

  -- a tab that goes from one site to another
  pub moved-between : (from to : PlainSite) → moved n from to site (between (same_plain_site from site)) ≡ between (same_plain_site to site)
  moved-between from to = by (same_plain_site from to) refl (same_plain_site to site) refl
    where
      by : (stays : Bool) → same_plain_site from to ≡ stays → (there : Bool) → same_plain_site to site ≡ there
          → (if stays then between (same_plain_site from site)
          else (if there then with_number n (between (same_plain_site from site))
          else (if same_plain_site from site then without_number n (between (same_plain_site from site)) else between (same_plain_site from site))))
          ≡ between there
      by true same there is =
          ap (λ s. between (same_plain_site s site)) ((same_plain_site-Decides from to).0 same) ∙ ap between is
      by false apart true is =
          let gone : same_plain_site from site ≡ false = ap (same_plain_site from) (sym ((same_plain_site-Decides to site).0 is)) ∙ apart in
          ap (λ b. with_number n (between b)) gone ∙ put-between true
      by false apart false is = dropped-between (same_plain_site from site)

-- ---- each tab has the frames of a tab

trees-append : (front rest : List PlainTab) → AreTrees front → AreTrees rest → AreTrees (front ++ rest)
trees-append [] rest one other = other
trees-append (t ∷ ts) rest one other = (one.0, trees-append ts rest one.1 other)

trees-parts : (front rest : List PlainTab) → AreTrees (front ++ rest) → AreTrees front × AreTrees rest
trees-parts [] rest all = (tt, all)
trees-parts (t ∷ ts) rest all = let parts = trees-parts ts rest all.1 in ((all.0, parts.0), parts.1)

pub trees-inserted : (front : List PlainTab) (t : PlainTab) (rest : List PlainTab) → AreTrees (front ++ rest) → IsTree t.frames → AreTrees (front ++ t ∷ rest)
trees-inserted front t rest all one =
    let parts = trees-parts front rest all in trees-append front (t ∷ rest) parts.0 (one, parts.1)

pub trees-without : (front : List PlainTab) (t : PlainTab) (rest : List PlainTab) → AreTrees (front ++ t ∷ rest) → AreTrees (front ++ rest)
trees-without front t rest all = let parts = trees-parts front (t ∷ rest) all in trees-append front rest parts.0 parts.1.1

pub tree-within : (front : List PlainTab) (t : PlainTab) (rest : List PlainTab) → AreTrees (front ++ t ∷ rest) → IsTree t.frames
tree-within front t rest all = let parts = trees-parts front (t ∷ rest) all in parts.1.0

-- tabs of one number under one site are listed alike
pub numbers-alike : (site : PlainSite) (front : List PlainTab) (t u : PlainTab) (rest : List PlainTab) → t.number ≡ u.number → top_site t.frames ≡ top_site u.frames
    → numbers_at site (front ++ t ∷ rest) ≡ numbers_at site (front ++ u ∷ rest)
numbers-alike site front t u rest same top =
    numbers-append site front (t ∷ rest)
    ∙ ap (λ l. numbers_at site front ++ l) (numbers-first site t rest)
    ∙ ap (λ own. numbers_at site front ++ cond (is_of site own) (t.number ∷ numbers_at site rest) (numbers_at site rest)) top
    ∙ ap (λ m. numbers_at site front ++ cond (is_at site u) (m ∷ numbers_at site rest) (numbers_at site rest)) same
    ∙ sym (ap (λ l. numbers_at site front ++ l) (numbers-first site u rest))
    ∙ sym (numbers-append site front (u ∷ rest))

-- ---- what is reserved

module _ (number : ℕ) (made : List PlainFrame) (site : PlainSite) (top : top_site made ≡ Some site) (live : PlainLive) where
  -- a put is reserved where there is room for the tab, and at its site
  pub reserved-both : is_reserved number made live ≡ ((is_open number live.tabs || nat_lt 0 live.room) && has_site_room site live)
  reserved-both = ap (λ t. (is_open number live.tabs || nat_lt 0 live.room) && has_top_room t live) top

  pub reserved-from : (is_open number live.tabs || nat_lt 0 live.room) ≡ true → has_site_room site live ≡ true → is_reserved number made live ≡ true
  reserved-from one other = reserved-both ∙ and_from (is_open number live.tabs || nat_lt 0 live.room) (has_site_room site live) one other

  pub reserved-parts : is_reserved number made live ≡ true → ((is_open number live.tabs || nat_lt 0 live.room) ≡ true) × (has_site_room site live ≡ true)
  reserved-parts is = and_parts (is_open number live.tabs || nat_lt 0 live.room) (has_site_room site live) (sym reserved-both ∙ is)

  and_false : (b : Bool) → (b && false) ≡ false
  and_false true = refl
  and_false false = refl

  pub not-reserved-site : has_site_room site live ≡ false → is_reserved number made live ≡ false
  not-reserved-site isnt =
      reserved-both ∙ ap (λ b. (is_open number live.tabs || nat_lt 0 live.room) && b) isnt ∙ and_false (is_open number live.tabs || nat_lt 0 live.room)

  pub not-reserved-tab : is_open number live.tabs ≡ false → nat_lt 0 live.room ≡ false → is_reserved number made live ≡ false
  not-reserved-tab closed full =
      reserved-both ∙ ap (λ b. (b || nat_lt 0 live.room) && has_site_room site live) closed ∙ ap (λ b. b && has_site_room site live) full
