-- The tabs at each site after a write to the list of one.
use Rattle.std.proofs.Common.{◌≡◌, ℕ, Bool, true, false, cond, List, Option, Some, None, refl, ap, sym, ◌∙◌}
use Rattle.std.proofs.Math.Bool.{beq}
use Rattle.std.proofs.lemmas.Map.Text.{is_eq-slice_cmp}
use Rattle.std.specs.Prelude.{◌&&◌, IsSome}
use Rattle.std.specs.BTreeMap.{BTreeMap, UpdatesBy, WritesThrough}
use Rattle.std.specs.Cmp.Lexicographic.{slice_cmp}
use Rattle.std.specs.Global.{Vec}
use Rattle.std.specs.Ordering.{bool_cmp, is_eq, nat_cmp, ordering_then}
use Rattle.std.specs.declared.cmp.Ordering.{Ordering}
use Rattle.std.specs.declared.cmp.Ordering.TheVariants.{Less, Equal, Greater}
use Rattle.origin_site.proofs.SameLemmas.{same_plain_site-Decides}
use Rattle.origin_site.specs.Plain.{plain_site}
use Rattle.origin_site.specs.Site.{PlainSite, same_plain_site}
use Rattle.origin_site.specs.declared.site.Site.{Site}
use Rattle.storage_key.specs.Key.{site_order}
use Rattle.live_state.specs.SiteTabs.{found_at, has_room, listed_at, numbers_of, takes_one}

-- the order of the sites in a map
abbrev pub site_cmp : Site → Site → Ordering
site_cmp a b = site_order (plain_site a) (plain_site b)

both_equal : (a b : Ordering) → is_eq (ordering_then a b) ≡ (is_eq a && is_eq b)
both_equal Less b = refl
both_equal Equal b = refl
both_equal Greater b = refl

equal_bools : (a b : Bool) → is_eq (bool_cmp a b) ≡ beq a b
equal_bools true true = refl
equal_bools true false = refl
equal_bools false true = refl
equal_bools false false = refl

-- two sites are equal in the order where they are the same
pub equal_sites : (a b : PlainSite) → is_eq (site_order a b) ≡ same_plain_site a b
equal_sites a b =
    both_equal (bool_cmp a.https b.https) (slice_cmp nat_cmp a.host b.host)
    ∙ ap (λ t. t && is_eq (slice_cmp nat_cmp a.host b.host)) (equal_bools a.https b.https)
    ∙ ap (λ t. beq a.https b.https && t) (is_eq-slice_cmp a.host b.host)

module _ (site : Site) (old new : BTreeMap Site (Vec ℕ)) (w : Option (Vec ℕ)) (updates : UpdatesBy site_cmp (site_cmp site) old new w) where
  found-updated : (other : Site)
      → found_at (plain_site other) new ≡ cond (same_plain_site (plain_site site) (plain_site other)) w (found_at (plain_site other) old)
  found-updated other =
      updates.0 other ∙ ap (λ b. cond b w (found_at (plain_site other) old)) (equal_sites (plain_site site) (plain_site other))

  -- the list of one site is changed, and the others stay
  pub listed-updated : (change : List ℕ → List ℕ) → numbers_of w ≡ change (listed_at (plain_site site) old) → (other : Site)
      → listed_at (plain_site other) new
      ≡ cond (same_plain_site (plain_site site) (plain_site other)) (change (listed_at (plain_site other) old)) (listed_at (plain_site other) old)
  listed-updated change changes other = ap numbers_of (found-updated other) ∙ by (same_plain_site (plain_site site) (plain_site other)) refl
    where
      by : (b : Bool) → same_plain_site (plain_site site) (plain_site other) ≡ b
          → numbers_of (cond b w (found_at (plain_site other) old)) ≡ cond b (change (listed_at (plain_site other) old)) (listed_at (plain_site other) old)
      by true is = changes ∙ ap (λ s. change (listed_at s old)) ((same_plain_site-Decides (plain_site site) (plain_site other)).0 is)
      by false is = refl

  -- no list is changed
  pub listed-same : numbers_of w ≡ listed_at (plain_site site) old → (other : Site) → listed_at (plain_site other) new ≡ listed_at (plain_site other) old
  listed-same same other =
      listed-updated (λ ns. ns) same other
      ∙ either (same_plain_site (plain_site site) (plain_site other)) (listed_at (plain_site other) old)
    where
      either : (b : Bool) (ns : List ℕ) → cond b ns ns ≡ ns
      either true ns = refl
      either false ns = refl

  -- room stays where it stays at the site
  pub room-stays : (has_room (plain_site site) old ≡ true → takes_one w ≡ true) → (other : Site)
      → has_room (plain_site other) old ≡ true → has_room (plain_site other) new ≡ true
  room-stays stays other is =
      ap takes_one (found-updated other) ∙ by (same_plain_site (plain_site site) (plain_site other)) refl
    where
      by : (b : Bool) → same_plain_site (plain_site site) (plain_site other) ≡ b → takes_one (cond b w (found_at (plain_site other) old)) ≡ true
      by true same = stays (ap (λ s. has_room s old) ((same_plain_site-Decides (plain_site site) (plain_site other)).0 same) ∙ is)
      by false apart = is

  -- the room at another site is as it was
  pub room-apart : (other : Site) → same_plain_site (plain_site site) (plain_site other) ≡ false
      → has_room (plain_site other) new ≡ has_room (plain_site other) old
  room-apart other apart =
      ap takes_one (found-updated other) ∙ ap (λ b. takes_one (cond b w (found_at (plain_site other) old))) apart

  pub room-here : takes_one w ≡ true → has_room (plain_site site) new ≡ true
  room-here is = ap takes_one updates.1 ∙ is

-- what is written through the list of a site that is there
pub write-updates : (site : Site) (old new : BTreeMap Site (Vec ℕ)) (v w : Vec ℕ) → found_at (plain_site site) old ≡ Some v
    → WritesThrough site_cmp (site_cmp site) old w new → UpdatesBy site_cmp (site_cmp site) old new (Some w)
write-updates site old new v w there wrote = wrote.3 (subst_some (found_at (plain_site site) old) there)
  where
    subst_some : (o : Option (Vec ℕ)) → o ≡ Some v → IsSome o
    subst_some None is = absurd (cc is)
    subst_some (Some x) is = refl

-- a list that is written through with the same numbers changes no list
pub listed-written : (site : Site) (old new : BTreeMap Site (Vec ℕ)) (v w : Vec ℕ) → found_at (plain_site site) old ≡ Some v
    → WritesThrough site_cmp (site_cmp site) old w new → w.items ≡ v.items → (other : Site) → listed_at (plain_site other) new ≡ listed_at (plain_site other) old
listed-written site old new v w there wrote same other =
    listed-same site old new (Some w) (write-updates site old new v w there wrote) (same ∙ ap numbers_of (sym there)) other
