-- The tabs and areas that a site has, before and after one of them is replaced. Here and in the
-- files that stand on this one, a lemma `seen` says that a change of all is the same change at the
-- site, and `unseen` that it leaves what another site has.
use Rattle.std.proofs.Common.{◌≡◌, ℕ, Bool, true, false, cond, List, [], Some, None, refl, sym, ap, ◌∙◌}
use Rattle.std.proofs.lemmas.Bool.{true≢false}
use Rattle.std.specs.Cmp.{nat_cmp_total}
use Rattle.std.specs.Ordering.{nat_cmp}
use Rattle.std.specs.FinMap.{nat_cmp-IsAntisymmetric}
use Rattle.origin_site.specs.Site.{PlainSite, same_plain_site}
use Rattle.origin_site.proofs.SameLemmas.{same_plain_site-Decides}
use Rattle.storage_key.specs.Key.{PlainKey, key_order}
use Rattle.storage_key.proofs.OrderLemmas.{key_order_total, key_order_same}
use Rattle.local_area.specs.Area.{Pair}
use Rattle.storage_events.specs.declared.event.AreaKind.{AreaKind}
use Rattle.storage_events.specs.declared.event.AreaKind.TheVariants.{Local, Session}
use Rattle.live_state.specs.Tabs.{PlainTab}
use Rattle.agent_model.specs.Partition.{session_order, Holdings, is_under, tab_named, with_tab, without_tab, area_of, with_area}
use Rattle.unwinding.proofs.FiniteCellsLemmas.{get_kept}
use Rattle.one_store.specs.HeldAt.{held_at}
use Rattle.agent_model.proofs.KeptLemmas as kept
use Rattle.agent_model.proofs.KeptLemmas.{AgreesBut}
use Rattle.agent_model.proofs.HoldingsLemmas.{session_order_total, session_order_same}

-- ---- sites

-- a key under one site is under no other
pub under_one : (site other : PlainSite) (key : PlainKey) → same_plain_site other site ≡ false → is_under other key ≡ true → is_under site key ≡ false
under_one site other key apart is = at (is_under site key) refl
  where
    at : (b : Bool) → is_under site key ≡ b → b ≡ false
    at true there =
        let same : other ≡ site = (same_plain_site-Decides other key.top).0 is ∙ sym ((same_plain_site-Decides site key.top).0 there) in
        absurd (true≢false (sym ((same_plain_site-Decides other site).1 same) ∙ apart))
    at false there = refl

-- ---- tabs

module _ (site : PlainSite) (here : ℕ → Bool) (held : Holdings) where
  -- a tab that is at the site is there as in all, and another one is not there
  tab_there : (number : ℕ) (b : Bool) → here number ≡ b → tab_named number (held_at site here held) ≡ cond b (tab_named number held) None
  tab_there number b is = get_kept nat_cmp nat_cmp-IsAntisymmetric here held.tabs number ∙ ap (λ t. cond t (tab_named number held) None) is

  pub tab_seen : (number : ℕ) → here number ≡ true → tab_named number (held_at site here held) ≡ tab_named number held
  tab_seen number = tab_there number true

  pub tab_unseen : (number : ℕ) → here number ≡ false → tab_named number (held_at site here held) ≡ None
  tab_unseen number = tab_there number false

  module _ (after : ℕ → Bool) (number : ℕ) (alike : AgreesBut nat_cmp number after here) where
    -- a tab that is at the site afterwards
    pub with_tab_seen : (tab : PlainTab) → after number ≡ true → held_at site after (with_tab number tab held) ≡ with_tab number tab (held_at site here held)
    with_tab_seen tab is =
        ap (λ tabs. record (held_at site here held) { tabs = tabs })
        (kept.change_seen nat_cmp nat_cmp_total nat_cmp-IsAntisymmetric held.tabs after here number (Some tab) is alike)

    -- one that is not there afterwards
    pub with_tab_gone : (tab : PlainTab) → after number ≡ false → held_at site after (with_tab number tab held) ≡ without_tab number (held_at site here held)
    with_tab_gone tab is =
        ap (λ tabs. record (held_at site here held) { tabs = tabs })
        (kept.change_gone nat_cmp nat_cmp_total nat_cmp-IsAntisymmetric held.tabs after here number (Some tab) is alike)

    -- a tab that is taken out
    pub without_tab_seen : held_at site after (without_tab number held) ≡ without_tab number (held_at site here held)
    without_tab_seen =
        ap (λ tabs. record (held_at site here held) { tabs = tabs })
        (kept.kept_remove nat_cmp nat_cmp_total nat_cmp-IsAntisymmetric held.tabs after here number alike)

-- without a tab that is not there, all is as it was
pub without_absent : (number : ℕ) (held : Holdings) → tab_named number held ≡ None → without_tab number held ≡ held
without_absent number held none =
    ap (λ tabs. record held { tabs = tabs })
    (kept.remove_absent nat_cmp nat_cmp_total nat_cmp-IsAntisymmetric held.tabs number none)

module _ (site : PlainSite) (here : ℕ → Bool) (held : Holdings) where
  -- a tab that stays at another site
  pub with_tab_unseen : (number : ℕ) (tab : PlainTab) → here number ≡ false → held_at site here (with_tab number tab held) ≡ held_at site here held
  with_tab_unseen number tab is =
      with_tab_gone site here held here number (λ q apart. refl) tab is
      ∙ without_absent number (held_at site here held) (tab_unseen site here held number is)

  -- ---- areas

  -- an area under the site is there as in all, and another one is empty
  area_there : (kind : AreaKind) (tab : ℕ) (key : PlainKey) → area_of kind tab key (held_at site here held) ≡ cond (is_under site key) (area_of kind tab key held) []
  area_there Local tab key = kept.kept_cell key_order key_order_total key_order_same held.areas (is_under site) key
  area_there Session tab key = kept.kept_cell session_order session_order_total session_order_same held.sessions (λ k. is_under site k.1) (tab, key)

  pub area_seen : (kind : AreaKind) (tab : ℕ) (key : PlainKey) → is_under site key ≡ true → area_of kind tab key (held_at site here held) ≡ area_of kind tab key held
  area_seen kind tab key is = area_there kind tab key ∙ ap (λ b. cond b (area_of kind tab key held) []) is

  pub area_unseen : (kind : AreaKind) (tab : ℕ) (key : PlainKey) → is_under site key ≡ false → area_of kind tab key (held_at site here held) ≡ []
  area_unseen kind tab key is = area_there kind tab key ∙ ap (λ b. cond b (area_of kind tab key held) []) is

  -- and is replaced there as in all
  pub with_area_seen : (kind : AreaKind) (tab : ℕ) (key : PlainKey) (pairs : List Pair) → is_under site key ≡ true
      → held_at site here (with_area kind tab key pairs held) ≡ with_area kind tab key pairs (held_at site here held)
  with_area_seen Local tab key pairs is =
      ap (λ areas. record (held_at site here held) { areas = areas })
      (kept.cell_seen key_order key_order_total key_order_same held.areas (is_under site) key pairs is)
  with_area_seen Session tab key pairs is =
      ap (λ sessions. record (held_at site here held) { sessions = sessions })
      (kept.cell_seen session_order session_order_total session_order_same held.sessions (λ k. is_under site k.1) (tab, key) pairs is)

  -- an area under another site
  pub with_area_unseen : (kind : AreaKind) (tab : ℕ) (key : PlainKey) (pairs : List Pair) → is_under site key ≡ false → held_at site here (with_area kind tab key pairs held) ≡ held_at site here held
  with_area_unseen Local tab key pairs is =
      ap (λ areas. record (held_at site here held) { areas = areas })
      (kept.cell_unseen key_order key_order_total key_order_same held.areas (is_under site) key pairs is)
  with_area_unseen Session tab key pairs is =
      ap (λ sessions. record (held_at site here held) { sessions = sessions })
      (kept.cell_unseen session_order session_order_total session_order_same held.sessions (λ k. is_under site k.1) (tab, key) pairs is)
