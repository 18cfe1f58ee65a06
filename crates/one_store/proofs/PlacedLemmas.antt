-- Where the open tabs are: what it says of them, and what keeps it.
use Rattle.std.proofs.Common.{◌≡◌, ℕ, Bool, true, false, cond, ◌||◌, List, [], ◌∷◌, map, reverse, Option, Some, None, refl, sym, ap, subst, ◌∙◌}
use Rattle.std.proofs.lemmas.Bool.{true≢false, eq-eqb}
use Rattle.std.specs.Prelude.{is_some}
use Rattle.std.specs.Cmp.{nat_cmp_total}
use Rattle.std.specs.Ordering.{nat_cmp, eq_by_cmp}
use Rattle.std.specs.FinMap as finite
use Rattle.std.specs.FinMap.{nat_cmp-IsAntisymmetric}
use Rattle.origin_site.specs.Site.{PlainSite}
use Rattle.origin_site.proofs.SameLemmas.{same_plain_site-Decides}
use Rattle.storage_key.specs.Context.{is_of}
use Rattle.frame_tree.specs.Calls.{begins_with_site}
use Rattle.frame_tree.specs.Tree.{PlainFrame, IsTree, chain_of, has_frame, top_site}
use Rattle.frame_tree.proofs.ShapeLemmas.{chain-begins, has-reversed}
use Rattle.frame_tree.proofs.TopLemmas.{top-of-chain}
use Rattle.live_state.specs.Tabs.{PlainTab}
use Rattle.agent_model.specs.Partition.{Holdings, tab_named}
use Rattle.agent_model.specs.Lines.{Places, site_at}
use Rattle.one_store.specs.HeldAt.{IsKeyed}
use Rattle.one_store.specs.WholeWorld.{IsPlacedAt, IsPlaced}
use Rattle.agent_model.proofs.EachTabLemmas.{each_by_tabs}
use Rattle.agent_model.proofs.KeptLemmas as kept
use Rattle.agent_model.proofs.UnaskedLemmas.{at_site}
use Rattle.one_store.proofs.TopLemmas.{keyed_by_tops}

-- ---- the top of a tab has a site

begins_by : (fs : List PlainFrame) → begins_with_site (map (λ f. f.document.site) fs) ≡ is_some (top_site fs)
begins_by [] = refl
begins_by (f ∷ fs) = refl

-- the top document of a tab has a site
pub top_is : (frames : List PlainFrame) → IsTree frames → is_some (top_site frames) ≡ true
top_is [] tree = absurd tree
top_is (f ∷ below) tree =
    let there : has_frame f.frame (f ∷ below) ≡ true = ap (λ b. b || has_frame f.frame below) (eq-eqb f.frame f.frame refl) in
    sym (ap is_some (top-of-chain f.frame (f ∷ below) tree there)) ∙ sym (begins_by (chain_of f.frame (f ∷ below)))
    ∙ chain-begins f.frame (reverse (f ∷ below)) tree (has-reversed f.frame (f ∷ below) ∙ there)

-- ---- what it says

module _ (places : Places) (held : Holdings) (placed_all : IsPlaced places held) (number : ℕ) where
  at_tab : (tab : Option PlainTab) → tab_named number held ≡ tab → IsPlacedAt (site_at number places) tab
  at_tab tab is = subst (IsPlacedAt (site_at number places)) is (placed_all number)

  -- a tab that is not open is nowhere
  pub nowhere : tab_named number held ≡ None → site_at number places ≡ None
  nowhere none = at_tab None none

  -- an open tab is where its top document is
  pub at_its_top : (tab : PlainTab) → tab_named number held ≡ Some tab → IsTree tab.frames × (top_site tab.frames ≡ site_at number places)
  at_its_top tab found = at_tab (Some tab) found

  -- a tab that is nowhere is not open
  pub not_open : site_at number places ≡ None → tab_named number held ≡ None
  not_open none = at (tab_named number held) refl
    where
      at : (tab : Option PlainTab) → tab_named number held ≡ tab → tab ≡ None
      at None is = refl
      at (Some tab) is =
          let top = at_its_top tab is in
          absurd (true≢false (sym (top_is tab.frames top.0) ∙ ap is_some (top.1 ∙ none)))

  -- a tab that is at a site is open
  pub open_tab : (site : PlainSite) → site_at number places ≡ Some site → (tab : PlainTab) × (tab_named number held ≡ Some tab)
  open_tab site is = at (tab_named number held) refl
    where
      at : (tab : Option PlainTab) → tab_named number held ≡ tab → (tab : PlainTab) × (tab_named number held ≡ Some tab)
      at None none = cc (nowhere none)
      at (Some tab) found = (tab, found)

  -- an open tab is at a site
  pub site_of_tab : (tab : PlainTab) → tab_named number held ≡ Some tab → (site : PlainSite) × (site_at number places ≡ Some site)
  site_of_tab tab found = at (site_at number places) refl
    where
      at : (place : Option PlainSite) → site_at number places ≡ place → (site : PlainSite) × (site_at number places ≡ Some site)
      at None none = cc (not_open none)
      at (Some site) is = (site, is)

pub is_there : (site : PlainSite) → is_of site (Some site) ≡ true
is_there site = (same_plain_site-Decides site site).1 refl

-- the documents of each site's tabs have keys of that site
pub keyed_at : (places : Places) (held : Holdings) → IsPlaced places held → (site : PlainSite) → IsKeyed site (λ tab. is_of site (site_at tab places)) held
keyed_at places held placed_all site =
    keyed_by_tops site (λ tab. is_of site (site_at tab places)) held
    (λ number tab here found. let top = at_its_top places held placed_all number tab found in
    (top.0, top.1 ∙ at_site site (site_at number places) here))

-- ---- what keeps it

-- where tabs are is a matter of the tabs alone
pub placed_by_tabs : (places : Places) (held other : Holdings) → other.tabs ≡ held.tabs → IsPlaced places held → IsPlaced places other
placed_by_tabs places = each_by_tabs (λ number. IsPlacedAt (site_at number places))

-- a tab, and where it is, are changed together
module _ (places after : Places) (held : Holdings) (number : ℕ) (place : Option PlainSite) (tab : Option PlainTab) where
  pub placed_changed : after ≡ kept.changed_at number place places → IsPlacedAt place tab → IsPlaced places held
      → IsPlaced after (record held { tabs = kept.changed_at number tab held.tabs })
  placed_changed same is placed_all q =
      subst (λ p. IsPlacedAt p (finite.get (kept.changed_at number tab held.tabs) q)) (sym (ap (λ (p : Places). finite.get p q) same ∙ kept.get_changed nat_cmp nat_cmp_total nat_cmp-IsAntisymmetric places number place q))
      (subst (λ t. IsPlacedAt (cond (eq_by_cmp nat_cmp q number) place (finite.get places q)) t) (sym (kept.get_changed nat_cmp nat_cmp_total nat_cmp-IsAntisymmetric held.tabs number tab q))
      (at (eq_by_cmp nat_cmp q number)))
    where
      at : (b : Bool) → IsPlacedAt (cond b place (finite.get places q)) (cond b tab (finite.get held.tabs q))
      at true = is
      at false = placed_all q
