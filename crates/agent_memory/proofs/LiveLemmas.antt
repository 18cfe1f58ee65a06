-- The open tabs as a map by number, and where they are, after each call on the list of open tabs.
use Rattle.std.proofs.Common.{◌≡◌, ◌==◌, ℕ, Bool, true, false, cond, not, List, [], ◌∷◌, map, Option, Some, None, refl, sym, ap, ◌∙◌, arith}
use Rattle.std.proofs.lemmas.Bool.Decides.{Decides-eqb, nat_tests}
use Rattle.std.proofs.lemmas.Cmp.{eq_by_cmp_equiv, nat_cmp_total}
use Rattle.std.proofs.lemmas.List.Folds.{find-append}
use Rattle.std.specs.Prelude.{filter, nat_lt, option_and_then}
use Rattle.std.specs.Option.{option_or}
use Rattle.std.specs.Cmp.{unsigned_tied}
use Rattle.std.specs.Ordering.{eq_by_cmp, nat_cmp}
use Rattle.std.specs.FinMap as finite
use Rattle.std.specs.FinMap.{get, get-empty, get-from_entries, nat_cmp-IsAntisymmetric, same_map}
use Rattle.origin_site.specs.Site.{PlainSite}
use Rattle.frame_tree.specs.Tree.{top_site}
use Rattle.live_state.specs.Tabs.{PlainTab, tab_at, with_tab, without_tab}
use Rattle.live_state.proofs.ListLemmas.{find-kept}
use Rattle.agent_model.specs.Lines.{Places, no_places, site_at}
use Rattle.agent_model.proofs.KeptLemmas.{changed_at, get_changed}
use Rattle.agent_memory.specs.AgentState.{placed_by, places_in, tabs_in}

-- ---- look-ups

-- a map's test of two numbers is that of a list
same_test : (a b : ℕ) → eq_by_cmp nat_cmp a b ≡ (b == a)
same_test a b = (eq_by_cmp_equiv nat_cmp_total).symm a b ∙ unsigned_tied b a

-- the tab of a number in the map is that in the list
pub tab_found : (number : ℕ) (tabs : List PlainTab) → get (tabs_in tabs) number ≡ tab_at number tabs
tab_found number tabs = get-from_entries nat_cmp_total (map (λ tab. (tab.number, tab)) tabs) number ∙ found tabs
  where
    found : (tabs : List PlainTab) → finite.find nat_cmp number (map (λ tab. (tab.number, tab)) tabs) ≡ tab_at number tabs
    found [] = refl
    found (tab ∷ tabs) = λ i. cond (same_test number tab.number i) (Some tab) (found tabs i)

-- the tab that is found has the number
pub number_found : (number : ℕ) (tabs : List PlainTab) (tab : PlainTab) → tab_at number tabs ≡ Some tab → tab.number ≡ number
number_found number [] tab is = absurd (cc is)
number_found number (first ∷ tabs) tab is = at (first.number == number) refl (number_found number tabs tab) is
  where
    at : (b : Bool) → (first.number == number) ≡ b → (tab_at number tabs ≡ Some tab → tab.number ≡ number)
        → cond b (Some first) (tab_at number tabs) ≡ Some tab → tab.number ≡ number
    at true same later is = let found : first ≡ tab =
        cc is in ap (λ t. t.number) (sym found) ∙ (Decides-eqb first.number number).0 same
    at false apart later is = later is

-- a place is put or taken out
pub placed_changed : (number : ℕ) (site : Option PlainSite) (places : Places)
    → placed_by number site places ≡ changed_at number site places
placed_changed number None places = refl
placed_changed number (Some site) places = refl

site_placed : (number : ℕ) (site : Option PlainSite) (places : Places) (q : ℕ)
    → site_at q (placed_by number site places) ≡ cond (number == q) site (site_at q places)
site_placed number site places q =
    ap (site_at q) (placed_changed number site places)
    ∙ get_changed nat_cmp nat_cmp_total nat_cmp-IsAntisymmetric places number site q
    ∙ ap (λ b. cond b site (site_at q places)) (same_test q number)

-- the site of the top document of a tab, where it is open
abbrev pub site_of : Option PlainTab → Option PlainSite
site_of tab = option_and_then (λ tab. top_site tab.frames) tab

-- a tab is at the site of its top document
pub site_found : (number : ℕ) (tabs : List PlainTab) → site_at number (places_in tabs) ≡ site_of (tab_at number tabs)
unfolding no_places
site_found number [] = get-empty nat_cmp number
site_found number (tab ∷ tabs) = site_placed tab.number (top_site tab.frames) (places_in tabs) number
    ∙ at (tab.number == number) (site_found number tabs)
  where
    at : (b : Bool) → site_at number (places_in tabs) ≡ site_of (tab_at number tabs)
        → cond b (top_site tab.frames) (site_at number (places_in tabs)) ≡ site_of (cond b (Some tab) (tab_at number tabs))
    at true later = refl
    at false later = later

-- ---- a change at one number

-- one list has this tab at a number, or none there, and every other tab as another list has it
abbrev pub ChangesAt : ℕ → Option PlainTab → (before after : List PlainTab) → Type 0
ChangesAt number tab before after = (q : ℕ) → tab_at q after ≡ cond (number == q) tab (tab_at q before)

module _ (number : ℕ) (tab : Option PlainTab) (before after : List PlainTab) (changes : ChangesAt number tab before after) where
  pub tabs_changed : tabs_in after ≡ changed_at number tab (tabs_in before)
  tabs_changed = same_map nat_cmp_total nat_cmp-IsAntisymmetric _ _ (λ q.
      tab_found q after ∙ changes q
      ∙ sym (get_changed nat_cmp nat_cmp_total nat_cmp-IsAntisymmetric (tabs_in before) number tab q
      ∙ λ i. cond (same_test q number i) tab (tab_found q before i)))

  pub places_changed : places_in after ≡ placed_by number (site_of tab) (places_in before)
  places_changed = same_map nat_cmp_total nat_cmp-IsAntisymmetric _ _ (λ q.
      site_found q after ∙ ap site_of (changes q) ∙ at q (number == q)
      ∙ sym (site_placed number (site_of tab) (places_in before) q ∙ ap (cond (number == q) (site_of tab)) (site_found q before)))
    where
      at : (q : ℕ) (b : Bool) → site_of (cond b tab (tab_at q before)) ≡ cond b (site_of tab) (site_of (tab_at q before))
      at q true = refl
      at q false = refl

-- a tab is put
pub put_changes : (made : PlainTab) (tabs : List PlainTab) → ChangesAt made.number (Some made) tabs (with_tab made tabs)
put_changes made tabs q =
    find-append (λ t. t.number == q) (filter (λ t. nat_lt t.number made.number) tabs)
    (made ∷ filter (λ t. nat_lt made.number t.number) tabs)
    ∙ (λ i. option_or (find-kept (λ t. t.number) (λ m. nat_lt m made.number) q tabs i)
    (cond (made.number == q) (Some made) (find-kept (λ t. t.number) (λ m. nat_lt made.number m) q tabs i)))
    ∙ at (nat_lt q made.number) (made.number == q) (nat_lt made.number q) refl refl refl (tab_at q tabs)
  where
    at : (low same high : Bool) → nat_lt q made.number ≡ low → (made.number == q) ≡ same
        → nat_lt made.number q ≡ high → (found : Option PlainTab)
        → option_or (cond low found None) (cond same (Some made) (cond high found None)) ≡ cond same (Some made) found
    at true true high a b c found = absurd (grind (arith, nat_tests))
    at true false true a b c found = absurd (grind (arith, nat_tests))
    at true false false a b c None = refl
    at true false false a b c (Some tab) = refl
    at false true high a b c found = refl
    at false false true a b c found = refl
    at false false false a b c found = absurd (grind (arith, nat_tests))

-- a tab is closed
pub without_changes : (number : ℕ) (tabs : List PlainTab) → ChangesAt number None tabs (without_tab number tabs)
without_changes number tabs q =
    find-kept (λ t. t.number) (λ m. not (m == number)) q tabs ∙ at (q == number) (number == q) refl refl
  where
    at : (b c : Bool) → (q == number) ≡ b → (number == q) ≡ c → cond (not b) (tab_at q tabs) None ≡ cond c None (tab_at q tabs)
    at true true a b = refl
    at true false a b = absurd (grind (arith, nat_tests))
    at false true a b = absurd (grind (arith, nat_tests))
    at false false a b = refl
