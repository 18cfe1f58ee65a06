-- What a line gives a site is read off what the agent has: its tabs are those of its world, and a site has session areas
-- of a tab where the storage has some under it.
use Rattle.std.proofs.Common.{◌≡◌, ℕ, Bool, true, false, cond, not, ◌&&◌, ◌||◌, List, [], ◌∷◌, None, refl, sym, ap, ◌∙◌}
use Rattle.std.specs.Prelude.{if◌then◌else◌}
use Rattle.std.specs.List.{list_all, list_any}
use Rattle.std.specs.Ordering.{nat_cmp}
use Rattle.std.specs.FinMap.{get, keys, nat_cmp-IsAntisymmetric, retain_keys}
use Rattle.unwinding.proofs.FiniteCellsLemmas.{get_kept}
use Rattle.origin_site.specs.Site.{PlainSite}
use Rattle.storage_key.specs.Context.{is_of}
use Rattle.live_state.specs.Tabs.{tab_at}
use Rattle.web_storage.specs.SiteSessions.{has_session_under}
use Rattle.agent_model.specs.Lines.{site_at}
use Rattle.agent_model.specs.Partition.{SessionAreas, SessionKey, is_under, session_order, tab_named}
use Rattle.agent_model.specs.Sessions.{has_session, is_copied, is_of_tab}
use Rattle.agent_model.proofs.HoldingsLemmas.{session_order_same, session_order_total}
use Rattle.agent_model.proofs.KeptLemmas as kept
use Rattle.one_store.specs.WholeWorld.{whole_world}
use Rattle.local_scripts.specs.Events.{place_in}
use Rattle.local_scripts.specs.Present.{PlainPresent, StandsForWorld}
use Rattle.agent_memory.specs.AgentState.{AgentState, held_in, places_in, world_of}
use Rattle.agent_memory.proofs.LiveLemmas.{site_found}
use Rattle.agent_memory.proofs.StandingLemmas.{tab_is}

-- ---- the tabs

-- what the agent has at present
abbrev pub present_of : AgentState → PlainPresent
present_of state = record { rules = state.rules; now = state.now; tabs = state.tabs; cookies = state.cookies }

module _ (state : AgentState) where
  -- a site has the tabs that are at it
  tabs_at : (site : PlainSite) (number : ℕ)
      → tab_named number ((world_of state).partition site).held
      ≡ (if is_of site (place_in state.tabs number) then tab_at number state.tabs else None)
  unfolding world_of whole_world
  tabs_at site number =
      get_kept nat_cmp nat_cmp-IsAntisymmetric (λ tab. is_of site (site_at tab (places_in state.tabs)))
      (held_in state).tabs number
      ∙ λ i. cond (is_of site (site_found number state.tabs i)) (tab_is state number i) None

  pub stands_for : StandsForWorld (present_of state) (world_of state)
  unfolding world_of whole_world
  stands_for = record {
    moment = refl;
    tabs_shown = record {
      places = λ number. site_found number state.tabs;
      sites = λ site. refl;
      partitions = λ site number. tabs_at site number;
    };
    cells = refl;
  }

-- ---- session areas

-- no key passes a test where none that does has an area
none_any : (areas : SessionAreas) (test : SessionKey → Bool)
    → ((key : SessionKey) → test key ≡ true → get areas key ≡ None) → list_any test (keys areas) ≡ false
none_any areas test none =
    none_of (keys areas)
    (ap (λ kept. list_all (λ key. not (test key)) (keys kept))
    (sym (kept.all_kept session_order session_order_total session_order_same areas (λ key. not (test key))
    (λ key isnt. none key (at (test key) isnt))))
    ∙ kept.kept_pass session_order session_order_total session_order_same areas (λ key. not (test key)))
  where
    at : (b : Bool) → not b ≡ false → b ≡ true
    at true is = refl
    at false is = absurd (cc is)

    none_of : (ks : List SessionKey) → list_all (λ key. not (test key)) ks ≡ true → list_any test ks ≡ false
    none_of [] all = refl
    none_of (k ∷ ks) all = by (test k) all (none_of ks)
      where
        by : (b : Bool) → (not b && list_all (λ key. not (test key)) ks) ≡ true
            → (list_all (λ key. not (test key)) ks ≡ true → list_any test ks ≡ false) → (b || list_any test ks) ≡ false
        by true all later = absurd (cc all)
        by false all later = later all

-- two tests that fail together
both_ways : (a b : Bool) → (a ≡ false → b ≡ false) → (b ≡ false → a ≡ false) → a ≡ b
both_ways true true there back = refl
both_ways true false there back = back refl
both_ways false b there back = sym (there refl)

-- a site has session areas of a tab where the storage has some of the tab under the site
pub areas_are : (state : AgentState) (site : PlainSite) (tab : ℕ)
    → has_session tab ((world_of state).partition site).held ≡ has_session_under site tab (held_in state).sessions
unfolding world_of whole_world
areas_are state site tab =
    both_ways (list_any (is_of_tab tab) (keys own)) (list_any (is_copied site tab) (keys all))
    (λ none. none_any all (is_copied site tab) (λ key is. absent key (is_of_tab tab key) refl is (none_own none key)))
    (λ none. none_any own (is_of_tab tab) (λ key is. own_is key ∙ gone key (is_under site key.1) refl is none))
  where
    all : SessionAreas
    all = (held_in state).sessions

    own : SessionAreas
    own = retain_keys all (λ key. is_under site key.1)

    own_is : (key : SessionKey) → get own key ≡ cond (is_under site key.1) (get all key) None
    own_is key = get_kept session_order session_order_same (λ key. is_under site key.1) all key

    none_own : list_any (is_of_tab tab) (keys own) ≡ false → (key : SessionKey) → is_of_tab tab key ≡ true → get own key ≡ None
    none_own none key is = kept.none_passes session_order session_order_total session_order_same own (is_of_tab tab) none key is

    absent : (key : SessionKey) (b : Bool) → is_of_tab tab key ≡ b → (b && is_under site key.1) ≡ true
        → (is_of_tab tab key ≡ true → get own key ≡ None) → get all key ≡ None
    absent key true is under none = sym (own_is key ∙ ap (λ b. cond b (get all key) None) under) ∙ none is
    absent key false is under none = absurd (cc under)

    gone : (key : SessionKey) (b : Bool) → is_under site key.1 ≡ b → is_of_tab tab key ≡ true
        → list_any (is_copied site tab) (keys all) ≡ false → cond b (get all key) None ≡ None
    gone key true under is none =
        kept.none_passes session_order session_order_total session_order_same all (is_copied site tab) none key
        ((λ i. is i && is_under site key.1) ∙ under)
    gone key false under is none = refl
