-- Session areas belong to open tabs: what it says of each area, and what loads and closings keep of it.
use Rattle.std.proofs.Common.{◌≡◌, ◌==◌, ℕ, Bool, true, false, cond, not, List, Option, Some, None, refl, sym, ap, ◌∙◌}
use Rattle.std.proofs.lemmas.Bool.Decides.{Decides-eqb}
use Rattle.std.specs.List.{list_any}
use Rattle.std.specs.Option.{option_or}
use Rattle.std.specs.Cmp.{nat_cmp_total, unsigned_tied}
use Rattle.std.specs.Ordering.{nat_cmp}
use Rattle.std.specs.FinMap.{nat_cmp-IsAntisymmetric, get, get-empty, keys, retain_keys}
use Rattle.unwinding.proofs.FiniteCellsLemmas.{get_kept}
use Rattle.suffix_list.specs.Suffix.{Rule}
use Rattle.origin_site.specs.Address.{PlainAddress}
use Rattle.origin_site.specs.Site.{PlainSite}
use Rattle.storage_key.specs.Key.{PlainKey}
use Rattle.frame_tree.specs.Calls.{opened}
use Rattle.live_state.specs.Tabs.{PlainTab, made_tab}
use Rattle.web_storage.proofs.CloseLemmas.{none_after}
use Rattle.agent_model.specs.Partition.{SessionKey, session_order, Holdings, no_holdings, is_under, tab_named}
use Rattle.agent_model.specs.Buckets.{without_evicted}
use Rattle.agent_model.specs.Sessions.{close, show, has_session, is_of_tab}
use Rattle.agent_model.proofs.KeptLemmas as kept
use Rattle.agent_model.proofs.HoldingsLemmas.{session_order_total, session_order_same}
use Rattle.agent_model.proofs.SessionLemmas.{get_copied}
use Rattle.one_store.specs.Store.{copied_at, with_copies}
use Rattle.agent_model.specs.Lines.{Places, site_at}
use Rattle.agent_memory.specs.AgentState.{AreOwned}

-- ---- one tab

-- no session area of a tab
abbrev pub HasNone : ℕ → Holdings → Type 0
HasNone tab held = (key : PlainKey) → get held.sessions (tab, key) ≡ None

-- it is what the test says
pub none_tested : (tab : ℕ) (held : Holdings) → HasNone tab held → has_session tab held ≡ false
none_tested tab held none =
    ap (λ sessions. list_any (is_of_tab tab) (keys sessions)) (sym all)
    ∙ none_after tab held.sessions
  where
    at : (key : SessionKey) (b : Bool) → (key.0 == tab) ≡ b → not b ≡ false → get held.sessions key ≡ None
    at key true same is = ap (λ number. get held.sessions (number, key.1)) ((Decides-eqb key.0 tab).0 same) ∙ none key.1
    at key false apart is = cc

    all : retain_keys held.sessions (λ key. not (is_of_tab tab key)) ≡ held.sessions
    all =
        kept.all_kept session_order session_order_total session_order_same held.sessions (λ key. not (is_of_tab tab key))
        (λ key isnt. at key (is_of_tab tab key) refl isnt)

pub none_found : (tab : ℕ) (held : Holdings) → has_session tab held ≡ false → HasNone tab held
none_found tab held none key =
    kept.none_passes session_order session_order_total session_order_same held.sessions (is_of_tab tab) none
    (tab, key) ((Decides-eqb tab tab).1 refl)

-- ---- every tab

-- a tab that is not open has no session area
abbrev pub OpenHave : Holdings → Type 0
OpenHave held = (tab : ℕ) → tab_named tab held ≡ None → HasNone tab held

pub open_have : (held : Holdings) → AreOwned held → OpenHave held
open_have held owned tab none = none_found tab held (owned tab none)

pub owned_by : (held : Holdings) → OpenHave held → AreOwned held
owned_by held have tab none = none_tested tab held (have tab none)

-- nothing is held
pub owned_nothing : AreOwned no_holdings
unfolding no_holdings
owned_nothing = owned_by no_holdings (λ tab none key. get-empty session_order (tab, key))

-- an eviction
pub owned_evicted : (site : PlainSite) (held : Holdings) → AreOwned held → AreOwned (without_evicted site held)
owned_evicted site held owned = owned

-- ---- closings

pub owned_closed : (number : ℕ) (held : Holdings) → AreOwned held → AreOwned (close number held)
owned_closed number held owned = owned_by (close number held) have
  where
    at : (tab : ℕ) (key : PlainKey) (b : Bool) → (tab == number) ≡ b → cond b None (tab_named tab held) ≡ None
        → cond (not b) (get held.sessions (tab, key)) None ≡ None
    at tab key true same none = refl
    at tab key false apart none = open_have held owned tab none key

    have : OpenHave (close number held)
    have tab none key =
        get_kept session_order session_order_same (λ k. not (is_of_tab number k)) held.sessions (tab, key)
        ∙ at tab key (tab == number) refl
        (ap (λ b. cond b None (tab_named tab held)) (sym (unsigned_tied tab number))
        ∙ sym (kept.get_changed nat_cmp nat_cmp_total nat_cmp-IsAntisymmetric held.tabs number None tab) ∙ none)

-- ---- loads

-- a tab's session areas are those of another holding
abbrev pub SameAt : ℕ → (held other : Holdings) → Type 0
SameAt tab held other = (key : PlainKey) → get other.sessions (tab, key) ≡ get held.sessions (tab, key)

-- copies for a tab: the tabs are the same, and so are the session areas of every other tab
pub record AreCopies (to : ℕ) (held other : Holdings) : Type 0 where
  pub tabs : other.tabs ≡ held.tabs
  pub others : (tab : ℕ) → (tab == to) ≡ false → SameAt tab held other

pub no_copies : (to : ℕ) (held : Holdings) → AreCopies to held held
no_copies to held = record { tabs = refl; others = λ tab apart key. refl }

copies_at : (here : Option PlainSite) (from to : ℕ) (held : Holdings) → AreCopies to held (copied_at here from to held)
copies_at None from to held = no_copies to held
copies_at (Some site) from to held = record { tabs = refl; others = others }
  where
    others : (tab : ℕ) → (tab == to) ≡ false → SameAt tab held (copied_at (Some site) from to held)
    others tab apart key =
        get_copied site from to held (tab, key)
        ∙ ap (λ b. option_or (cond b (cond (is_under site key) (get held.sessions (from, key)) None) None)
        (get held.sessions (tab, key))) apart

pub copies_by : (places : Places) (to : ℕ) (opener : Option ℕ) (noopener : Bool) (held : Holdings)
    → AreCopies to held (with_copies places to opener noopener held)
copies_by places to (Some from) false held = copies_at (site_at from places) from to held
copies_by places to (Some from) true held = no_copies to held
copies_by places to None noopener held = no_copies to held

-- a tab is opened, or goes to an address, after copies for it
pub owned_shown : (rules : List Rule) (number : ℕ) (url : PlainAddress) (held before : Holdings)
    → AreOwned held → AreCopies number held before → AreOwned (show rules number url before)
owned_shown rules number url held before owned copies = owned_by (show rules number url before) have
  where
    at : (made : PlainTab) (tab : ℕ) (key : PlainKey) (b : Bool) → (tab == number) ≡ b
        → cond b (Some made) (tab_named tab before) ≡ None → get before.sessions (tab, key) ≡ None
    at made tab key true is none = cc
    at made tab key false apart none = copies.others tab apart key
        ∙ open_have held owned tab (ap (λ tabs. get tabs tab) (sym copies.tabs) ∙ none) key

    have : OpenHave (show rules number url before)
    have tab none key =
        let made : PlainTab = made_tab number (opened rules url) None None in
        at made tab key (tab == number) refl
        (ap (λ b. cond b (Some made) (tab_named tab before)) (sym (unsigned_tied tab number))
        ∙ sym (kept.get_changed nat_cmp nat_cmp_total nat_cmp-IsAntisymmetric before.tabs number (Some made) tab) ∙ none)
