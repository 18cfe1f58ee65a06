-- The world that the agent stands for, and what it keeps, as a store of all sites that a line makes another.
use Rattle.std.proofs.Common.{◌≡◌, ◌≤◌, ℕ, true, false, List, [], Option, Some, None, Ok, Err, refl, sym, ap, subst, ◌∙◌}
use Rattle.std.specs.Prelude.{Bool, Result, codes, is_some, option_map}
use Rattle.std.specs.FinMap as finite
use Rattle.unwinding.specs.Durable.{line_changes}
use Rattle.agent_base.specs.declared.refusals.NoMemory.{NoMemory}
use Rattle.origin_site.specs.Site.{PlainSite}
use Rattle.frame_tree.specs.Tree.{top_site}
use Rattle.live_state.specs.Tabs.{PlainTab, is_open, tab_at}
use Rattle.web_storage.specs.Stored.{held_with}
use Rattle.reply_lines.specs.declared.reply.Reply.{Reply}
use Rattle.reply_lines.specs.Plain.{reply_of}
use Rattle.reply_lines.specs.Reply.{PlainBody, Plain}
use Rattle.script_actions.specs.Action.{HeadField, PlainAction, Tick, Open, Close, Go, Evict, Act}
use Rattle.agent_model.specs.Partition.{Holdings, session_order, tab_named}
use Rattle.agent_model.specs.Effects.{SharedCells}
use Rattle.script_actions.specs.ActionNames.{action_name}
use Rattle.agent_model.specs.Isolation.{printed}
use Rattle.suffix_list.specs.Suffix.{Rule}
use Rattle.origin_site.specs.Address.{PlainAddress}
use Rattle.script_actions.specs.declared.words.Method.{Method}
use Rattle.agent_model.specs.SiteEvent.{SiteEvent, Acts, Closes}
use Rattle.agent_model.specs.Lines.{AgentWorld, Places, Starter, going, main_event, occurs, opener_of, opening, site_at}
use Rattle.agent_base.specs.Seconds.{last_moment}
use Rattle.agent_model.specs.TheMachine.{machine}
use Rattle.one_store.specs.WholeWorld.{IsPlaced, IsPlacedAt, whole_world}
use Rattle.one_store.specs.Store.{Step, Store, acted, closed, gone, refuses, site_reply, store_step}
use Rattle.one_store.specs.Refinement.{IsStep}
use Rattle.one_store.specs.Refinement as refinement
use Rattle.one_store.proofs.PlacedLemmas.{at_its_top, open_tab, site_of_tab}
use Rattle.one_store.proofs.RefinementLemmas.{are_steps}
use Rattle.agent_memory.specs.AgentState.{AgentState, AreOwned, IsStanding, cells_in, held_in, places_in, world_of}
use Rattle.agent_memory.specs.Lines.{Runs}
use Rattle.agent_memory.proofs.LiveLemmas.{site_found, site_of, tab_found}
use Rattle.agent_memory.proofs.OwnedLemmas.{none_tested}

-- ---- the store

-- what the agent has, as one store of all sites
abbrev pub store_of : AgentState → Store
store_of state = record { now = state.now; places = places_in state.tabs; cells = cells_in state; held = held_in state }

-- what it holds, told otherwise
module _ (state : AgentState) (places : Places) (cells : SharedCells) (held : Holdings) (there : places_in state.tabs ≡ places)
    (shared : cells_in state ≡ cells) (has : held_in state ≡ held) where
  pub store_is : store_of state ≡ record { now = state.now; places = places; cells = cells; held = held }
  store_is = λ i. record { now = state.now; places = there i; cells = shared i; held = has i }

  -- what it keeps
  pub stands : state.now ≤ last_moment → IsPlaced places held → AreOwned held → IsStanding state
  stands in_time placed_all owned =
      record {
        in_time = in_time;
        placed_all = subst (λ p. IsPlaced p (held_in state)) (sym there) (subst (IsPlaced places) (sym has) placed_all);
        owned = subst AreOwned (sym has) owned;
      }

  -- and its world
  pub world_is : world_of state ≡ whole_world state.now places cells held
  unfolding world_of
  world_is = λ i. whole_world state.now (there i) (shared i) (has i)

-- ---- the tabs

-- what a test says of a tab
pub tab_there : (number : ℕ) (tabs : List PlainTab) → is_open number tabs ≡ true
    → (tab : PlainTab) × (tab_at number tabs ≡ Some tab)
tab_there number tabs is = at (tab_at number tabs) refl is
  where
    at : (found : Option PlainTab) → tab_at number tabs ≡ found → is_some found ≡ true
        → (tab : PlainTab) × (tab_at number tabs ≡ Some tab)
    at None there shown = cc
    at (Some tab) there shown = (tab, there)

pub tab_absent : (number : ℕ) (tabs : List PlainTab) → is_open number tabs ≡ false → tab_at number tabs ≡ None
tab_absent number tabs is = at (tab_at number tabs) is
  where
    at : (found : Option PlainTab) → is_some found ≡ false → found ≡ None
    at None shown = refl
    at (Some tab) shown = cc

-- a tab that is not open is nowhere
pub nowhere_is : (number : ℕ) (tabs : List PlainTab) → is_open number tabs ≡ false → site_at number (places_in tabs) ≡ None
nowhere_is number tabs is = site_found number tabs ∙ ap site_of (tab_absent number tabs is)

module _ (state : AgentState) (number : ℕ) where
  -- a tab in the list is one that is held
  pub tab_is : tab_named number (held_in state) ≡ tab_at number state.tabs
  unfolding held_with
  tab_is = tab_found number state.tabs

  pub open_is : (tab : PlainTab) → tab_at number state.tabs ≡ Some tab → tab_named number (held_in state) ≡ Some tab
  open_is tab is = tab_is ∙ is

  pub closed_is : tab_at number state.tabs ≡ None → tab_named number (held_in state) ≡ None
  closed_is is = tab_is ∙ is

  -- it is at the site of its top document
  pub top_is : IsStanding state → (tab : PlainTab) → tab_at number state.tabs ≡ Some tab
      → top_site tab.frames ≡ site_at number (places_in state.tabs)
  top_is standing tab is = (at_its_top (places_in state.tabs) (held_in state) standing.placed_all number tab (open_is tab is)).1

  -- it is at a site
  pub place_is : IsStanding state → (tab : PlainTab) → tab_at number state.tabs ≡ Some tab
      → (site : PlainSite) × (site_at number (places_in state.tabs) ≡ Some site)
  place_is standing tab is = site_of_tab (places_in state.tabs) (held_in state) standing.placed_all number tab (open_is tab is)

  -- a tab that is at a site is open
  pub shown_is : IsStanding state → (site : PlainSite) → site_at number (places_in state.tabs) ≡ Some site
      → (tab : PlainTab) × (tab_at number state.tabs ≡ Some tab)
  shown_is standing site place =
      let found = open_tab (places_in state.tabs) (held_in state) standing.placed_all number site place in
      (found.0, sym tab_is ∙ found.1)

-- no tab is open, and no session area is held
pub stands_alone : (state : AgentState) → state.tabs ≡ [] → state.now ≤ last_moment
    → (held_in state).sessions ≡ finite.empty → IsStanding state
stands_alone state none in_time sessions =
    record {
      in_time = in_time;
      placed_all = λ number. subst (IsPlacedAt (site_at number (places_in state.tabs)))
          (sym (tab_is state number ∙ ap (tab_at number) none)) (nowhere_is number state.tabs (ap (is_open number) none));
      owned = λ number absent. none_tested number (held_in state)
          (λ key. ap (λ areas. finite.get areas (number, key)) sessions ∙ finite.get-empty session_order (number, key));
    }

-- ---- a line that is an event of a site

-- what a line finds that has a main event
abbrev pub HasEvent : PlainAction → Places → Type 0
HasEvent (Tick s) places = ⊥
HasEvent (Open tab url opener noopener method head) places =
    (is_some (opener_of opener places) ≡ true) × (site_at tab places ≡ None)
HasEvent (Close tab) places = is_some (site_at tab places) ≡ true
HasEvent (Go tab url by_page method head) places = is_some (site_at tab places) ≡ true
HasEvent (Evict site) places = Unit {0}
HasEvent (Act at action) places = is_some (site_at at.tab places) ≡ true

some_occurs : (world : AgentWorld) (event : SiteEvent) (here : Option PlainSite) → is_some here ≡ true
    → option_map (occurs world event) here ≡ None → ⊥
some_occurs world event None there none = cc
some_occurs world event (Some site) there none = cc

some_opens : (rules : List Rule) (world : AgentWorld) (tab : ℕ) (url : PlainAddress) (method : Method)
    (head : List HeadField) (starter : Option Starter) (here : Option PlainSite)
    → is_some starter ≡ true → here ≡ None → opening rules world tab url method head starter here ≡ None → ⊥
some_opens rules world tab url method head None here there free none = cc
some_opens rules world tab url method head (Some starter) None there free none = cc
some_opens rules world tab url method head (Some starter) (Some site) there free none = cc

some_goes : (rules : List Rule) (world : AgentWorld) (tab : ℕ) (url : PlainAddress) (by_page : Bool)
    (method : Method) (head : List HeadField) (here : Option PlainSite)
    → is_some here ≡ true → going rules world tab url by_page method head here ≡ None → ⊥
some_goes rules world tab url by_page method head None there none = cc
some_goes rules world tab url by_page method head (Some site) there none = cc

-- it is not refused
pub not_refused : (state : AgentState) (action : PlainAction) → HasEvent action (places_in state.tabs)
    → main_event state.rules (world_of state) action ≡ None → ⊥
unfolding main_event world_of whole_world
not_refused state (Tick s) event none = absurd event
not_refused state (Open tab url opener noopener method head) event none =
    some_opens state.rules (world_of state) tab url method head (opener_of opener (places_in state.tabs))
    (site_at tab (places_in state.tabs)) event.0 event.1 none
not_refused state (Close tab) event none = some_occurs (world_of state) (Closes tab)
    (site_at tab (places_in state.tabs)) event none
not_refused state (Go tab url by_page method head) event none =
    some_goes state.rules (world_of state) tab url by_page method head (site_at tab (places_in state.tabs)) event none
not_refused state (Evict site) event none = cc
not_refused state (Act at action) event none = some_occurs (world_of state) (Acts at action)
    (site_at at.tab (places_in state.tabs)) event none

-- ---- a line was run

-- what it makes of the store
module _ (action : PlainAction) (old : AgentState) (standing : IsStanding old) (step : Step)
    (makes : store_step old.rules (store_of old) action ≡ step) where
  made : IsStep old.rules (store_of old) action step
  made = subst (IsStep old.rules (store_of old) action) makes (are_steps old.rules (store_of old) action standing.placed_all)

  -- its durable change is that of the store
  pub changes_are : line_changes (machine old.rules) (world_of old) action ≡ step.changes
  unfolding world_of
  changes_are = made.changes

-- a reply of a site, whose site and answer are told otherwise
pub reply_as : (action : PlainAction) (reply : Reply) {here there : PlainSite} {answer body : PlainBody}
    → reply_of reply ≡ record { name = action_name action; site = Some here; body = answer } → here ≡ there → answer ≡ body
    → reply_of reply ≡ printed (site_reply there action body)
reply_as action reply is same says = is ∙ λ i. record { name = action_name action; site = Some (same i); body = says i }

-- the agent's state, told otherwise
pub runs_from : {action : PlainAction} {old seen new : AgentState} {result : Result Reply NoMemory}
    → old ≡ seen → Runs action old new result → Runs action seen new result
runs_from {action} {new = new} {result = result} same runs = subst (λ o. Runs action o new result) same runs

pub runs_still : {action : PlainAction} {old seen : AgentState} {result : Result Reply NoMemory} → old ≡ seen
    → Runs action old old result → Runs action seen seen result
runs_still {action} {result = result} same runs = subst (λ o. Runs action o o result) same runs

module _ (action : PlainAction) (old new : AgentState) (rules : new.rules ≡ old.rules) where
  -- what the line makes of the store is what the agent has
  module _ (standing : IsStanding old) (step : Step)
      (makes : store_step old.rules (store_of old) action ≡ step) (same : store_of new ≡ step.store) where
    done : IsStep old.rules (store_of old) action step
    done = made action old standing step makes

    -- so each tab is where its top document is
    pub placed_after : IsPlaced step.store.places step.store.held
    placed_after = done.places

    pub stands_after : new.now ≤ last_moment → AreOwned step.store.held → IsStanding new
    stands_after in_time owned =
        record {
          in_time = in_time;
          placed_all = subst (λ (s : Store). IsPlaced s.places s.held) (sym same) done.places;
          owned = subst (λ (s : Store). AreOwned s.held) (sym same) owned;
        }

    -- and the world is the next one
    pub runs_done : (reply : Reply) → reply_of reply ≡ printed step.reply → Runs action old new (Ok reply)
    unfolding world_of
    runs_done reply is =
        record {
          reply = is ∙ ap printed (sym done.reply);
          world =
              ap refinement.world_of same ∙ sym done.world;
          rules = rules;
          unchanged = tt;
          refused = λ none. refl;
        }

  -- memory was wanting
  pub runs_wanting : (wanting : NoMemory) → world_of new ≡ world_of old → HasEvent action (places_in old.tabs)
      → Runs action old new (Err wanting)
  runs_wanting wanting world event =
      record {
        reply = tt;
        world = tt;
        rules = rules;
        unchanged =
            world;
        refused = λ none. absurd (not_refused old action event none);
      }

-- ---- the line was refused, and all stays

-- a line needs a tab that is nowhere
abbrev pub NeedsTab : PlainAction → Places → Type 0
NeedsTab (Tick s) places = ⊥
NeedsTab (Open tab url opener noopener method head) places = ⊥
NeedsTab (Close tab) places = site_at tab places ≡ None
NeedsTab (Go tab url by_page method head) places = site_at tab places ≡ None
NeedsTab (Evict site) places = ⊥
NeedsTab (Act at action) places = site_at at.tab places ≡ None

no_tab_makes : (state : AgentState) (action : PlainAction) → NeedsTab action (places_in state.tabs)
    → store_step state.rules (store_of state) action ≡ refuses (store_of state) action (Plain (codes "no-tab"))
no_tab_makes state (Tick s) needs = absurd needs
no_tab_makes state (Open tab url opener noopener method head) needs = absurd needs
no_tab_makes state (Close tab) needs = ap (closed (store_of state) (Close tab) tab) needs
no_tab_makes state (Go tab url by_page method head) needs =
    ap (gone state.rules (store_of state) (Go tab url by_page method head) tab url by_page method head) needs
no_tab_makes state (Evict site) needs = absurd needs
no_tab_makes state (Act at action) needs =
    ap (λ here. acted state.rules (store_of state) (Act at action) at action here (tab_named at.tab (held_in state))) needs

module _ (action : PlainAction) (state : AgentState) (standing : IsStanding state) where
  pub runs_refused : (body : PlainBody) → store_step state.rules (store_of state) action ≡ refuses (store_of state) action body
      → (reply : Reply) → reply_of reply ≡ record { name = action_name action; site = None; body = body }
      → Runs action state state (Ok reply)
  runs_refused body makes reply is = runs_done action state state refl standing
      (refuses (store_of state) action body) makes refl reply is

  pub changes_without_tab : NeedsTab action (places_in state.tabs)
      → line_changes (machine state.rules) (world_of state) action ≡ []
  changes_without_tab needs = changes_are action state standing
      (refuses (store_of state) action (Plain (codes "no-tab"))) (no_tab_makes state action needs)

  -- as no tab of its number is open
  pub runs_without_tab : (reply : Reply) → NeedsTab action (places_in state.tabs)
      → reply_of reply ≡ record { name = action_name action; site = None; body = Plain (codes "no-tab") }
      → Runs action state state (Ok reply)
  runs_without_tab reply needs is = runs_refused (Plain (codes "no-tab")) (no_tab_makes state action needs) reply is
