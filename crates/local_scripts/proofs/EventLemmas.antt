-- The main event of each kind of line, and the one beside it.
use Rattle.std.proofs.Common.{◌≡◌, ℕ, Bool, true, false, List, map, Option, Some, None, Box, Vec, Global, refl, sym, ap, ◌∙◌}
use Rattle.std.specs.Prelude.{is_some, option_and_then, option_map, option_to_list, string_bytes, if◌then◌else◌}
use Rattle.suffix_list.specs.Suffix.{Rule}
use Rattle.agent_base.specs.declared.refusals.Label.{Label}
use Rattle.origin_site.specs.Address.{PlainAddress}
use Rattle.origin_site.specs.Plain.{plain_site}
use Rattle.origin_site.specs.declared.address.Address.{Address}
use Rattle.script_actions.specs.Plain.{action_of}
use Rattle.script_actions.specs.declared.action.Action.{Action}
use Rattle.script_actions.specs.declared.action.Action.TheVariants as action
use Rattle.script_actions.specs.declared.action.HeadField.{HeadField as Field}
use Rattle.origin_site.specs.Site.{PlainSite}
use Rattle.origin_site.proofs.SameLemmas.{same_plain_site-Decides}
use Rattle.storage_key.specs.Context.{is_of}
use Rattle.frame_tree.specs.Tree.{PlainFrame, top_site}
use Rattle.live_state.specs.Tabs.{PlainTab, tab_at}
use Rattle.script_actions.specs.declared.words.Method.{Method}
use Rattle.script_actions.specs.Action.{Act, Close, DocumentAction, Evict, Go, HeadField, Open, PlainAction, Tick}
use Rattle.agent_model.specs.Consults.{names_at, names_in}
use Rattle.agent_model.specs.Lines.{AgentWorld, Page, Starter, goer_of, going, main_event, occurs, opener_of, opening, site_at, timed}
use Rattle.agent_model.specs.SideEvents.{side_event}
use Rattle.agent_model.specs.SiteEvent.{Acts, Arrives, Closes, Evicts, Goes, Opens}
use Rattle.local_scripts.specs.Items.{event_of}
use Rattle.local_scripts.specs.declared.site_event.SiteEvent.{SiteEvent}
use Rattle.local_scripts.specs.Events.{IsArrival, IsMain, IsSide, ShowsTabs, cells_of, page_of, place_in, starter_in}
use Rattle.local_scripts.specs.Sides.{ClosesSide, CopiesSide, LeavesSide, has_side}
use Rattle.local_scripts.specs.declared.main_events.MainEvent.{MainEvent}

-- ---- the open tabs

-- a tab that was found, with its frames
pub record IsShown (tabs : List PlainTab) (number : ℕ) (frames : List PlainFrame) : Type 0 where
  pub tab : PlainTab
  pub there : tab_at number tabs ≡ Some tab
  pub same : tab.frames ≡ frames

pub shown_is : (tabs : List PlainTab) (number : ℕ) (frames : List PlainFrame)
    → Some frames ≡ option_map (λ t. t.frames) (tab_at number tabs) → IsShown tabs number frames
shown_is tabs number frames shown = by (tab_at number tabs) refl shown
  where
    by : (found : Option PlainTab) → tab_at number tabs ≡ found
        → Some frames ≡ option_map (λ t. t.frames) found → IsShown tabs number frames
    by None there is = absurd (cc is)
    by (Some tab) there is = record { tab = tab; there = there; same = cc is }

pub place_shown : (tabs : List PlainTab) (number : ℕ) (frames : List PlainFrame) (site : PlainSite)
    → Some frames ≡ option_map (λ t. t.frames) (tab_at number tabs)
    → top_site frames ≡ Some site → place_in tabs number ≡ Some site
place_shown tabs number frames site shown top =
    let found = shown_is tabs number frames shown in
    ap (option_and_then (λ tab. top_site tab.frames)) found.there ∙ ap top_site found.same ∙ top

pub place_none : (tabs : List PlainTab) (number : ℕ) → None ≡ option_map (λ t. t.frames) (tab_at number tabs)
    → place_in tabs number ≡ None
place_none tabs number shown = by (tab_at number tabs) shown
  where
    by : (found : Option PlainTab) → None ≡ option_map (λ t. t.frames) found
        → option_and_then (λ tab. top_site tab.frames) found ≡ None
    by None is = refl
    by (Some tab) is = absurd (cc is)

-- a domain that was copied
pub owned_is : {A B : Type 0} (f : A → List ℕ) (g : B → List ℕ) (a : Option A) (b : Option B) → option_map f a ≡ option_map g b
    → map f (option_to_list a) ≡ map g (option_to_list b)
owned_is f g a b same = listed f a ∙ ap option_to_list same ∙ sym (listed g b)
  where
    listed : {A : Type 0} (f : A → List ℕ) (a : Option A) → map f (option_to_list a) ≡ option_to_list (option_map f a)
    listed f None = refl
    listed f (Some a) = refl

-- a place that was found
pub some_seen : {A B : Type 0} (f : A → B) (r : Option A) (place : Option B) → option_map f r ≡ place → is_some place ≡ is_some r
some_seen f r place is = sym (ap is_some is) ∙ by f r
  where
    by : {A B : Type 0} (f : A → B) (r : Option A) → is_some (option_map f r) ≡ is_some r
    by f None = refl
    by f (Some a) = refl

there_is : {A : Type 0} (found : Option A) → is_some found ≡ false → found ≡ None
there_is None is = refl
there_is (Some a) is = absurd (cc is)

is_there : (site : PlainSite) → is_of site (Some site) ≡ true
is_there site = (same_plain_site-Decides site site).1 refl

-- ---- lines

-- a line that is none of three kinds has no event beside the main one
pub no_side_of : (line : Action) → ((tab : ℕ) (url : Box Address Global) (opener : Option ℕ) (noopener : Bool)
    (method : Method) (head : Vec Field Global)
    → line ≡ action.Open tab url opener noopener method head → ⊥) → ((tab : ℕ) → line ≡ action.Close tab → ⊥)
    → ((tab : ℕ) (url : Box Address Global) (by_page : Bool) (method : Method) (head : Vec Field Global)
    → line ≡ action.Go tab url by_page method head → ⊥)
    → has_side (action_of line) ≡ false
no_side_of (action.Open tab url opener noopener method head) opens closes goes =
    absurd (opens tab url opener noopener method head refl)
no_side_of (action.Close tab) opens closes goes = absurd (closes tab refl)
no_side_of (action.Go tab url by_page method head) opens closes goes = absurd (goes tab url by_page method head refl)
no_side_of line opens closes goes = refl

-- ---- main events

module _ (rules : List Rule) (tabs : List PlainTab) where
  pub ticking : (s : ℕ) → IsMain rules tabs (Tick s) None
  unfolding main_event
  ticking s world shows = refl

  pub evicting : (named : PlainSite) (found : MainEvent) → plain_site found.site ≡ named → found.domain ≡ None
      → IsMain rules tabs (Evict named) (Some found)
  unfolding main_event
  evicting named found same none = record {
    event = λ world shows. ap (λ site. Some (occurs world Evicts site)) (sym same);
    cells = λ own site has. ap (λ d. map string_bytes (option_to_list d)) (sym none);
  }

  pub closing_none : (tab : ℕ) → place_in tabs tab ≡ None → IsMain rules tabs (Close tab) None
  unfolding main_event
  closing_none tab none world shows = ap (option_map (occurs world (Closes tab))) (shows.places tab ∙ none)

  pub closing : (tab : ℕ) (found : MainEvent) → place_in tabs tab ≡ Some (plain_site found.site)
      → found.domain ≡ None → IsMain rules tabs (Close tab) (Some found)
  unfolding main_event
  closing tab found there none = record {
    event = λ world shows. ap (option_map (occurs world (Closes tab))) (shows.places tab ∙ there);
    cells = λ own site has. ap (λ d. map string_bytes (option_to_list d)) (sym none);
  }

  pub acting_none : (at : Label) (done : DocumentAction) → place_in tabs at.tab ≡ None → IsMain rules tabs (Act at done) None
  unfolding main_event
  acting_none at done none world shows = ap (option_map (occurs world (Acts at done))) (shows.places at.tab ∙ none)

  pub acting : (at : Label) (done : DocumentAction) (found : MainEvent) (shown : PlainTab) → tab_at at.tab tabs ≡ Some shown
      → top_site shown.frames ≡ Some (plain_site found.site)
      → ((site : PlainSite) → names_in rules site at done shown ≡ cells_of found)
      → IsMain rules tabs (Act at done) (Some found)
  unfolding main_event
  acting at done found shown open_tab top names =
      let place : place_in tabs at.tab ≡ Some (plain_site found.site) =
      ap (option_and_then (λ tab. top_site tab.frames)) open_tab ∙ top in
      record {
        event = λ world shows. ap (option_map (occurs world (Acts at done))) (shows.places at.tab ∙ place);
        cells = λ own site has.
            ap (names_at rules own.site at done)
            (has at.tab
            ∙ ap (λ b. if b then tab_at at.tab tabs else None)
            (ap (is_of own.site) (place ∙ ap Some (sym site)) ∙ is_there own.site)
            ∙ open_tab)
            ∙ names own.site;
      }

  -- ---- loads of top documents

  starter_seen : (world : AgentWorld) → ShowsTabs tabs world → (opener : Option ℕ)
      → opener_of opener world.rest.places ≡ starter_in tabs opener
  starter_seen world shows None = refl
  starter_seen world shows (Some opener) = ap (option_map Page) (shows.places opener)

  opens : (world : AgentWorld) (tab : ℕ) (url : PlainAddress) (method : Method) (head : List HeadField)
      (starter : Option Starter) (here : Option PlainSite)
      → is_some here ≡ true → opening rules world tab url method head starter here ≡ None
  opens world tab url method head None here taken = refl
  opens world tab url method head (Some starter) None taken = absurd (cc taken)
  opens world tab url method head (Some starter) (Some site) taken = refl

  pub opening_taken : (tab : ℕ) (url : PlainAddress) (opener : Option ℕ) (noopener : Bool) (method : Method)
      (head : List HeadField)
      → is_some (place_in tabs tab) ≡ true → IsMain rules tabs (Open tab url opener noopener method head) None
  unfolding main_event
  opening_taken tab url opener noopener method head taken world shows =
      opens world tab url method head (opener_of opener world.rest.places) (site_at tab world.rest.places)
      (ap is_some (shows.places tab) ∙ taken)

  pub opening_none : (tab : ℕ) (url : PlainAddress) (opener : Option ℕ) (noopener : Bool) (method : Method)
      (head : List HeadField)
      → is_some (starter_in tabs opener) ≡ false → IsMain rules tabs (Open tab url opener noopener method head) None
  unfolding main_event
  opening_none tab url opener noopener method head missing world shows =
      ap (λ starter. opening rules world tab url method head starter (site_at tab world.rest.places))
      (starter_seen world shows opener ∙ there_is (starter_in tabs opener) missing)

  pub opening_is : (tab : ℕ) (url : PlainAddress) (opener : Option ℕ) (noopener : Bool) (method : Method)
      (head : List HeadField) (found : MainEvent)
      → is_some (place_in tabs tab) ≡ false → is_some (starter_in tabs opener) ≡ true → IsArrival rules tabs url opener found
      → IsMain rules tabs (Open tab url opener noopener method head) (Some found)
  unfolding main_event
  opening_is tab url opener noopener method head found free there arrival = record {
    event = λ world shows. by world shows (starter_in tabs opener) refl there;
    cells = λ own site has. sym arrival.cells;
  }
    where
      by : (world : AgentWorld) → ShowsTabs tabs world → (starter : Option Starter)
          → starter_in tabs opener ≡ starter → is_some starter ≡ true
          → opening rules world tab url method head (opener_of opener world.rest.places) (site_at tab world.rest.places)
          ≡ Some (occurs world (Arrives Opens tab url method found.same_site head) (plain_site found.site))
      by world shows None is there = absurd (cc there)
      by world shows (Some who) is there =
          (λ i. opening rules world tab url method head ((starter_seen world shows opener ∙ is) i)
          ((shows.places tab ∙ there_is (place_in tabs tab) free) i))
          ∙ (λ i. Some (occurs world (Arrives Opens tab url method (sym (arrival.same_site who is) i) head) (sym arrival.site i)))

  pub going_none : (tab : ℕ) (url : PlainAddress) (by_page : Bool) (method : Method) (head : List HeadField)
      → is_some (place_in tabs tab) ≡ false → IsMain rules tabs (Go tab url by_page method head) None
  unfolding main_event
  going_none tab url by_page method head missing world shows =
      ap (going rules world tab url by_page method head) (shows.places tab ∙ there_is (place_in tabs tab) missing)

  pub going_is : (tab : ℕ) (url : PlainAddress) (by_page : Bool) (method : Method) (head : List HeadField) (found : MainEvent)
      → is_some (place_in tabs tab) ≡ true → IsArrival rules tabs url (page_of tab by_page) found
      → IsMain rules tabs (Go tab url by_page method head) (Some found)
  unfolding main_event
  going_is tab url by_page method head found there arrival = record {
    event = λ world shows. by world shows (place_in tabs tab) refl there;
    cells = λ own site has. sym arrival.cells;
  }
    where
      goer : (here : PlainSite) → place_in tabs tab ≡ Some here → (b : Bool)
          → starter_in tabs (page_of tab b) ≡ Some (goer_of b here)
      goer here is true = ap (option_map Page) is
      goer here is false = refl

      by : (world : AgentWorld) → ShowsTabs tabs world → (place : Option PlainSite)
          → place_in tabs tab ≡ place → is_some place ≡ true
          → going rules world tab url by_page method head (site_at tab world.rest.places)
          ≡ Some (occurs world (Arrives Goes tab url method found.same_site head) (plain_site found.site))
      by world shows None is there = absurd (cc there)
      by world shows (Some here) is there =
          ap (going rules world tab url by_page method head) (shows.places tab ∙ is)
          ∙ (λ i. Some (occurs world (Arrives Goes tab url method
          (sym (arrival.same_site (goer_of by_page here) (goer here is by_page)) i) head) (sym arrival.site i)))

-- ---- events beside the main one

module _ (rules : List Rule) (tabs : List PlainTab) (site : PlainSite) (areas : Bool) (found : Option SiteEvent) where
  pub opening_side : (tab : ℕ) (url : PlainAddress) (opener : Option ℕ) (noopener : Bool) (method : Method)
      (head : List HeadField)
      → CopiesSide tabs tab opener noopener site found
      → IsSide rules tabs (Open tab url opener noopener method head) site areas found
  unfolding side_event
  opening_side tab url opener noopener method head told world shows has = told world shows

  pub going_side : (tab : ℕ) (url : PlainAddress) (by_page : Bool) (method : Method) (head : List HeadField)
      → LeavesSide rules tabs tab url site found → IsSide rules tabs (Go tab url by_page method head) site areas found
  unfolding side_event
  going_side tab url by_page method head told world shows has = told world shows

  pub closing_side : (tab : ℕ) → ClosesSide tabs tab site areas found → IsSide rules tabs (Close tab) site areas found
  unfolding side_event
  closing_side tab told world shows has = told world shows has

  -- a document's line, and one that moves the clock or evicts, has none
  pub no_side : (action : PlainAction) → has_side action ≡ false → found ≡ None → IsSide rules tabs action site areas found
  unfolding side_event
  no_side (Tick s) none missing world shows has = ap (λ f. option_map (timed world) (option_map event_of f)) (sym missing)
  no_side (Open tab url opener noopener method head) none missing world shows has = absurd (cc none)
  no_side (Close tab) none missing world shows has = absurd (cc none)
  no_side (Go tab url by_page method head) none missing world shows has = absurd (cc none)
  no_side (Evict named) none missing world shows has = ap (λ f. option_map (timed world) (option_map event_of f)) (sym missing)
  no_side (Act at done) none missing world shows has = ap (λ f. option_map (timed world) (option_map event_of f)) (sym missing)
