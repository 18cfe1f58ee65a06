-- What a line makes of the agent: what it keeps afterwards, and that the line was run.
use Rattle.std.proofs.Common.{◌≡◌, ℕ, Bool, true, false, cond, List, [], Option, Some, None, Ok, Err, refl, sym, ap, subst, ◌∙◌}
use Rattle.std.specs.Prelude.{Result, pos}
use Rattle.std.specs.Result.{IsErr}
use Rattle.std.specs.FinMap as finite
use Rattle.unwinding.specs.Durable.{line_changes}
use Rattle.agent_base.specs.declared.refusals.Label.{Label}
use Rattle.agent_base.specs.declared.refusals.NoMemory.{NoMemory}
use Rattle.origin_site.specs.Address.{PlainAddress}
use Rattle.origin_site.specs.Site.{PlainSite, site_of_address}
use Rattle.frame_tree.specs.Tree.{top_site}
use Rattle.access_grants.specs.Grant.{PlainGrant}
use Rattle.live_state.specs.Queues.{frames_by}
use Rattle.live_state.specs.Tabs.{PlainTab, tab_at}
use Rattle.web_storage.specs.Stored.{Entries}
use Rattle.web_cookies.specs.Stored.{Entries as CookieEntries}
use Rattle.reply_lines.specs.declared.reply.Reply.{Reply}
use Rattle.script_actions.specs.declared.words.Method.{Method}
use Rattle.reply_lines.specs.Plain.{reply_of}
use Rattle.reply_lines.specs.Reply.{Now}
use Rattle.script_actions.specs.Action.{HeadField, PlainAction, DocumentAction, Tick, Close, Go, Evict, Act}
use Rattle.agent_model.specs.Partition.{Holdings}
use Rattle.agent_model.specs.Effects.{Done, answers, ok}
use Rattle.agent_model.specs.Buckets.{evict, without_evicted}
use Rattle.agent_model.specs.Sessions.{arrive, close}
use Rattle.agent_model.specs.SiteStep.{act_in}
use Rattle.agent_model.specs.Isolation.{printed}
use Rattle.agent_model.specs.Lines.{Places, Page, goer_of, is_same_site, placed, site_at}
use Rattle.agent_model.specs.Rest.{clock_after}
use Rattle.agent_memory.specs.AgentState.{AgentState, IsStanding, cells_in, held_in, places_in, world_of}
use Rattle.agent_model.specs.TheMachine.{machine}
use Rattle.one_store.specs.Store.{Step, acted, change_of, closed, done_with, gone, null_reply, site_reply, store_step}
use Rattle.agent_memory.specs.Lines.{Runs}
use Rattle.agent_memory.specs.Requests.{starter_by, starter_in}
use Rattle.agent_memory.proofs.OwnedLemmas.{no_copies, owned_shown, owned_closed, owned_evicted}
use Rattle.agent_memory.proofs.ActOwnedLemmas.{owned_acted}
use Rattle.agent_memory.proofs.StandingLemmas.{HasEvent, changes_are, changes_without_tab, open_is, placed_after, runs_done, runs_wanting, stands, stands_after, store_is, store_of, top_is, world_is}

-- the agent with other tabs, another storage, other cookies and other permissions
abbrev pub replaced : AgentState → List PlainTab → Entries → CookieEntries → List PlainGrant → AgentState
replaced state tabs entries cookies grants = record state { tabs = tabs; entries = entries; cookies = cookies; grants = grants }

-- a page of an open tab is one of the site that the tab is at
pub page_is : (old : AgentState) → IsStanding old → (number : ℕ) (tab : PlainTab) → tab_at number old.tabs ≡ Some tab
    → (site : PlainSite) → site_at number (places_in old.tabs) ≡ Some site → starter_in (Some number) old.tabs ≡ Page site
page_is old standing number tab found site place =
    ap starter_by (ap (λ t. top_site (frames_by t)) found ∙ top_is old number standing tab found ∙ place)

-- who starts a load that a page in this tab starts, or the user
abbrev pub by_tab : Bool → ℕ → Option ℕ
by_tab by_page number = cond by_page (Some number) None

module _ (old : AgentState) (standing : IsStanding old) where
  -- what is held before, and where the tabs are
  abbrev before : Holdings
  before = held_in old

  abbrev places : Places
  places = places_in old.tabs

  -- ---- memory was wanting

  module _ (tabs : List PlainTab) (entries : Entries) (cookies : CookieEntries) (grants : List PlainGrant)
      (there : places_in tabs ≡ places)
      (shared : cells_in (replaced old tabs entries cookies grants) ≡ cells_in old)
      (has : held_in (replaced old tabs entries cookies grants) ≡ before) where
    pub standing_stays : IsStanding (replaced old tabs entries cookies grants)
    standing_stays = stands (replaced old tabs entries cookies grants) places (cells_in old)
        before there shared has standing.in_time standing.placed_all standing.owned

    pub runs_stays : (action : PlainAction) → HasEvent action places → (result : Result Reply NoMemory)
        → IsErr result → Runs action old (replaced old tabs entries cookies grants) result
    unfolding world_of
    runs_stays action event (Ok reply) wanting = cc
    runs_stays action event (Err wanting) is =
        let new = replaced old tabs entries cookies grants in
        runs_wanting action old new refl wanting (world_is new places (cells_in old) before there shared has) event

  -- ---- an action in an open tab

  module _ (at : Label) (action : DocumentAction) (tab : PlainTab) (site : PlainSite)
      (found : tab_at at.tab old.tabs ≡ Some tab) (place : site_at at.tab places ≡ Some site) where
    abbrev done : Done
    done = act_in old.rules old.now site at action tab (cells_in old) before

    abbrev acts : Step
    acts = done_with (store_of old) (Act at action) site places done

    act_makes : store_step old.rules (store_of old) (Act at action) ≡ acts
    act_makes = λ i. acted old.rules (store_of old) (Act at action) at action (place i) (open_is old at.tab tab found i)

    pub changes_acted : line_changes (machine old.rules) (world_of old) (Act at action) ≡ change_of site done.changes
    changes_acted = changes_are (Act at action) old standing acts act_makes

    module _ (tabs : List PlainTab) (entries : Entries) (cookies : CookieEntries) (grants : List PlainGrant)
        (there : places_in tabs ≡ places)
        (shared : cells_in (replaced old tabs entries cookies grants) ≡ done.cells)
        (has : held_in (replaced old tabs entries cookies grants) ≡ done.held) where
      pub standing_acted : IsStanding (replaced old tabs entries cookies grants)
      standing_acted =
          let new = replaced old tabs entries cookies grants in
          let same = store_is new places done.cells done.held there shared has in
          stands_after (Act at action) old new refl standing acts act_makes same standing.in_time
          (owned_acted old.rules old.now site places (cells_in old)
          before standing.placed_all standing.owned at action tab (open_is old at.tab tab found)
          (placed_after (Act at action) old new refl standing acts act_makes same))

      pub runs_acted : (line : PlainAction) → line ≡ Act at action → (reply : Reply)
          → reply_of reply ≡ printed (site_reply site line done.body)
          → Runs line old (replaced old tabs entries cookies grants) (Ok reply)
      runs_acted line is reply replies =
          let new = replaced old tabs entries cookies grants in
          subst (λ line. Runs line old new (Ok reply)) (sym is)
          (runs_done (Act at action) old new refl standing acts act_makes
          (store_is new places done.cells done.held there shared has) reply
          (replies ∙ ap (λ line. printed (site_reply site line done.body)) is))

  -- ---- a closing

  module _ (number : ℕ) (site : PlainSite) (place : site_at number places ≡ Some site) where
    abbrev closes : Step
    closes = done_with (store_of old) (Close number) site (finite.remove places number)
        (answers ok (cells_in old) (close number before))

    close_makes : store_step old.rules (store_of old) (Close number) ≡ closes
    close_makes = ap (closed (store_of old) (Close number) number) place

    changes_closed : line_changes (machine old.rules) (world_of old) (Close number) ≡ []
    changes_closed = changes_are (Close number) old standing closes close_makes

    module _ (tabs : List PlainTab) (entries : Entries) (cookies : CookieEntries) (grants : List PlainGrant)
        (there : places_in tabs ≡ finite.remove places number)
        (shared : cells_in (replaced old tabs entries cookies grants) ≡ cells_in old)
        (has : held_in (replaced old tabs entries cookies grants) ≡ close number before) where
      pub standing_closed : IsStanding (replaced old tabs entries cookies grants)
      standing_closed =
          let new = replaced old tabs entries cookies grants in
          stands_after (Close number) old new refl standing closes close_makes
          (store_is new (finite.remove places number) (cells_in old) (close number before) there shared has)
          standing.in_time (owned_closed number before standing.owned)

      pub runs_closed : (reply : Reply) → reply_of reply ≡ printed (site_reply site (Close number) ok)
          → Runs (Close number) old (replaced old tabs entries cookies grants) (Ok reply)
      runs_closed reply replies =
          let new = replaced old tabs entries cookies grants in
          runs_done (Close number) old new refl standing closes close_makes
          (store_is new (finite.remove places number) (cells_in old) (close number before) there shared has) reply replies

  pub closes_none : (number : ℕ) → line_changes (machine old.rules) (world_of old) (Close number) ≡ []
  closes_none number = by (site_at number places) refl
    where
      by : (here : Option PlainSite) → site_at number places ≡ here
          → line_changes (machine old.rules) (world_of old) (Close number) ≡ []
      by None nowhere = changes_without_tab (Close number) old standing nowhere
      by (Some site) place = changes_closed number site place

  -- ---- a tab goes to an address

  module _ (number : ℕ) (url : PlainAddress) (by_page : Bool) (method : Method) (head : List HeadField)
      (tab : PlainTab) (found : tab_at number old.tabs ≡ Some tab)
      (site : PlainSite) (place : site_at number places ≡ Some site) where
    abbrev target : PlainSite
    target = site_of_address old.rules url

    abbrev line : PlainAction
    line = Go number url by_page method head

    starter_is : (by_page : Bool) → goer_of by_page site ≡ starter_in (by_tab by_page number) old.tabs
    starter_is false = refl
    starter_is true = sym (page_is old standing number tab found site place)

    -- what the load does, by who starts it
    abbrev arrived_by : Bool → Done
    arrived_by same_site = arrive old.rules old.now target number url method same_site head (cells_in old) before

    abbrev arrived : Done
    arrived = arrived_by (is_same_site (starter_in (by_tab by_page number) old.tabs) target)

    abbrev loads : Step
    loads = done_with (store_of old) line target (placed number target places) arrived

    go_makes : store_step old.rules (store_of old) line ≡ loads
    go_makes =
        ap (gone old.rules (store_of old) line number url by_page method head) place
        ∙ ap (λ starter. done_with (store_of old) line target (placed number target places)
        (arrived_by (is_same_site starter target))) (starter_is by_page)

    pub changes_gone : line_changes (machine old.rules) (world_of old) (Go number url by_page method head)
        ≡ change_of target arrived.changes
    changes_gone = changes_are line old standing loads go_makes

    module _ (tabs : List PlainTab) (entries : Entries) (cookies : CookieEntries) (grants : List PlainGrant)
        (there : places_in tabs ≡ placed number target places)
        (shared : cells_in (replaced old tabs entries cookies grants) ≡ arrived.cells)
        (has : held_in (replaced old tabs entries cookies grants) ≡ arrived.held) where
      pub standing_gone : IsStanding (replaced old tabs entries cookies grants)
      standing_gone =
          let new = replaced old tabs entries cookies grants in
          stands_after line old new refl standing loads go_makes
          (store_is new (placed number target places) loads.store.cells loads.store.held there shared has) standing.in_time
          (owned_shown old.rules number url before before standing.owned (no_copies number before))

      pub runs_gone : (reply : Reply) → reply_of reply ≡ printed loads.reply
          → Runs line old (replaced old tabs entries cookies grants) (Ok reply)
      runs_gone reply replies =
          let new = replaced old tabs entries cookies grants in
          runs_done line old new refl standing loads go_makes
          (store_is new (placed number target places) loads.store.cells loads.store.held there shared has) reply replies

  -- ---- an eviction

  module _ (site : PlainSite) where
    abbrev evicts : Step
    evicts = done_with (store_of old) (Evict site) site places (evict site (cells_in old) before)

    pub changes_evicted : line_changes (machine old.rules) (world_of old) (Evict site)
        ≡ change_of site (evict site (cells_in old) before).changes
    changes_evicted = changes_are (Evict site) old standing evicts refl

    module _ (tabs : List PlainTab) (entries : Entries) (cookies : CookieEntries) (grants : List PlainGrant)
        (there : places_in tabs ≡ places)
        (shared : cells_in (replaced old tabs entries cookies grants) ≡ cells_in old)
        (has : held_in (replaced old tabs entries cookies grants) ≡ without_evicted site before) where
      pub standing_evicted : IsStanding (replaced old tabs entries cookies grants)
      standing_evicted =
          let new = replaced old tabs entries cookies grants in
          stands_after (Evict site) old new refl standing evicts refl
          (store_is new places (cells_in old) (without_evicted site before) there shared has) standing.in_time
          (owned_evicted site before standing.owned)

      pub runs_evicted : (reply : Reply) → reply_of reply ≡ printed evicts.reply
          → Runs (Evict site) old (replaced old tabs entries cookies grants) (Ok reply)
      runs_evicted reply replies =
          let new = replaced old tabs entries cookies grants in
          runs_done (Evict site) old new refl standing evicts refl
          (store_is new places (cells_in old) (without_evicted site before) there shared has) reply replies

-- ---- memory was wanting before anything was done

pub runs_unchanged : (old : AgentState) (action : PlainAction) → HasEvent action (places_in old.tabs)
    → (result : Result Reply NoMemory) → IsErr result → Runs action old old result
runs_unchanged old action event (Ok reply) wanting = cc
runs_unchanged old action event (Err wanting) is = runs_wanting action old old refl wanting refl event

-- ---- a tick

module _ (old : AgentState) (standing : IsStanding old) (s : ℕ) where
  abbrev ticked : AgentState
  ticked = record old { now = clock_after old.now s }

  abbrev ticks : Step
  ticks = record { store = store_of ticked; reply = null_reply (Tick s) (Now (pos (clock_after old.now s))); changes = [] }

  pub changes_ticked : line_changes (machine old.rules) (world_of old) (Tick s) ≡ []
  changes_ticked = changes_are (Tick s) old standing ticks refl

  pub runs_ticked : (reply : Reply) → reply_of reply ≡ printed ticks.reply → Runs (Tick s) old ticked (Ok reply)
  runs_ticked reply replies = runs_done (Tick s) old ticked refl standing ticks refl refl reply replies
