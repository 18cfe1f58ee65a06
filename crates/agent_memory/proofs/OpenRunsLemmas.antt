-- What an `open` makes of the agent, and what it is refused for.
use Rattle.std.proofs.Common.{◌≡◌, ℕ, Bool, true, false, cond, List, [], Option, Some, None, Ok, refl, sym, ap, subst, ◌∙◌}
use Rattle.std.specs.Prelude.{codes, option_map}
use Rattle.unwinding.specs.Durable.{line_changes}
use Rattle.origin_site.specs.Address.{PlainAddress}
use Rattle.origin_site.specs.Site.{PlainSite, site_of_address}
use Rattle.frame_tree.specs.Tree.{top_site}
use Rattle.access_grants.specs.Grant.{PlainGrant}
use Rattle.live_state.specs.Queues.{frames_by}
use Rattle.live_state.specs.Tabs.{PlainTab, is_open, tab_at}
use Rattle.web_storage.specs.Stored.{Entries}
use Rattle.web_cookies.specs.Stored.{Entries as CookieEntries}
use Rattle.reply_lines.specs.declared.reply.Reply.{Reply}
use Rattle.script_actions.specs.declared.words.Method.{Method}
use Rattle.reply_lines.specs.Plain.{reply_of}
use Rattle.reply_lines.specs.Reply.{Plain}
use Rattle.script_actions.specs.Action.{HeadField, PlainAction, Open}
use Rattle.script_actions.specs.ActionNames.{action_name}
use Rattle.agent_model.specs.Effects.{Done}
use Rattle.agent_model.specs.Partition.{Holdings}
use Rattle.agent_model.specs.Sessions.{arrive, has_session}
use Rattle.agent_model.specs.Isolation.{printed}
use Rattle.agent_model.specs.Lines.{Places, Starter, Page, is_same_site, opener_of, placed, site_at}
use Rattle.agent_model.specs.TheMachine.{machine}
use Rattle.one_store.specs.Store as model
use Rattle.one_store.specs.Store.{Step, change_of, copied_at, done_with, refuses, store_step}
use Rattle.agent_memory.specs.AgentState.{AgentState, IsStanding, cells_in, held_in, places_in, world_of}
use Rattle.agent_memory.specs.Lines.{Runs, copied_under, is_there, with_copies}
use Rattle.agent_memory.specs.Requests.{starter_in}
use Rattle.agent_memory.proofs.LiveLemmas.{site_found, site_of}
use Rattle.agent_memory.proofs.OwnedLemmas.{AreCopies, copies_by, owned_shown}
use Rattle.agent_memory.proofs.RunsLemmas.{page_is, replaced}
use Rattle.agent_memory.proofs.StandingLemmas.{changes_are, closed_is, nowhere_is, place_is, runs_done, runs_refused, stands_after, store_is, store_of, tab_absent, tab_there}

-- the opener whose session areas are copied
abbrev pub copied_from : Bool → Option ℕ → Option ℕ
copied_from noopener opener = cond noopener None opener

-- the copies are those of the world
same_copies : (opener : Option ℕ) (noopener : Bool) (number : ℕ) (tabs : List PlainTab) (held : Holdings)
    → with_copies (copied_from noopener opener) number tabs held ≡ model.with_copies (places_in tabs) number opener noopener held
same_copies None true number tabs held = refl
same_copies None false number tabs held = refl
same_copies (Some from) true number tabs held = refl
same_copies (Some from) false number tabs held = under (top_site (frames_by (tab_at from tabs)))
    ∙ ap (λ here. copied_at here from number held) (there (tab_at from tabs) ∙ sym (site_found from tabs))
  where
    under : (here : Option PlainSite) → copied_under here from number held ≡ copied_at here from number held
    under None = refl
    under (Some site) = refl

    there : (tab : Option PlainTab) → top_site (frames_by tab) ≡ site_of tab
    there None = refl
    there (Some tab) = refl

module _ (old : AgentState) (standing : IsStanding old) where
  -- the opener is there, and so who starts the load
  pub starter_is : (opener : Option ℕ) → is_there opener old.tabs ≡ true
      → opener_of opener (places_in old.tabs) ≡ Some (starter_in opener old.tabs)
  starter_is None there = refl
  starter_is (Some opener) there =
      let tab = tab_there opener old.tabs there in
      let place = place_is old opener standing tab.0 tab.1 in
      ap (option_map Page) place.1 ∙ ap Some (sym (page_is old standing opener tab.0 tab.1 place.0 place.1))

  no_starter : (opener : Option ℕ) → is_there opener old.tabs ≡ false → opener_of opener (places_in old.tabs) ≡ None
  no_starter None there = cc
  no_starter (Some opener) there = ap (option_map Page) (nowhere_is opener old.tabs there)

  -- a tab that is not open has no session areas
  pub fresh_is : (number : ℕ) → is_open number old.tabs ≡ false → has_session number (held_in old) ≡ false
  fresh_is number free = standing.owned number (closed_is old number (tab_absent number old.tabs free))

  module _ (number : ℕ) (url : PlainAddress) (opener : Option ℕ) (noopener : Bool) (method : Method) (head : List HeadField) where
    abbrev line : PlainAction
    line = Open number url opener noopener method head

    abbrev places : Places
    places = places_in old.tabs

    -- what is held when the tab arrives
    abbrev copied : Holdings
    copied = model.with_copies places number opener noopener (held_in old)

    -- the line, by who starts it and where the tab is
    abbrev opens : Option Starter → Option PlainSite → Step
    opens starter taken = model.opened old.rules (store_of old) line number url method head copied starter taken

    -- ---- refused

    pub runs_unopened : is_there opener old.tabs ≡ false → (reply : Reply)
        → reply_of reply ≡ record { name = action_name line; site = None; body = Plain (codes "no-tab") }
        → Runs line old old (Ok reply)
    runs_unopened missing reply replies =
        runs_refused line old standing (Plain (codes "no-tab"))
        (ap (λ starter. opens starter (site_at number places)) (no_starter opener missing)) reply replies

    pub runs_taken : is_there opener old.tabs ≡ true → is_open number old.tabs ≡ true
        → (reply : Reply) → reply_of reply ≡ record {
          name = action_name line;
          site = None;
          body =
              Plain (codes "tab-exists");
        } → Runs line old old (Ok reply)
    runs_taken there taken reply replies =
        let tab = tab_there number old.tabs taken in
        let place = place_is old number standing tab.0 tab.1 in
        runs_refused line old standing (Plain (codes "tab-exists"))
        (λ i. opens (starter_is opener there i) (place.1 i)) reply replies

    pub changes_unopened : is_there opener old.tabs ≡ false
        → line_changes (machine old.rules) (world_of old) (Open number url opener noopener method head) ≡ []
    changes_unopened missing =
        changes_are line old standing (refuses (store_of old) line (Plain (codes "no-tab")))
        (ap (λ starter. opens starter (site_at number places)) (no_starter opener missing))

    pub changes_taken : is_there opener old.tabs ≡ true → is_open number old.tabs ≡ true
        → line_changes (machine old.rules) (world_of old) (Open number url opener noopener method head) ≡ []
    changes_taken there taken =
        let tab = tab_there number old.tabs taken in
        let place = place_is old number standing tab.0 tab.1 in
        changes_are line old standing (refuses (store_of old) line (Plain (codes "tab-exists")))
        (λ i. opens (starter_is opener there i) (place.1 i))

    -- ---- a tab is opened

    module _ (opener_there : is_there opener old.tabs ≡ true) (free : is_open number old.tabs ≡ false) where
      abbrev target : PlainSite
      target = site_of_address old.rules url

      -- what the load does with what is held
      abbrev arrived : Holdings → Done
      arrived held = arrive old.rules old.now target number url method
          (is_same_site (starter_in opener old.tabs) target) head (cells_in old) held

      -- what is held then, as the agent finds it
      abbrev own_copied : Holdings
      own_copied = with_copies (copied_from noopener opener) number old.tabs (held_in old)

      abbrev loads : Step
      loads = done_with (store_of old) line target (placed number target places) (arrived own_copied)

      open_makes : store_step old.rules (store_of old) line ≡ loads
      open_makes =
          (λ i. opens (starter_is opener opener_there i) (nowhere_is number old.tabs free i))
          ∙ ap (λ held. done_with (store_of old) line target (placed number target places) (arrived held))
          (sym (same_copies opener noopener number old.tabs (held_in old)))

      pub changes_opened : line_changes (machine old.rules) (world_of old)
          (Open number url opener noopener method head) ≡ change_of target (arrived own_copied).changes
      changes_opened = changes_are line old standing loads open_makes

      module _ (tabs : List PlainTab) (entries : Entries) (cookies : CookieEntries) (grants : List PlainGrant)
          (there : places_in tabs ≡ placed number target places)
          (shared : cells_in (replaced old tabs entries cookies grants) ≡ (arrived own_copied).cells)
          (has : held_in (replaced old tabs entries cookies grants) ≡ (arrived own_copied).held) where
        abbrev new : AgentState
        new = replaced old tabs entries cookies grants

        pub standing_opened : IsStanding new
        standing_opened =
            stands_after line old new refl standing loads open_makes
            (store_is new (placed number target places) loads.store.cells loads.store.held there shared has) standing.in_time
            (owned_shown old.rules number url (held_in old) own_copied standing.owned copies)
          where
            copies : AreCopies number (held_in old) own_copied
            copies = subst (AreCopies number (held_in old))
                (sym (same_copies opener noopener number old.tabs (held_in old)))
                (copies_by places number opener noopener (held_in old))

        pub runs_opened : (reply : Reply) → reply_of reply ≡ printed loads.reply → Runs line old new (Ok reply)
        runs_opened reply replies =
            runs_done line old new refl standing loads open_makes
            (store_is new (placed number target places) loads.store.cells loads.store.held there shared has) reply replies
