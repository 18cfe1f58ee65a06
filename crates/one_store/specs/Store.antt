-- One store for all sites, and what a line makes of it, with its reply and its durable change. No
-- partition is looked at.
-- Source: that of each action stands in `agent_model`.
-- Our own choice: the store has one clock, one list of tabs with the sites that they are at, and
-- one storage, whose keys have a top-level site. An action is done with all of it at once.
use Rattle.std.specs.Prelude.{ℕ, Bool, pos, List, [], ◌∷◌, Option, Some, None, codes}
use Rattle.std.specs.Prelude.{if◌then◌else◌}
use Rattle.std.specs.FinMap as finite
use Rattle.unwinding.specs.World.{SiteReply}
use Rattle.unwinding.specs.Durable.{DurableChange}
use Rattle.agent_base.specs.declared.refusals.Label.{Label}
use Rattle.suffix_list.specs.Suffix.{Rule}
use Rattle.origin_site.specs.Address.{PlainAddress}
use Rattle.origin_site.specs.Site.{PlainSite, site_of_address}
use Rattle.live_state.specs.Tabs.{PlainTab}
use Rattle.row_changes.specs.Change.{PlainChange}
use Rattle.script_actions.specs.declared.words.Method.{Method}
use Rattle.reply_lines.specs.Reply.{PlainBody, Plain, Now}
use Rattle.script_actions.specs.Action.{PlainAction, Tick, Open, Close, Go, Evict, Act}
use Rattle.script_actions.specs.Action.{DocumentAction, HeadField}
use Rattle.agent_model.specs.Partition.{Holdings, no_holdings, tab_named}
use Rattle.agent_model.specs.Effects.{SharedCells, Done, no_shared_cells, answers, ok}
use Rattle.agent_model.specs.Buckets.{evict}
use Rattle.agent_model.specs.Sessions.{arrive, close, copy_sessions}
use Rattle.agent_model.specs.SiteEvent.{Answer}
use Rattle.script_actions.specs.ActionNames.{action_name}
use Rattle.agent_model.specs.SiteStep.{act_in}
use Rattle.agent_model.specs.Lines.{Places, Starter, no_places, placed, site_at}
use Rattle.agent_model.specs.Lines.{goer_of, is_same_site, opener_of}
use Rattle.agent_model.specs.Rest.{clock_after}

-- the clock, where the tabs are, the shared cells, and what is held for all sites
pub record Store : Type 0 where
  pub now : ℕ
  pub places : Places
  pub cells : SharedCells
  pub held : Holdings

-- the store in which a run begins: no tab is open, and nothing is stored
abbrev pub empty_store : ℕ → Store
empty_store start =
    record { now = start; places = no_places; cells = no_shared_cells; held = no_holdings }

-- a store, the reply to a line, and its durable change, if it has one
pub record Step : Type 0 where
  pub store : Store
  pub reply : SiteReply PlainSite Answer
  pub changes : List (DurableChange PlainSite PlainChange)

-- the reply of a site to a line
abbrev pub site_reply : PlainSite → PlainAction → PlainBody → SiteReply PlainSite Answer
site_reply site line body =
    record { site = Some site; reply = record { name = action_name line; body = body } }

-- a reply that is of no site
abbrev pub null_reply : PlainAction → PlainBody → SiteReply PlainSite Answer
null_reply line body =
    record { site = None; reply = record { name = action_name line; body = body } }

-- row changes of a site as a durable change; no row change is none
abbrev pub change_of : PlainSite → List PlainChange → List (DurableChange PlainSite PlainChange)
change_of site [] = []
change_of site (change ∷ changes) = record { site = site; changes = change ∷ changes } ∷ []

-- a line is refused, and the store stays
abbrev pub refuses : Store → PlainAction → PlainBody → Step
refuses store line body = record { store = store; reply = null_reply line body; changes = [] }

-- a line is done: the tabs are at these places, and this site replies
abbrev pub done_with : Store → PlainAction → PlainSite → Places → Done → Step
done_with store line site places done =
    record {
      store = record store { places = places; cells = done.cells; held = done.held };
      reply = site_reply site line done.body;
      changes = change_of site done.changes;
    }

-- the copies that an opened tab gets of its opener's session areas, where the opener is at a site
abbrev pub copied_at : Option PlainSite → (from to : ℕ) → Holdings → Holdings
copied_at None from to held = held
copied_at (Some site) from to held = copy_sessions site from to held

-- what is held when a tab is opened: it has its copies, where a page opens it that wants it to
abbrev pub with_copies : Places → ℕ → Option ℕ → Bool → Holdings → Holdings
with_copies places tab None noopener held = held
with_copies places tab (Some opener) noopener held =
    if noopener then held else copied_at (site_at opener places) opener tab held

-- a tab is opened, where its opener is open and its number is free
abbrev pub opened : List Rule → Store → PlainAction → ℕ → PlainAddress → Method → List HeadField
    → (copied : Holdings) → Option Starter → (taken : Option PlainSite) → Step
opened rules store line tab url method head copied None taken =
    refuses store line (Plain (codes "no-tab"))
opened rules store line tab url method head copied (Some starter) (Some here) =
    refuses store line (Plain (codes "tab-exists"))
opened rules store line tab url method head copied (Some starter) None =
    let target = site_of_address rules url in
    let same_site = is_same_site starter target in
    done_with store line target (placed tab target store.places)
    (arrive rules store.now target tab url method same_site head store.cells copied)

-- a tab that is open goes to an address
abbrev pub gone : List Rule → Store → PlainAction → ℕ → PlainAddress → Bool → Method
    → List HeadField → Option PlainSite → Step
gone rules store line tab url by_page method head None =
    refuses store line (Plain (codes "no-tab"))
gone rules store line tab url by_page method head (Some here) =
    let target = site_of_address rules url in
    let same_site = is_same_site (goer_of by_page here) target in
    done_with store line target (placed tab target store.places)
    (arrive rules store.now target tab url method same_site head store.cells store.held)

-- a tab that is open is closed
abbrev pub closed : Store → PlainAction → ℕ → Option PlainSite → Step
closed store line tab None = refuses store line (Plain (codes "no-tab"))
closed store line tab (Some here) =
    done_with store line here (finite.remove store.places tab)
    (answers ok store.cells (close tab store.held))

-- a document of an open tab acts
abbrev pub acted : List Rule → Store → PlainAction → Label → DocumentAction → Option PlainSite
    → Option PlainTab → Step
acted rules store line at action None found = refuses store line (Plain (codes "no-tab"))
acted rules store line at action (Some here) None = refuses store line (Plain (codes "no-tab"))
acted rules store line at action (Some here) (Some tab) =
    done_with store line here store.places
    (act_in rules store.now here at action tab store.cells store.held)

-- what a line makes of a store, its reply, and its durable change
abbrev pub store_step : List Rule → Store → PlainAction → Step
store_step rules store (Tick s) =
    let now = clock_after store.now s in
    record {
      store = record store { now = now };
      reply = null_reply (Tick s) (Now (pos now));
      changes = [];
    }
store_step rules store (Open tab url opener noopener method head) =
    opened rules store (Open tab url opener noopener method head) tab url method head
    (with_copies store.places tab opener noopener store.held)
    (opener_of opener store.places) (site_at tab store.places)
store_step rules store (Close tab) = closed store (Close tab) tab (site_at tab store.places)
store_step rules store (Go tab url by_page method head) =
    gone rules store (Go tab url by_page method head) tab url by_page method head
    (site_at tab store.places)
store_step rules store (Evict site) =
    done_with store (Evict site) site store.places (evict site store.cells store.held)
store_step rules store (Act at action) =
    acted rules store (Act at action) at action (site_at at.tab store.places)
    (tab_named at.tab store.held)
