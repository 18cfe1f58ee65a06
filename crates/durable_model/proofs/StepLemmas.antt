-- What an event changes of what is kept, at a site that is as a run reaches it.
use Rattle.std.proofs.Common.{◌≡◌, ◌≤◌, ℕ, Bool, List, [], Option, Some, None, Ok, Err, refl, sym, ap, subst, ◌∙◌}
use Rattle.std.specs.Prelude.{IfOk, Result}
use Rattle.unwinding.specs.FiniteCells.{get_cell}
use Rattle.agent_base.specs.declared.refusals.Label.{Label}
use Rattle.suffix_list.specs.Suffix.{Rule}
use Rattle.origin_site.specs.Site.{PlainSite, site_of_address}
use Rattle.frame_tree.specs.declared.tab.TreeFault.{TreeFault}
use Rattle.frame_tree.specs.Calls.{opened}
use Rattle.frame_tree.specs.Tree.{PlainFrame}
use Rattle.stored_cookie.specs.StoredCookie.{PlainCookie}
use Rattle.cookie_jar.specs.Cookie.{copies}
use Rattle.live_state.specs.Tabs.{PlainTab, made_tab}
use Rattle.script_actions.specs.Action.{DocumentAction}
use Rattle.agent_model.specs.CookieCells.{Domain, domain_order}
use Rattle.agent_model.specs.PartitionedCells.{PartitionedKey, partitioned_order}
use Rattle.agent_model.specs.Partition.{Holdings, Partition, tab_named, without_tab}
use Rattle.agent_model.specs.Effects.{SharedCells, ok}
use Rattle.agent_model.specs.CookieUses.{top_use}
use Rattle.agent_model.specs.Sessions.{close, copy_sessions, show}
use Rattle.agent_model.specs.SiteEvent.{SiteEvent, Acts, Arrives, Leaves, Copies, Closes, Evicts, SiteOutcome, TimedEvent}
use Rattle.agent_model.specs.Consults.{event_names, names_at}
use Rattle.agent_model.specs.SiteStep.{act, close_at, site_step}
use Rattle.agent_model.specs.Frames.{frames_added, frames_clicked, frames_navigated, frames_removed}
use Rattle.script_actions.specs.ActionFacts.{facts_of}
use Rattle.agent_model.proofs.EachTabLemmas.{IsOfFrames, Keeps, OfEachTab, act_each, each_changed}
use Rattle.agent_model.proofs.TopKeptLemmas.{KeepsTop, added_top, clicked_top, navigated_top, opened_top, removed_top, requested_top}
use Rattle.agent_model.proofs.Isolated.{step_site}
use Rattle.durable_model.specs.Sound.{IsTabOf}
use Rattle.durable_model.proofs.FollowsLemmas.{Follows, IsOnce, rows_of, stays}
use Rattle.durable_model.proofs.EvictLemmas.{evict_follows}
use Rattle.durable_model.proofs.UseLemmas.{request_leaves}
use Rattle.durable_model.proofs.ActLemmas.{act_follows}

-- what a site has in a run: its own site, the tabs that are there, and cells without two cookies
-- that are the same
pub record IsSoundAt (site : PlainSite) (p : Partition) : Type 0 where
  pub own : p.site ≡ site
  pub tabs : OfEachTab (λ number. IsTabOf site) p.held
  pub partitioned : (key : PartitionedKey) (c : PlainCookie) → copies c (get_cell partitioned_order p.held.cookies key) ≤ 1

-- what an event leads to
abbrev pub OutcomeFollows : List Rule → PlainSite → SharedCells → Partition → TimedEvent → Type 0
OutcomeFollows rules site cells p e =
    let o = site_step rules p cells e in
    Follows site (event_names rules p e.event) cells (rows_of p.held) o.changes o.cells o.partition.held

module _ (rules : List Rule) (cells : SharedCells) (p : Partition) (once : IsOnce cells p.held.cookies) (tabs : OfEachTab (λ number. IsTabOf p.site) p.held) (e : TimedEvent) where
  -- what an event leads to at its own site
  abbrev Fits : SiteEvent → SiteOutcome → Type 0
  Fits event o = Follows p.site (event_names rules p event) cells (rows_of p.held) o.changes o.cells o.partition.held

  own_follows : OutcomeFollows rules p.site cells p e
  unfolding site_step
  own_follows = by e.event
    where
      by_act : (at : Label) (action : DocumentAction) (tab : Option PlainTab) → IsTabOf p.site tab
          → (let o = act rules e.moment at action tab cells p in Follows p.site (names_at rules p.site at action tab) cells (rows_of p.held) o.changes o.cells o.partition.held)
      by_act at action None is = stays p.site [] cells p.held ok once
      by_act at action (Some tab) is = act_follows rules e.moment p.site at tab cells p.held once is.0 is.1 action

      by_close : (number : ℕ) (tab : Option PlainTab) → Fits (Closes number) (close_at number tab cells p)
      by_close number None = stays p.site [] cells (close number p.held) ok once
      by_close number (Some tab) = stays p.site [] cells (close number p.held) ok once

      by : (event : SiteEvent) → Fits event (site_step rules p cells (record { moment = e.moment; event = event }))
      by (Acts at action) = by_act at action (tab_named at.tab p.held) (tabs at.tab)
      by (Arrives load tab url method same_site head) = request_leaves rules e.moment (top_use p.site url method same_site) cells (show rules tab url p.held) once head
      by (Leaves tab) = stays p.site [] cells (without_tab tab p.held) ok once
      by (Copies from to) = stays p.site [] cells (copy_sessions p.site from to p.held) ok once
      by (Closes tab) = by_close tab (tab_named tab p.held)
      by Evicts = evict_follows p.site p.held cells once

-- ---- tabs

-- a load of a top document is of the site of its address
abbrev pub IsFor : List Rule → PlainSite → SiteEvent → Type 0
IsFor rules site (Acts at action) = Unit {0}
IsFor rules site (Arrives load tab url method same_site head) = site_of_address rules url ≡ site
IsFor rules site (Leaves tab) = Unit {0}
IsFor rules site (Copies from to) = Unit {0}
IsFor rules site (Closes tab) = Unit {0}
IsFor rules site Evicts = Unit {0}

by_frames : (site : PlainSite) → IsOfFrames (λ number. IsTabOf site)
by_frames site number before after same is = subst (λ frames. IsTabOf site (Some (record before { frames = frames }))) (sym same) is

-- every action keeps the site of each tab
keeps_tabs : (site : PlainSite) (rules : List Rule) (now : ℕ) (at : Label) (tab : PlainTab) (asks : Bool) → IsTabOf site (Some tab) → Keeps (λ number. IsTabOf site) rules now at tab asks
keeps_tabs site rules now at tab asks is =
    record {
      added = λ parent url sandbox deny. moved (frames_added rules at parent url sandbox deny tab.frames) (added_top tab.frames is.0 rules at parent url sandbox deny);
      navigated = λ url by_self. moved (frames_navigated rules at url by_self tab.frames) (navigated_top tab.frames is.0 rules at url by_self);
      removed = moved (frames_removed at tab.frames) (removed_top tab.frames is.0 at);
      clicked = moved (frames_clicked now at tab.frames) (clicked_top tab.frames is.0 now at);
      asked = λ is_asked gives consumes. let done = requested_top tab.frames is.0 gives consumes at in (done.0, done.1 ∙ is.1);
    }
  where
    moved : (after : Result (List PlainFrame) TreeFault) → IfOk after (KeepsTop tab.frames) → IfOk after (λ frames. IsTabOf site (Some (record tab { frames = frames })))
    moved (Ok frames) keeps = (keeps.0, keeps.1 ∙ is.1)
    moved (Err why) keeps = tt

module _ (rules : List Rule) (cells : SharedCells) (p : Partition) (tabs : OfEachTab (λ number. IsTabOf p.site) p.held) (e : TimedEvent) where
  -- each tab is of the site afterwards
  abbrev Stay : Holdings → Type 0
  Stay held = OfEachTab (λ number. IsTabOf p.site) held

  own_tabs : IsFor rules p.site e.event → Stay (site_step rules p cells e).partition.held
  unfolding site_step
  own_tabs for = by e.event for
    where
      gone : (number : ℕ) → Stay (without_tab number p.held)
      gone number = each_changed (λ n. IsTabOf p.site) p.held number None tt tabs

      by_act : (at : Label) (action : DocumentAction) (tab : Option PlainTab) → tab_named at.tab p.held ≡ tab → Stay (act rules e.moment at action tab cells p).partition.held
      by_act at action None is = tabs
      by_act at action (Some tab) is =
          act_each (λ n. IsTabOf p.site) (by_frames p.site) cells p.held tabs at tab is rules e.moment p.site action
          (keeps_tabs p.site rules e.moment at tab ((facts_of action).requests) (subst (IsTabOf p.site) is (tabs at.tab)))

      by_close : (number : ℕ) (tab : Option PlainTab) → Stay (close_at number tab cells p).partition.held
      by_close number None = gone number
      by_close number (Some tab) = gone number

      by : (event : SiteEvent) → IsFor rules p.site event → Stay (site_step rules p cells (record { moment = e.moment; event = event })).partition.held
      by (Acts at action) for = by_act at action (tab_named at.tab p.held) refl
      by (Arrives load tab url method same_site head) for =
          each_changed (λ n. IsTabOf p.site) p.held tab (Some (made_tab tab (opened rules url) None None))
          ((opened_top rules url).0, (opened_top rules url).1 ∙ ap Some for) tabs
      by (Leaves tab) for = gone tab
      by (Copies from to) for = tabs
      by (Closes tab) for = by_close tab (tab_named tab p.held)
      by Evicts for = tabs

-- ---- at a site

module _ (rules : List Rule) (site : PlainSite) (cells : SharedCells) (p : Partition) (e : TimedEvent)
    (once : (domain : Domain) (c : PlainCookie) → copies c (get_cell domain_order cells domain) ≤ 1) (sound : IsSoundAt site p) where
  all_once : IsOnce cells p.held.cookies
  all_once = record { own = once; partition = sound.partitioned }

  tabs_own : OfEachTab (λ number. IsTabOf p.site) p.held
  tabs_own = subst (λ s. OfEachTab (λ number. IsTabOf s) p.held) (sym sound.own) sound.tabs

  pub step_follows : OutcomeFollows rules site cells p e
  step_follows = subst (λ s. OutcomeFollows rules s cells p e) sound.own (own_follows rules cells p all_once tabs_own e)

  pub step_sound : IsFor rules site e.event → IsSoundAt site (site_step rules p cells e).partition
  step_sound for =
      record {
        own = step_site rules p cells e ∙ sound.own;
        tabs =
            subst (λ s. OfEachTab (λ number. IsTabOf s) (site_step rules p cells e).partition.held) sound.own
            (own_tabs rules cells p tabs_own e (subst (λ s. IsFor rules s e.event) (sym sound.own) for));
        partitioned = step_follows.once.partition;
      }
