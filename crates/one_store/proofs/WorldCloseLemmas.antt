-- What a tick, a closing of a tab and an eviction make of the world of all sites.
use Rattle.std.proofs.Common.{◌≡◌, ℕ, Bool, true, false, cond, List, [], Option, Some, None, refl, sym, ap, ◌∙◌}
use Rattle.std.specs.Prelude.{pos, is_some, option_map}
use Rattle.std.specs.Cmp.{nat_cmp_total}
use Rattle.std.specs.Ordering.{nat_cmp}
use Rattle.std.specs.FinMap as finite
use Rattle.std.specs.FinMap.{nat_cmp-IsAntisymmetric}
use Rattle.suffix_list.specs.Suffix.{Rule}
use Rattle.origin_site.specs.Site.{PlainSite, same_plain_site}
use Rattle.storage_key.specs.Context.{is_of}
use Rattle.live_state.specs.Tabs.{PlainTab}
use Rattle.reply_lines.specs.Reply.{Now}
use Rattle.script_actions.specs.Action.{Tick, Close, Evict}
use Rattle.agent_model.specs.Partition.{Partition, Holdings, tab_named}
use Rattle.agent_model.specs.Effects.{SharedCells, no_shared_cells, ok}
use Rattle.agent_model.specs.SiteEvent.{Closes, Evicts, replied}
use Rattle.agent_model.specs.Buckets.{evict}
use Rattle.agent_model.specs.Sessions.{close, has_session}
use Rattle.agent_model.specs.SiteStep.{close_at, site_step}
use Rattle.agent_model.specs.Lines.{AgentWorld, Places, site_at, timed, occurs, main_event}
use Rattle.agent_model.specs.SideEvents.{where_so, closes, side_event}
use Rattle.agent_model.specs.Rest.{clock_after, refusal, rest_after}
use Rattle.one_store.specs.HeldAt.{held_at}
use Rattle.one_store.specs.Store.{change_of}
use Rattle.one_store.specs.WholeWorld.{partition_at, whole_world, IsPlaced}
use Rattle.agent_model.proofs.KeptLemmas as kept
use Rattle.agent_model.proofs.KeptLemmas.{AgreesBut}
use Rattle.one_store.proofs.BucketLemmas.{evict_seen, evict_unseen}
use Rattle.one_store.proofs.HeldLemmas.{tab_seen, tab_unseen}
use Rattle.one_store.proofs.PlacedLemmas.{is_there, open_tab, placed_by_tabs, placed_changed}
use Rattle.one_store.proofs.SessionLemmas.{close_absent, close_seen}
use Rattle.one_store.proofs.WorldLemmas.{LineMakes, told_at, told_nowhere, after_event, beside, outcome_of, line_happens, line_refused}

module _ (rules : List Rule) (now : ℕ) (places : Places) (cells : SharedCells) (held : Holdings) where
  -- ---- a tick

  -- the clock is moved
  pub tick_makes : (s : ℕ) → LineMakes rules (whole_world now places cells held) (Tick s) (whole_world (clock_after now s) places cells held) (told_nowhere (Tick s) (Now (pos (clock_after now s)))) []
  unfolding whole_world main_event side_event rest_after refusal
  tick_makes s = line_refused rules (whole_world now places cells held) (Tick s) (partition_at places held) (record { now = clock_after now s; places = places }) refl refl (λ site. refl)

  -- ---- an eviction

  -- the areas of a site are evicted
  pub evict_makes : (site : PlainSite) → LineMakes rules (whole_world now places cells held) (Evict site) (whole_world now places (evict site cells held).cells (evict site cells held).held) (told_at site (Evict site) (evict site cells held).body) (change_of site (evict site cells held).changes)
  unfolding whole_world main_event side_event rest_after site_step
  evict_makes site =
      line_happens rules w (Evict site) (partition_at places (evict site cells held).held) w.rest refl site (timed w Evicts) (evict site cells held).changes (record { name = _; body = (evict site cells held).body }) refl
      (λ other apart. ap (λ h. record { site = other; held = h }) (sym (evict_unseen site other (λ tab. is_of other (site_at tab places)) cells held apart))) refl
      (ap (replied (partition_at places held site) _) (evict_seen site (λ tab. is_of site (site_at tab places)) held no_shared_cells))
    where
      w : AgentWorld
      w = whole_world now places cells held

  -- and each tab stays where it is
  pub evict_placed : IsPlaced places held → (site : PlainSite) → IsPlaced places (evict site cells held).held
  evict_placed placed_all site = placed_by_tabs places held (evict site cells held).held refl placed_all

-- ---- a closing

-- where a tab is not, after it is taken out
module _ (places : Places) (held : Holdings) (placed_all : IsPlaced places held) (tab : ℕ) where
  -- the other tabs are where they were
  others_stay : (site : PlainSite) → AgreesBut nat_cmp tab (λ q. is_of site (site_at q (finite.remove places tab))) (λ q. is_of site (site_at q places))
  others_stay site q apart =
      ap (is_of site) (kept.get_changed nat_cmp nat_cmp_total nat_cmp-IsAntisymmetric places tab None q ∙ ap (λ b. cond b None (site_at q places)) apart)

  -- a site has the rest of what it had
  closed_there : (site : PlainSite) → close tab (held_at site (λ q. is_of site (site_at q places)) held) ≡ (partition_at (finite.remove places tab) (close tab held) site).held
  closed_there site = sym (close_seen site (λ q. is_of site (site_at q places)) (λ q. is_of site (site_at q (finite.remove places tab))) tab held (others_stay site))

  pub close_placed : IsPlaced (finite.remove places tab) (close tab held)
  close_placed = placed_changed places (finite.remove places tab) held tab None None refl refl placed_all

  module _ (rules : List Rule) (now : ℕ) (cells : SharedCells) (here : PlainSite) (place : site_at tab places ≡ Some here) where
    -- what a site has, before the tab is closed
    abbrev before : PlainSite → Partition
    before site = partition_at places held site

    -- the event of a line beside the main one, by whether the tab is there
    beside_by : (site : PlainSite) (there : Option PlainTab) → tab_named tab (before site).held ≡ there
        → beside rules (whole_world now places cells held) (Close tab) site
        ≡ after_event rules (where_so (cond (is_some there) false (has_session tab (before site).held)) (record { moment = now; event = Closes tab })) (before site)
    unfolding whole_world side_event
    beside_by site there is =
        ap (λ place. after_event rules (closes (whole_world now places cells held) tab place site) (before site)) place
        ∙ ap (λ (t : Option PlainTab). after_event rules (where_so (cond (is_some t) false (has_session tab (before site).held)) (record { moment = now; event = Closes tab })) (before site)) is

    -- at the site that the tab is at
    here_there : tab_named tab (before here).held ≡ Some (open_tab places held placed_all tab here place).0
    here_there = tab_seen here (λ q. is_of here (site_at q places)) held tab (ap (is_of here) place ∙ is_there here) ∙ (open_tab places held placed_all tab here place).1

    -- and at another site
    other_there : (site : PlainSite) → same_plain_site site here ≡ false → tab_named tab (before site).held ≡ None
    other_there site apart = tab_unseen site (λ q. is_of site (site_at q places)) held tab (ap (is_of site) place ∙ apart)

    -- which closes the tab where it has a session area
    other_closed : (site : PlainSite) → same_plain_site site here ≡ false → (b : Bool) → has_session tab (before site).held ≡ b
        → after_event rules (where_so b (record { moment = now; event = Closes tab })) (before site) ≡ record { site = site; held = close tab (before site).held }
    unfolding site_step
    other_closed site apart true is = ap (λ (t : Option PlainTab). (close_at tab t no_shared_cells (before site)).partition) (other_there site apart)
    other_closed site apart false is = ap (λ h. record { site = site; held = h }) (sym (close_absent tab (before site).held is (other_there site apart)))

    -- the tab is gone, with its session areas under all sites
    pub close_makes : LineMakes rules (whole_world now places cells held) (Close tab) (whole_world now (finite.remove places tab) cells (close tab held)) (told_at here (Close tab) ok) []
    unfolding whole_world main_event rest_after site_step
    close_makes =
        line_happens rules w (Close tab) (partition_at (finite.remove places tab) (close tab held)) (record { now = now; places = finite.remove places tab }) refl
        here (timed w (Closes tab)) [] (record { name = _; body = ok }) (ap (option_map (occurs w (Closes tab))) place)
        (λ site apart. beside_by site None (other_there site apart) ∙ other_closed site apart (has_session tab (before site).held) refl ∙ ap (λ h. record { site = site; held = h }) (closed_there site)) refl step
      where
        w : AgentWorld
        w = whole_world now places cells held

        step : site_step rules (beside rules w (Close tab) here) no_shared_cells (timed w (Closes tab))
            ≡ outcome_of (partition_at (finite.remove places tab) (close tab held) here) no_shared_cells [] (told_at here (Close tab) ok).reply
        step =
            ap (λ (p : Partition). close_at tab (tab_named tab p.held) no_shared_cells p) (beside_by here (Some (open_tab places held placed_all tab here place).0) here_there)
            ∙ ap (λ (t : Option PlainTab). close_at tab t no_shared_cells (before here)) here_there
            ∙ ap (λ h. outcome_of (record { site = here; held = h }) no_shared_cells [] (told_at here (Close tab) ok).reply) (closed_there here)
