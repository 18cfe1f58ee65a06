-- What an action of a document makes of the world of all sites, and what is refused because no tab
-- of its number is open.
use Rattle.std.proofs.Common.{◌≡◌, ℕ, Bool, true, false, ◌||◌, List, [], Option, Some, None, refl, sym, ap, subst, ◌∙◌}
use Rattle.std.specs.Prelude.{bytes_eq, codes, option_map}
use Rattle.unwinding.specs.FiniteCells.{restrict_cells, merge_cells}
use Rattle.unwinding.specs.World.{consulted, is_in}
use Rattle.std.specs.Cmp.{nat_cmp_total}
use Rattle.std.specs.Ordering.{nat_cmp}
use Rattle.std.specs.FinMap.{nat_cmp-IsAntisymmetric}
use Rattle.agent_base.specs.declared.refusals.Label.{Label}
use Rattle.suffix_list.specs.Suffix.{Rule}
use Rattle.origin_site.specs.Address.{PlainAddress}
use Rattle.origin_site.specs.Site.{PlainSite, same_plain_site, site_of_address}
use Rattle.storage_key.specs.Context.{is_of}
use Rattle.live_state.specs.Tabs.{PlainTab}
use Rattle.script_actions.specs.declared.words.Method.{Method}
use Rattle.reply_lines.specs.Reply.{Plain}
use Rattle.script_actions.specs.Action.{Close, Go, Act, DocumentAction, HeadField}
use Rattle.agent_model.specs.Partition.{Holdings, Partition, tab_named}
use Rattle.agent_model.specs.Effects.{SharedCells, Done}
use Rattle.agent_model.specs.SiteEvent.{Acts, Closes, TimedEvent, replied}
use Rattle.script_actions.specs.ActionFacts.{facts_of}
use Rattle.agent_model.specs.SiteStep.{act_in, act, site_step}
use Rattle.agent_model.specs.Lines.{AgentWorld, Places, site_at, occurs, going, main_event}
use Rattle.agent_model.specs.SideEvents.{leaves, closes, side_event}
use Rattle.agent_model.specs.Rest.{refusal, rest_after, places_after}
use Rattle.agent_model.proofs.KeptLemmas as kept
use Rattle.agent_model.specs.CookieCells.{Domain, domain_order}
use Rattle.agent_model.specs.Consults.{names_at, names_in}
use Rattle.agent_model.specs.TheMachine.{machine}
use Rattle.agent_model.proofs.ApartLemmas.{with_cells}
use Rattle.agent_model.proofs.CookieLemmas.{among}
use Rattle.agent_model.proofs.CookieActionLemmas.{act_local}
use Rattle.one_store.specs.HeldAt.{held_at}
use Rattle.one_store.specs.Store.{change_of}
use Rattle.one_store.specs.WholeWorld.{partition_at, whole_world, IsPlaced}
use Rattle.one_store.proofs.HeldLemmas.{tab_seen}
use Rattle.one_store.proofs.ActLemmas.{act_seen, act_unseen}
use Rattle.one_store.proofs.PlacedLemmas.{is_there, keyed_at}
use Rattle.one_store.proofs.WorldLemmas.{LineMakes, told_at, told_nowhere, after_event, line_consults, line_refused, outcome_of}

-- ---- in an open tab

module _ (rules : List Rule) (now : ℕ) (places : Places) (cells : SharedCells) (held : Holdings) (placed_all : IsPlaced places held) where
  -- whether a tab is at a site
  abbrev here : PlainSite → ℕ → Bool
  here site tab = is_of site (site_at tab places)

  module _ (at : Label) (action : DocumentAction) (tab : PlainTab) (found : tab_named at.tab held ≡ Some tab) (site : PlainSite) (place : site_at at.tab places ≡ Some site) where
    -- what is done for all sites
    abbrev done : Done
    done = act_in rules now site at action tab cells held

    -- the shared cells that it consults, and what is done with them alone
    abbrev asks : Domain → Bool
    asks = among (names_in rules site at action tab)

    abbrev seen : SharedCells
    seen = restrict_cells domain_order asks cells

    abbrev apart_done : Done
    apart_done = act_in rules now site at action tab seen held

    local : done ≡ with_cells (merge_cells domain_order asks apart_done.cells cells) apart_done
    local = act_local rules now site at tab action cells held

    at_its_site : here site at.tab ≡ true
    at_its_site = ap (is_of site) place ∙ is_there site

    unseen : (other : PlainSite) → same_plain_site other site ≡ false → held_at other (here other) held ≡ held_at other (here other) done.held
    unseen other apart =
        sym (act_unseen rules now site (here site) cells held (keyed_at places held placed_all site) at tab at_its_site found other (here other) apart (keyed_at places held placed_all other)
        (ap (is_of other) place ∙ apart) action)

    -- the site's partition, and what its event consults
    abbrev own : Partition
    own = partition_at places held site

    abbrev event : TimedEvent
    event = record { moment = now; event = Acts at action }

    or_none : (b : Bool) → (b || false) ≡ b
    or_none true = refl
    or_none false = refl

    there : tab_named at.tab own.held ≡ Some tab
    there = tab_seen site (here site) held at.tab at_its_site ∙ found

    asked : consulted (machine rules) site own event ≡ asks
    unfolding machine
    asked =
        ap (λ t domain. is_in bytes_eq domain (names_at rules site at action t) || false) there
        ∙ λ i domain. or_none (asks domain) i

    -- the site's own action does the same
    step : site_step rules own (restrict_cells domain_order (consulted (machine rules) site own event) cells) event
        ≡ outcome_of (partition_at places done.held site) apart_done.cells apart_done.changes (record { name = (facts_of action).name; body = apart_done.body })
    unfolding site_step
    step =
        ap (λ test. act rules now at action (tab_named at.tab own.held) (restrict_cells domain_order test cells) own) asked
        ∙ ap (λ (t : Option PlainTab). act rules now at action t seen own) there
        ∙ ap (replied own (facts_of action).name) (act_seen rules now site (here site) seen held (keyed_at places held placed_all site) at tab at_its_site found action)
        ∙ ap (λ h. outcome_of (partition_at places h site) apart_done.cells apart_done.changes (record { name = (facts_of action).name; body = apart_done.body })) (sym (ap (λ (d : Done). d.held) local))

    -- a line acts in its tab
    pub act_makes : LineMakes rules (whole_world now places cells held) (Act at action) (whole_world now places done.cells done.held) (told_at site (Act at action) done.body) (change_of site done.changes)
    unfolding whole_world main_event side_event rest_after
    act_makes =
        subst (λ (d : Done). LineMakes rules w (Act at action) (whole_world now places d.cells done.held) (told_at site (Act at action) d.body) (change_of site d.changes)) (sym local)
        (subst (λ test. LineMakes rules w (Act at action) (whole_world now places (merge_cells domain_order test apart_done.cells cells) done.held) (told_at site (Act at action) apart_done.body) (change_of site apart_done.changes)) asked
        (line_consults rules w (Act at action) (partition_at places done.held) (record { now = now; places = places }) refl site event
        apart_done.changes (record { name = (facts_of action).name; body = apart_done.body })
        (ap (option_map (occurs w (Acts at action))) place)
        (λ other apart. ap (λ h. record { site = other; held = h }) (unseen other apart)) apart_done.cells step))
      where
        w : AgentWorld
        w = whole_world now places cells held

-- ---- where no tab of its number is open

module _ (rules : List Rule) (now : ℕ) (places : Places) (cells : SharedCells) (held : Holdings) where
  -- the world before and after
  abbrev w : AgentWorld
  w = whole_world now places cells held

  -- the world stays
  pub no_tab_acts : (at : Label) (action : DocumentAction) → site_at at.tab places ≡ None → LineMakes rules w (Act at action) w (told_nowhere (Act at action) (Plain (codes "no-tab"))) []
  unfolding whole_world main_event side_event rest_after refusal
  no_tab_acts at action none = line_refused rules w (Act at action) (partition_at places held) w.rest refl (ap (option_map (occurs w (Acts at action))) none) (λ site. refl)

  pub no_tab_closes : (tab : ℕ) → site_at tab places ≡ None → LineMakes rules w (Close tab) w (told_nowhere (Close tab) (Plain (codes "no-tab"))) []
  unfolding whole_world main_event side_event rest_after refusal
  no_tab_closes tab none =
      line_refused rules w (Close tab) (partition_at places held) w.rest
      (ap (λ after. record { now = now; places = after }) (kept.remove_absent nat_cmp nat_cmp_total nat_cmp-IsAntisymmetric places tab none))
      (ap (option_map (occurs w (Closes tab))) none)
      (λ site. ap (λ place. after_event rules (closes w tab place site) (partition_at places held site)) none)

  pub no_tab_goes : (tab : ℕ) (url : PlainAddress) (by_page : Bool) (method : Method) (head : List HeadField) → site_at tab places ≡ None
      → LineMakes rules w (Go tab url by_page method head) w (told_nowhere (Go tab url by_page method head) (Plain (codes "no-tab"))) []
  unfolding whole_world main_event side_event rest_after refusal
  no_tab_goes tab url by_page method head none =
      line_refused rules w (Go tab url by_page method head) (partition_at places held) w.rest
      (ap (λ place. record { now = now; places = places_after (going rules w tab url by_page method head place) tab places }) none)
      (ap (going rules w tab url by_page method head) none)
      (λ site. ap (λ place. after_event rules (leaves w tab place (site_of_address rules url) site) (partition_at places held site)) none)
