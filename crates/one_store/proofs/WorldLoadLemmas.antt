-- What a load of a top document makes of the world of all sites, and what a `go` makes of it.
use Rattle.std.proofs.Common.{◌≡◌, ℕ, Bool, true, false, cond, not, ◌||◌, List, Some, refl, sym, ap, subst, ◌∙◌}
use Rattle.std.specs.Prelude.{bytes_eq}
use Rattle.unwinding.specs.FiniteCells.{restrict_cells, merge_cells}
use Rattle.unwinding.specs.World.{consulted, is_in}
use Rattle.std.specs.Cmp.{nat_cmp_total, eq_by_cmp_equiv}
use Rattle.std.specs.Ordering.{nat_cmp}
use Rattle.std.specs.FinMap.{nat_cmp-IsAntisymmetric}
use Rattle.suffix_list.specs.Suffix.{Rule}
use Rattle.origin_site.specs.Address.{PlainAddress}
use Rattle.origin_site.specs.Site.{PlainSite, same_plain_site, site_of_address}
use Rattle.storage_key.specs.Context.{is_of}
use Rattle.script_actions.specs.declared.words.Method.{Method}
use Rattle.script_actions.specs.Action.{HeadField, PlainAction, Go}
use Rattle.agent_model.specs.Partition.{Holdings, Partition}
use Rattle.agent_model.specs.Effects.{SharedCells, Done}
use Rattle.agent_model.specs.SiteEvent.{TopLoad, Goes, Arrives, Leaves, TimedEvent, replied}
use Rattle.agent_model.specs.Sessions.{arrive, show}
use Rattle.agent_model.specs.LoadNames.{load_name}
use Rattle.script_actions.specs.ActionNames.{action_name}
use Rattle.agent_model.specs.SiteStep.{site_step}
use Rattle.agent_model.specs.Lines.{AgentWorld, Places, site_at, placed, goer_of, is_same_site, going, main_event}
use Rattle.agent_model.specs.SideEvents.{where_so, leaves, side_event}
use Rattle.agent_model.specs.Rest.{rest_after, places_after}
use Rattle.one_store.specs.Store.{change_of}
use Rattle.one_store.specs.WholeWorld.{partition_at, whole_world, IsPlaced}
use Rattle.agent_model.specs.CookieCells.{Domain, domain_order}
use Rattle.agent_model.specs.CookieUse.{CookieUse, consulted_by}
use Rattle.agent_model.specs.CookieUses.{top_use}
use Rattle.agent_model.specs.Cookies.{request}
use Rattle.agent_model.specs.TheMachine.{machine}
use Rattle.agent_model.proofs.ApartLemmas.{with_cells}
use Rattle.agent_model.proofs.CookieLemmas.{among, request_local}
use Rattle.agent_model.proofs.KeptLemmas as kept
use Rattle.agent_model.proofs.KeptLemmas.{AgreesBut}
use Rattle.one_store.proofs.CookieLemmas.{request_seen, request_unseen}
use Rattle.one_store.proofs.PlacedLemmas.{is_there, placed_changed}
use Rattle.one_store.proofs.TabLemmas.{show_seen, show_gone, show_unseen}
use Rattle.agent_model.proofs.TopKeptLemmas.{opened_top}
use Rattle.one_store.proofs.WorldLemmas.{LineMakes, told_at, after_event, beside, line_consults, outcome_of}

-- ---- a tab arrives

module _ (rules : List Rule) (places : Places) (tab : ℕ) (url : PlainAddress) where
  -- the site that is reached, and where the tabs are afterwards
  abbrev target : PlainSite
  target = site_of_address rules url

  abbrev there : Places
  there = placed tab target places

  -- whether a tab is at a site, before and afterwards
  abbrev was_at : PlainSite → ℕ → Bool
  was_at site q = is_of site (site_at q places)

  abbrev comes_to : PlainSite → ℕ → Bool
  comes_to site q = is_of site (site_at q there)

  pub others_stay : (site : PlainSite) → AgreesBut nat_cmp tab (comes_to site) (was_at site)
  others_stay site q apart =
      ap (is_of site) (kept.get_changed nat_cmp nat_cmp_total nat_cmp-IsAntisymmetric places tab (Some target) q ∙ ap (λ b. cond b (Some target) (site_at q places)) apart)

  -- the tab is at the site that it reaches, and at no other
  pub arrived : (site : PlainSite) → comes_to site tab ≡ same_plain_site site target
  arrived site =
      ap (is_of site) (kept.get_changed nat_cmp nat_cmp_total nat_cmp-IsAntisymmetric places tab (Some target) tab
      ∙ ap (λ b. cond b (Some target) (site_at tab places)) ((eq_by_cmp_equiv nat_cmp_total).refl tab))

  pub show_placed : (held : Holdings) → IsPlaced places held → IsPlaced there (show rules tab url held)
  show_placed held placed_all = placed_changed places there held tab (Some target) (Some _) refl (opened_top rules url) placed_all

  module _ (now : ℕ) (cells : SharedCells) (held before : Holdings) (method : Method) (same_site : Bool) (head : List HeadField) where
    abbrev world : AgentWorld
    world = whole_world now places cells held

    -- what is done for all sites, once the events beside the load are past
    abbrev done : Done
    done = arrive rules now target tab url method same_site head cells before

    abbrev how : CookieUse
    how = top_use target url method same_site

    -- the shared cells that it consults, and what is done with them alone
    abbrev asks : Domain → Bool
    asks = among (consulted_by rules how)

    abbrev seen : SharedCells
    seen = restrict_cells domain_order asks cells

    abbrev apart_done : Done
    apart_done = request rules now how head seen (show rules tab url before)

    local : done ≡ with_cells (merge_cells domain_order asks apart_done.cells cells) apart_done
    local = request_local rules now how head cells (show rules tab url before)

    or_none : (b : Bool) → (b || false) ≡ b
    or_none true = refl
    or_none false = refl

    module _ (action : PlainAction) (load : TopLoad) where
      abbrev event : TimedEvent
      event = record { moment = now; event = Arrives load tab url method same_site head }

      asked : (p : Partition) → p ≡ partition_at places before target → consulted (machine rules) target p event ≡ asks
      unfolding machine
      asked p here =
          ap {B = Domain → Bool} (λ (q : Partition) domain. is_in bytes_eq domain (consulted_by rules (top_use q.site url method same_site)) || false) here
          ∙ λ i domain. or_none (asks domain) i

      -- the site's own event does the same
      step : (p : Partition) → p ≡ partition_at places before target
          → site_step rules p (restrict_cells domain_order (consulted (machine rules) target p event) cells) event
          ≡ outcome_of (partition_at there done.held target) apart_done.cells apart_done.changes (record { name = load_name load; body = apart_done.body })
      unfolding site_step
      step p here =
          ap (λ test. site_step rules p (restrict_cells domain_order test cells) event) (asked p here)
          ∙ ap (λ q. site_step rules q seen event) here
          ∙ ap (λ h. replied (partition_at places before target) (load_name load) (request rules now how head seen h))
          (show_seen target (was_at target) before (comes_to target) tab (others_stay target) rules url (arrived target ∙ is_there target))
          ∙ ap (replied (partition_at places before target) (load_name load)) (request_seen target (comes_to target) (show rules tab url before) rules now seen how head (is_there target))
          ∙ ap (λ h. outcome_of (partition_at there h target) apart_done.cells apart_done.changes (record { name = load_name load; body = apart_done.body })) (sym (ap (λ (d : Done). d.held) local))

      -- a load, from what each site has once the events beside it are past
      pub load_makes : main_event rules world action ≡ Some (record { site = target; event = record { moment = now; event = Arrives load tab url method same_site head } })
          → rest_after rules world action ≡ record { now = now; places = there } → load_name load ≡ action_name action
          → beside rules world action target ≡ partition_at places before target
          → ((other : PlainSite) → same_plain_site other target ≡ false → beside rules world action other ≡ partition_at there (show rules tab url before) other)
          → LineMakes rules world action (whole_world now there done.cells done.held) (told_at target action done.body) (change_of target done.changes)
      unfolding whole_world
      load_makes main later name here others =
          subst (λ (d : Done). LineMakes rules world action (whole_world now there d.cells done.held) (told_at target action d.body) (change_of target d.changes)) (sym local)
          (subst (λ called. LineMakes rules world action (whole_world now there (merge_cells domain_order asks apart_done.cells cells) done.held) (record { site = Some target; reply = record { name = called; body = apart_done.body } }) (change_of target apart_done.changes)) name
          (subst (λ test. LineMakes rules world action (whole_world now there (merge_cells domain_order test apart_done.cells cells) done.held) (record { site = Some target; reply = record { name = load_name load; body = apart_done.body } }) (change_of target apart_done.changes)) (asked (beside rules world action target) here)
          (line_consults rules world action (partition_at there done.held) (record { now = now; places = there }) later target event
          apart_done.changes (record { name = load_name load; body = apart_done.body }) main
          (λ other apart. others other apart ∙ ap (λ h. record { site = other; held = h }) (sym (request_unseen other (comes_to other) (show rules tab url before) rules now cells how head apart)))
          apart_done.cells (step (beside rules world action target) here))))

-- ---- go

module _ (rules : List Rule) (now : ℕ) (places : Places) (cells : SharedCells) (held : Holdings) (tab : ℕ) (url : PlainAddress) (by_page : Bool) (method : Method) (head : List HeadField) (here : PlainSite) (place : site_at tab places ≡ Some here) where
  -- the site that is reached
  abbrev to : PlainSite
  to = site_of_address rules url

  -- the site that a tab leaves for another one has it no more
  leaves_beside : (site : PlainSite)
      → beside rules (whole_world now places cells held) (Go tab url by_page method head) site
      ≡ after_event rules (where_so (cond (same_plain_site site here) (not (same_plain_site site to)) false) (record { moment = now; event = Leaves tab })) (partition_at places held site)
  unfolding whole_world side_event
  leaves_beside site = ap (λ place. after_event rules (leaves (whole_world now places cells held) tab place to site) (partition_at places held site)) place

  leaves_not : (b : Bool) → (site : PlainSite)
      → after_event rules (where_so (cond b false false) (record { moment = now; event = Leaves tab })) (partition_at places held site) ≡ partition_at places held site
  leaves_not true site = refl
  leaves_not false site = refl

  left_there : (site : PlainSite) → same_plain_site site to ≡ false → (b : Bool) → same_plain_site site here ≡ b
      → after_event rules (where_so (cond b true false) (record { moment = now; event = Leaves tab })) (partition_at places held site) ≡ partition_at (placed tab to places) (show rules tab url held) site
  unfolding site_step
  left_there site apart true is =
      ap (λ h. record { site = site; held = h })
      (sym (show_gone site (λ q. is_of site (site_at q places)) held (λ q. is_of site (site_at q (placed tab to places))) tab (others_stay rules places tab url site) rules url (arrived rules places tab url site ∙ apart)))
  left_there site apart false isnt =
      ap (λ h. record { site = site; held = h })
      (sym (show_unseen site (λ q. is_of site (site_at q places)) held (λ q. is_of site (site_at q (placed tab to places))) tab (others_stay rules places tab url site) rules url (arrived rules places tab url site ∙ apart)
      (ap (is_of site) place ∙ isnt)))

  -- what is done for all sites
  abbrev went : Done
  went = arrive rules now to tab url method (is_same_site (goer_of by_page here) to) head cells held

  -- a tab goes to another address
  pub go_makes : LineMakes rules (whole_world now places cells held) (Go tab url by_page method head)
      (whole_world now (placed tab (site_of_address rules url) places) went.cells went.held) (told_at (site_of_address rules url) (Go tab url by_page method head) went.body) (change_of (site_of_address rules url) went.changes)
  unfolding whole_world main_event rest_after
  go_makes =
      load_makes rules places tab url now cells held held method (is_same_site (goer_of by_page here) to) head (Go tab url by_page method head) Goes main
      (ap (λ arrival. record { now = now; places = places_after arrival tab places }) main) refl
      (leaves_beside to
      ∙ ap (λ b. after_event rules (where_so (cond (same_plain_site to here) (not b) false) (record { moment = now; event = Leaves tab })) (partition_at places held to)) (is_there to)
      ∙ leaves_not (same_plain_site to here) to)
      (λ other apart. leaves_beside other
      ∙ ap (λ b. after_event rules (where_so (cond (same_plain_site other here) (not b) false) (record { moment = now; event = Leaves tab })) (partition_at places held other)) apart
      ∙ left_there other apart (same_plain_site other here) refl)
    where
      main : main_event rules (whole_world now places cells held) (Go tab url by_page method head) ≡ going rules (whole_world now places cells held) tab url by_page method head (Some here)
      main = ap (going rules (whole_world now places cells held) tab url by_page method head) place

  pub go_placed : IsPlaced places held → IsPlaced (placed tab (site_of_address rules url) places) went.held
  go_placed placed_all = show_placed rules places tab url held placed_all
