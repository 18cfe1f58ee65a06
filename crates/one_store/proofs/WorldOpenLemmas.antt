-- What an `open` makes of the world of all sites, and what it is refused for.
use Rattle.std.proofs.Common.{◌≡◌, ℕ, Bool, true, false, List, [], Option, Some, None, refl, sym, ap, subst, ◌∙◌}
use Rattle.std.specs.Prelude.{codes, option_map}
use Rattle.suffix_list.specs.Suffix.{Rule}
use Rattle.origin_site.specs.Address.{PlainAddress}
use Rattle.origin_site.specs.Site.{PlainSite, same_plain_site, site_of_address}
use Rattle.origin_site.proofs.SameLemmas.{same_plain_site-Decides}
use Rattle.storage_key.specs.Context.{is_of}
use Rattle.script_actions.specs.declared.words.Method.{Method}
use Rattle.reply_lines.specs.Reply.{Plain}
use Rattle.script_actions.specs.Action.{HeadField, Open}
use Rattle.agent_model.specs.Partition.{Holdings}
use Rattle.agent_model.specs.Effects.{SharedCells, Done}
use Rattle.agent_model.specs.SiteEvent.{Opens, Copies}
use Rattle.agent_model.specs.Sessions.{arrive, show, copy_sessions}
use Rattle.agent_model.specs.SiteStep.{site_step}
use Rattle.agent_model.specs.Lines.{AgentWorld, Places, Starter, Page, site_at, placed, opener_of, is_same_site, opening, main_event}
use Rattle.agent_model.specs.SideEvents.{where_so, copies, side_event}
use Rattle.agent_model.specs.Rest.{open_refusal, refusal, rest_after, places_after}
use Rattle.one_store.specs.HeldAt.{held_at}
use Rattle.one_store.specs.Store.{change_of, copied_at, with_copies}
use Rattle.one_store.specs.WholeWorld.{partition_at, whole_world, IsPlaced}
use Rattle.one_store.proofs.PlacedLemmas.{placed_by_tabs}
use Rattle.one_store.proofs.SessionLemmas.{copy_seen, copy_unseen}
use Rattle.one_store.proofs.TabLemmas.{show_unseen}
use Rattle.one_store.proofs.WorldLoadLemmas.{others_stay, arrived, show_placed, load_makes}
use Rattle.one_store.proofs.WorldLemmas.{LineMakes, told_at, told_nowhere, after_event, beside, line_refused}

module _ (rules : List Rule) (now : ℕ) (places : Places) (cells : SharedCells) (held : Holdings) (tab : ℕ) (url : PlainAddress) (opener : Option ℕ) (noopener : Bool) (method : Method) (head : List HeadField) where
  -- each site gets the copies that are under it
  copies_beside : site_at tab places ≡ None → (site : PlainSite)
      → beside rules (whole_world now places cells held) (Open tab url opener noopener method head) site ≡ partition_at places (with_copies places tab opener noopener held) site
  unfolding whole_world side_event site_step
  copies_beside free site = ap (λ here. after_event rules (copies w tab opener noopener here site) (partition_at places held site)) free ∙ by opener noopener
    where
      w : AgentWorld
      w = whole_world now places cells held

      same : (from : ℕ) (here : PlainSite) (b : Bool) → same_plain_site site here ≡ b
          → after_event rules (where_so b (record { moment = now; event = Copies from tab })) (partition_at places held site) ≡ partition_at places (copy_sessions here from tab held) site
      same from here true is =
          ap (λ h. record { site = site; held = h }) (sym (copy_seen site from tab (λ q. is_of site (site_at q places)) held))
          ∙ ap (λ opened_at. partition_at places (copy_sessions opened_at from tab held) site) ((same_plain_site-Decides site here).0 is)
      same from here false apart = ap (λ h. record { site = site; held = h }) (sym (copy_unseen here from tab site (λ q. is_of site (site_at q places)) held apart))

      at : (from : ℕ) (here : Option PlainSite)
          → after_event rules (where_so (is_of site here) (record { moment = now; event = Copies from tab })) (partition_at places held site) ≡ partition_at places (copied_at here from tab held) site
      at from None = refl
      at from (Some here) = same from here (same_plain_site site here) refl

      by : (opener : Option ℕ) (noopener : Bool)
          → after_event rules (copies w tab opener noopener None site) (partition_at places held site) ≡ partition_at places (with_copies places tab opener noopener held) site
      by (Some from) false = at from (site_at from places)
      by (Some from) true = refl
      by None noopener = refl

  -- what is done for all sites, where the load is same-site or not
  abbrev came : Bool → Done
  came same_site = arrive rules now (site_of_address rules url) tab url method same_site head cells (with_copies places tab opener noopener held)

  -- a tab is opened
  pub open_makes : (starter : Starter) → opener_of opener places ≡ Some starter → site_at tab places ≡ None
      → let done = came (is_same_site starter (site_of_address rules url)) in
      LineMakes rules (whole_world now places cells held) (Open tab url opener noopener method head)
      (whole_world now (placed tab (site_of_address rules url) places) done.cells done.held)
      (told_at (site_of_address rules url) (Open tab url opener noopener method head) done.body)
      (change_of (site_of_address rules url) done.changes)
  unfolding whole_world main_event rest_after
  open_makes starter is free =
      load_makes rules places tab url now cells held before method (is_same_site starter (site_of_address rules url)) head (Open tab url opener noopener method head) Opens main
      (ap (λ arrival. record { now = now; places = places_after arrival tab places }) main) refl (copies_beside free (site_of_address rules url))
      (λ other apart. copies_beside free other ∙ ap (λ h. record { site = other; held = h }) (unseen other apart))
    where
      before : Holdings
      before = with_copies places tab opener noopener held

      main : main_event rules (whole_world now places cells held) (Open tab url opener noopener method head)
          ≡ opening rules (whole_world now places cells held) tab url method head (Some starter) None
      main = λ i. opening rules (whole_world now places cells held) tab url method head (is i) (free i)

      unseen : (other : PlainSite) → same_plain_site other (site_of_address rules url) ≡ false
          → held_at other (λ q. is_of other (site_at q places)) before ≡ (partition_at (placed tab (site_of_address rules url) places) (show rules tab url before) other).held
      unseen other apart =
          sym (show_unseen other (λ q. is_of other (site_at q places)) before (λ q. is_of other (site_at q (placed tab (site_of_address rules url) places))) tab
          (others_stay rules places tab url other) rules url (arrived rules places tab url other ∙ apart) (ap (is_of other) free))

  -- copies are no tabs
  with_copies_tabs : (with_copies places tab opener noopener held).tabs ≡ held.tabs
  with_copies_tabs = by opener noopener
    where
      at : (from : ℕ) (here : Option PlainSite) → (copied_at here from tab held).tabs ≡ held.tabs
      at from None = refl
      at from (Some here) = refl

      by : (opener : Option ℕ) (noopener : Bool) → (with_copies places tab opener noopener held).tabs ≡ held.tabs
      by (Some from) false = at from (site_at from places)
      by (Some from) true = refl
      by None noopener = refl

  pub open_placed : (same_site : Bool) → IsPlaced places held → IsPlaced (placed tab (site_of_address rules url) places) (came same_site).held
  open_placed same_site placed_all =
      show_placed rules places tab url (with_copies places tab opener noopener held)
      (placed_by_tabs places held (with_copies places tab opener noopener held) with_copies_tabs placed_all)

  -- ---- an `open` that is refused

  refused_makes : (starter : Option Starter) (here : Option PlainSite) → opener_of opener places ≡ starter → site_at tab places ≡ here
      → opening rules (whole_world now places cells held) tab url method head starter here ≡ None
      → ((site : PlainSite) → copies (whole_world now places cells held) tab opener noopener here site ≡ None)
      → LineMakes rules (whole_world now places cells held) (Open tab url opener noopener method head) (whole_world now places cells held) (told_nowhere (Open tab url opener noopener method head) (open_refusal starter)) []
  unfolding whole_world main_event side_event rest_after refusal
  refused_makes starter here is place nothing no_copies =
      subst (λ o. LineMakes rules w (Open tab url opener noopener method head) w (told_nowhere (Open tab url opener noopener method head) (open_refusal o)) []) is
      (line_refused rules w (Open tab url opener noopener method head) (partition_at places held) w.rest (ap (λ arrival. record { now = now; places = places_after arrival tab places }) main) main
      (λ site. ap (λ p. after_event rules (copies w tab opener noopener p site) (partition_at places held site)) place ∙ ap (λ e. after_event rules e (partition_at places held site)) (no_copies site)))
    where
      w : AgentWorld
      w = whole_world now places cells held

      main : main_event rules w (Open tab url opener noopener method head) ≡ None
      main = (λ i. opening rules w tab url method head (is i) (place i)) ∙ nothing

  -- nothing happens where the opener is not open
  pub no_opener_makes : opener_of opener places ≡ None
      → LineMakes rules (whole_world now places cells held) (Open tab url opener noopener method head) (whole_world now places cells held) (told_nowhere (Open tab url opener noopener method head) (Plain (codes "no-tab"))) []
  unfolding whole_world
  no_opener_makes none = refused_makes None (site_at tab places) none refl refl (λ site. by site opener none noopener (site_at tab places))
    where
      from_nowhere : (site : PlainSite) (from : ℕ) (place : Option PlainSite) → option_map Page place ≡ None → where_so (is_of site place) (record { moment = now; event = Copies from tab }) ≡ None
      from_nowhere site from None none = refl
      from_nowhere site from (Some there) none = cc

      by : (site : PlainSite) (opener : Option ℕ) → opener_of opener places ≡ None → (noopener : Bool) (here : Option PlainSite)
          → copies (whole_world now places cells held) tab opener noopener here site ≡ None
      by site None none noopener here = refl
      by site (Some from) none true (Some here) = refl
      by site (Some from) none true None = refl
      by site (Some from) none false (Some here) = refl
      by site (Some from) none false None = from_nowhere site from (site_at from places) none

  -- or the number is taken
  pub taken_makes : (starter : Starter) (here : PlainSite) → opener_of opener places ≡ Some starter → site_at tab places ≡ Some here
      → LineMakes rules (whole_world now places cells held) (Open tab url opener noopener method head) (whole_world now places cells held) (told_nowhere (Open tab url opener noopener method head) (Plain (codes "tab-exists"))) []
  taken_makes starter here is taken = refused_makes (Some starter) (Some here) is taken refl (λ site. by site opener noopener)
    where
      by : (site : PlainSite) (opener : Option ℕ) (noopener : Bool) → copies (whole_world now places cells held) tab opener noopener (Some here) site ≡ None
      by site None noopener = refl
      by site (Some from) true = refl
      by site (Some from) false = refl
