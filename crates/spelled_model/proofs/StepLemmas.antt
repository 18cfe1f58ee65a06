-- What an event does at a site whose holdings were read.
use Rattle.std.proofs.Common.{◌≡◌, ◌≤◌, ℕ, List, [], Option, Some, None, subst}
use Rattle.std.specs.List.{All}
use Rattle.std.specs.Prelude.{IfSome}
use Rattle.std.proofs.lemmas.List.Elements.{All-nil}
use Rattle.agent_base.specs.declared.refusals.Label.{Label}
use Rattle.suffix_list.specs.Suffix.{Rule}
use Rattle.origin_site.specs.Site.{PlainSite, site_of_address}
use Rattle.frame_tree.specs.Calls.{opened}
use Rattle.live_state.specs.Tabs.{PlainTab, made_tab}
use Rattle.script_actions.specs.Action.{DocumentAction}
use Rattle.script_actions.specs.ActionFacts.{facts_of}
use Rattle.agent_model.specs.Partition.{Holdings, Partition, tab_named, without_tab}
use Rattle.agent_model.specs.Effects.{SharedCells}
use Rattle.agent_model.specs.CookieUses.{top_use}
use Rattle.agent_base.specs.Seconds.{last_moment}
use Rattle.agent_model.specs.Sessions.{close, copy_sessions, show}
use Rattle.agent_model.specs.SiteEvent.{SiteEvent, Acts, Arrives, Leaves, Copies, Closes, Evicts, SiteOutcome, TimedEvent}
use Rattle.agent_model.specs.SiteStep.{act, close_at, site_step}
use Rattle.agent_model.proofs.EachTabLemmas.{OfEachTab}
use Rattle.durable_model.specs.Sound.{IsTabOf}
use Rattle.spelled_model.specs.Addresses.{IsReadAddress}
use Rattle.spelled_model.specs.Frames.{IsReadTab}
use Rattle.spelled_model.proofs.ActLemmas.{act_read}
use Rattle.spelled_model.proofs.AreaLemmas.{evict_read}
use Rattle.spelled_model.proofs.DoneLemmas.{AreReadShared, IsReadHeld, request_read, tab_changed}
use Rattle.spelled_model.proofs.FrameLemmas.{opened_read}
use Rattle.spelled_model.proofs.NameLemmas.{IsNamedSite, site_named}
use Rattle.spelled_model.proofs.SpellsLemmas.{Spells}

-- an event names read addresses, and a load of a top document is of the site of its address
abbrev pub IsReadEvent : List Rule → PlainSite → SiteEvent → Type 0
IsReadEvent rules site (Acts at action) = IfSome (facts_of action).address IsReadAddress
IsReadEvent rules site (Arrives load tab url method same_site head) = (site_of_address rules url ≡ site) × IsReadAddress url
IsReadEvent rules site (Leaves tab) = Unit {0}
IsReadEvent rules site (Copies from to) = Unit {0}
IsReadEvent rules site (Closes tab) = Unit {0}
IsReadEvent rules site Evicts = Unit {0}

-- an event whose row changes have a spelling, and what it leaves
pub record IsReadOutcome (rules : List Rule) (o : SiteOutcome) : Type 0 where
  pub spells : All (Spells rules) o.changes
  pub held : IsReadHeld rules o.partition.held
  pub shared : AreReadShared o.cells

module _ (rules : List Rule) (cells : SharedCells) (p : Partition) (shared : AreReadShared cells) (read : IsReadHeld rules p.held) (tabs : OfEachTab (λ number. IsTabOf p.site) p.held)
    (e : TimedEvent) (short : e.moment ≤ last_moment) where
  -- an event that changes tabs alone
  quiet : (held : Holdings) → IsReadHeld rules held → IsReadOutcome rules (record { partition = record p { held = held }; cells = cells; reply = None; changes = [] })
  quiet held is = record { spells = All-nil (Spells rules); held = is; shared = shared }

  gone : (number : ℕ) → IsReadHeld rules (without_tab number p.held)
  gone number = tab_changed rules cells p.held shared read number None tt

  closed : (number : ℕ) → IsReadHeld rules (close number p.held)
  closed number = let left = gone number in record { tabs = left.tabs; areas = left.areas; partitioned = left.partitioned }

  by_act : (at : Label) (action : DocumentAction) → IfSome (facts_of action).address IsReadAddress → (tab : Option PlainTab) → IsTabOf p.site tab → IsReadTab rules tab → IsReadOutcome rules (act rules e.moment at action tab cells p)
  by_act at action is None sound all = quiet p.held read
  by_act at action is (Some tab) sound all =
      let done = act_read rules e.moment short p.site at tab cells p.held shared read all sound.0 sound.1 action is in
      record { spells = done.spells; held = done.held; shared = done.shared }

  by_close : (number : ℕ) (tab : Option PlainTab) → IsReadOutcome rules (close_at number tab cells p)
  by_close number None = quiet (close number p.held) (closed number)
  by_close number (Some tab) = record { spells = All-nil (Spells rules); held = closed number; shared = shared }

  pub step_read : IsReadEvent rules p.site e.event → IsReadOutcome rules (site_step rules p cells e)
  unfolding site_step
  step_read is = by e.event is
    where
      by : (event : SiteEvent) → IsReadEvent rules p.site event → IsReadOutcome rules (site_step rules p cells (record { moment = e.moment; event = event }))
      by (Acts at action) is = by_act at action is (tab_named at.tab p.held) (tabs at.tab) (read.tabs at.tab)
      by (Arrives load tab url method same_site head) is =
          let shown = tab_changed rules cells p.held shared read tab (Some (made_tab tab (opened rules url) None None)) (opened_read rules url is.1) in
          let done = request_read rules e.moment short (top_use p.site url method same_site) (record { url = is.1; top = subst (IsNamedSite rules) is.0 (site_named rules url is.1) }) cells (show rules tab url p.held) shared shown head in
          record { spells = done.spells; held = done.held; shared = done.shared }
      by (Leaves tab) is = quiet (without_tab tab p.held) (gone tab)
      by (Copies from to) is = quiet (copy_sessions p.site from to p.held) (record { tabs = read.tabs; areas = read.areas; partitioned = read.partitioned })
      by (Closes tab) is = by_close tab (tab_named tab p.held)
      by Evicts is =
          let done = evict_read rules cells p.held shared read p.site in
          record { spells = done.spells; held = done.held; shared = done.shared }
