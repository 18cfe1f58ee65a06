-- The facts that the general law asks of this machine, and the law.
use Rattle.std.proofs.Common.{◌≡◌, ℕ, Bool, true, false, cond, List, [], ◌∷◌, ◌++◌, Option, Some, None, refl, sym, ap, subst, ◌∙◌}
use Rattle.std.proofs.lemmas.Bool.{true≢false}
use Rattle.std.proofs.lemmas.Slice.Eq.{bytes_eq-Decides}
use Rattle.std.specs.Prelude.{filter, is_some}
use Rattle.unwinding.specs.FiniteCells.{get_cell, restrict_cells}
use Rattle.unwinding.specs.World.{SiteReply, after_main, after_side, after_sides, of_site, outcome, world_step}
use Rattle.unwinding.specs.Facts.{Facts, IsQuiet}
use Rattle.unwinding.proofs.EpochReplies.{lines_replies}
use Rattle.suffix_list.specs.Suffix.{Rule}
use Rattle.origin_site.specs.Site.{PlainSite, same_plain_site, site_of_address}
use Rattle.origin_site.proofs.SameLemmas.{same_plain_site-Decides}
use Rattle.storage_key.specs.Context.{is_of}
use Rattle.live_state.specs.Tabs.{PlainTab}
use Rattle.reply_lines.specs.Reply.{reply_text}
use Rattle.agent_base.specs.declared.refusals.Label.{Label}
use Rattle.script_actions.specs.Action.{DocumentAction, PlainAction, Tick, Open, Close, Go, Evict, Act}
use Rattle.agent_model.specs.CookieCells.{domain_order}
use Rattle.agent_model.specs.Partition.{Partition, empty_partition, tab_named}
use Rattle.agent_model.specs.Effects.{SharedCells}
use Rattle.agent_model.specs.SiteEvent.{SiteEvent, Acts, Arrives, Leaves, Copies, Closes, Evicts, TimedEvent, Answer}
use Rattle.agent_model.specs.Consults.{event_names}
use Rattle.agent_model.specs.Sessions.{has_session}
use Rattle.agent_model.specs.SiteStep.{site_step, act, close_at}
use Rattle.agent_model.specs.Lines.{AgentWorld, SiteOccurrence, main_event, site_at, timed}
use Rattle.agent_model.specs.SideEvents.{where_so, copies, leaves, closes, side_event}
use Rattle.agent_model.specs.TheMachine.{IsSound, machine, beginning}
use Rattle.agent_model.specs.Isolation.{IsIsolated, HasIsolatedLines, replies_to, answers_of, local_script, site_run, text_of, lines_of_site, lines_alone, printed}
use Rattle.agent_model.proofs.CookieCellsLemmas.{equal_cookies-Decides, get_set, get_restrict, get_merge, same_cells}

-- ---- partitions of their own sites

module _ (rules : List Rule) where
  -- no event makes a partition another site's
  pub step_site : (p : Partition) (cells : SharedCells) (e : TimedEvent) → (site_step rules p cells e).partition.site ≡ p.site
  unfolding site_step
  step_site p cells e = by e.event
    where
      by_act : (at : Label) (action : DocumentAction) (tab : Option PlainTab) → (act rules e.moment at action tab cells p).partition.site ≡ p.site
      by_act at action None = refl
      by_act at action (Some tab) = refl

      by_close : (number : ℕ) (tab : Option PlainTab) → (close_at number tab cells p).partition.site ≡ p.site
      by_close number None = refl
      by_close number (Some tab) = refl

      by : (event : SiteEvent) → (site_step rules p cells (record { moment = e.moment; event = event })).partition.site ≡ p.site
      by (Acts at action) = by_act at action (tab_named at.tab p.held)
      by (Arrives load tab url method same_site head) = refl
      by (Leaves tab) = refl
      by (Copies from to) = refl
      by (Closes tab) = by_close tab (tab_named tab p.held)
      by Evicts = refl

  -- nor does an event beside the main one
  pub beside_site : (w : AgentWorld) (l : PlainAction) (s : PlainSite) → ((after_sides (machine rules) w l).partition s).site ≡ (w.partition s).site
  unfolding machine
  beside_site w l s = by (side_event rules w l s)
    where
      by : (o : Option TimedEvent) → (after_side (machine rules) w.cells o (w.partition s)).site ≡ (w.partition s).site
      by None = refl
      by (Some e) = step_site (w.partition s) (restrict_cells domain_order (λ c. false) w.cells) e

  stays_sound : (w : AgentWorld) (l : PlainAction) → IsSound w → IsSound (world_step (machine rules) w l)
  unfolding world_step machine
  stays_sound w l ok s = by (main_event rules w l)
    where
      beside : AgentWorld
      beside = after_sides (machine rules) w l

      own : (t : PlainSite) → (beside.partition t).site ≡ t
      own t = beside_site w l t ∙ ok t

      by : (o : Option SiteOccurrence) → ((after_main (machine rules) beside o).partition s).site ≡ s
      by None = own s
      by (Some a) = at (same_plain_site s a.site) refl
        where
          done : Partition
          done = (outcome (machine rules) a.site (beside.partition a.site) beside.cells a.event).partition

          at : (b : Bool) → same_plain_site s a.site ≡ b → (cond b done (beside.partition s)).site ≡ s
          at true is = step_site (beside.partition a.site) _ a.event ∙ own a.site ∙ sym ((same_plain_site-Decides s a.site).0 is)
          at false is = own s

-- ---- events beside the main one

module _ (rules : List Rule) (w : AgentWorld) (s : PlainSite) where
  -- an event is quiet at a site
  abbrev IsQuietHere : TimedEvent → Type 0
  IsQuietHere e = IsQuiet (machine rules) w.cells (w.partition s) e

  -- such an event sees no cell
  abbrev seen : SharedCells
  seen = restrict_cells domain_order (λ c. false) w.cells

  without_reply : (e : TimedEvent) → event_names rules (w.partition s) e.event ≡ [] → (site_step rules (w.partition s) seen e).reply ≡ None → (site_step rules (w.partition s) seen e).changes ≡ [] → IsQuietHere e
  unfolding machine
  without_reply e names reply changes = record { names_none = names; sweeps_none = refl; no_reply = reply; no_changes = changes }

  -- an event that occurs where something is so
  so_quiet : (so : Bool) (d e : TimedEvent) → (so ≡ true → IsQuietHere d) → where_so so d ≡ Some e → IsQuietHere e
  so_quiet true d e quiet is =
      let same : d ≡ e = cc in
      subst IsQuietHere same (quiet refl)
  so_quiet false d e quiet is = cc

  copies_quiet : (tab : ℕ) (opener : Option ℕ) (noopener : Bool) (here : Option PlainSite) (e : TimedEvent)
      → copies w tab opener noopener here s ≡ Some e → IsQuietHere e
  unfolding site_step
  copies_quiet tab (Some opener) noopener here e is = so_quiet _ (timed w (Copies opener tab)) e (λ so. without_reply (timed w (Copies opener tab)) refl refl refl) is
  copies_quiet tab None noopener here e is = cc

  leaves_quiet : (tab : ℕ) (here : Option PlainSite) (target : PlainSite) (e : TimedEvent) → leaves w tab here target s ≡ Some e → IsQuietHere e
  unfolding site_step
  leaves_quiet tab here target e is = so_quiet _ (timed w (Leaves tab)) e (λ so. without_reply (timed w (Leaves tab)) refl refl refl) is

  -- a tab is closed quietly at a site that it is not at
  close_quiet : (tab : ℕ) (there : Option PlainTab) → tab_named tab (w.partition s).held ≡ there
      → cond (is_some there) false (has_session tab (w.partition s).held) ≡ true → IsQuietHere (timed w (Closes tab))
  unfolding site_step
  close_quiet tab None is so =
      without_reply (timed w (Closes tab)) refl
      (ap (λ (t : Option PlainTab). (close_at tab t seen (w.partition s)).reply) is) (ap (λ (t : Option PlainTab). (close_at tab t seen (w.partition s)).changes) is)
  close_quiet tab (Some closed) is so = absurd (true≢false (sym so))

  closes_quiet : (tab : ℕ) (here : Option PlainSite) (e : TimedEvent) → closes w tab here s ≡ Some e → IsQuietHere e
  closes_quiet tab None e is = cc
  closes_quiet tab (Some here) e is = so_quiet _ (timed w (Closes tab)) e (close_quiet tab (tab_named tab (w.partition s).held) refl) is

pub quiet : (rules : List Rule) (w : AgentWorld) (l : PlainAction) (s : PlainSite) (e : TimedEvent) → side_event rules w l s ≡ Some e → IsQuietHere rules w s e
unfolding side_event
quiet rules w (Open tab url opener noopener method head) s e is = copies_quiet rules w s tab opener noopener (site_at tab w.rest.places) e is
quiet rules w (Go tab url by_page method head) s e is = leaves_quiet rules w s tab (site_at tab w.rest.places) (site_of_address rules url) e is
quiet rules w (Close tab) s e is = closes_quiet rules w s tab (site_at tab w.rest.places) e is
quiet rules w (Tick seconds) s e is = cc
quiet rules w (Evict site) s e is = cc
quiet rules w (Act at action) s e is = cc

pub facts : (rules : List Rule) → Facts (machine rules) IsSound
unfolding machine
facts rules =
    record {
      site_same = λ s t. (same_plain_site-Decides s t).0;
      site_itself = λ s. (same_plain_site-Decides s s).1 refl;
      cell_same = λ c d. (bytes_eq-Decides c d).0;
      content_same = λ x y. (equal_cookies-Decides x y).0;
      get_set = λ c d from cells. get_set c d (get_cell domain_order from d) cells;
      get_restrict = get_restrict;
      get_merge = get_merge;
      same_cells = same_cells;
      in_listed = λ cs c. refl;
      own_home = λ s c is. cc;
      own_alone = λ s t c is home. cc;
      side_quiet = λ w l s e ok is. quiet rules w l s e is;
      sound = λ w l ok. stays_sound rules w l ok;
    }

pub begins_sound : (start : ℕ) → IsSound (beginning start)
unfolding beginning empty_partition
begins_sound start site = refl

pub is_isolated : IsIsolated
unfolding answers_of replies_to local_script site_run
is_isolated rules site start lines = lines_replies (machine rules) IsSound (facts rules) site (beginning start) (begins_sound start) lines

-- an answer of a site as it is printed
abbrev line_of : PlainSite → Answer → List ℕ
line_of site answer = reply_text (printed (record { site = Some site; reply = answer }))

-- the lines of a site are the text of the answers that belong to it
pub site_lines : (rules : List Rule) (site : PlainSite) (told : List (SiteReply PlainSite Answer)) → lines_of_site site told ≡ lines_alone site (answers_of rules site told)
unfolding lines_of_site lines_alone answers_of text_of machine
site_lines rules site [] = refl
site_lines rules site (one ∷ told) = at one.site one.reply (site_lines rules site told)
  where
    mine : (other : PlainSite) (answer : Answer) (b : Bool) → same_plain_site site other ≡ b → lines_of_site site told ≡ lines_alone site (answers_of rules site told)
        → text_of (cond b (record { site = Some other; reply = answer } ∷ filter (λ x. is_of site x.site) told) (filter (λ x. is_of site x.site) told))
        ≡ lines_alone site (cond b (answer ∷ []) [] ++ of_site (machine rules) site told)
    mine other answer true is later = λ i. line_of (sym ((same_plain_site-Decides site other).0 is) i) answer ++ later i
    mine other answer false is later = later

    at : (where_to : Option PlainSite) (answer : Answer) → lines_of_site site told ≡ lines_alone site (answers_of rules site told)
        → lines_of_site site (record { site = where_to; reply = answer } ∷ told) ≡ lines_alone site (answers_of rules site (record { site = where_to; reply = answer } ∷ told))
    at None answer later = later
    at (Some other) answer later = mine other answer (same_plain_site site other) refl later

pub has_isolated_lines : HasIsolatedLines
has_isolated_lines rules site start lines = site_lines rules site (replies_to rules start lines) ∙ ap (lines_alone site) (is_isolated rules site start lines)
