-- What the general law asks of the machine and of what is kept of it.
use Rattle.std.proofs.Common.{◌≡◌, Bool, true, false, cond, ◌||◌, List, [], Option, Some, None, refl, sym, ap, ◌∙◌}
use Rattle.std.specs.Prelude.{bytes_eq}
use Rattle.unwinding.specs.FiniteCells.{get_cell, restrict_cells}
use Rattle.unwinding.specs.World.{after_side, after_sides, consulted, is_in, outcome}
use Rattle.unwinding.specs.Durable.{cell_changes, partition_changes}
use Rattle.unwinding.specs.Facts.{DurableFacts, Facts, KeepingFacts}
use Rattle.suffix_list.specs.Suffix.{Rule}
use Rattle.origin_site.specs.Site.{PlainSite, same_plain_site}
use Rattle.cookie_jar.specs.Persistent.{persistent_part}
use Rattle.script_actions.specs.Action.{PlainAction}
use Rattle.row_changes.specs.Change.{PlainChange}
use Rattle.agent_model.specs.CookieCells.{Cookies, Domain, domain_order}
use Rattle.agent_model.specs.SiteEvent.{TimedEvent}
use Rattle.agent_model.specs.Consults.{event_names}
use Rattle.agent_model.specs.Lines.{AgentWorld, SiteOccurrence}
use Rattle.agent_model.specs.SideEvents.{side_event}
use Rattle.agent_model.specs.TheMachine.{machine}
use Rattle.agent_model.proofs.CookieCellsLemmas.{get_restrict}
use Rattle.agent_model.proofs.Isolated as isolated
use Rattle.durable_model.specs.Saved.{Saved, SiteRows}
use Rattle.durable_model.specs.RowEdits.{AreValid}
use Rattle.durable_model.specs.Keeping.{keeping, rows_kept}
use Rattle.durable_model.specs.Laws.{HasFacts}
use Rattle.durable_model.specs.Sound.{IsSavedOf, IsSoundWorld, IsValidState}
use Rattle.durable_model.proofs.ChangedCellLemmas.{get_changed}
use Rattle.durable_model.proofs.FollowsLemmas.{rows_of}
use Rattle.durable_model.proofs.KeptCellLemmas.{kept_same}
use Rattle.durable_model.proofs.RowLemmas.{cookies_after, cookies_are, cookies_elsewhere, rows_after, rows_are, rows_elsewhere}
use Rattle.durable_model.proofs.StepLemmas.{step_follows}
use Rattle.durable_model.proofs.ValidLemmas.{all_valid, opened_same, opens_sound}
use Rattle.durable_model.proofs.WorldLemmas.{line_sound, main_follows, seen_once, sound_at}

-- ---- without restarts

pub facts : (rules : List Rule) → Facts (machine rules) IsSoundWorld
facts rules =
    let own = isolated.facts rules in
    record {
      site_same = own.site_same;
      site_itself = own.site_itself;
      cell_same = own.cell_same;
      content_same = own.content_same;
      get_set = own.get_set;
      get_restrict = own.get_restrict;
      get_merge = own.get_merge;
      same_cells = own.same_cells;
      in_listed = own.in_listed;
      own_home = own.own_home;
      own_alone = own.own_alone;
      side_quiet = λ w l s e ok is. own.side_quiet w l s e ok.own is;
      sound = λ w l ok. line_sound rules w ok l;
    }

-- ---- with restarts

-- the cells that an event consults are those that it names
or_none : (b : Bool) → (b || false) ≡ b
or_none true = refl
or_none false = refl

module _ (rules : List Rule) (w : AgentWorld) (l : PlainAction) (a : SiteOccurrence) (ok : IsSoundWorld w) where
  -- the row changes of the main event
  abbrev changes : List PlainChange
  changes = (outcome (machine rules) a.site ((after_sides (machine rules) w l).partition a.site) w.cells a.event).changes

  other_rows : (s : PlainSite) → same_plain_site s a.site ≡ false → (rows : SiteRows) → partition_changes keeping s changes rows ≡ rows
  unfolding machine
  other_rows s apart rows = rows_are s changes rows ∙ rows_elsewhere a.site s changes rows apart (main_follows rules w ok l a).under

  other_cookies : (c : Domain) → consulted (machine rules) a.site ((after_sides (machine rules) w l).partition a.site) a.event c ≡ false → (cookies : Cookies) → cell_changes keeping c changes cookies ≡ cookies
  unfolding machine
  other_cookies c out cookies =
      let names = event_names rules ((after_sides (machine rules) w l).partition a.site) a.event.event in
      cookies_are c changes cookies ∙ cookies_elsewhere names c changes cookies (sym (or_none (is_in bytes_eq c names)) ∙ out) (main_follows rules w ok l a).among

  new_cookies : (c : Domain) → consulted (machine rules) a.site ((after_sides (machine rules) w l).partition a.site) a.event c ≡ true
      → cell_changes keeping c changes (persistent_part (get_cell domain_order w.cells c))
      ≡ persistent_part (get_cell domain_order (outcome (machine rules) a.site ((after_sides (machine rules) w l).partition a.site) w.cells a.event).cells c)
  unfolding machine
  new_cookies c is =
      let q = (after_sides (machine rules) w l).partition a.site in
      let test = consulted (machine rules) a.site q a.event in
      cookies_are c changes (persistent_part (get_cell domain_order w.cells c))
      ∙ ap (λ cookies. cookies_after c changes (persistent_part cookies)) (sym (get_restrict test w.cells c ∙ ap (λ b. cond b (get_cell domain_order w.cells c) []) is))
      ∙ (main_follows rules w ok l a).cell c (sym (or_none (is_in bytes_eq c (event_names rules q a.event.event))) ∙ is)

  new_rows : (let q = (after_sides (machine rules) w l).partition a.site in
      partition_changes keeping a.site changes (rows_kept q) ≡ rows_kept (outcome (machine rules) a.site q w.cells a.event).partition)
  unfolding machine
  new_rows =
      let q = (after_sides (machine rules) w l).partition a.site in
      rows_are a.site changes (rows_kept q) ∙ (main_follows rules w ok l a).rows

-- an event beside the main one leaves what is kept
side_rows : (rules : List Rule) (w : AgentWorld) (l : PlainAction) (s : PlainSite) → IsSoundWorld w → rows_kept ((after_sides (machine rules) w l).partition s) ≡ rows_kept (w.partition s)
unfolding machine
side_rows rules w l s ok = by (side_event rules w l s) refl
  where
    by : (o : Option TimedEvent) → side_event rules w l s ≡ o → rows_kept (after_side (machine rules) w.cells o (w.partition s)) ≡ rows_kept (w.partition s)
    by None is = refl
    by (Some e) is =
        let none = (isolated.quiet rules w l s e is).no_changes in
        let leads = step_follows rules s (restrict_cells domain_order (λ c. false) w.cells) (w.partition s) e (seen_once rules w ok (λ c. false)) (sound_at rules w ok s) in
        sym leads.rows ∙ ap (λ changes. rows_after s changes (rows_of (w.partition s).held)) none

-- each row change of a main event is valid where it is done
pub main_valid : (rules : List Rule) (w : AgentWorld) (l : PlainAction) (a : SiteOccurrence) (d : Saved) → IsSoundWorld w → IsSavedOf rules w d
    → AreValid d (outcome (machine rules) a.site ((after_sides (machine rules) w l).partition a.site) w.cells a.event).changes
unfolding machine keeping
main_valid rules w l a d ok is =
    let q = (after_sides (machine rules) w l).partition a.site in
    let names = event_names rules q a.event.event in
    let test = consulted (machine rules) a.site q a.event in
    (main_follows rules w ok l a).valid d (
      is.partition a.site ∙ sym (side_rows rules w l a.site ok),
      λ c there.
          is.cell c
          ∙ ap persistent_part (sym (get_restrict test w.cells c ∙ ap (λ b. cond b (get_cell domain_order w.cells c) []) (or_none (is_in bytes_eq c names) ∙ there))),
    )

pub keeping_facts : (rules : List Rule) → KeepingFacts (machine rules) keeping IsSoundWorld IsValidState
unfolding machine keeping
keeping_facts rules =
    record {
      get_again = λ x c. refl;
      get_kept_restrict = get_restrict;
      get_change = λ test change x c. get_changed test x change c;
      other_partition = λ w l a ok is s apart rows. other_rows rules w l a ok s apart rows;
      other_cell = λ w l a ok is c out cookies. other_cookies rules w l a ok c out cookies;
      new_cell = λ w l a ok is c there. new_cookies rules w l a ok c there;
      valid = all_valid;
      opens = opens_sound;
      opened = λ d c valid. kept_same (get_cell domain_order d.cells c) (valid.shared c).0;
    }

pub durable_facts : (rules : List Rule) → DurableFacts (machine rules) keeping IsSoundWorld IsValidState
unfolding machine keeping
durable_facts rules =
    record {
      side_partition = λ w l s ok. side_rows rules w l s ok;
      new_partition = λ w l a ok is. new_rows rules w l a ok;
      opened_partition = λ d s valid. opened_same s (d.partition s) (valid.partitioned s);
    }

pub has_facts : HasFacts
has_facts = record { facts = facts; restarts = keeping_facts; durable = durable_facts }
