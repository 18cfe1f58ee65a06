-- Which domains stand apart where storage access is granted, worked out by hand in the run of
-- `GrantRunFacts`: that of the widget and that of the page do together, and neither does alone.
use Rattle.std.proofs.Common.{◌≡◌, true, false, ◌||◌, List, [], ◌∷◌, Option, Some, refl, sym, ap, subst}
use Rattle.std.proofs.lemmas.Bool.{true≢false}
use Rattle.std.specs.List.{list_any}
use Rattle.std.specs.Prelude.{bytes_eq}
use Rattle.unwinding.specs.World.{is_in, world_step}
use Rattle.unwinding.specs.LeftOut.{ConsultsWithin, IsGroup}
use Rattle.live_state.specs.Tabs.{PlainTab}
use Rattle.script_actions.specs.Action.{Click, DocumentAction, PlainAction}
use Rattle.agent_model.specs.CookieCells.{Domain}
use Rattle.agent_model.specs.Partition.{Holdings, tab_named}
use Rattle.agent_model.specs.Effects.{SharedCells}
use Rattle.agent_model.specs.Lines.{AgentWorld, main_event}
use Rattle.agent_model.specs.SideEvents.{side_event}
use Rattle.agent_model.specs.TheMachine.{machine}
use Rattle.agent_model.specs.Groups.{StandApart, group_of}
use Rattle.agent_model.proofs.GrantRunFacts.{after_opens, asking, cells_asked, cells_before, cells_fetched, cells_framed, clicked_tab, fetch, framed_tab, framing, given_tab, goes, held_after, held_before, held_fetched, held_framed, held_opened, is_clicked, is_framed, is_given, is_opened, last_three, opened_tab, opens_a, opens_w, others, run, w0, w2}
use Rattle.agent_model.proofs.OwnLemmas.{IsNoAction, asked_named, named_asked, one_of, others_own, within_own}
use Rattle.agent_model.proofs.WidgetLemmas.{cells_by, done_by, happens, line, names_by, stepped, world}
use Rattle.agent_model.proofs.StandardFacts.{a, widget}

module _ (domains : List Domain) where
  -- the cells of a line are within these domains, where they are such
  abbrev IsWithin : List Domain → Type 0
  IsWithin names = (c : Domain) → is_in bytes_eq c names ≡ true → list_any (bytes_eq c) domains ≡ list_any (bytes_eq a) domains

  -- and those that it consults
  abbrev IsAskedWithin : List Domain → Type 0
  IsAskedWithin names = (c : Domain) → (is_in bytes_eq c names || false) ≡ true → list_any (bytes_eq c) domains ≡ list_any (bytes_eq a) domains

  -- and so are those of some lines from a world on
  abbrev AreWithin : AgentWorld → List PlainAction → Type 0
  AreWithin w lines = IsGroup (machine []) (group_of domains) w lines

  -- a line that is no document's
  load_within : (w : AgentWorld) (l : PlainAction) → IsNoAction [] w l → ConsultsWithin (machine []) (group_of domains) w l (main_event [] w l)
  load_within w l none = within_own [] domains w l (main_event [] w l) (others_own [] w l none)

  -- a line of the widget, and those behind it
  module _ (cells : SharedCells) (held : Holdings) (action : DocumentAction) (tab : PlainTab) (found : tab_named 1 held ≡ Some tab) where
    abbrev before : AgentWorld
    before = world others cells held

    abbrev after : AgentWorld
    after = world others (cells_by others cells held action (Some tab)) (done_by others cells held action (Some tab)).partition.held

    with_line : IsWithin (names_by action (Some tab)) → (lines : List PlainAction) → AreWithin after lines → AreWithin before (line action ∷ lines)
    unfolding machine side_event
    with_line within lines later = (
      subst (ConsultsWithin (machine []) (group_of domains) before (line action)) (sym (happens others cells held action)) (subst (λ (t : Option PlainTab). IsAskedWithin (names_by action t)) (sym found) (λ c asked. within c (asked_named c (names_by action (Some tab)) asked))),
      subst (λ w. AreWithin w lines) (sym (stepped others cells held action tab found)) later,
    )

    of_line : (lines : List PlainAction) → AreWithin before (line action ∷ lines) → IsWithin (names_by action (Some tab))
    unfolding machine side_event
    of_line lines all c named =
        subst (λ (t : Option PlainTab). IsAskedWithin (names_by action t)) found (subst (ConsultsWithin (machine []) (group_of domains) before (line action)) (happens others cells held action) all.0)
        c (named_asked c (names_by action (Some tab)) named)

    behind_line : (lines : List PlainAction) → AreWithin before (line action ∷ lines) → AreWithin after lines
    behind_line lines all = subst (λ w. AreWithin w lines) (stepped others cells held action tab found) all.1

  -- the request of the widget is within them where all the run is
  fetch_within : StandApart [] domains 7 run → IsWithin (names_by fetch (Some given_tab))
  fetch_within all =
      of_line cells_asked held_after fetch given_tab is_given (goes ∷ [])
      (behind_line cells_before held_before asking clicked_tab is_clicked (line fetch ∷ goes ∷ [])
      (behind_line cells_framed held_framed Click framed_tab is_framed last_three
      (behind_line w2.cells held_opened framing opened_tab is_opened (line Click ∷ last_three) (subst (λ w. AreWithin w (line framing ∷ line Click ∷ last_three)) after_opens all.1.1))))

-- both together
both_stand_apart : StandApart [] (a ∷ widget ∷ []) 7 run
unfolding machine
both_stand_apart = (
  load_within domains w0 opens_w tt,
  (
    load_within domains (world_step (machine []) w0 opens_w) opens_a tt,
    subst (λ w. AreWithin domains w (line framing ∷ line Click ∷ last_three)) (sym after_opens)
        (with_line domains w2.cells held_opened framing opened_tab is_opened (λ c named. cc) (line Click ∷ last_three)
        (with_line domains cells_framed held_framed Click framed_tab is_framed (λ c named. cc) last_three
        (with_line domains cells_before held_before asking clicked_tab is_clicked (λ c named. cc) (line fetch ∷ goes ∷ [])
        (with_line domains cells_asked held_after fetch given_tab is_given (λ c named. ap (λ d. list_any (bytes_eq d) domains) (one_of widget c named)) (goes ∷ [])
        (load_within domains (world others cells_fetched held_fetched) goes tt, tt))))),
  ),
)
  where
    domains : List Domain
    domains = a ∷ widget ∷ []

-- neither alone
widget_does_not : StandApart [] (widget ∷ []) 7 run → ⊥
widget_does_not all = true≢false (fetch_within (widget ∷ []) all widget refl)

page_does_not : StandApart [] (a ∷ []) 7 run → ⊥
page_does_not all = true≢false (sym (fetch_within (a ∷ []) all widget refl))
