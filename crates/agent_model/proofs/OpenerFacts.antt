-- A tab that a page opens, worked out by hand from the rules.
use Rattle.std.proofs.Common.{◌≡◌, ℕ, Bool, true, false, ap, ◌∙◌, List, [], Option, Some, None}
use Rattle.std.specs.Prelude.{codes, option_map}
use Rattle.std.specs.Cmp.{nat_cmp_total}
use Rattle.std.specs.Ordering.{nat_cmp}
use Rattle.std.specs.FinMap.{get-empty, get-insert}
use Rattle.unwinding.specs.FiniteCells.{restrict_cells}
use Rattle.unwinding.specs.World.{after_main, after_side, after_sides, consulted, world_step}
use Rattle.storage_key.specs.Context.{is_of}
use Rattle.script_actions.specs.declared.words.Method.TheVariants as method
use Rattle.reply_lines.specs.Reply.{PlainBody, Plain}
use Rattle.script_actions.specs.Action.{PlainAction, Open}
use Rattle.agent_model.specs.Partition.{Holdings}
use Rattle.agent_model.specs.CookieCells.{domain_order}
use Rattle.agent_model.specs.Effects.{SharedCells, no_shared_cells}
use Rattle.agent_model.specs.SiteEvent.{Answer, Arrives, Copies, Opens, TimedEvent}
use Rattle.agent_model.specs.Sessions.{copy_sessions}
use Rattle.agent_model.specs.SiteStep.{site_step}
use Rattle.agent_model.specs.Lines.{AgentWorld, Page, site_at, placed, no_places, opening, main_event}
use Rattle.agent_model.specs.SideEvents.{where_so, copies, side_event}
use Rattle.agent_model.specs.Rest.{open_refusal, refusal}
use Rattle.agent_model.specs.TheMachine.{machine}
use Rattle.agent_model.proofs.StandardFacts.{address, site, a, b, at_seven, occurs_at}

-- tab 1 is open, at `https://a.test`, and no other tab is. Each site has these holdings.
abbrev with_one : Holdings → AgentWorld
with_one held =
    record {
      partition = λ s. record { site = s; held = held };
      cells = no_shared_cells;
      rest = record { now = 7; places = placed 1 (site a) no_places };
    }

one_is_open : site_at 1 (placed 1 (site a) no_places) ≡ Some (site a)
one_is_open = get-insert nat_cmp_total no_places 1 (site a) 1

two_is_not : site_at 2 (placed 1 (site a) no_places) ≡ None
unfolding no_places
two_is_not = get-insert nat_cmp_total no_places 1 (site a) 2 ∙ get-empty nat_cmp 2

-- a line that opens a tab at `https://a.test`
abbrev opens : (tab opener : ℕ) → Bool → PlainAction
opens tab opener noopener = Open tab (address a) (Some opener) noopener method.Get []

abbrev refused : PlainBody → Answer
refused body = record { name = codes "open"; body = body }

-- it is refused where its opener is not open, also where its own number is taken
without_opener : (held : Holdings) (tab : ℕ) → refusal (with_one held) (opens tab 2 false) ≡ refused (Plain (codes "no-tab"))
unfolding refusal
without_opener held tab = ap (λ there. refused (open_refusal (option_map Page there))) two_is_not

-- and where its number is taken
number_is_taken : (held : Holdings) → refusal (with_one held) (opens 1 1 false) ≡ refused (Plain (codes "tab-exists"))
unfolding refusal
number_is_taken held = ap (λ there. refused (open_refusal (option_map Page there))) one_is_open

-- the opener's page starts the load, so that it is same-site
opens_two : (held : Holdings) → main_event [] (with_one held) (opens 2 1 false) ≡ occurs_at a (Arrives Opens 2 (address a) method.Get true [])
unfolding main_event
opens_two held = λ i. opening [] (with_one held) 2 (address a) method.Get [] (option_map Page (one_is_open i)) (two_is_not i)

-- a page of another site starts one that is not, with `noopener` too, and by its method
posts : (held : Holdings) (noopener : Bool) → main_event [] (with_one held) (Open 2 (address b) (Some 1) noopener method.Post []) ≡ occurs_at b (Arrives Opens 2 (address b) method.Post false [])
unfolding main_event
posts held noopener = λ i. opening [] (with_one held) 2 (address b) method.Post [] (option_map Page (one_is_open i)) (two_is_not i)

-- a page of the same site starts one that is, with `noopener` too
opens_without : (held : Holdings) → main_event [] (with_one held) (opens 2 1 true) ≡ occurs_at a (Arrives Opens 2 (address a) method.Get true [])
unfolding main_event
opens_without held = λ i. opening [] (with_one held) 2 (address a) method.Get [] (option_map Page (one_is_open i)) (two_is_not i)

-- the site that the opener is at copies session areas, and no other does, nor where none are wanted
copies_at : (held : Holdings) (host : List ℕ) → side_event [] (with_one held) (opens 2 1 false) (site host) ≡ where_so (is_of (site host) (Some (site a))) (at_seven (Copies 1 2))
unfolding side_event
copies_at held host =
    ap (λ taken. copies (with_one held) 2 (Some 1) false taken (site host)) two_is_not
    ∙ ap (λ here. where_so (is_of (site host) here) (at_seven (Copies 1 2))) one_is_open

copies_under_a : (held : Holdings) → side_event [] (with_one held) (opens 2 1 false) (site a) ≡ Some (at_seven (Copies 1 2))
copies_under_a held = copies_at held a

copies_under_b : (held : Holdings) → side_event [] (with_one held) (opens 2 1 false) (site b) ≡ None
copies_under_b held = copies_at held b

copies_none : (held : Holdings) → side_event [] (with_one held) (opens 2 1 true) (site a) ≡ None
unfolding side_event
copies_none held = ap (λ taken. copies (with_one held) 2 (Some 1) true taken (site a)) two_is_not

-- a number that is taken gets no copies
copies_of_taken : (held : Holdings) → side_event [] (with_one held) (opens 1 1 false) (site a) ≡ None
unfolding side_event
copies_of_taken held = ap (λ taken. copies (with_one held) 1 (Some 1) false taken (site a)) one_is_open

-- the tab has its copies when it arrives
copies_first : (held : Holdings) →
    ((world_step (machine []) (with_one held) (opens 2 1 false)).partition (site a)).held.sessions
    ≡ (copy_sessions (site a) 1 2 held).sessions
unfolding world_step machine site_step
copies_first held =
    ap (λ main. ((after_main (machine []) (after_sides (machine []) (with_one held) (opens 2 1 false)) main).partition (site a)).held.sessions) (opens_two held)
    ∙ ap
    (λ side. (site_step [] (after_side (machine []) no_shared_cells side ((with_one held).partition (site a))) (seen side) (at_seven (Arrives Opens 2 (address a) method.Get true []))).partition.held.sessions)
    (copies_under_a held)
  where
    -- the shared cells that the arrival sees
    seen : Option TimedEvent → SharedCells
    seen side = restrict_cells domain_order (consulted (machine []) (site a) (after_side (machine []) no_shared_cells side ((with_one held).partition (site a))) (at_seven (Arrives Opens 2 (address a) method.Get true []))) no_shared_cells
