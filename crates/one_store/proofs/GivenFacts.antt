-- What a run gives a site, worked out by hand: two sites, a tab for each, and a tick between them.
use Rattle.std.proofs.Common.{◌≡◌, ℕ, Bool, true, false, cond, refl, ap, sym, ◌∙◌, List, [], ◌∷◌, ◌++◌, None}
use Rattle.std.specs.Prelude.{codes}
use Rattle.std.specs.Cmp.{nat_cmp_total}
use Rattle.std.specs.Ordering.{nat_cmp}
use Rattle.std.specs.FinMap.{get-empty, get-insert}
use Rattle.unwinding.specs.Durable.{DurableChange}
use Rattle.unwinding.specs.World.{SiteReply}
use Rattle.origin_site.specs.Site.{PlainSite, same_plain_site, site_of_address}
use Rattle.row_changes.specs.Change.{PlainChange}
use Rattle.script_actions.specs.declared.words.Method.TheVariants as method
use Rattle.script_actions.specs.Action.{PlainAction, Tick, Open}
use Rattle.agent_model.specs.Partition.{Holdings, no_holdings}
use Rattle.agent_model.specs.Effects.{SharedCells, Done, no_shared_cells}
use Rattle.agent_model.specs.SiteEvent.{TimedEvent, Answer, Arrives, Opens}
use Rattle.agent_model.specs.Sessions.{arrive}
use Rattle.agent_model.specs.Lines.{AgentWorld, Places, User, no_places, placed, site_at}
use Rattle.agent_model.specs.TheMachine.{beginning}
use Rattle.agent_model.specs.Isolation.{local_script}
use Rattle.agent_model.specs.Given.{events_given, given_reaching, where_free}
use Rattle.one_store.specs.WholeWorld.{whole_world}
use Rattle.agent_model.proofs.GivenFacts.{all_given, event_at, events_of, given_all}
use Rattle.agent_model.proofs.StandardFacts.{address, site, a, b}
use Rattle.one_store.proofs.WorldLemmas.{LineMakes}
use Rattle.one_store.proofs.WorldBeginningLemmas.{beginning_whole}
use Rattle.one_store.proofs.WorldCloseLemmas.{tick_makes}
use Rattle.one_store.proofs.WorldOpenLemmas.{open_makes}

-- the events that a line gives a site, and those behind it
of_line : {made : List (DurableChange PlainSite PlainChange)} (s : PlainSite) (before after : AgentWorld) (action : PlainAction) (told : SiteReply PlainSite Answer) (lines : List PlainAction) → LineMakes [] before action after told made
    → all_given s before (action ∷ lines) ≡ events_given [] s (before.partition s) before.rest action ++ all_given s after lines
of_line s before after action told lines makes = λ i. events_given [] s (before.partition s) before.rest action ++ all_given s (makes.world i) lines

-- tab 1 is opened at `https://a.test`, five seconds pass, and tab 2 is opened at `https://b.test`
abbrev opens : ℕ → List ℕ → PlainAction
opens tab host = Open tab (address host) None false method.Get []

abbrev run : List PlainAction
run = opens 1 a ∷ Tick 5 ∷ opens 2 b ∷ []

abbrev at_a : Places
at_a = placed 1 (site a) no_places

-- what is done by the first
abbrev came : Done
came = arrive [] 7 (site a) 1 (address a) method.Get true [] no_shared_cells no_holdings

nothing_open : site_at 1 no_places ≡ None
unfolding no_places
nothing_open = get-empty nat_cmp 1

two_is_not : site_at 2 at_a ≡ None
unfolding no_places
two_is_not = get-insert nat_cmp_total no_places 1 (site a) 2 ∙ get-empty nat_cmp 2

-- an `open` by the user is given to the site that it reaches, and to no other
abbrev given_if : Bool → ℕ → ℕ → List ℕ → List TimedEvent
given_if mine now tab host = cond mine (event_at now (Arrives Opens tab (address host) method.Get true []) ∷ []) []

of_open : (s : PlainSite) (now : ℕ) (places : Places) (cells : SharedCells) (held : Holdings) (tab : ℕ) (host : List ℕ) → site_at tab places ≡ None
    → (let w = whole_world now places cells held in events_given [] s (w.partition s) w.rest (opens tab host)) ≡ given_if (same_plain_site s (site_of_address [] (address host))) now tab host
unfolding whole_world events_given
of_open s now places cells held tab host free = ap (λ here. where_free here (given_reaching [] s now Opens tab (address host) method.Get true [])) free

of_tick : (s : PlainSite) (now : ℕ) (places : Places) (cells : SharedCells) (held : Holdings)
    → (let w = whole_world now places cells held in events_given [] s (w.partition s) w.rest (Tick 5)) ≡ []
unfolding whole_world events_given
of_tick s now places cells held = refl

given : (s : PlainSite) → events_of (local_script [] s 7 run).script.entries ≡ given_if (same_plain_site s (site a)) 7 1 a ++ (given_if (same_plain_site s (site b)) 12 2 b ++ [])
unfolding local_script
given s =
    given_all s [] (beginning 7) run
    ∙ ap (λ w. all_given s w run) (sym (beginning_whole 7))
    ∙ of_line s (whole_world 7 no_places no_shared_cells no_holdings) (whole_world 7 at_a came.cells came.held) (opens 1 a) _ (Tick 5 ∷ opens 2 b ∷ [])
    (open_makes [] 7 no_places no_shared_cells no_holdings 1 (address a) None false method.Get [] User refl nothing_open)
    ∙ λ i. of_open s 7 no_places no_shared_cells no_holdings 1 a nothing_open i ++ later i
  where
    last : all_given s (whole_world 12 at_a came.cells came.held) (opens 2 b ∷ []) ≡ given_if (same_plain_site s (site b)) 12 2 b ++ []
    last =
        of_line s (whole_world 12 at_a came.cells came.held) _ (opens 2 b) _ [] (open_makes [] 12 at_a came.cells came.held 2 (address b) None false method.Get [] User refl two_is_not)
        ∙ ap (λ es. es ++ []) (of_open s 12 at_a came.cells came.held 2 b two_is_not)

    later : all_given s (whole_world 7 at_a came.cells came.held) (Tick 5 ∷ opens 2 b ∷ []) ≡ given_if (same_plain_site s (site b)) 12 2 b ++ []
    later =
        of_line s (whole_world 7 at_a came.cells came.held) (whole_world 12 at_a came.cells came.held) (Tick 5) _ (opens 2 b ∷ []) (tick_makes [] 7 at_a came.cells came.held 5)
        ∙ (λ i. of_tick s 7 at_a came.cells came.held i ++ all_given s (whole_world 12 at_a came.cells came.held) (opens 2 b ∷ [])) ∙ last

-- each site is given its own event at its moment, and nothing of the other's
given_a : events_of (local_script [] (site a) 7 run).script.entries ≡ event_at 7 (Arrives Opens 1 (address a) method.Get true []) ∷ []
given_a = given (site a)

given_b : events_of (local_script [] (site b) 7 run).script.entries ≡ event_at 12 (Arrives Opens 2 (address b) method.Get true []) ∷ []
given_b = given (site b)

given_c : events_of (local_script [] (site (codes "c.test")) 7 run).script.entries ≡ []
given_c = given (site (codes "c.test"))
