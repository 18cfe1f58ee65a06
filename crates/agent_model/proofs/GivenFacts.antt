-- What two sites are given of one short script, and what can be left out of it, worked out by hand.
use Rattle.std.proofs.Common.{◌≡◌, ℕ, true, false, not, cond, List, [], ◌∷◌, ◌++◌, Option, Some, refl, ap, ◌∙◌}
use Rattle.std.proofs.lemmas.List.{map-append}
use Rattle.std.specs.Prelude.{codes, map}
use Rattle.std.specs.Cmp.{nat_cmp_total}
use Rattle.std.specs.FinMap.{get-insert}
use Rattle.unwinding.specs.World.{world_step}
use Rattle.unwinding.specs.LocalEntries.{line_touched, local_entries}
use Rattle.unwinding.specs.LeftOut.{lines_without}
use Rattle.origin_site.specs.Site.{PlainSite}
use Rattle.storage_key.specs.Context.{is_of}
use Rattle.script_actions.specs.declared.words.Method.TheVariants as method
use Rattle.script_actions.specs.Action.{PlainAction, Tick, Evict, Act, Click}
use Rattle.agent_model.specs.CookieCells.{Domain}
use Rattle.agent_model.specs.Partition.{empty_partition}
use Rattle.agent_model.specs.Effects.{no_shared_cells}
use Rattle.agent_model.specs.SiteEvent.{SiteEvent, TimedEvent, Acts, Arrives, Leaves, Evicts, Goes}
use Rattle.agent_model.specs.Lines.{AgentWorld, Places, no_places, placed, site_at}
use Rattle.agent_model.specs.Rest.{rest_after}
use Rattle.agent_model.specs.TheMachine.{machine}
use Rattle.agent_model.specs.Given.{SiteEntry, entry_given, events_given, given, given_going}
use Rattle.agent_model.specs.Groups.{is_apart, is_at}
use Rattle.agent_model.proofs.StandardFacts.{address, site, at_frame, stores, a, b}
use Rattle.agent_model.proofs.GivenLemmas.{gives_exactly}

-- tab 1 is at `https://a.test`, and tab 2 at `https://b.test`
abbrev both : Places
both = placed 2 (site b) (placed 1 (site a) no_places)

first_at : site_at 1 both ≡ Some (site a)
first_at = get-insert nat_cmp_total (placed 1 (site a) no_places) 2 (site b) 1 ∙ get-insert nat_cmp_total no_places 1 (site a) 1

second_at : site_at 2 both ≡ Some (site b)
second_at = get-insert nat_cmp_total (placed 1 (site a) no_places) 2 (site b) 2

abbrev world : AgentWorld
world = record { partition = empty_partition; cells = no_shared_cells; rest = record { now = 5; places = both } }

-- a click in tab 2, three seconds, a click in tab 1, and an eviction of `https://b.test`
abbrev lines : List PlainAction
lines = Act (at_frame 2 0) Click ∷ Tick 3 ∷ Act (at_frame 1 0) Click ∷ Evict (site b) ∷ []

-- an event at a moment
abbrev pub event_at : ℕ → SiteEvent → TimedEvent
event_at now event = record { moment = now; event = event }

-- the events that some lines give a site
abbrev pub all_given : PlainSite → AgentWorld → List PlainAction → List TimedEvent
all_given s w [] = []
all_given s w (l ∷ ls) = events_given [] s (w.partition s) w.rest l ++ all_given s (world_step (machine []) w l) ls

-- the events of its entries
abbrev pub events_of : List SiteEntry → List TimedEvent
events_of entries = map (λ entry. entry.event) entries

same_events : (s : PlainSite) (touched : List Domain) (w : AgentWorld) (es : List TimedEvent) → events_of (map (entry_given [] s (w.partition s) touched w.cells) es) ≡ es
same_events s touched w [] = refl
same_events s touched w (e ∷ es) = ap (λ more. e ∷ more) (same_events s touched w es)

pub given_all : (s : PlainSite) (touched : List Domain) (w : AgentWorld) (ls : List PlainAction) → events_of (local_entries (machine []) s touched w ls) ≡ all_given s w ls
given_all s touched w [] = refl
given_all s touched w (l ∷ ls) =
    let later = local_entries (machine []) s (line_touched (machine []) s touched w l) (world_step (machine []) w l) ls in
    ap (λ es. events_of (es ++ later)) (gives_exactly [] s touched w l)
    ∙ map-append (λ entry. entry.event) (map (entry_given [] s (w.partition s) touched w.cells) (events_given [] s (w.partition s) w.rest l)) later
    ∙ (λ i. same_events s touched w (events_given [] s (w.partition s) w.rest l) i ++ given_all s (line_touched (machine []) s touched w l) (world_step (machine []) w l) ls i)

-- `https://a.test` is given its own click, with the clock before it
given_a : events_of (local_entries (machine []) (site a) [] world lines) ≡ event_at 8 (Acts (at_frame 1 0) Click) ∷ []
unfolding world_step machine rest_after events_given
given_a =
    given_all (site a) [] world lines
    ∙ (λ i. given (is_of (site a) (second_at i)) 5 (Acts (at_frame 2 0) Click) ++ (given (is_of (site a) (first_at i)) 8 (Acts (at_frame 1 0) Click) ++ []))

-- `https://b.test` is given its own click and its eviction
given_b : events_of (local_entries (machine []) (site b) [] world lines) ≡ event_at 5 (Acts (at_frame 2 0) Click) ∷ event_at 8 Evicts ∷ []
unfolding world_step machine rest_after events_given
given_b =
    given_all (site b) [] world lines
    ∙ (λ i. given (is_of (site b) (second_at i)) 5 (Acts (at_frame 2 0) Click) ++ (given (is_of (site b) (first_at i)) 8 (Acts (at_frame 1 0) Click) ++ (event_at 8 Evicts ∷ [])))

-- for the sites of `a.test` the click in tab 2 and the eviction are left out
left_a : lines_without (machine []) (λ w l. is_apart (a ∷ []) w.rest l) world lines ≡ Tick 3 ∷ Act (at_frame 1 0) Click ∷ []
unfolding world_step machine rest_after
left_a =
    (λ i. cond (not (is_at (a ∷ []) (second_at i))) (later (site_at 1 both)) (Act (at_frame 2 0) Click ∷ later (site_at 1 both)))
    ∙ ap later first_at
  where
    later : Option PlainSite → List PlainAction
    later place = Tick 3 ∷ cond (not (is_at (a ∷ []) place)) [] (Act (at_frame 1 0) Click ∷ [])

-- a tab that the user sends from `https://a.test` to `https://b.test`: the one is given that it
-- leaves, and the other that it arrives, and not from where
goes_from_a : given_going [] (site a) 5 1 (address b) false method.Post [] (Some (site a)) ≡ event_at 5 (Leaves 1) ∷ []
goes_from_a = refl

goes_to_b : given_going [] (site b) 5 1 (address b) false method.Post (stores (codes "s=1")) (Some (site a)) ≡ event_at 5 (Arrives Goes 1 (address b) method.Post true (stores (codes "s=1"))) ∷ []
goes_to_b = refl
