-- A change is told: what is sent to the documents of the list, and told to those of the map.
use Rattle.std.proofs.Common.{◌≡◌, ◌==◌, ◌||◌, ℕ, Bool, true, false, cond, List, [], ◌∷◌, map, Option, Some, None, refl, sym, ap, ◌∙◌}
use Rattle.std.proofs.lemmas.Cmp.{nat_cmp_total}
use Rattle.std.proofs.lemmas.List.{map-id}
use Rattle.std.proofs.lemmas.Simd.{map-map}
use Rattle.std.specs.Prelude.{find, option_map}
use Rattle.std.specs.List.{list_any}
use Rattle.std.specs.Ordering.{nat_cmp}
use Rattle.std.specs.FinMap.{nat_cmp-IsAntisymmetric, same_map}
use Rattle.agent_base.specs.declared.refusals.Label.{Label}
use Rattle.storage_events.specs.declared.event.AreaKind.{AreaKind}
use Rattle.storage_events.specs.Audience.{same_label}
use Rattle.storage_events.specs.Event.{PlainEvent}
use Rattle.storage_events.specs.declared.event.Event.{Event}
use Rattle.live_state.specs.Tabs.{PlainFrameQueue, PlainTab, is_rising, tab_at}
use Rattle.live_state.specs.Queues.{plain_sent, event_for, label_of, queue_told, sent, with_queues}
use Rattle.live_state.proofs.ListLemmas.{find-map}
use Rattle.agent_model.specs.Documents.{Keyed, hears_at, told, told_queue, told_tab}
use Rattle.agent_model.proofs.KeptLemmas.{get_mapped}
use Rattle.agent_memory.specs.AgentState.{tabs_in}
use Rattle.agent_memory.specs.FrameTrees.{AreTrees}
use Rattle.agent_memory.specs.Documents.{each_sent}
use Rattle.live_state.specs.Hearers.{hearers}
use Rattle.agent_memory.proofs.LiveLemmas.{number_found, tab_found}
use Rattle.agent_memory.proofs.MemberLemmas.{passes}
use Rattle.agent_memory.proofs.AudienceLemmas.{in_audience}

-- a document that is among them has the event
event_sent : (label : Label) (event : PlainEvent) (to : List Label)
    → event_for label (each_sent event to) ≡ cond (list_any (λ l. same_label l label) to) (Some event) None
event_sent label event [] = refl
event_sent label event (l ∷ to) = at (same_label l label) (event_sent label event to)
  where
    at : (b : Bool) → event_for label (each_sent event to) ≡ cond (list_any (λ l. same_label l label) to) (Some event) None
        → option_map (λ entry. entry.1) (cond b (Some (l, event)) (find (λ entry. same_label entry.0 label) (each_sent event to)))
        ≡ cond (b || list_any (λ l. same_label l label) to) (Some event) None
    at true later = refl
    at false later = later

-- events of the program that are such ones are for these documents
pub labels_sent : (event : PlainEvent) (to : List Label) (events : List (Label × Event))
    → map plain_sent events ≡ each_sent event to → map (λ e. e.0) events ≡ to
labels_sent event to events is =
    sym (map-map (λ e. e.0) plain_sent events) ∙ ap (map (λ e. e.0)) is
    ∙ map-map (λ e. e.0) (λ label. (label, event)) to ∙ map-id to

module _ (kind : AreaKind) (writer : Keyed) (event : PlainEvent) (tabs : List PlainTab)
    (rising : is_rising tabs ≡ true) (trees : AreTrees tabs) where
  -- the documents that hear
  abbrev to : List Label
  to = hearers kind writer.at writer.key tabs

  abbrev change : Label → PlainFrameQueue → PlainFrameQueue
  change label queue = queue_told (event_for label (each_sent event to)) queue

  module _ (tab : PlainTab) (is : tab_at tab.number tabs ≡ Some tab) where
    queue_sent : (queue : PlainFrameQueue) → change (label_of tab queue) queue ≡ told_queue kind writer event tab.number tab queue
    queue_sent queue =
        ap (λ event. queue_told event queue) (event_sent (label_of tab queue) event to
        ∙ ap (λ b. cond b (Some event) None) (in_audience kind writer (label_of tab queue) tabs rising trees
        ∙ ap (passes (λ tab'. hears_at kind writer tab.number tab' queue.frame)) is))
        ∙ at (hears_at kind writer tab.number tab queue.frame)
      where
        at : (b : Bool) → queue_told (cond b (Some event) None) queue ≡ cond b (queue_told (Some event) queue) queue
        at true = refl
        at false = refl

    queues_sent : (queues : List PlainFrameQueue) → map (λ queue. change (label_of tab queue) queue) queues
        ≡ map (told_queue kind writer event tab.number tab) queues
    queues_sent [] = refl
    queues_sent (queue ∷ queues) = λ i. queue_sent queue i ∷ queues_sent queues i

  -- a tab that is sent the event is told
  tab_sent : (number : ℕ) (found : Option PlainTab) → tab_at number tabs ≡ found
      → option_map (with_queues change) found ≡ option_map (told_tab kind writer event number) found
  tab_sent number None is = refl
  tab_sent number (Some tab) is =
      let same : tab.number ≡ number = number_found number tabs tab is in
      ap (λ queues. Some (record tab { queues = queues })) (queues_sent tab (ap (λ n. tab_at n tabs) same ∙ is) tab.queues)
      ∙ ap (λ n. Some (told_tab kind writer event n tab)) same

  -- what is sent to the documents that hear, in the list, is told to every document of the map
  pub tabs_after_send : tabs_in (sent (each_sent event to) tabs) ≡ told kind writer event (tabs_in tabs)
  tabs_after_send = same_map nat_cmp_total nat_cmp-IsAntisymmetric _ _ (λ q.
      tab_found q (sent (each_sent event to) tabs)
      ∙ find-map (with_queues change) (λ tab. tab.number == q) tabs ∙ tab_sent q (tab_at q tabs) refl
      ∙ sym (get_mapped nat_cmp nat_cmp_total nat_cmp-IsAntisymmetric (told_tab kind writer event) (tabs_in tabs) q
      ∙ ap (option_map (told_tab kind writer event q)) (tab_found q tabs)))
