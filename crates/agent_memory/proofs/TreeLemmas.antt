-- Each open tab has a tree of frames, before and after each call on the list of open tabs.
use Rattle.std.proofs.Common.{◌≡◌, ◌==◌, ℕ, Bool, true, false, cond, List, map, Option, Some, None, sym, subst}
use Rattle.std.specs.Prelude.{option_map}
use Rattle.agent_base.specs.declared.refusals.Label.{Label}
use Rattle.frame_tree.specs.Tree.{PlainFrame}
use Rattle.storage_events.specs.Event.{PlainEvent}
use Rattle.live_state.specs.Tabs.{PlainFrameQueue, PlainTab, made_tab, tab_at, tabs_put, with_tab, without_tab}
use Rattle.live_state.specs.Queues.{event_for, queue_told, sent, taken, with_queues}
use Rattle.live_state.proofs.LabelLemmas.{after_take}
use Rattle.live_state.proofs.ListLemmas.{find-map}
use Rattle.agent_memory.specs.FrameTrees.{AreTrees, IsFrameTree, IsFrameTreeAt}
use Rattle.agent_memory.proofs.LiveLemmas.{ChangesAt, put_changes, without_changes}

-- a change at one number
trees_changed : (number : ℕ) (tab : Option PlainTab) (before after : List PlainTab)
    → ChangesAt number tab before after → IsFrameTreeAt tab → AreTrees before → AreTrees after
trees_changed number tab before after changes tree trees = λ q. subst IsFrameTreeAt (sym (changes q)) (at q (number == q))
  where
    at : (q : ℕ) (b : Bool) → IsFrameTreeAt (cond b tab (tab_at q before))
    at q true = tree
    at q false = trees q

pub trees_after_put : (number : ℕ) (frames : List PlainFrame) (fresh : Option ℕ) (tabs : List PlainTab)
    → IsFrameTree frames → AreTrees tabs → AreTrees (tabs_put number frames fresh tabs)
trees_after_put number frames fresh tabs tree trees =
    let made : PlainTab = made_tab number frames fresh (tab_at number tabs) in
    trees_changed number (Some made) tabs (with_tab made tabs) (put_changes made tabs) tree trees

pub trees_after_close : (number : ℕ) (tabs : List PlainTab) → AreTrees tabs → AreTrees (without_tab number tabs)
trees_after_close number tabs trees = trees_changed number None tabs (without_tab number tabs)
    (without_changes number tabs) tt trees

-- a change of queues
trees_after_queues : (change : Label → PlainFrameQueue → PlainFrameQueue) (tabs : List PlainTab)
    → AreTrees tabs → AreTrees (map (with_queues change) tabs)
trees_after_queues change tabs trees = λ q. subst IsFrameTreeAt
    (sym (find-map (with_queues change) (λ tab. tab.number == q) tabs)) (at (tab_at q tabs) (trees q))
  where
    at : (found : Option PlainTab) → IsFrameTreeAt found → IsFrameTreeAt (option_map (with_queues change) found)
    at None tree = tt
    at (Some tab) tree = tree

trees_after_send : (events : List (Label × PlainEvent)) (tabs : List PlainTab) → AreTrees tabs → AreTrees (sent events tabs)
trees_after_send events tabs trees = trees_after_queues (λ label queue. queue_told (event_for label events) queue) tabs trees

-- each tree stays where events are sent, after room was made for them
pub trees_sent : (events : List (Label × PlainEvent)) {old ready new : List PlainTab}
    → ready ≡ old → new ≡ sent events ready → AreTrees old → AreTrees new
trees_sent events {old} {ready} kept told trees =
    subst AreTrees (sym told) (trees_after_send events ready (subst AreTrees (sym kept) trees))

pub trees_after_take : (label : Label) (tabs : List PlainTab) → AreTrees tabs → AreTrees (taken label tabs)
trees_after_take label tabs trees = trees_after_queues (after_take label) tabs trees
