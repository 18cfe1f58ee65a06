-- The open tabs as a map, and where they are, after each call on one tab.
use Rattle.std.proofs.Common.{◌≡◌, ◌==◌, ℕ, Bool, true, false, cond, not, List, [], ◌∷◌, map, Option, Some, None, refl, sym, ap, ◌∙◌}
use Rattle.std.proofs.lemmas.Bool.Decides.{Decides-eqb}
use Rattle.std.proofs.lemmas.Cmp.{nat_cmp_total}
use Rattle.std.specs.Prelude.{option_map, if◌then◌else◌}
use Rattle.std.specs.Ordering.{nat_cmp}
use Rattle.std.specs.FinMap.{insert, nat_cmp-IsAntisymmetric, remove}
use Rattle.agent_base.specs.declared.refusals.Label.{Label}
use Rattle.origin_site.specs.Site.{PlainSite}
use Rattle.storage_events.specs.Event.{PlainEvent}
use Rattle.frame_tree.specs.Tree.{PlainFrame, top_site}
use Rattle.frame_tree.proofs.ShapeLemmas.{flip_apart}
use Rattle.live_state.specs.Tabs.{PlainFrameQueue, PlainTab, empty_queue, made_tab, tab_at, tabs_put, with_tab, without_tab}
use Rattle.live_state.specs.Queues.{event_for, queue_told, sent, taken, with_queues}
use Rattle.live_state.proofs.LabelLemmas.{after_take, taken-here, taken-others}
use Rattle.live_state.proofs.ListLemmas.{find-map, map-agree}
use Rattle.agent_model.specs.Lines.{placed, site_at}
use Rattle.agent_model.specs.Queues.{with_taken}
use Rattle.agent_model.proofs.KeptLemmas.{unchanged}
use Rattle.agent_memory.specs.AgentState.{placed_by, places_in, tabs_in}
use Rattle.agent_memory.proofs.LiveLemmas.{ChangesAt, number_found, placed_changed, places_changed, put_changes, site_found, site_of, tabs_changed, without_changes}

-- ---- a tab is put, or closed

-- a tab with these frames is put
pub tabs_after_put : (number : ℕ) (frames : List PlainFrame) (fresh : Option ℕ) (tabs : List PlainTab)
    → tabs_in (tabs_put number frames fresh tabs) ≡ insert (tabs_in tabs) number
    (made_tab number frames fresh (tab_at number tabs))
tabs_after_put number frames fresh tabs =
    let made : PlainTab = made_tab number frames fresh (tab_at number tabs) in
    tabs_changed number (Some made) tabs (with_tab made tabs) (put_changes made tabs)

-- it is at the site of their top document
pub places_after_put : (number : ℕ) (frames : List PlainFrame) (fresh : Option ℕ) (tabs : List PlainTab)
    → places_in (tabs_put number frames fresh tabs) ≡ placed_by number (top_site frames) (places_in tabs)
places_after_put number frames fresh tabs =
    let made : PlainTab = made_tab number frames fresh (tab_at number tabs) in
    places_changed number (Some made) tabs (with_tab made tabs) (put_changes made tabs)

pub places_after_load : (number : ℕ) (frames : List PlainFrame) (fresh : Option ℕ) (tabs : List PlainTab)
    (site : PlainSite) → top_site frames ≡ Some site
    → places_in (tabs_put number frames fresh tabs) ≡ placed number site (places_in tabs)
places_after_load number frames fresh tabs site is =
    places_after_put number frames fresh tabs ∙ ap (λ site. placed_by number site (places_in tabs)) is

-- a tab that stays at its site leaves the places
pub places_stay : (number : ℕ) (frames : List PlainFrame) (fresh : Option ℕ) (tabs : List PlainTab)
    (tab : PlainTab) → tab_at number tabs ≡ Some tab
    → top_site frames ≡ top_site tab.frames → places_in (tabs_put number frames fresh tabs) ≡ places_in tabs
places_stay number frames fresh tabs tab is same =
    places_after_put number frames fresh tabs
    ∙ ap (λ site. placed_by number site (places_in tabs)) (same ∙ sym (site_found number tabs ∙ ap site_of is))
    ∙ placed_changed number (site_at number (places_in tabs)) (places_in tabs)
    ∙ unchanged nat_cmp nat_cmp_total nat_cmp-IsAntisymmetric (places_in tabs) number

-- a tab is closed
pub tabs_after_close : (number : ℕ) (tabs : List PlainTab) → tabs_in (without_tab number tabs) ≡ remove (tabs_in tabs) number
tabs_after_close number tabs = tabs_changed number None tabs (without_tab number tabs) (without_changes number tabs)

pub places_after_close : (number : ℕ) (tabs : List PlainTab)
    → places_in (without_tab number tabs) ≡ remove (places_in tabs) number
places_after_close number tabs = places_changed number None tabs (without_tab number tabs) (without_changes number tabs)

-- ---- queues

-- a change of queues leaves the places
places_keep : (change : Label → PlainFrameQueue → PlainFrameQueue) (tabs : List PlainTab)
    → places_in (map (with_queues change) tabs) ≡ places_in tabs
places_keep change [] = refl
places_keep change (tab ∷ tabs) = ap (placed_by tab.number (top_site tab.frames)) (places_keep change tabs)

pub places_after_send : (events : List (Label × PlainEvent)) (tabs : List PlainTab)
    → places_in (sent events tabs) ≡ places_in tabs
places_after_send events tabs = places_keep (λ label queue. queue_told (event_for label events) queue) tabs

-- ---- events are taken

pub places_after_take : (label : Label) (tabs : List PlainTab) → places_in (taken label tabs) ≡ places_in tabs
places_after_take label tabs = places_keep (after_take label) tabs

-- the emptied queue of a frame, by the frame's number
queues_taken : (frame : ℕ) (queues : List PlainFrameQueue)
    → map (λ q. if q.frame == frame then empty_queue q.frame else q) queues
    ≡ map (λ q. if q.frame == frame then empty_queue frame else q) queues
queues_taken frame queues =
    map-agree (λ q. if q.frame == frame then empty_queue q.frame else q)
    (λ q. if q.frame == frame then empty_queue frame else q) queues
    (λ q. at q (q.frame == frame) refl)
  where
    at : (q : PlainFrameQueue) (b : Bool) → (q.frame == frame) ≡ b
        → (if b then empty_queue q.frame else q) ≡ (if b then empty_queue frame else q)
    at q true is = ap empty_queue ((Decides-eqb q.frame frame).0 is)
    at q false apart = refl

module _ (label : Label) (tabs : List PlainTab) (tab : PlainTab) (is : tab_at label.tab tabs ≡ Some tab) where
  pub taken_changes : ChangesAt label.tab (Some (with_taken label.frame tab)) tabs (taken label tabs)
  taken_changes q = find-map (with_queues (after_take label)) (λ tab. tab.number == q) tabs
      ∙ at (label.tab == q) refl (tab_at q tabs) refl
    where
      one : (b : Bool) (other : PlainTab) → (other.number == label.tab) ≡ b
          → with_queues (after_take label) other ≡ cond b (with_taken label.frame other) other
      one true other is =
          taken-here label other ((Decides-eqb other.number label.tab).0 is)
          ∙ ap (λ queues. record other { queues = queues }) (queues_taken label.frame other.queues)
      one false other is = taken-others label other (ap not is)

      at : (b : Bool) → (label.tab == q) ≡ b → (found : Option PlainTab) → tab_at q tabs ≡ found
          → option_map (with_queues (after_take label)) found ≡ cond b (Some (with_taken label.frame tab)) found
      at true here found there =
          ap (option_map (with_queues (after_take label)))
          (sym there ∙ ap (λ n. tab_at n tabs) (sym ((Decides-eqb label.tab q).0 here)) ∙ is)
          ∙ ap Some (one true tab ((Decides-eqb tab.number label.tab).1 (number_found label.tab tabs tab is)))
      at false apart None there = refl
      at false apart (Some other) there = ap Some (one false other
          (ap (λ n. n == label.tab) (number_found q tabs other there) ∙ flip_apart label.tab q apart))

  pub tabs_after_take : tabs_in (taken label tabs) ≡ insert (tabs_in tabs) label.tab (with_taken label.frame tab)
  tabs_after_take = tabs_changed label.tab (Some (with_taken label.frame tab)) tabs (taken label tabs) taken_changes
