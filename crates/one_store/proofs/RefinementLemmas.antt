-- Each line makes of one store what the world makes of the partitions, and so do the lines of a run.
use Rattle.std.proofs.Common.{◌≡◌, ℕ, Bool, List, [], ◌∷◌, Option, Some, None, refl, sym, ap, ◌∙◌}
use Rattle.unwinding.specs.World.{replies}
use Rattle.agent_base.specs.declared.refusals.Label.{Label}
use Rattle.suffix_list.specs.Suffix.{Rule}
use Rattle.origin_site.specs.Address.{PlainAddress}
use Rattle.origin_site.specs.Site.{PlainSite, site_of_address}
use Rattle.live_state.specs.Tabs.{PlainTab}
use Rattle.script_actions.specs.declared.words.Method.{Method}
use Rattle.script_actions.specs.Action.{PlainAction, Tick, Open, Close, Go, Evict, Act, DocumentAction, HeadField}
use Rattle.agent_model.specs.Partition.{tab_named}
use Rattle.agent_model.specs.Lines.{Starter, is_same_site, opener_of, site_at}
use Rattle.agent_model.specs.TheMachine.{machine}
use Rattle.agent_model.specs.Isolation.{replies_to}
use Rattle.one_store.specs.WholeWorld.{IsPlaced}
use Rattle.one_store.specs.Store.{Store, Step, acted, closed, empty_store, gone, opened, store_step, with_copies}
use Rattle.one_store.specs.Refinement.{AreReplies, AreSteps, IsStep, store_replies, world_of}
use Rattle.one_store.proofs.ActPlacedLemmas.{act_placed}
use Rattle.one_store.proofs.PlacedLemmas.{open_tab}
use Rattle.one_store.proofs.WorldLemmas.{LineMakes}
use Rattle.one_store.proofs.WorldActLemmas.{act_makes, no_tab_acts, no_tab_closes, no_tab_goes}
use Rattle.one_store.proofs.WorldBeginningLemmas.{beginning_placed, beginning_whole}
use Rattle.one_store.proofs.WorldCloseLemmas.{close_makes, close_placed, evict_makes, evict_placed, tick_makes}
use Rattle.one_store.proofs.WorldLoadLemmas.{go_makes, go_placed}
use Rattle.one_store.proofs.WorldOpenLemmas.{no_opener_makes, open_makes, open_placed, taken_makes}

module _ (rules : List Rule) (store : Store) (placed_all : IsPlaced store.places store.held) where
  -- a line that makes this world, with this reply and this durable change
  step_by : (line : PlainAction) (step : Step) → LineMakes rules (world_of store) line (world_of step.store) step.reply step.changes → IsPlaced step.store.places step.store.held → IsStep rules store line step
  step_by line step makes places = record { world = makes.world; reply = makes.reply; changes = makes.changes; places = places }

  open_is : (tab : ℕ) (url : PlainAddress) (opener : Option ℕ) (noopener : Bool) (method : Method) (head : List HeadField) → IsStep rules store (Open tab url opener noopener method head) (store_step rules store (Open tab url opener noopener method head))
  open_is tab url opener noopener method head = by (opener_of opener store.places) refl (site_at tab store.places) refl
    where
      line : PlainAction
      line = Open tab url opener noopener method head

      by : (starter : Option Starter) → opener_of opener store.places ≡ starter → (taken : Option PlainSite) → site_at tab store.places ≡ taken
          → IsStep rules store (Open tab url opener noopener method head) (opened rules store (Open tab url opener noopener method head) tab url method head (with_copies store.places tab opener noopener store.held) starter taken)
      by None none taken at =
          step_by _ _ (no_opener_makes rules store.now store.places store.cells store.held tab url opener noopener method head none) placed_all
      by (Some starter) is (Some here) at =
          step_by _ _ (taken_makes rules store.now store.places store.cells store.held tab url opener noopener method head starter here is at) placed_all
      by (Some starter) is None free =
          step_by _ _ (open_makes rules store.now store.places store.cells store.held tab url opener noopener method head starter is free)
          (open_placed rules store.now store.places store.cells store.held tab url opener noopener method head (is_same_site starter (site_of_address rules url)) placed_all)

  go_is : (tab : ℕ) (url : PlainAddress) (by_page : Bool) (method : Method) (head : List HeadField) → IsStep rules store (Go tab url by_page method head) (store_step rules store (Go tab url by_page method head))
  go_is tab url by_page method head = by (site_at tab store.places) refl
    where
      by : (here : Option PlainSite) → site_at tab store.places ≡ here → IsStep rules store (Go tab url by_page method head) (gone rules store (Go tab url by_page method head) tab url by_page method head here)
      by None none = step_by _ _ (no_tab_goes rules store.now store.places store.cells store.held tab url by_page method head none) placed_all
      by (Some here) place =
          step_by _ _ (go_makes rules store.now store.places store.cells store.held tab url by_page method head here place)
          (go_placed rules store.now store.places store.cells store.held tab url by_page method head here place placed_all)

  close_is : (tab : ℕ) → IsStep rules store (Close tab) (store_step rules store (Close tab))
  close_is tab = by (site_at tab store.places) refl
    where
      by : (here : Option PlainSite) → site_at tab store.places ≡ here → IsStep rules store (Close tab) (closed store (Close tab) tab here)
      by None none = step_by _ _ (no_tab_closes rules store.now store.places store.cells store.held tab none) placed_all
      by (Some here) place =
          step_by _ _ (close_makes store.places store.held placed_all tab rules store.now store.cells here place) (close_placed store.places store.held placed_all tab)

  act_is : (at : Label) (action : DocumentAction) → IsStep rules store (Act at action) (store_step rules store (Act at action))
  act_is at action = by (site_at at.tab store.places) refl (tab_named at.tab store.held) refl
    where
      by : (here : Option PlainSite) → site_at at.tab store.places ≡ here → (found : Option PlainTab) → tab_named at.tab store.held ≡ found
          → IsStep rules store (Act at action) (acted rules store (Act at action) at action here found)
      by None none found is = step_by _ _ (no_tab_acts rules store.now store.places store.cells store.held at action none) placed_all
      by (Some here) place None none = absurd (cc (sym none ∙ (open_tab store.places store.held placed_all at.tab here place).1))
      by (Some here) place (Some tab) found =
          step_by _ _ (act_makes rules store.now store.places store.cells store.held placed_all at action tab found here place)
          (act_placed store.places store.cells store.held placed_all at tab found rules store.now here action)

pub are_steps : AreSteps
are_steps rules store (Tick s) places = step_by rules store places _ _ (tick_makes rules store.now store.places store.cells store.held s) places
are_steps rules store (Open tab url opener noopener method head) places = open_is rules store places tab url opener noopener method head
are_steps rules store (Close tab) places = close_is rules store places tab
are_steps rules store (Go tab url by_page method head) places = go_is rules store places tab url by_page method head
are_steps rules store (Evict site) places =
    step_by rules store places _ _ (evict_makes rules store.now store.places store.cells store.held site) (evict_placed rules store.now store.places store.cells store.held places site)
are_steps rules store (Act at action) places = act_is rules store places at action

-- the replies to lines, from a store on
replies_of : (rules : List Rule) (lines : List PlainAction) (store : Store) → IsPlaced store.places store.held → replies (machine rules) (world_of store) lines ≡ store_replies rules store lines
unfolding store_replies
replies_of rules [] store places = refl
replies_of rules (line ∷ lines) store places =
    let is = are_steps rules store line places in
    (λ i. is.reply i ∷ replies (machine rules) (is.world i) lines)
    ∙ ap (λ more. (store_step rules store line).reply ∷ more) (replies_of rules lines (store_step rules store line).store is.places)

pub are_replies : AreReplies
unfolding replies_to
are_replies rules start lines =
    ap (λ world. replies (machine rules) world lines) (sym (beginning_whole start))
    ∙ replies_of rules lines (empty_store start) beginning_placed
