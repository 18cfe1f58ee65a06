-- What a line makes of a world, what it is answered and what its durable change is, from what its
-- events make of each site.
use Rattle.std.proofs.Common.{◌≡◌, Bool, true, false, cond, ◌&&◌, ◌||◌, List, [], ◌∷◌, Option, Some, None, refl, sym, ap, subst, ◌∙◌}
use Rattle.unwinding.specs.FiniteCells.{restrict_cells, merge_cells}
use Rattle.std.specs.Prelude.{bytes_eq}
use Rattle.unwinding.specs.Durable.{DurableChange, durable_change, main_changes, line_changes}
use Rattle.unwinding.specs.World.{SiteReply, consulted, is_in, after_side, after_sides, after_main, world_step, main_reply, line_reply}
use Rattle.suffix_list.specs.Suffix.{Rule}
use Rattle.origin_site.specs.Site.{PlainSite, same_plain_site}
use Rattle.origin_site.proofs.SameLemmas.{same_plain_site-Decides}
use Rattle.script_actions.specs.Action.{PlainAction}
use Rattle.reply_lines.specs.Reply.{PlainBody}
use Rattle.agent_model.specs.CookieCells.{Domain, domain_order, is_own}
use Rattle.agent_model.specs.Partition.{Partition}
use Rattle.row_changes.specs.Change.{PlainChange}
use Rattle.agent_model.specs.Effects.{SharedCells, no_shared_cells}
use Rattle.agent_model.specs.SiteEvent.{TimedEvent, Answer, SiteOutcome}
use Rattle.agent_model.specs.Consults.{event_names}
use Rattle.agent_model.specs.SiteStep.{site_step}
use Rattle.agent_model.specs.Lines.{AgentWorld, Rest, main_event}
use Rattle.agent_model.specs.SideEvents.{side_event}
use Rattle.agent_model.specs.Rest.{refusal, rest_after}
use Rattle.agent_model.specs.TheMachine.{machine}
use Rattle.agent_model.proofs.CookieCellsLemmas.{none_seen, none_left}
use Rattle.one_store.specs.Store.{change_of, null_reply, site_reply}

-- the reply of a site to a line
abbrev pub told_at : PlainSite → PlainAction → PlainBody → SiteReply PlainSite Answer
told_at = site_reply

-- a reply that is of no site
abbrev pub told_nowhere : PlainAction → PlainBody → SiteReply PlainSite Answer
told_nowhere = null_reply

-- row changes of a site as a durable change, in the words of the general law
change_is : (rules : List Rule) (site : PlainSite) (changes : List PlainChange) → durable_change (machine rules) site changes ≡ change_of site changes
change_is rules site [] = refl
change_is rules site (change ∷ changes) = refl

-- what a line makes of a world, its reply and its durable change
pub record LineMakes (rules : List Rule) (before : AgentWorld) (action : PlainAction) (after : AgentWorld) (told : SiteReply PlainSite Answer) (made : List (DurableChange PlainSite PlainChange)) : Type 0 where
  pub world : world_step (machine rules) before action ≡ after
  pub reply : line_reply (machine rules) before action ≡ told
  pub changes : line_changes (machine rules) before action ≡ made

-- an outcome with a reply
abbrev pub outcome_of : Partition → SharedCells → List PlainChange → Answer → SiteOutcome
outcome_of partition cells changes answer = record { partition = partition; cells = cells; reply = Some answer; changes = changes }

-- a partition after the event beside the main one, which sees no shared cell
abbrev pub after_event : List Rule → Option TimedEvent → Partition → Partition
after_event rules None partition = partition
after_event rules (Some event) partition = (site_step rules partition no_shared_cells event).partition

module _ (rules : List Rule) (w : AgentWorld) (action : PlainAction) where
  -- what a site has after the event of a line beside the main one
  abbrev pub beside : PlainSite → Partition
  beside site = after_event rules (side_event rules w action site) (w.partition site)

  -- the same in the words of the general law
  beside_is : (site : PlainSite) → (after_sides (machine rules) w action).partition site ≡ beside site
  unfolding machine
  beside_is site = by (side_event rules w action site)
    where
      by : (side : Option TimedEvent) → after_side (machine rules) w.cells side (w.partition site) ≡ after_event rules side (w.partition site)
      by None = refl
      by (Some event) = ap (λ cells. (site_step rules (w.partition site) cells event).partition) (none_seen w.cells)

  module _ (after : PlainSite → Partition) (rest : Rest) (later : rest_after rules w action ≡ rest) where
    -- the world afterwards
    abbrev world_then : SharedCells → AgentWorld
    world_then cells = record { partition = after; cells = cells; rest = rest }

    module _ (site : PlainSite) (event : TimedEvent) (changes : List PlainChange) (answer : Answer) (main : main_event rules w action ≡ Some (record { site = site; event = event }))
        (others : (other : PlainSite) → same_plain_site other site ≡ false → beside other ≡ after other) where
      -- the cells that the event consults
      abbrev asked : Domain → Bool
      asked = consulted (machine rules) site (beside site) event

      -- a line that is an event of a site, which changes that site and the cells that it consults, and is answered
      pub line_consults : (left : SharedCells) → site_step rules (beside site) (restrict_cells domain_order asked w.cells) event ≡ outcome_of (after site) left changes answer
          → LineMakes rules w action (world_then (merge_cells domain_order asked left w.cells)) (record { site = Some site; reply = answer }) (change_of site changes)
      unfolding world_step line_reply line_changes machine
      line_consults left step = record { world = to_main ∙ λ i. record { partition = λ t. each t i; cells = merge_cells domain_order asked (step i).cells w.cells; rest = later i }; reply = replies; changes = made }
        where
          -- what the event gives where its site has this partition
          given : Partition → SiteOutcome
          given p = site_step rules p (restrict_cells domain_order (consulted (machine rules) site p event) w.cells) event

          to_main : world_step (machine rules) w action
              ≡ record {
                partition = λ t. cond (same_plain_site t site) (given (beside site)).partition (beside t);
                cells = merge_cells domain_order asked (given (beside site)).cells w.cells;
                rest = rest_after rules w action;
              }
          to_main =
              ap (λ o. let v : AgentWorld = after_main (machine rules) (after_sides (machine rules) w action) o in record { partition = v.partition; cells = v.cells; rest = rest_after rules w action }) main
              ∙ λ i. record {
                partition = λ t. cond (same_plain_site t site) (given (beside_is site i)).partition (beside_is t i);
                cells = merge_cells domain_order (consulted (machine rules) site (beside_is site i) event) (given (beside_is site i)).cells w.cells;
                rest = rest_after rules w action;
              }

          at : (t : PlainSite) (b : Bool) → same_plain_site t site ≡ b → cond b (given (beside site)).partition (beside t) ≡ after t
          at t true is = ap (λ (o : SiteOutcome). o.partition) step ∙ ap after (sym ((same_plain_site-Decides t site).0 is))
          at t false is = others t is

          each : (t : PlainSite) → cond (same_plain_site t site) (given (beside site)).partition (beside t) ≡ after t
          each t = at t (same_plain_site t site) refl

          replies : line_reply (machine rules) w action ≡ record { site = Some site; reply = answer }
          replies =
              ap (main_reply (machine rules) (after_sides (machine rules) w action) (refusal w action)) main
              ∙ ap (λ p. main_reply_of (given p).reply) (beside_is site)
              ∙ ap (λ (o : SiteOutcome). main_reply_of o.reply) step
            where
              main_reply_of : Option Answer → SiteReply PlainSite Answer
              main_reply_of None = record { site = None; reply = refusal w action }
              main_reply_of (Some r) = record { site = Some site; reply = r }

          made : line_changes (machine rules) w action ≡ change_of site changes
          made =
              ap (main_changes (machine rules) (after_sides (machine rules) w action)) main
              ∙ ap (λ p. durable_change (machine rules) site (given p).changes) (beside_is site)
              ∙ ap (λ (o : SiteOutcome). durable_change (machine rules) site o.changes) step
              ∙ change_is rules site changes

      -- a line whose event consults no cell leaves them all
      pub line_happens : event_names rules (beside site) event.event ≡ [] → site_step rules (beside site) no_shared_cells event ≡ outcome_of (after site) no_shared_cells changes answer
          → LineMakes rules w action (world_then w.cells) (record { site = Some site; reply = answer }) (change_of site changes)
      unfolding machine
      line_happens names step =
          subst (λ cells. LineMakes rules w action (world_then cells) (record { site = Some site; reply = answer }) (change_of site changes)) (ap (λ test. merge_cells domain_order test no_shared_cells w.cells) none ∙ none_left no_shared_cells w.cells)
          (line_consults no_shared_cells (ap (λ test. site_step rules (beside site) (restrict_cells domain_order test w.cells) event) none ∙ ap (λ cells. site_step rules (beside site) cells event) (none_seen w.cells) ∙ step))
        where
          none : asked ≡ (λ domain. false)
          none = ap (λ domains domain. is_in bytes_eq domain domains || (false && is_own site domain)) names

    -- a line that has no such event
    pub line_refused : main_event rules w action ≡ None → ((site : PlainSite) → beside site ≡ after site) → LineMakes rules w action (world_then w.cells) (record { site = None; reply = refusal w action }) []
    unfolding world_step line_reply line_changes machine
    line_refused main each =
        record {
          world = to_sides ∙ λ i. record { partition = λ t. (beside_is t ∙ each t) i; cells = w.cells; rest = later i };
          reply = ap (main_reply (machine rules) (after_sides (machine rules) w action) (refusal w action)) main;
          changes = ap (main_changes (machine rules) (after_sides (machine rules) w action)) main;
        }
      where
        to_sides : world_step (machine rules) w action ≡ record { partition = (after_sides (machine rules) w action).partition; cells = w.cells; rest = rest_after rules w action }
        to_sides =
            ap (λ o. let v : AgentWorld = after_main (machine rules) (after_sides (machine rules) w action) o in record { partition = v.partition; cells = v.cells; rest = rest_after rules w action }) main
