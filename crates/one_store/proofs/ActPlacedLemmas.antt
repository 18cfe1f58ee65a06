-- Every action in an open tab leaves each tab where it is.
use Rattle.std.proofs.Common.{◌≡◌, ℕ, Option, Some, Ok, Err, sym, subst, ◌∙◌, List}
use Rattle.std.specs.Prelude.{Result, IfOk}
use Rattle.agent_base.specs.declared.refusals.Label.{Label}
use Rattle.suffix_list.specs.Suffix.{Rule}
use Rattle.origin_site.specs.Site.{PlainSite}
use Rattle.frame_tree.specs.declared.tab.TreeFault.{TreeFault}
use Rattle.frame_tree.specs.Tree.{PlainFrame, IsTree, top_site}
use Rattle.live_state.specs.FramesInPlace.{requested}
use Rattle.live_state.specs.Tabs.{PlainTab}
use Rattle.script_actions.specs.Action.{DocumentAction}
use Rattle.agent_model.specs.Partition.{Holdings, tab_named}
use Rattle.agent_model.specs.Effects.{SharedCells}
use Rattle.agent_model.specs.Frames.{frames_added, frames_navigated, frames_removed, frames_clicked}
use Rattle.agent_model.specs.Lines.{Places, site_at}
use Rattle.agent_model.specs.SiteStep.{act_in}
use Rattle.agent_model.proofs.EachTabLemmas.{IsOfFrames, act_each}
use Rattle.agent_model.proofs.TopKeptLemmas.{KeepsTop, added_top, navigated_top, removed_top, clicked_top, requested_top}
use Rattle.one_store.specs.WholeWorld.{IsPlaced, IsPlacedAt}
use Rattle.one_store.proofs.PlacedLemmas.{at_its_top}

module _ (places : Places) (cells : SharedCells) (held : Holdings) (placed_all : IsPlaced places held) (at : Label) (tab : PlainTab) (found : tab_named at.tab held ≡ Some tab) where
  -- a tab of this number is where its top document is
  abbrev IsHere : ℕ → Option PlainTab → Type 0
  IsHere number = IsPlacedAt (site_at number places)

  by_frames : IsOfFrames IsHere
  by_frames number before after same is = subst (λ frames. IsTree frames × (top_site frames ≡ site_at number places)) (sym same) is

  here : IsTree tab.frames × (top_site tab.frames ≡ site_at at.tab places)
  here = at_its_top places held placed_all at.tab tab found

  -- frames with the same top leave it there
  kept : (frames : List PlainFrame) → KeepsTop tab.frames frames → IsHere at.tab (Some (record tab { frames = frames }))
  kept frames keeps = (keeps.0, keeps.1 ∙ here.1)

  kept_by : (after : Result (List PlainFrame) TreeFault) → IfOk after (KeepsTop tab.frames) → IfOk after (λ frames. IsHere at.tab (Some (record tab { frames = frames })))
  kept_by (Ok frames) keeps = kept frames keeps
  kept_by (Err why) keeps = tt

  pub act_placed : (rules : List Rule) (now : ℕ) (site : PlainSite) (action : DocumentAction) → IsPlaced places (act_in rules now site at action tab cells held).held
  act_placed rules now site action =
      act_each IsHere by_frames cells held placed_all at tab found rules now site action
      (record {
        added = λ parent url sandbox deny. kept_by (frames_added rules at parent url sandbox deny tab.frames) (added_top tab.frames here.0 rules at parent url sandbox deny);
        navigated = λ url by_self. kept_by (frames_navigated rules at url by_self tab.frames) (navigated_top tab.frames here.0 rules at url by_self);
        removed = kept_by (frames_removed at tab.frames) (removed_top tab.frames here.0 at);
        clicked = kept_by (frames_clicked now at tab.frames) (clicked_top tab.frames here.0 now at);
        asked = λ asks gives consumes. kept (requested gives consumes at.frame tab.frames) (requested_top tab.frames here.0 gives consumes at);
      })
