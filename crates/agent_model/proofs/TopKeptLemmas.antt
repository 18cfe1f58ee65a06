-- An action on the frames of a tab leaves the site of its top document.
use Rattle.std.proofs.Common.{◌≡◌, ◌≢◌, ℕ, ◌==◌, Bool, true, false, cond, not, List, [], ◌∷◌, ◌++◌, Option, Some, None, Ok, Err, refl, sym, ◌∙◌}
use Rattle.std.proofs.lemmas.Bool.{true≢false}
use Rattle.std.proofs.lemmas.Bool.Decides.{Decides-eqb}
use Rattle.std.specs.Prelude.{ℤ, pos, is_some, Result, IfOk}
use Rattle.agent_base.specs.declared.refusals.Label.{Label}
use Rattle.suffix_list.specs.Suffix.{Rule}
use Rattle.origin_site.specs.Address.{PlainAddress}
use Rattle.origin_site.specs.Site.{site_of_address}
use Rattle.frame_tree.specs.declared.tab.TreeFault.{TreeFault}
use Rattle.frame_tree.specs.declared.tab.TreeFault.TheVariants.{NoFrame, FrameExists}
use Rattle.frame_tree.specs.Sandbox.{PlainSandbox, sandbox_of}
use Rattle.frame_tree.specs.Document.{PlainDocument, loaded_below, loaded_instead}
use Rattle.frame_tree.specs.Tree.{PlainFrame, IsTree, has_frame, document_of, is_on_chain, top_site, with_next}
use Rattle.frame_tree.specs.Calls as tree
use Rattle.frame_tree.proofs.ShapeLemmas.{tree-more, tree-map, tree-mark, tree-filter, tree-navigated, has-document}
use Rattle.frame_tree.proofs.TopLemmas.{top-added, top-marked, top-filtered, top-navigated}
use Rattle.live_state.specs.FramesInPlace.{requested}
use Rattle.agent_model.specs.CookieUses.{is_granted_nav}
use Rattle.agent_model.specs.Frames.{where_there, where_below, frames_added, frames_navigated, frames_removed, frames_clicked}

-- ---- every action

-- a tree with the same top site
abbrev pub KeepsTop : List PlainFrame → List PlainFrame → Type 0
KeepsTop frames after = IsTree after × (top_site after ≡ top_site frames)

module _ (frames : List PlainFrame) (grown : IsTree frames) where
  added_keeps : (rules : List Rule) (parent frame : ℕ) (url : PlainAddress) (sandbox : PlainSandbox) (deny : Bool)
      → IfOk (tree.added rules parent frame url sandbox deny frames) (KeepsTop frames)
  added_keeps rules parent frame url sandbox deny = by_parent (document_of parent frames) refl
    where
      fresh : PlainDocument → PlainFrame
      fresh above = record { frame = frame; parent = parent; document = loaded_below rules above sandbox deny url }

      by_number : (above : PlainDocument) → has_frame parent frames ≡ true → (b : Bool) → has_frame frame frames ≡ b
          → IfOk (cond b (Err FrameExists) (Ok (frames ++ fresh above ∷ []))) (KeepsTop frames)
      by_number above there true is = tt
      by_number above there false is = (tree-more (fresh above) frames is there grown, top-added frames (fresh above) grown)

      by_parent : (above : Option PlainDocument) → above ≡ document_of parent frames → IfOk (tree.added_below above rules parent frame url sandbox deny frames) (KeepsTop frames)
      by_parent None is = tt
      by_parent (Some above) is = by_number above (has-document parent frames above is) (has_frame frame frames) refl

  navigated_keeps : (rules : List Rule) (frame : ℕ) (url : PlainAddress) (keep_flag : Bool) → (frame == 0) ≡ false → IfOk (tree.navigated rules frame url keep_flag frames) (KeepsTop frames)
  navigated_keeps rules frame url keep_flag low = at (document_of frame frames)
    where
      not_top : frame ≢ 0
      not_top is = true≢false (sym ((Decides-eqb frame 0).1 is) ∙ low)

      at : (before : Option PlainDocument) → IfOk (tree.navigated_from before rules frame url keep_flag frames) (KeepsTop frames)
      at None = tt
      at (Some before) =
          let next = λ (d : PlainDocument). loaded_instead rules keep_flag before url in
          (tree-navigated frame next frames not_top grown, top-navigated frame next frames not_top grown)

  dropped_keeps : (frame : ℕ) → (frame == 0) ≡ false → KeepsTop frames (tree.without frame frames)
  dropped_keeps frame low =
      let left : IsTree (tree.without frame frames) = tree-filter false frame (λ is. true≢false (sym ((Decides-eqb frame 0).1 is) ∙ low)) frames grown in
      (left, top-filtered (λ f. not (is_on_chain frame f.frame frames)) frames grown left)

  activated_keeps : (frame : ℕ) (now : ℤ) → KeepsTop frames (tree.activated frame now frames)
  activated_keeps frame now = (
    tree-map (λ f. cond (is_marked f) (with_next marked f) f) (λ f. mark_same (is_marked f) f) (λ f zero site. mark_site (is_marked f) f site) frames grown,
    top-marked is_marked marked (λ f zero is. refl) frames grown,
  )
    where
      is_marked : PlainFrame → Bool
      is_marked f = tree.is_activated frame (tree.origin_of frame frames) frames f

      marked : PlainDocument → PlainDocument
      marked = tree.with_mark (Some now)

      mark_same : (b : Bool) (f : PlainFrame) → ((cond b (with_next marked f) f).frame ≡ f.frame) × ((cond b (with_next marked f) f).parent ≡ f.parent)
      mark_same true f = (refl, refl)
      mark_same false f = (refl, refl)

      mark_site : (b : Bool) (f : PlainFrame) → is_some f.document.site ≡ true → is_some (cond b (with_next marked f) f).document.site ≡ true
      mark_site true f site = site
      mark_site false f site = site

-- so do the end of a request for storage access, and what it gives or consumes
flagged_keeps : (frame : ℕ) (frames : List PlainFrame) → IsTree frames → KeepsTop frames (tree.with_document frame tree.flagged frames)
flagged_keeps frame frames grown = (
  tree-mark (λ n. n == frame) tree.flagged (λ f zero is site. site) frames grown,
  top-marked (λ f. f.frame == frame) tree.flagged (λ f zero is. refl) frames grown,
)

consumed_keeps : (frames : List PlainFrame) → IsTree frames → KeepsTop frames (tree.consumed frames)
consumed_keeps frames grown = (tree-map (with_next (tree.with_mark None)) (λ f. (refl, refl)) (λ f zero site. site) frames grown, top frames)
  where
    top : (frames : List PlainFrame) → top_site (tree.consumed frames) ≡ top_site frames
    top [] = refl
    top (f ∷ below) = refl

requested_keeps : (gives consumes : Bool) (frame : ℕ) (frames : List PlainFrame) → IsTree frames → KeepsTop frames (requested gives consumes frame frames)
requested_keeps true true frame frames grown =
    let given : KeepsTop frames (tree.with_document frame tree.flagged frames) = flagged_keeps frame frames grown in
    let done : KeepsTop (tree.with_document frame tree.flagged frames) (tree.consumed (tree.with_document frame tree.flagged frames)) = consumed_keeps (tree.with_document frame tree.flagged frames) given.0 in
    (done.0, done.1 ∙ given.1)
requested_keeps true false frame frames grown = flagged_keeps frame frames grown
requested_keeps false true frame frames grown = consumed_keeps frames grown
requested_keeps false false frame frames grown = (grown, refl)

-- a frame that is there
there_keeps : (frame : ℕ) (frames after : List PlainFrame) → KeepsTop frames after → IfOk (where_there frame frames after) (KeepsTop frames)
there_keeps frame frames after keeps = at (has_frame frame frames)
  where
    at : (b : Bool) → IfOk (cond b (Ok after) (Err NoFrame)) (KeepsTop frames)
    at true = keeps
    at false = tt

-- a frame below the top
below_keeps : (frame : ℕ) (frames : List PlainFrame) (after : Result (List PlainFrame) TreeFault) → ((frame == 0) ≡ false → IfOk after (KeepsTop frames))
    → IfOk (where_below frame after) (KeepsTop frames)
below_keeps frame frames after keeps = at (frame == 0) refl
  where
    at : (b : Bool) → (frame == 0) ≡ b → IfOk (cond b (Err NoFrame) after) (KeepsTop frames)
    at true is = tt
    at false is = keeps is

module _ (frames : List PlainFrame) (grown : IsTree frames) where
  -- an action on the frames of a tab leaves a tree under the same site
  pub added_top : (rules : List Rule) (at : Label) (parent : ℕ) (url : PlainAddress) (sandbox : Option (List ℕ)) (deny : Bool) → IfOk (frames_added rules at parent url sandbox deny frames) (KeepsTop frames)
  added_top rules at parent url sandbox deny = added_keeps frames grown rules parent at.frame url (sandbox_of sandbox) deny

  pub navigated_top : (rules : List Rule) (at : Label) (url : PlainAddress) (by_self : Bool) → IfOk (frames_navigated rules at url by_self frames) (KeepsTop frames)
  navigated_top rules at url by_self =
      let keep_flag = is_granted_nav by_self at.frame frames url in
      below_keeps at.frame frames (tree.navigated rules at.frame url keep_flag frames) (navigated_keeps frames grown rules at.frame url keep_flag)

  pub removed_top : (at : Label) → IfOk (frames_removed at frames) (KeepsTop frames)
  removed_top at =
      below_keeps at.frame frames (where_there at.frame frames (tree.without at.frame frames))
      (λ low. there_keeps at.frame frames (tree.without at.frame frames) (dropped_keeps frames grown at.frame low))

  pub clicked_top : (now : ℕ) (at : Label) → IfOk (frames_clicked now at frames) (KeepsTop frames)
  clicked_top now at = there_keeps at.frame frames (tree.activated at.frame (pos now) frames) (activated_keeps frames grown at.frame (pos now))

  pub requested_top : (gives consumes : Bool) (at : Label) → KeepsTop frames (requested gives consumes at.frame frames)
  requested_top gives consumes at = requested_keeps gives consumes at.frame frames grown

-- a tab that was just opened is a tree under the site of its address
pub opened_top : (rules : List Rule) (url : PlainAddress) → IsTree (tree.opened rules url) × (top_site (tree.opened rules url) ≡ Some (site_of_address rules url))
opened_top rules url = ((refl, refl, refl), refl)
