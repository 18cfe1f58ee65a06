-- What each action leaves of the frames of a tab is a tree of numbered frames.
use Rattle.std.proofs.Common.{◌≡◌, ◌==◌, ◌&&◌, ◌||◌, ◌++◌, ℕ, Bool, true, false, cond, not, List, [], ◌∷◌, map, Option, Some, None, Ok, Err, refl, ap, ◌∙◌}
use Rattle.std.proofs.lemmas.Bool.{and_from}
use Rattle.std.proofs.lemmas.List.Folds.{list_all-append}
use Rattle.std.specs.Prelude.{Result, IfOk, pos, nat_lt, filter}
use Rattle.agent_base.specs.declared.refusals.Label.{Label}
use Rattle.suffix_list.specs.Suffix.{Rule}
use Rattle.origin_site.specs.Address.{PlainAddress}
use Rattle.origin_site.specs.Site.{site_of_address}
use Rattle.frame_tree.specs.declared.tab.TreeFault.{TreeFault}
use Rattle.frame_tree.specs.declared.tab.TreeFault.TheVariants.{NoFrame, FrameExists}
use Rattle.frame_tree.specs.Sandbox.{PlainSandbox, sandbox_of}
use Rattle.frame_tree.specs.Document.{PlainDocument, loaded_below, loaded_instead}
use Rattle.frame_tree.specs.Tree.{PlainFrame, document_of, has_frame, is_on_chain, top_site, with_next}
use Rattle.frame_tree.specs.Calls as calls
use Rattle.live_state.specs.FramesInPlace.{given, requested}
use Rattle.live_state.proofs.FramesInPlaceLemmas.{tree-requested}
use Rattle.live_state.proofs.ListLemmas.{all_kept}
use Rattle.agent_model.specs.CookieUses.{is_granted_nav}
use Rattle.agent_model.specs.Frames.{frames_added, frames_navigated, frames_removed, frames_clicked, where_below, where_there}
use Rattle.agent_model.proofs.TopKeptLemmas.{KeepsTop, added_top, navigated_top, removed_top, clicked_top, opened_top}
use Rattle.agent_memory.specs.FrameTrees.{IsFrameTree, are_numbered}

-- a list of frames whose numbers a frame can have
abbrev IsNumbered : List PlainFrame → Type 0
IsNumbered frames = are_numbered frames ≡ true

-- another document in some frames
numbered_marked : (p : PlainFrame → Bool) (next : PlainDocument → PlainDocument) (frames : List PlainFrame)
    → are_numbered (map (λ f. cond (p f) (with_next next f) f) frames) ≡ are_numbered frames
numbered_marked p next [] = refl
numbered_marked p next (f ∷ frames) = λ i. nat_lt (number (p f) i) 256 && numbered_marked p next frames i
  where
    number : (b : Bool) → (cond b (with_next next f) f).frame ≡ f.frame
    number true = refl
    number false = refl

numbered_kept : (p : PlainFrame → Bool) (frames : List PlainFrame) → IsNumbered frames → IsNumbered (filter p frames)
numbered_kept p frames numbered = all_kept p (λ f. nat_lt f.frame 256) frames numbered

module _ (frames : List PlainFrame) (numbered : IsNumbered frames) where
  numbered_added : (rules : List Rule) (parent frame : ℕ) (url : PlainAddress) (sandbox : PlainSandbox)
      (deny : Bool) → nat_lt frame 256 ≡ true
      → IfOk (calls.added rules parent frame url sandbox deny frames) IsNumbered
  numbered_added rules parent frame url sandbox deny low = at (document_of parent frames)
    where
      fresh : PlainDocument → PlainFrame
      fresh above = record { frame = frame; parent = parent; document = loaded_below rules above sandbox deny url }

      by_number : (above : PlainDocument) (b : Bool)
          → IfOk (cond b (Err FrameExists) (Ok (frames ++ fresh above ∷ []))) IsNumbered
      by_number above true = tt
      by_number above false =
          list_all-append (λ f. nat_lt f.frame 256) frames (fresh above ∷ [])
          ∙ and_from (are_numbered frames) (nat_lt frame 256 && true) numbered (ap (λ b. b && true) low)

      at : (above : Option PlainDocument) → IfOk (calls.added_below above rules parent frame url sandbox deny frames) IsNumbered
      at None = tt
      at (Some above) = by_number above (has_frame frame frames)

  numbered_navigated : (rules : List Rule) (frame : ℕ) (url : PlainAddress) (keep_flag : Bool)
      → IfOk (calls.navigated rules frame url keep_flag frames) IsNumbered
  numbered_navigated rules frame url keep_flag = at (document_of frame frames)
    where
      at : (before : Option PlainDocument) → IfOk (calls.navigated_from before rules frame url keep_flag frames) IsNumbered
      at None = tt
      at (Some before) =
          numbered_marked (λ f. f.frame == frame) (λ d. loaded_instead rules keep_flag before url)
          (calls.without_below frame frames)
          ∙ numbered_kept (λ f. (f.frame == frame) || not (is_on_chain frame f.frame frames)) frames numbered

  numbered_there : (frame : ℕ) (after : List PlainFrame) → IsNumbered after → IfOk (where_there frame frames after) IsNumbered
  numbered_there frame after is = at (has_frame frame frames)
    where
      at : (b : Bool) → IfOk (cond b (Ok after) (Err NoFrame)) IsNumbered
      at true = is
      at false = tt

numbered_below : (frame : ℕ) (after : Result (List PlainFrame) TreeFault) → IfOk after IsNumbered
    → IfOk (where_below frame after) IsNumbered
numbered_below frame after is = at (frame == 0)
  where
    at : (b : Bool) → IfOk (cond b (Err NoFrame) after) IsNumbered
    at true = tt
    at false = is

-- ---- what is put

-- frames that a call left of those of a tab
abbrev pub Leaves : List PlainFrame → Result (List PlainFrame) TreeFault → Type 0
Leaves frames result = IfOk result (λ after. IsFrameTree after × (top_site after ≡ top_site frames))

both : (frames : List PlainFrame) (result : Result (List PlainFrame) TreeFault)
    → IfOk result (KeepsTop frames) → IfOk result IsNumbered → Leaves frames result
both frames (Ok after) top numbered = (record { tree = top.0; numbered = numbered }, top.1)
both frames (Err why) top numbered = tt

module _ (frames : List PlainFrame) (tree : IsFrameTree frames) where
  pub tree_added : (rules : List Rule) (at : Label) (parent : ℕ) (url : PlainAddress)
      (sandbox : Option (List ℕ)) (deny : Bool) → nat_lt at.frame 256 ≡ true
      → Leaves frames (frames_added rules at parent url sandbox deny frames)
  tree_added rules at parent url sandbox deny low =
      both frames (frames_added rules at parent url sandbox deny frames)
      (added_top frames tree.tree rules at parent url sandbox deny)
      (numbered_added frames tree.numbered rules parent at.frame url (sandbox_of sandbox) deny low)

  pub tree_navigated : (rules : List Rule) (at : Label) (url : PlainAddress) (by_self : Bool)
      → Leaves frames (frames_navigated rules at url by_self frames)
  tree_navigated rules at url by_self =
      let keep_flag = is_granted_nav by_self at.frame frames url in
      both frames (frames_navigated rules at url by_self frames) (navigated_top frames tree.tree rules at url by_self)
      (numbered_below at.frame (calls.navigated rules at.frame url keep_flag frames)
      (numbered_navigated frames tree.numbered rules at.frame url keep_flag))

  pub tree_removed : (at : Label) → Leaves frames (frames_removed at frames)
  tree_removed at =
      both frames (frames_removed at frames) (removed_top frames tree.tree at)
      (numbered_below at.frame (where_there at.frame frames (calls.without at.frame frames))
      (numbered_there frames tree.numbered at.frame (calls.without at.frame frames)
      (numbered_kept (λ f. not (is_on_chain at.frame f.frame frames)) frames tree.numbered)))

  pub tree_clicked : (now : ℕ) (at : Label) → Leaves frames (frames_clicked now at frames)
  tree_clicked now at =
      both frames (frames_clicked now at frames) (clicked_top frames tree.tree now at)
      (numbered_there frames tree.numbered at.frame (calls.activated at.frame (pos now) frames)
      (numbered_marked (λ f. calls.is_activated at.frame (calls.origin_of at.frame frames) frames f)
      (calls.with_mark (Some (pos now))) frames ∙ tree.numbered))

-- what the end of a request for storage access leaves is a tree too
pub tree_requested : (frames : List PlainFrame) → IsFrameTree frames → (gives consumes : Bool) (frame : ℕ)
    → IsFrameTree (requested gives consumes frame frames)
tree_requested frames tree gives consumes frame = record {
  tree = tree-requested gives consumes frame frames tree.tree;
  numbered = spent consumes (given gives frame frames) ∙ got gives ∙ tree.numbered;
}
  where
    got : (b : Bool) → are_numbered (given b frame frames) ≡ are_numbered frames
    got true = numbered_marked (λ f. f.frame == frame) calls.flagged frames
    got false = refl

    spent : (b : Bool) (fs : List PlainFrame) → are_numbered (cond b (calls.consumed fs) fs) ≡ are_numbered fs
    spent true fs = numbered_marked (λ f. true) (calls.with_mark None) fs
    spent false fs = refl

-- a tab that was just opened has a tree, under the site of its address
pub tree_opened : (rules : List Rule) (url : PlainAddress)
    → IsFrameTree (calls.opened rules url) × (top_site (calls.opened rules url) ≡ Some (site_of_address rules url))
tree_opened rules url = let top = opened_top rules url in (record { tree = top.0; numbered = refl }, top.1)
