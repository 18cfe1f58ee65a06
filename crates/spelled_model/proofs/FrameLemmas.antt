-- What actions on frames leave of documents that were read.
use Rattle.std.proofs.Common.{◌≡◌, ℕ, Bool, true, false, cond, List, [], ◌∷◌, ◌++◌, map, Option, Some, None, Ok, Err, refl, inl, inr}
use Rattle.std.specs.Prelude.{◌==◌, ◌⊎◌, ◌||◌, not, ℤ, pos, Result, IfOk}
use Rattle.std.proofs.lemmas.List.Elements.{All-append, All-cons, All-filter, All-map, All-nil, All-weaker}
use Rattle.agent_base.specs.declared.refusals.Label.{Label}
use Rattle.suffix_list.specs.Suffix.{Rule}
use Rattle.origin_site.specs.Address.{PlainAddress}
use Rattle.origin_site.specs.Origin.{PlainOrigin, origin_of_address}
use Rattle.frame_tree.specs.Calls.{activated, added_below, consumed, flagged, is_activated, navigated, navigated_from, opened, origin_of, with_mark, without, without_below}
use Rattle.frame_tree.specs.declared.tab.TreeFault.{TreeFault}
use Rattle.frame_tree.specs.declared.tab.TreeFault.TheVariants.{NoFrame, FrameExists}
use Rattle.frame_tree.specs.Document.{PlainDocument, loaded, loaded_below, loaded_instead}
use Rattle.frame_tree.specs.Sandbox.{PlainSandbox, both, sandbox_of, unrestricted}
use Rattle.frame_tree.specs.Tree.{PlainFrame, document_of, has_frame, is_on_chain, with_next}
use Rattle.live_state.specs.FramesInPlace.{given, requested}
use Rattle.agent_model.specs.CookieUses.{is_granted_nav}
use Rattle.agent_model.specs.Frames.{frames_added, frames_clicked, frames_navigated, frames_removed, where_below, where_there}
use Rattle.spelled_model.specs.Addresses.{IsReadAddress}
use Rattle.spelled_model.specs.Frames.{AreReadFrames, IsReadDocument}

module _ (rules : List Rule) where
  -- ---- documents

  -- a document is loaded of a read address
  pub loaded_read : (sandbox : PlainSandbox) (deny : Bool) (url : PlainAddress) → IsReadAddress url → IsReadDocument rules (loaded rules sandbox deny url)
  loaded_read sandbox deny url read = record { address = read; origin = by sandbox.same_origin; site = refl }
    where
      by : (b : Bool) → (◌≡◌ {A = Option PlainOrigin} (cond b (Some (origin_of_address url)) None) None) ⊎ (◌≡◌ {A = Option PlainOrigin} (cond b (Some (origin_of_address url)) None) (Some (origin_of_address url)))
      by true = inr refl
      by false = inl refl

  instead_read : (keep_flag : Bool) (before : PlainDocument) (url : PlainAddress) → IsReadAddress url → IsReadDocument rules (loaded_instead rules keep_flag before url)
  instead_read keep_flag before url read =
      let fresh = loaded_read before.sandbox before.deny url read in
      record { address = fresh.address; origin = fresh.origin; site = fresh.site }

  -- a change of documents that leaves what was read
  abbrev Leaves : (PlainDocument → PlainDocument) → Type 0
  Leaves next = (document : PlainDocument) → IsReadDocument rules document → IsReadDocument rules (next document)

  flagged_read : Leaves flagged
  flagged_read document read = record { address = read.address; origin = read.origin; site = read.site }

  marked_read : (moment : Option ℤ) → Leaves (with_mark moment)
  marked_read moment document read = record { address = read.address; origin = read.origin; site = read.site }

  -- ---- frames

  abbrev IsReadFrame : PlainFrame → Type 0
  IsReadFrame f = IsReadDocument rules f.document

  -- some documents are changed
  changed_read : (is_changed : PlainFrame → Bool) (next : PlainDocument → PlainDocument) → Leaves next → (frames : List PlainFrame) → AreReadFrames rules frames
      → AreReadFrames rules (map (λ f. cond (is_changed f) (with_next next f) f) frames)
  changed_read is_changed next leaves frames read =
      All-map IsReadFrame (λ f. cond (is_changed f) (with_next next f) f) frames
      (All-weaker IsReadFrame (λ f. IsReadFrame (cond (is_changed f) (with_next next f) f)) (λ f is. at (is_changed f) f is) frames read)
    where
      at : (b : Bool) (f : PlainFrame) → IsReadFrame f → IsReadFrame (cond b (with_next next f) f)
      at true f is = leaves f.document is
      at false f is = is

  pub opened_read : (url : PlainAddress) → IsReadAddress url → AreReadFrames rules (opened rules url)
  opened_read url read =
      All-cons IsReadFrame (record { frame = 0; parent = 0; document = loaded rules unrestricted false url }) [] (loaded_read unrestricted false url read) (All-nil IsReadFrame)

  added_read : (above : Option PlainDocument) (parent frame : ℕ) (url : PlainAddress) → IsReadAddress url → (sandbox : PlainSandbox) (deny : Bool) (frames : List PlainFrame) → AreReadFrames rules frames
      → IfOk (added_below above rules parent frame url sandbox deny frames) (AreReadFrames rules)
  added_read None parent frame url read sandbox deny frames all = tt
  added_read (Some above) parent frame url read sandbox deny frames all = by (has_frame frame frames)
    where
      fresh : PlainFrame
      fresh = record { frame = frame; parent = parent; document = loaded_below rules above sandbox deny url }

      by : (b : Bool) → IfOk (cond b (Err FrameExists) (Ok (frames ++ fresh ∷ []))) (AreReadFrames rules)
      by true = tt
      by false = All-append IsReadFrame frames (fresh ∷ []) all (All-cons IsReadFrame fresh [] (loaded_read (both above.sandbox sandbox) (above.deny || deny) url read) (All-nil IsReadFrame))

  navigated_read : (before : Option PlainDocument) (frame : ℕ) (url : PlainAddress) → IsReadAddress url → (keep_flag : Bool) (frames : List PlainFrame) → AreReadFrames rules frames
      → IfOk (navigated_from before rules frame url keep_flag frames) (AreReadFrames rules)
  navigated_read None frame url read keep_flag frames all = tt
  navigated_read (Some before) frame url read keep_flag frames all =
      changed_read (λ f. f.frame == frame) (λ d. loaded_instead rules keep_flag before url) (λ d is. instead_read keep_flag before url read) (without_below frame frames)
      (All-filter (λ f. f.frame == frame || not (is_on_chain frame f.frame frames)) IsReadFrame frames all)

  below_read : (frame : ℕ) (after : Result (List PlainFrame) TreeFault) → IfOk after (AreReadFrames rules) → IfOk (where_below frame after) (AreReadFrames rules)
  below_read frame after read = by (frame == 0)
    where
      by : (b : Bool) → IfOk (cond b (Err NoFrame) after) (AreReadFrames rules)
      by true = tt
      by false = read

  there_read : (frame : ℕ) (frames after : List PlainFrame) → AreReadFrames rules after → IfOk (where_there frame frames after) (AreReadFrames rules)
  there_read frame frames after read = by (has_frame frame frames)
    where
      by : (b : Bool) → IfOk (cond b (Ok after) (Err NoFrame)) (AreReadFrames rules)
      by true = read
      by false = tt

  -- ---- actions

  module _ (frames : List PlainFrame) (all : AreReadFrames rules frames) where
    pub frames_added_read : (at : Label) (parent : ℕ) (url : PlainAddress) → IsReadAddress url → (sandbox : Option (List ℕ)) (deny : Bool) → IfOk (frames_added rules at parent url sandbox deny frames) (AreReadFrames rules)
    frames_added_read at parent url read sandbox deny = added_read (document_of parent frames) parent at.frame url read (sandbox_of sandbox) deny frames all

    pub frames_navigated_read : (at : Label) (url : PlainAddress) → IsReadAddress url → (by_self : Bool) → IfOk (frames_navigated rules at url by_self frames) (AreReadFrames rules)
    frames_navigated_read at url read by_self =
        let keep_flag = is_granted_nav by_self at.frame frames url in
        below_read at.frame (navigated rules at.frame url keep_flag frames) (navigated_read (document_of at.frame frames) at.frame url read keep_flag frames all)

    pub frames_removed_read : (at : Label) → IfOk (frames_removed at frames) (AreReadFrames rules)
    frames_removed_read at =
        below_read at.frame (where_there at.frame frames (without at.frame frames))
        (there_read at.frame frames (without at.frame frames) (All-filter (λ f. not (is_on_chain at.frame f.frame frames)) IsReadFrame frames all))

    pub frames_clicked_read : (now : ℕ) (at : Label) → IfOk (frames_clicked now at frames) (AreReadFrames rules)
    frames_clicked_read now at =
        there_read at.frame frames (activated at.frame (pos now) frames)
        (changed_read (is_activated at.frame (origin_of at.frame frames) frames) (with_mark (Some (pos now))) (marked_read (Some (pos now))) frames all)

    given_read : (gives : Bool) (frame : ℕ) → AreReadFrames rules (given gives frame frames)
    given_read true frame = changed_read (λ f. f.frame == frame) flagged flagged_read frames all
    given_read false frame = all

  consumed_read : (frames : List PlainFrame) → AreReadFrames rules frames → AreReadFrames rules (consumed frames)
  consumed_read frames all = All-map IsReadFrame (with_next (with_mark None)) frames (All-weaker IsReadFrame (λ f. IsReadFrame (with_next (with_mark None) f)) (λ f is. marked_read None f.document is) frames all)

  pub requested_read : (gives consumes : Bool) (frame : ℕ) (frames : List PlainFrame) → AreReadFrames rules frames → AreReadFrames rules (requested gives consumes frame frames)
  requested_read gives true frame frames all = consumed_read (given gives frame frames) (given_read frames all gives frame)
  requested_read gives false frame frames all = given_read frames all gives frame
