-- What each call leaves of the frames of a tab.
-- Source: HTML, "Navigables" and "Navigation" (a document that is replaced goes with the frames
-- below it), "Tracking user activation" (the activation notification steps, consume user
-- activation).
-- Our own choice: consuming clears the activation of every document of the tab.
use Rattle.std.specs.Prelude.{◌≡◌, MatchResult, ℕ, Bool, true, false, not, is_some, ◌&&◌, ◌||◌}
use Rattle.std.specs.Prelude.{◌==◌, ℤ, List, [], ◌∷◌, ◌++◌, map, filter, Option, Some, None}
use Rattle.std.specs.Prelude.{option_and_then, Result, Ok, Err, if◌then◌else◌}
use Rattle.std.specs.List.{list_all}
use Rattle.suffix_list.specs.Suffix.{Rule}
use Rattle.origin_site.specs.Address.{PlainAddress}
use Rattle.origin_site.specs.Origin.{PlainOrigin}
use Rattle.origin_site.specs.Site.{PlainSite}
use Rattle.frame_tree.specs.declared.tab.TreeFault.{TreeFault}
use Rattle.frame_tree.specs.declared.tab.TreeFault.TheVariants.{NoFrame, FrameExists}
use Rattle.frame_tree.specs.Sandbox.{PlainSandbox, unrestricted}
use Rattle.frame_tree.specs.Document.{PlainDocument, is_active_by, loaded, loaded_below}
use Rattle.frame_tree.specs.Document.{loaded_instead, same_document_origin}
use Rattle.frame_tree.specs.Tree.{PlainFrame, chain_of, document_of, has_frame, is_on_chain}
use Rattle.frame_tree.specs.Tree.{with_next}

-- the frames of a tab that was just opened: the top alone, which is not sandboxed
abbrev pub opened : List Rule → PlainAddress → List PlainFrame
opened rules address =
    record { frame = 0; parent = 0; document = loaded rules unrestricted false address } ∷ []

-- the frames with a fresh one below this document, or the fault
abbrev pub added_below : Option PlainDocument → List Rule → ℕ → ℕ → PlainAddress → PlainSandbox
    → Bool → List PlainFrame → Result (List PlainFrame) TreeFault
added_below None rules parent frame address sandbox deny frames = Err NoFrame
added_below (Some above) rules parent frame address sandbox deny frames =
    if has_frame frame frames then Err FrameExists
    else Ok (frames ++ record {
      frame = frame;
      parent = parent;
      document = loaded_below rules above sandbox deny address;
    } ∷ [])

-- the frames with a fresh one, or the first fault: no parent, then a number that is taken
abbrev pub added : List Rule → ℕ → ℕ → PlainAddress → PlainSandbox → Bool
    → List PlainFrame → Result (List PlainFrame) TreeFault
added rules parent frame address sandbox deny frames =
    added_below (document_of parent frames) rules parent frame address sandbox deny frames

-- the frames with another document in this one
abbrev pub with_document : ℕ → (PlainDocument → PlainDocument) → List PlainFrame → List PlainFrame
with_document frame next frames =
    map (λ f. if f.frame == frame then with_next next f else f) frames

-- the frames without those below this one
abbrev pub without_below : ℕ → List PlainFrame → List PlainFrame
without_below frame frames =
    filter (λ f. f.frame == frame || not (is_on_chain frame f.frame frames)) frames

-- the frames without this one and those below
abbrev pub without : ℕ → List PlainFrame → List PlainFrame
without frame frames = filter (λ f. not (is_on_chain frame f.frame frames)) frames

-- the frames after a navigation from this document, or the fault
abbrev pub navigated_from : Option PlainDocument → List Rule → ℕ → PlainAddress → Bool
    → List PlainFrame → Result (List PlainFrame) TreeFault
navigated_from None rules frame address keep_flag frames = Err NoFrame
navigated_from (Some before) rules frame address keep_flag frames =
    Ok (with_document frame (λ _. loaded_instead rules keep_flag before address)
    (without_below frame frames))

-- the frames after a navigation: those below go, and the frame has a document in the place of its
-- present one
abbrev pub navigated : List Rule → ℕ → PlainAddress → Bool
    → List PlainFrame → Result (List PlainFrame) TreeFault
navigated rules frame address keep_flag frames =
    navigated_from (document_of frame frames) rules frame address keep_flag frames

-- the origin of a frame's document, None where it is opaque or the frame is not there
abbrev pub origin_of : ℕ → List PlainFrame → Option PlainOrigin
origin_of frame frames = option_and_then (λ d. d.origin) (document_of frame frames)

-- a document is activated with another: it is on that one's chain, which has it too, or it is below
-- and has that one's origin
abbrev pub is_activated : ℕ → Option PlainOrigin → List PlainFrame → PlainFrame → Bool
is_activated frame origin frames f =
    is_on_chain f.frame frame frames
    || (is_on_chain frame f.frame frames && same_document_origin origin f.document.origin)

-- a document with an activation at this moment, or without one
abbrev pub with_mark : Option ℤ → PlainDocument → PlainDocument
with_mark moment document = record document { mark = moment }

-- the frames after an activation: the document, its ancestors, and its descendants of its origin
abbrev pub activated : ℕ → ℤ → List PlainFrame → List PlainFrame
activated frame now frames =
    map (λ f. if is_activated frame (origin_of frame frames) frames f
    then with_next (with_mark (Some now)) f else f) frames

-- a document with storage access
abbrev pub flagged : PlainDocument → PlainDocument
flagged document = record document { flag = true }

-- the frames without any activation
abbrev pub consumed : List PlainFrame → List PlainFrame
consumed frames = map (with_next (with_mark None)) frames

-- the sites of a frame's chain, from the top, or the fault
abbrev pub sites_of : ℕ → List PlainFrame → Result (List (Option PlainSite)) TreeFault
sites_of frame frames =
    if has_frame frame frames then Ok (map (λ f. f.document.site) (chain_of frame frames))
    else Err NoFrame

-- a list of sites begins with a document that has one
abbrev pub begins_with_site : List (Option PlainSite) → Bool
begins_with_site [] = false
begins_with_site (site ∷ below) = is_some site

-- the frame is there, and each document of its chain has an https address
abbrev pub is_https_chain : ℕ → List PlainFrame → Bool
is_https_chain frame frames =
    has_frame frame frames && list_all (λ f. f.document.address.https) (chain_of frame frames)

-- the frame is there, and the activation of its document lasts still
abbrev pub is_active_document : ℤ → Option PlainDocument → Bool
is_active_document now None = false
is_active_document now (Some document) = is_active_by now document.mark

-- the same, of a frame
abbrev pub is_active : ℕ → ℤ → List PlainFrame → Bool
is_active frame now frames = is_active_document now (document_of frame frames)

-- a call that can only lack its frame has done what it is for, or answered that and done nothing
abbrev pub IsDoneAt : {E : Type 0} → ℕ → (old new done : List PlainFrame) → Result (Unit {0}) E
    → Type 0
IsDoneAt frame old new done result =
    MatchResult result (λ _. (has_frame frame old ≡ true) × (new ≡ done))
    (λ _. (has_frame frame old ≡ false) × (new ≡ old))
