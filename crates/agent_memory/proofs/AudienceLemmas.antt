-- Who hears of a change: the audience over the list of documents, and each document of the map.
use Rattle.std.proofs.Common.{◌≡◌, ◌==◌, ◌&&◌, ◌||◌, ◌<◌, ℕ, Bool, true, false, List, [], ◌∷◌, Option, Some, None, refl, sym, ap, ◌∙◌, arith}
use Rattle.std.proofs.lemmas.Bool.{and_parts}
use Rattle.std.proofs.Math.Bool.{or-false}
use Rattle.std.proofs.lemmas.Bool.Decides.{nat_tests}
use Rattle.std.specs.Prelude.{find, is_some, nat_lt, option_and_then, option_map}
use Rattle.std.specs.List.{cons_option, list_any}
use Rattle.std.specs.Cmp.{both_ways}
use Rattle.std.specs.Ordering.{eq_by_cmp}
use Rattle.agent_base.specs.declared.refusals.Label.{Label}
use Rattle.storage_key.specs.Key.{PlainKey, key_order}
use Rattle.storage_events.specs.declared.event.AreaKind.{AreaKind}
use Rattle.storage_events.specs.Audience.{audience, hears, same_label}
use Rattle.frame_tree.specs.Tree.{PlainFrame, has_frame}
use Rattle.live_state.specs.Tabs.{PlainTab, is_rising, tab_at}
use Rattle.frame_tree.specs.Keys.{key_of_document, key_of_frame}
use Rattle.live_state.specs.Documents.{documents, documents_in, frame_numbers, keyed}
use Rattle.live_state.proofs.ListLemmas.{is_some-find}
use Rattle.agent_model.specs.Documents.{Keyed, hears_at, hears_by}
use Rattle.agent_memory.specs.FrameTrees.{AreTrees, IsFrameTreeAt, are_numbered}
use Rattle.agent_memory.proofs.LiveLemmas.{number_found}
use Rattle.agent_memory.proofs.MemberLemmas.{any_flat, any_kept, any_one, few_flat, find_is, numbers_have, numbers_rise, passes, tabs_rise}

-- ---- a frame that is there

-- a frame whose document has a key is there
pub keyed_there : (frame : ℕ) (frames : List PlainFrame) → is_some (key_of_frame frame frames) ≡ true
    → has_frame frame frames ≡ true
keyed_there frame frames is = sym (is_some-find (λ f. f.frame == frame) frames) ∙ at (find (λ f. f.frame == frame) frames) is
  where
    at : (found : Option PlainFrame) → is_some (option_and_then (key_of_document frame frames)
        (option_map (λ f. f.document) found)) ≡ true → is_some found ≡ true
    at None is = is
    at (Some f) is = refl

-- a frame that hears is there
pub heard_there : (kind : AreaKind) (writer : Keyed) (number : ℕ) (tab : PlainTab) (frame : ℕ)
    → hears_at kind writer number tab frame ≡ true → has_frame frame tab.frames ≡ true
heard_there kind writer number tab frame is = keyed_there frame tab.frames (at (key_of_frame frame tab.frames) is)
  where
    at : (key : Option PlainKey) → hears_by kind writer (record { tab = number; frame = frame }) key ≡ true → is_some key ≡ true
    at None is = is
    at (Some key) is = refl

-- a frame that is there has a number that a frame can have
numbered_there : (frame : ℕ) (frames : List PlainFrame) → are_numbered frames ≡ true → has_frame frame frames ≡ true → frame < 256
numbered_there frame [] all there = absurd (cc there)
numbered_there frame (f ∷ frames) all there =
    let parts = and_parts (nat_lt f.frame 256) (are_numbered frames) all in
    at (f.frame == frame) refl parts.0 (numbered_there frame frames parts.1) there
  where
    at : (b : Bool) → (f.frame == frame) ≡ b → nat_lt f.frame 256 ≡ true
        → (has_frame frame frames ≡ true → frame < 256) → (b || has_frame frame frames) ≡ true → frame < 256
    at true is low later there = grind (arith, nat_tests)
    at false is low later there = later there

-- ---- the audience

module _ (kind : AreaKind) (writer : Keyed) (label : Label) where
  -- a document hears, and is this one
  abbrev is_heard : Label × PlainKey → Bool
  is_heard d = hears (eq_by_cmp key_order) kind writer.at writer.key d && same_label d.0 label

  -- the frame of this number hears in a tab
  abbrev heard_in : PlainTab → Bool
  heard_in tab = passes (hears_at kind writer tab.number tab) (find (λ m. m == label.frame) frame_numbers)

  in_frame : (tab : PlainTab) (m : ℕ) → list_any is_heard (cons_option (keyed tab.number tab.frames m) [])
      ≡ ((hears_at kind writer tab.number tab m && (tab.number == label.tab)) && (m == label.frame))
  in_frame tab m = at (key_of_frame m tab.frames)
    where
      turned : (a b c : Bool) → ((a && (b && c)) || false) ≡ ((a && b) && c)
      turned true b c = or-false (b && c)
      turned false b c = refl

      one : Option PlainKey → List (Label × PlainKey)
      one key = cons_option (option_map (λ key. (record { tab = tab.number; frame = m }, key)) key) []

      at : (key : Option PlainKey) → list_any is_heard (one key)
          ≡ ((hears_by kind writer (record { tab = tab.number; frame = m }) key && (tab.number == label.tab))
          && (m == label.frame))
      at None = refl
      at (Some key) =
          turned (hears (eq_by_cmp key_order) kind writer.at writer.key (record { tab = tab.number; frame = m }, key))
          (tab.number == label.tab) (m == label.frame)

  in_tab : (tab : PlainTab) → list_any is_heard (documents_in tab) ≡ (heard_in tab && (tab.number == label.tab))
  in_tab tab =
      ap (list_any is_heard) (few_flat (keyed tab.number tab.frames) frame_numbers)
      ∙ any_flat is_heard (λ m. cons_option (keyed tab.number tab.frames m) []) frame_numbers
      ∙ (λ i. list_any (λ m. in_frame tab m i) frame_numbers)
      ∙ any_one (λ m. m) (λ m. hears_at kind writer tab.number tab m && (tab.number == label.tab))
      label.frame frame_numbers numbers_rise
      ∙ at (find (λ m. m == label.frame) frame_numbers)
    where
      at : (found : Option ℕ) → passes (λ m. hears_at kind writer tab.number tab m && (tab.number == label.tab)) found
          ≡ (passes (hears_at kind writer tab.number tab) found && (tab.number == label.tab))
      at None = refl
      at (Some m) = refl

  -- in a tab of numbered frames, all that a frame hears is told by its number
  by_number : (tab : PlainTab) → are_numbered tab.frames ≡ true → heard_in tab ≡ hears_at kind writer tab.number tab label.frame
  by_number tab numbered = both_ways _ _ (find_is heard label.frame frame_numbers) (λ is.
      ap (passes heard) (numbers_have label.frame (numbered_there label.frame tab.frames numbered
      (heard_there kind writer tab.number tab label.frame is))) ∙ is)
    where
      heard : ℕ → Bool
      heard m = hears_at kind writer tab.number tab m

  module _ (tabs : List PlainTab) (rising : is_rising tabs ≡ true) (trees : AreTrees tabs) where
    -- a document is of the audience that the list gives, where the map has it hear
    pub in_audience : list_any (λ l. same_label l label)
        (audience (eq_by_cmp key_order) kind writer.at writer.key (documents tabs))
        ≡ passes (λ tab. hears_at kind writer label.tab tab label.frame) (tab_at label.tab tabs)
    in_audience =
        any_kept (λ l. same_label l label) (λ d. d.0) (hears (eq_by_cmp key_order) kind writer.at writer.key) (documents tabs)
        ∙ any_flat is_heard documents_in tabs ∙ (λ i. list_any (λ tab. in_tab tab i) tabs)
        ∙ any_one (λ t. t.number) heard_in label.tab tabs (sym (tabs_rise tabs) ∙ rising)
        ∙ at (tab_at label.tab tabs) refl (trees label.tab)
      where
        at : (found : Option PlainTab) → tab_at label.tab tabs ≡ found → IsFrameTreeAt found
            → passes heard_in found ≡ passes (λ tab. hears_at kind writer label.tab tab label.frame) found
        at None is tree = refl
        at (Some tab) is tree = by_number tab tree.numbered
            ∙ ap (λ n. hears_at kind writer n tab label.frame) (number_found label.tab tabs tab is)
