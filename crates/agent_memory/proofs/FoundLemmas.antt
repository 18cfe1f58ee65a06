-- The tab and the document that a line names, where they are found.
use Rattle.std.proofs.Common.{◌≡◌, ℕ, true, List, reverse, Option, Some, None, Bor, refl, sym, ap, subst, ◌∙◌}
use Rattle.std.specs.Prelude.{is_some, option_and_then, option_map}
use Rattle.agent_base.specs.declared.refusals.Label.{Label}
use Rattle.origin_site.specs.Site.{PlainSite}
use Rattle.storage_key.specs.Key.{PlainKey}
use Rattle.storage_key.specs.Plain.{plain_key}
use Rattle.storage_key.specs.declared.key.StorageKey.{StorageKey}
use Rattle.frame_tree.specs.Document.{PlainDocument}
use Rattle.frame_tree.specs.Tree.{PlainFrame, IsTree, document_of, has_frame, top_site}
use Rattle.frame_tree.proofs.ShapeLemmas.{has-reversed}
use Rattle.frame_tree.proofs.TopLemmas.{has_zero, top-document}
use Rattle.frame_tree.specs.Keys.{key_of_document, key_of_frame}
use Rattle.live_state.specs.Queues.{frames_by, has_document}
use Rattle.live_state.specs.Tabs.{PlainTab, tab_at}
use Rattle.agent_model.specs.Effects.{Effect}
use Rattle.agent_model.specs.Documents as keyed
use Rattle.agent_model.specs.Documents.{by_document, by_key, with_key}
use Rattle.frame_tree.proofs.ShapeLemmas.{document_there}
use Rattle.agent_memory.specs.Documents.{IsFound, document_at, key_wanted}
use Rattle.agent_memory.specs.declared.holdings.Found.TheVariants.{Keyed}

-- ---- tabs

-- the frames that were found are those of the tab
pub frames_found : (found : Option PlainTab) (frames : List PlainFrame)
    → Some frames ≡ option_map (λ t. t.frames) found → frames_by found ≡ frames
frames_found None frames is = absurd (cc is)
frames_found (Some tab) frames is = cc is

-- and where there are none, no tab is open
pub none_found : (found : Option PlainTab) → None ≡ option_map (λ t. t.frames) found → found ≡ None
none_found None is = refl
none_found (Some tab) is = absurd (cc is)

-- an open tab has the frames that were found
pub frames_are : (found : Option PlainTab) (frames : List PlainFrame) (tab : PlainTab)
    → Some frames ≡ option_map (λ t. t.frames) found → found ≡ Some tab → tab.frames ≡ frames
frames_are found frames tab is there = sym (ap frames_by there) ∙ frames_found found frames is

-- ---- documents

-- a document is there where the frames that were found of its tab have its frame
pub has_found : (at : Label) (tabs : List PlainTab) (frames : List PlainFrame)
    → Some frames ≡ option_map (λ t. t.frames) (tab_at at.tab tabs) → has_document tabs at ≡ has_frame at.frame frames
has_found at tabs frames shown = ap (has_frame at.frame) (frames_found (tab_at at.tab tabs) frames shown)

-- a key that was found is that of a document that is there
pub found_key : (frame : ℕ) (frames : List PlainFrame) (own : Bor StorageKey) → IsFound (key_wanted frame frames) (Keyed own)
    → (document : PlainDocument) × (document_of frame frames ≡ Some document)
    × (key_of_document frame frames document ≡ Some (plain_key own.now))
found_key frame frames own is = by (document_of frame frames) refl is
  where
    by_own : (key : Option PlainKey) → IsFound (Some key) (Keyed own) → key ≡ Some (plain_key own.now)
    by_own None is = absurd is
    by_own (Some key) is = ap Some (sym is)

    by : (found : Option PlainDocument) → document_of frame frames ≡ found
        → IsFound (option_map (key_of_document frame frames) found) (Keyed own)
        → (document : PlainDocument) × (document_of frame frames ≡ Some document)
        × (key_of_document frame frames document ≡ Some (plain_key own.now))
    by None there is = absurd is
    by (Some document) there is = (document, there, by_own (key_of_document frame frames document) is)

-- so the document is there
pub keyed_there : (at : Label) (tabs : List PlainTab) (frames : List PlainFrame) (own : Bor StorageKey)
    → Some frames ≡ option_map (λ t. t.frames) (tab_at at.tab tabs)
    → IsFound (key_wanted at.frame frames) (Keyed own) → has_document tabs at ≡ true
keyed_there at tabs frames own shown is =
    has_found at tabs frames shown
    ∙ sym (document_there at.frame frames) ∙ ap is_some (found_key at.frame frames own is).1

-- and it is the one that an action is done with
pub with_found : (at : Label) (tab : PlainTab) (does : keyed.Keyed → Effect) (document : PlainDocument) (key : PlainKey)
    → document_of at.frame tab.frames ≡ Some document → key_of_document at.frame tab.frames document ≡ Some key
    → with_key at tab does ≡ does (record { at = at; document = document; key = key })
with_found at tab does document key there own =
    ap (λ found. by_document found (λ document. by_key at document (key_of_document at.frame tab.frames document) does)) there
    ∙ ap (λ key. by_key at document key does) own

-- what is said of an action under that key, in the tab whose frames were found, is said of it with the key of the document
pub by_found : (says : Effect → Type 0) (at : Label) (tabs : List PlainTab) (frames : List PlainFrame)
    (found : Bor StorageKey) (own : PlainKey)
    → Some frames ≡ option_map (λ t. t.frames) (tab_at at.tab tabs)
    → IsFound (key_wanted at.frame frames) (Keyed found) → own ≡ plain_key found.now
    → (does : PlainSite → PlainTab → keyed.Keyed → Effect)
    → ((tab : PlainTab) (site : PlainSite) → tab_at at.tab tabs ≡ Some tab → top_site tab.frames ≡ Some site
    → (document : PlainDocument) → document_at at tabs ≡ Some document
    → says (does site tab (record { at = at; document = document; key = own })))
    → (tab : PlainTab) (site : PlainSite) → tab_at at.tab tabs ≡ Some tab → top_site tab.frames ≡ Some site
    → says (with_key at tab (does site tab))
by_found says at tabs frames found own shown is same does done tab site there top =
    let frames_same = frames_are (tab_at at.tab tabs) frames tab shown there in
    let it = found_key at.frame tab.frames found
    (subst (λ (frames : List PlainFrame). IsFound (key_wanted at.frame frames) (Keyed found)) (sym frames_same) is) in
    subst says
    (sym (with_found at tab (does site tab) it.0 (plain_key found.now) it.1 it.2))
    (subst (λ (k : PlainKey). says (does site tab (record { at = at; document = it.0; key = k }))) same
    (done tab site there top it.0 (ap (λ tab. document_of at.frame (frames_by tab)) there ∙ it.1)))

-- a tree has a document in frame 0
pub top_there : (frames : List PlainFrame) → IsTree frames → is_some (document_of 0 frames) ≡ true
top_there frames tree = document_there 0 frames ∙ sym (has-reversed 0 frames) ∙ has_zero (reverse frames) tree

-- the document of frame 0 has the site of the top
pub top_found : (frames : List PlainFrame) (document : PlainDocument) → IsTree frames
    → document_of 0 frames ≡ Some document → top_site frames ≡ document.site
top_found frames document tree is = sym (top-document frames tree) ∙ ap (option_and_then (λ d. d.site)) is

-- ---- the key of a frame

-- a key that a tab has for a frame is that of its document
pub key_found : (frame : ℕ) (frames : List PlainFrame) (key : PlainKey) → key_of_frame frame frames ≡ Some key
    → key_wanted frame frames ≡ Some (Some key)
key_found frame frames key is = by (document_of frame frames) is
  where
    by : (found : Option PlainDocument) → option_and_then (key_of_document frame frames) found ≡ Some key
        → option_map (key_of_document frame frames) found ≡ Some (Some key)
    by None e = absurd (cc e)
    by (Some document) e = ap Some e

-- a document that is there has no key where the tab has none for its frame
pub no_key_found : (frame : ℕ) (frames : List PlainFrame) (document : PlainDocument)
    → key_of_frame frame frames ≡ None → document_of frame frames ≡ Some document → key_wanted frame frames ≡ Some None
no_key_found frame frames document none there =
    ap (option_map (key_of_document frame frames)) there
    ∙ ap Some (sym (ap (option_and_then (key_of_document frame frames)) there) ∙ none)
