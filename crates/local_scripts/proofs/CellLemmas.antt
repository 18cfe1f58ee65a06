-- Which cookies an action of a document consults.
use Rattle.std.proofs.Common.{◌≡◌, ◌==◌, ℕ, Bool, true, false, cond, not, ◌&&◌, ◌||◌, List, [], map, take, Option, Some, None, refl, sym, ap, ◌∙◌}
use Rattle.std.specs.Prelude.{Result, Ok, Err, is_none, is_some, option_map, option_and_then, if◌then◌else◌}
use Rattle.std.specs.Borrow.{Bor}
use Rattle.suffix_list.specs.Suffix.{Rule}
use Rattle.agent_base.specs.declared.refusals.Label.{Label}
use Rattle.origin_site.specs.Address.{PlainAddress}
use Rattle.origin_site.specs.Site.{PlainSite, site_of_address}
use Rattle.storage_key.specs.Context.{is_first_party}
use Rattle.storage_key.specs.Key.{PlainKey}
use Rattle.frame_tree.specs.declared.tab.TreeFault.{TreeFault}
use Rattle.frame_tree.specs.declared.tab.TreeFault.TheVariants.{NoFrame, FrameExists}
use Rattle.frame_tree.specs.Calls.{added_below, navigated_from}
use Rattle.frame_tree.specs.Document.{PlainDocument}
use Rattle.frame_tree.specs.Keys.{is_first_at, key_of_document, key_of_frame, sites}
use Rattle.frame_tree.specs.Sandbox.{sandbox_of}
use Rattle.frame_tree.specs.Tree.{PlainFrame, chain_of, document_of, has_frame}
use Rattle.frame_tree.proofs.AboveLemmas.{first_is}
use Rattle.frame_tree.proofs.ShapeLemmas.{document_there}
use Rattle.live_state.specs.Tabs.{PlainTab}
use Rattle.script_actions.specs.declared.words.Method.{Method}
use Rattle.script_actions.specs.Action.{Act, DocumentAction, Fetch, Frame, HeadField, Nav}
use Rattle.agent_model.specs.Consults.{by_script, keyed_at, names_in, unless_refused, where_there}
use Rattle.agent_model.specs.CookieCells.{Domain}
use Rattle.agent_model.specs.CookieUse.{consulted_by}
use Rattle.agent_model.specs.CookieUses.{chain_above, fetch_use, frame_use, is_granted_at, is_granted_nav, nav_use, script_use}
use Rattle.agent_model.specs.Documents.{Keyed}
use Rattle.agent_model.specs.Frames.{frames_added, frames_navigated}
use Rattle.local_scripts.specs.Cells.{ActNames, FetchNames, FrameNames, IsUsed, NavNames, ScriptNames, domains_of}

-- ---- documents that are there

none_is : {A : Type 0} (found : Option A) → not (is_some found) ≡ is_none found
none_is None = refl
none_is (Some a) = refl

free_is : (frame : ℕ) (frames : List PlainFrame) → not (has_frame frame frames) ≡ is_none (document_of frame frames)
free_is frame frames = ap not (sym (document_there frame frames)) ∙ none_is (document_of frame frames)

-- ---- loads of frames that are refused

module _ (ds : List Domain) where
  taken_names : (b : Bool) (why : TreeFault) (frames : List PlainFrame)
      → unless_refused ds (if b then Err why else Ok frames) ≡ cond (not b) ds []
  taken_names true why frames = refl
  taken_names false why frames = refl

  top_names : (b : Bool) (after : Result (List PlainFrame) TreeFault)
      → unless_refused ds (if b then Err NoFrame else after) ≡ cond (not b) (unless_refused ds after) []
  top_names true after = refl
  top_names false after = refl

  -- a frame is added below a document, where its number is free
  added_names : (rules : List Rule) (at : Label) (parent : ℕ) (url : PlainAddress) (sandbox : Option (List ℕ))
      (deny : Bool) (frames : List PlainFrame)
      → unless_refused ds (frames_added rules at parent url sandbox deny frames)
      ≡ cond (is_some (document_of parent frames) && is_none (document_of at.frame frames)) ds []
  added_names rules at parent url sandbox deny frames = by (document_of parent frames)
    where
      by : (above : Option PlainDocument)
          → unless_refused ds (added_below above rules parent at.frame url (sandbox_of sandbox) deny frames)
          ≡ cond (is_some above && is_none (document_of at.frame frames)) ds []
      by None = refl
      by (Some above) = taken_names (has_frame at.frame frames) FrameExists _ ∙ ap (λ b. cond b ds []) (free_is at.frame frames)

  -- a frame goes to another address, where it is there and is not the top
  navigated_names : (rules : List Rule) (at : Label) (url : PlainAddress) (by_self : Bool) (frames : List PlainFrame)
      → unless_refused ds (frames_navigated rules at url by_self frames)
      ≡ cond (not (at.frame == 0) && is_some (document_of at.frame frames)) ds []
  navigated_names rules at url by_self frames = top_names (at.frame == 0) _ ∙ by (at.frame == 0) (document_of at.frame frames)
    where
      by : (b : Bool) (found : Option PlainDocument)
          → cond (not b) (unless_refused ds (navigated_from found rules at.frame url
          (is_granted_nav by_self at.frame frames url) frames)) [] ≡ cond (not b && is_some found) ds []
      by true found = refl
      by false None = refl
      by false (Some before) = refl

-- a request, where its document is there
there_names : (ds : List Domain) (found : Option PlainDocument) → where_there ds found ≡ cond (is_some found) ds []
there_names ds None = refl
there_names ds (Some document) = refl

-- ---- first parties

or_false : (b : Bool) → (b || false) ≡ b
or_false true = refl
or_false false = refl

-- ---- each action

module _ (rules : List Rule) (frames : List PlainFrame) where
  pub frame_none : (frame parent : ℕ) (url : PlainAddress)
      → (is_some (document_of parent frames) && is_none (document_of frame frames)) ≡ false
      → FrameNames rules frames frame parent url None
  frame_none frame parent url refused shown site at sandbox deny head same number =
      let ds = consulted_by rules (frame_use rules site parent shown.frames url) in
      added_names ds rules at parent url sandbox deny shown.frames
      ∙ ap (λ b. cond b ds []) ((λ i. is_some (document_of parent (same i))
      && is_none (document_of (number i) (same i))) ∙ refused)

  pub frame_is : (frame parent : ℕ) (url : PlainAddress) (domain : Option (Bor (List ℕ)))
      → (is_some (document_of parent frames) && is_none (document_of frame frames)) ≡ true
      → has_frame parent frames ≡ true → IsUsed rules url (is_first_at parent frames
      (site_of_address rules url)) domain → FrameNames rules frames frame parent url domain
  frame_is frame parent url domain done there used shown site at sandbox deny head same number =
      let how = frame_use rules site parent shown.frames url in
      let target = site_of_address rules url in
      added_names (consulted_by rules how) rules at parent url sandbox deny shown.frames
      ∙ ap (λ b. cond b (consulted_by rules how) [])
      ((λ i. is_some (document_of parent (same i)) && is_none (document_of (number i) (same i))) ∙ done)
      ∙ used how refl
      (or_false (is_first_party (sites (chain_of parent shown.frames)) target)
      ∙ (λ i. is_first_party (sites (chain_of parent (same i))) target)
      ∙ sym (first_is parent frames target there))

  pub nav_none : (frame : ℕ) (url : PlainAddress) (by_self : Bool)
      → (not (frame == 0) && is_some (document_of frame frames)) ≡ false → NavNames rules frames frame url by_self None
  nav_none frame url by_self refused shown site at method head same number =
      let ds = consulted_by rules (nav_use rules site at.frame shown.frames url by_self method) in
      navigated_names ds rules at url by_self shown.frames
      ∙ ap (λ b. cond b ds []) ((λ i. not (number i == 0) && is_some (document_of (number i) (same i))) ∙ refused)

  pub nav_is : (frame : ℕ) (url : PlainAddress) (by_self : Bool) (domain : Option (Bor (List ℕ)))
      → (not (frame == 0) && is_some (document_of frame frames)) ≡ true
      → IsUsed rules url (is_first_party (sites (chain_above frame frames)) (site_of_address rules url)
      || is_granted_nav by_self frame frames url) domain
      → NavNames rules frames frame url by_self domain
  nav_is frame url by_self domain done used shown site at method head same number =
      let how = nav_use rules site at.frame shown.frames url by_self method in
      navigated_names (consulted_by rules how) rules at url by_self shown.frames
      ∙ ap (λ b. cond b (consulted_by rules how) [])
      ((λ i. not (number i == 0) && is_some (document_of (number i) (same i))) ∙ done)
      ∙ used how refl
      (λ i. is_first_party (sites (chain_above (number i) (same i))) (site_of_address rules url)
      || is_granted_nav by_self (number i) (same i) url)

  pub fetch_none : (frame : ℕ) (url : PlainAddress) → is_some (document_of frame frames) ≡ false
      → FetchNames rules frames frame url None
  fetch_none frame url missing shown site at method head same number =
      let ds = consulted_by rules (fetch_use rules site at.frame shown.frames url method) in
      there_names ds (document_of at.frame shown.frames)
      ∙ ap (λ b. cond b ds []) ((λ i. is_some (document_of (number i) (same i))) ∙ missing)

  pub fetch_is : (frame : ℕ) (url : PlainAddress) (domain : Option (Bor (List ℕ)))
      → is_some (document_of frame frames) ≡ true
      → IsUsed rules url (is_first_at frame frames (site_of_address rules url) || is_granted_at frame frames url) domain
      → FetchNames rules frames frame url domain
  fetch_is frame url domain there used shown site at method head same number =
      let how = fetch_use rules site at.frame shown.frames url method in
      let target = site_of_address rules url in
      let has : has_frame frame frames ≡ true = sym (document_there frame frames) ∙ there in
      there_names (consulted_by rules how) (document_of at.frame shown.frames)
      ∙ ap (λ b. cond b (consulted_by rules how) []) ((λ i. is_some (document_of (number i) (same i))) ∙ there)
      ∙ used how refl
      ((λ i. is_first_party (sites (chain_of (number i) (same i))) target || is_granted_at (number i) (same i) url)
      ∙ ap (λ b. b || is_granted_at frame frames url) (sym (first_is frame frames target has)))

  pub script_none : (frame : ℕ) → key_of_frame frame frames ≡ None → ScriptNames rules frames frame None
  script_none frame none shown site at same number = by (document_of frame frames) refl
    where
      names : (found : Option PlainDocument) → document_of frame frames ≡ found
          → by_script rules site (keyed_at at shown)
          ≡ by_script rules site (option_and_then (λ document. option_map
          (λ key. record { at = at; document = document; key = key }) (key_of_document frame frames document)) found)
      names found is =
          (λ i. by_script rules site (option_and_then
          (λ document. option_map (λ key. record { at = at; document = document; key = key })
          (key_of_document (number i) (same i) document)) (document_of (number i) (same i))))
          ∙ ap (λ o. by_script rules site
          (option_and_then (λ document. option_map
          (λ key. record { at = at; document = document; key = key }) (key_of_document frame frames document)) o)) is

      by : (found : Option PlainDocument) → document_of frame frames ≡ found → by_script rules site (keyed_at at shown) ≡ []
      by None is = names None is
      by (Some document) is =
          names (Some document) is
          ∙ ap (λ key. by_script rules site (option_map (λ key. record { at = at; document = document; key = key }) key))
          (sym (ap (option_and_then (key_of_document frame frames)) is) ∙ none)

  pub script_is : (frame : ℕ) (document : PlainDocument) (key : PlainKey) (domain : Option (Bor (List ℕ)))
      → document_of frame frames ≡ Some document
      → key_of_frame frame frames ≡ Some key → IsUsed rules document.address (not key.bit || document.flag)
      domain → ScriptNames rules frames frame domain
  script_is frame document key domain found own used shown site at same number =
      let keyed : Keyed = record { at = at; document = document; key = key } in
      (λ i. by_script rules site (option_and_then (λ document. option_map
      (λ key. record { at = at; document = document; key = key })
      (key_of_document (number i) (same i) document)) (document_of (number i) (same i))))
      ∙ ap (λ o. by_script rules site
      (option_and_then (λ document. option_map (λ key. record { at = at; document = document; key = key })
      (key_of_document frame frames document)) o)) found
      ∙ ap (λ key. by_script rules site (option_map (λ key. record { at = at; document = document; key = key }) key))
      (sym (ap (option_and_then (key_of_document frame frames)) found) ∙ own)
      ∙ used (script_use site keyed) refl refl

-- ---- the line

module _ (rules : List Rule) (frames : List PlainFrame) (own at : Label) where
  -- the same action, told of a label
  acted_as : (site : PlainSite) (shown : PlainTab) (domain : Option (Bor (List ℕ)))
      (done seen : DocumentAction) → Act own done ≡ Act at seen
      → (at.frame ≡ own.frame → names_in rules site at done shown ≡ domains_of domain)
      → names_in rules site at seen shown ≡ domains_of domain
  acted_as site shown domain done seen acted names =
      let action : seen ≡ done = cc acted in
      let label : at ≡ own = cc acted in
      ap (λ d. names_in rules site at d shown) action ∙ names (ap (λ l. l.frame) label)

module _ (rules : List Rule) (frames : List PlainFrame) (own : Label) (domain : Option (Bor (List ℕ))) where
  pub frame_acts : (parent : ℕ) (url : PlainAddress) (sandbox : Option (List ℕ)) (deny : Bool) (head : List HeadField)
      → FrameNames rules frames own.frame parent url domain
      → ActNames rules frames (Act own (Frame parent url sandbox deny head)) domain
  frame_acts parent url sandbox deny head names shown site at done same acted =
      acted_as rules frames own at site shown domain _ done acted (names shown site at sandbox deny head same)

  pub nav_acts : (url : PlainAddress) (by_self : Bool) (method : Method) (head : List HeadField)
      → NavNames rules frames own.frame url by_self domain → ActNames rules frames (Act own (Nav url by_self method head)) domain
  nav_acts url by_self method head names shown site at done same acted =
      acted_as rules frames own at site shown domain _ done acted (names shown site at method head same)

  pub fetch_acts : (url : PlainAddress) (method : Method) (head : List HeadField)
      → FetchNames rules frames own.frame url domain → ActNames rules frames (Act own (Fetch url method head)) domain
  fetch_acts url method head names shown site at done same acted =
      acted_as rules frames own at site shown domain _ done acted (names shown site at method head same)
