-- What a document that is there or not does, and a request that was prepared and performed.
use Rattle.std.proofs.Common.{◌≡◌, ◌==◌, ◌&&◌, ℕ, Bool, true, false, cond, not, List, [], ◌∷◌, ◌++◌, Option, Some, None, Ok, Err, refl, sym, ap, subst, ◌∙◌}
use Rattle.std.specs.Prelude.{IfOk, OnErr, Result, codes, is_some, option_map}
use Rattle.std.specs.Result.{IsErr}
use Rattle.agent_base.specs.declared.refusals.NoMemory.{NoMemory}
use Rattle.agent_base.specs.declared.refusals.Label.{Label}
use Rattle.suffix_list.specs.Suffix.{Rule}
use Rattle.origin_site.specs.Address.{PlainAddress}
use Rattle.origin_site.specs.Site.{PlainSite}
use Rattle.frame_tree.specs.Document.{PlainDocument, loaded_below}
use Rattle.frame_tree.specs.declared.tab.TreeFault.TheVariants.{FrameExists, NoFrame}
use Rattle.frame_tree.specs.Calls.{added_below, navigated, navigated_from}
use Rattle.frame_tree.specs.Sandbox.{sandbox_of}
use Rattle.frame_tree.specs.Tree.{PlainFrame, document_of, has_frame, top_site}
use Rattle.live_state.specs.FramesInPlace.{frames_at}
use Rattle.live_state.specs.Queues.{frames_by, has_document}
use Rattle.live_state.specs.Tabs.{PlainTab, tab_at}
use Rattle.reply_lines.specs.declared.reply.ReplyBody.{ReplyBody}
use Rattle.reply_lines.specs.Plain.{body_of}
use Rattle.reply_lines.specs.Reply.{PlainBody, Plain}
use Rattle.script_actions.specs.Action.{HeadField}
use Rattle.web_cookies.specs.Prepared.{Prepares}
use Rattle.web_cookies.specs.Stored.{Entries, IsDoneBy, partitioned_in, shared_in}
use Rattle.web_cookies.specs.declared.prepared.Prepared.{Prepared}
use Rattle.agent_model.specs.CookieUse.{CookieUse}
use Rattle.agent_model.specs.CookieUses.{is_granted_nav}
use Rattle.agent_model.specs.Cookies.{request}
use Rattle.agent_model.specs.Documents.{by_document, with_document}
use Rattle.agent_model.specs.Effects.{Effect}
use Rattle.agent_model.specs.Frames.{frames_added, frames_navigated, where_below}
use Rattle.agent_memory.specs.Documents.{is_below}
use Rattle.agent_memory.specs.Actions.{Acts, IsDone, Stays}
use Rattle.agent_memory.specs.HoldingsView.{HoldingsView, cells_of, held_of}
use Rattle.agent_memory.specs.Requests.{IsPrepared, KeepsCookies}
use Rattle.agent_memory.proofs.DoneLemmas.{done_after, done_by, no_change, stays_done, stays_same}
use Rattle.frame_tree.proofs.ShapeLemmas.{document_there}
use Rattle.agent_memory.proofs.FoundLemmas.{frames_are, frames_found, has_found}

-- ---- a document

module _ (at : Label) (tabs : List PlainTab) (tab : PlainTab) (found : tab_at at.tab tabs ≡ Some tab) where
  -- the frame of a document that is there, or not, in the tab that was found
  pub there_is : (b : Bool) → has_document tabs at ≡ b → has_frame at.frame tab.frames ≡ b
  there_is b is = sym (ap (λ t. has_frame at.frame (frames_by t)) found) ∙ is

  -- its document
  pub none_there : has_document tabs at ≡ false → document_of at.frame tab.frames ≡ None
  none_there is = at_none (document_of at.frame tab.frames) (document_there at.frame tab.frames ∙ there_is false is)
    where
      at_none : (document : Option PlainDocument) → is_some document ≡ false → document ≡ None
      at_none None none = refl
      at_none (Some document) none = absurd (cc none)

  -- nothing is done for a frame without a document
  pub missing_done : (action : PlainDocument → Effect) (old : HoldingsView) (body : PlainBody)
      → document_of at.frame tab.frames ≡ None → body ≡ Plain (codes "no-frame")
      → IsDone (with_document at tab action (cells_of old) (held_of old)) old old body
  missing_done action old body none answer =
      subst (λ document. IsDone (by_document document action (cells_of old) (held_of old)) old old body) (sym none)
      (stays_done old old (record { held = refl; cells = refl; places = refl }) (Plain (codes "no-frame")) body answer)

  -- nothing is done for a document that is not there
  pub absent_done : (action : PlainDocument → Effect) (old : HoldingsView) (body : PlainBody)
      → has_document tabs at ≡ false → body ≡ Plain (codes "no-frame")
      → IsDone (with_document at tab action (cells_of old) (held_of old)) old old body
  absent_done action old body is answer = missing_done action old body (none_there is) answer

  -- what is done for one that is there, whichever it is
  pub present_done : (does : Effect) (old new : HoldingsView) (body : PlainBody) → has_document tabs at ≡ true
      → IsDone (does (cells_of old) (held_of old)) old new body
      → IsDone (with_document at tab (λ document. does) (cells_of old) (held_of old)) old new body
  present_done does old new body is done = by (document_of at.frame tab.frames)
      (document_there at.frame tab.frames ∙ there_is true is)
    where
      by : (document : Option PlainDocument) → is_some document ≡ true
          → IsDone (by_document document (λ document. does) (cells_of old) (held_of old)) old new body
      by None there = absurd (cc there)
      by (Some document) there = done

-- ---- loads that the frames refuse

module _ (rules : List Rule) (at : Label) (tabs : List PlainTab) (tab : PlainTab)
    (found : tab_at at.tab tabs ≡ Some tab) (url : PlainAddress) where
  -- a frame is added below one that is not there
  pub no_parent : (parent : ℕ) (sandbox : Option (List ℕ)) (deny : Bool)
      → has_document tabs (record { tab = at.tab; frame = parent }) ≡ false
      → frames_added rules at parent url sandbox deny tab.frames ≡ Err NoFrame
  no_parent parent sandbox deny missing =
      ap (λ above. added_below above rules parent at.frame url (sandbox_of sandbox) deny tab.frames)
      (none_there (record { tab = at.tab; frame = parent }) tabs tab found missing)

  -- its number is taken
  pub number_taken : (parent : ℕ) (sandbox : Option (List ℕ)) (deny : Bool)
      → has_document tabs (record { tab = at.tab; frame = parent }) ≡ true → has_document tabs at ≡ true
      → frames_added rules at parent url sandbox deny tab.frames ≡ Err FrameExists
  number_taken parent sandbox deny there taken = by (document_of parent tab.frames)
      (document_there parent tab.frames ∙ there_is (record { tab = at.tab; frame = parent }) tabs tab found true there)
    where
      by : (above : Option PlainDocument) → is_some above ≡ true
          → added_below above rules parent at.frame url (sandbox_of sandbox) deny tab.frames ≡ Err FrameExists
      by None shown = absurd (cc shown)
      by (Some above) shown = ap (λ b. cond b (Err FrameExists)
          (Ok (tab.frames ++ record {
            frame = at.frame;
            parent = parent;
            document =
                loaded_below rules above (sandbox_of sandbox) deny url;
          } ∷ []))) (there_is at tabs tab found true taken)

  -- a frame goes to an address that is the top, or is not there
  pub not_below : (by_self : Bool) → is_below tabs at ≡ false → frames_navigated rules at url by_self tab.frames ≡ Err NoFrame
  not_below by_self missing = by (at.frame == 0) missing
    where
      by : (b : Bool) → (not b && has_document tabs at) ≡ false
          → cond b (Err NoFrame) (navigated rules at.frame url
          (is_granted_nav by_self at.frame tab.frames url) tab.frames) ≡ Err NoFrame
      by true missing = refl
      by false missing = ap (λ before. navigated_from before rules at.frame url
          (is_granted_nav by_self at.frame tab.frames url) tab.frames) (none_there at tabs tab found missing)

-- a frame goes to an address with the access that is granted by the frames that were found
pub navigated_by : (rules : List Rule) (at : Label) (url : PlainAddress) (by_self : Bool)
    (tabs : List PlainTab) (frames : List PlainFrame) (granted : Bool)
    → Some frames ≡ option_map (λ t. t.frames) (tab_at at.tab tabs) → granted ≡ is_granted_nav by_self at.frame frames url
    → where_below at.frame (navigated rules at.frame url granted (frames_at at.tab tabs))
    ≡ frames_navigated rules at url by_self (frames_at at.tab tabs)
navigated_by rules at url by_self tabs frames granted shown is =
    ap (λ keep_flag. where_below at.frame (navigated rules at.frame url keep_flag (frames_at at.tab tabs)))
    (is ∙ ap (λ frames. is_granted_nav by_self at.frame frames url) (sym (frames_found (tab_at at.tab tabs) frames shown)))

-- a frame is below the top by the frames that were found of its tab
pub below_found : (at : Label) (tabs : List PlainTab) (frames : List PlainFrame)
    → Some frames ≡ option_map (λ t. t.frames) (tab_at at.tab tabs)
    → is_below tabs at ≡ (not (at.frame == 0) && has_frame at.frame frames)
below_found at tabs frames shown = ap (λ b. not (at.frame == 0) && b) (has_found at tabs frames shown)

-- a frame that is below the top is there
pub below_there : (tabs : List PlainTab) (at : Label) → is_below tabs at ≡ true → has_document tabs at ≡ true
below_there tabs at below = by (at.frame == 0) below
  where
    by : (b : Bool) → (not b && has_document tabs at) ≡ true → has_document tabs at ≡ true
    by true below = absurd (cc below)
    by false below = below

-- ---- the use of a request

-- a request that was prepared for a use, told otherwise
pub prepared_as : (rules : List Rule) (now : ℕ) (seen how : CookieUse) (head : List HeadField)
    (old new : Entries) (result : Result Prepared NoMemory) → seen ≡ how
    → KeepsCookies old new → IfOk result (Prepares (request rules now seen head) new)
    → IsPrepared rules now how head old new result
prepared_as rules now seen how head old new result same keeps ready =
    record { keeps = keeps; ready = subst (λ how. IfOk result (Prepares (request rules now how head) new)) same ready }

-- memory was wanting before anything was prepared
pub unprepared : (rules : List Rule) (now : ℕ) (how : CookieUse) (head : List HeadField) (old : Entries)
    (result : Result Prepared NoMemory) → IsErr result → IsPrepared rules now how head old old result
unprepared rules now how head old (Ok prepared) wanting = cc
unprepared rules now how head old (Err wanting) is = record { keeps = no_change old; ready = tt }

-- ---- a request

-- memory was wanting
pub acts_wanting : (does : Effect) (old new : HoldingsView) (result : Result ReplyBody NoMemory)
    → IsErr result → Stays old new → Acts does old new result
acts_wanting does old new (Ok body) wanting stays = cc
acts_wanting does old new (Err wanting) is stays = stays

-- an effect was done to the cookies, or memory was wanting
pub acts_by : (does : Effect) (old new : HoldingsView) (result : Result ReplyBody NoMemory)
    → new.live.tabs ≡ old.live.tabs → new.storage ≡ old.storage → new.grants ≡ old.grants
    → IfOk result (λ body. IsDoneBy does old.cookies new.cookies (body_of body))
    → OnErr result (shared_in new.cookies ≡ shared_in old.cookies)
    → OnErr result (partitioned_in new.cookies ≡ partitioned_in old.cookies) → Acts does old new result
acts_by does old new (Ok body) tabs entries rows done shared partitioned =
    done_by does old new (body_of body) tabs entries rows done
acts_by does old new (Err wanting) tabs entries rows done shared partitioned =
    stays_same old new tabs entries rows (record { shared = shared; partitioned = partitioned })

-- a request was prepared by the frames that were found, and is not performed
pub prepared_stays : (old : HoldingsView) (cookies : Entries) (number : ℕ) (frames : List PlainFrame)
    (tab : PlainTab) (site : PlainSite)
    → Some frames ≡ option_map (λ t. t.frames) (tab_at number old.live.tabs)
    → tab_at number old.live.tabs ≡ Some tab → top_site tab.frames ≡ Some site
    → ((top : PlainSite) → top_site frames ≡ Some top → KeepsCookies old.cookies cookies)
    → Stays old (record old { cookies = cookies })
prepared_stays old cookies number frames tab site shown found top keeps =
    stays_same old (record old { cookies = cookies }) refl refl refl
    (keeps site (subst (λ frames. top_site frames ≡ Some site)
    (frames_are (tab_at number old.live.tabs) frames tab shown found) top))

-- a request was prepared and then performed
pub request_done : (rules : List Rule) (now : ℕ) (how : CookieUse) (head : List HeadField)
    (old mid new : HoldingsView) (prepared : Prepared) (body : PlainBody)
    → mid.live.tabs ≡ old.live.tabs → mid.storage ≡ old.storage → mid.grants ≡ old.grants
    → IsPrepared rules now how head old.cookies mid.cookies (Ok prepared)
    → new.live.tabs ≡ mid.live.tabs → new.storage ≡ mid.storage → new.grants ≡ mid.grants
    → ((does : Effect) → Prepares does mid.cookies prepared → IsDoneBy does mid.cookies new.cookies body)
    → IsDone (request rules now how head (cells_of old) (held_of old)) old new body
request_done rules now how head old mid new prepared body tabs entries rows ready same_tabs same_entries same_rows performs =
    done_after (request rules now how head) old mid new body (stays_same old mid tabs entries rows ready.keeps)
    (done_by (request rules now how head) mid new body same_tabs same_entries same_rows
    (performs (request rules now how head) ready.ready))
