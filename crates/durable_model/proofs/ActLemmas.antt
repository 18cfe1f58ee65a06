-- What actions of documents change of what is kept.
use Rattle.std.proofs.Common.{◌≡◌, ℕ, Bool, true, false, cond, List, [], Option, Some, None, Ok, Err, refl, sym, ap, subst, ◌∙◌}
use Rattle.std.specs.Prelude.{Result, codes, option_and_then, option_map}
use Rattle.agent_base.specs.declared.refusals.Label.{Label}
use Rattle.suffix_list.specs.Suffix.{Rule}
use Rattle.origin_site.specs.Site.{PlainSite}
use Rattle.storage_key.specs.Key.{PlainKey}
use Rattle.access_grants.specs.Request.{has_access}
use Rattle.frame_tree.specs.declared.tab.TreeFault.{TreeFault}
use Rattle.frame_tree.specs.Document.{PlainDocument}
use Rattle.frame_tree.specs.Keys.{key_of_document}
use Rattle.frame_tree.specs.Tree.{PlainFrame, IsTree, document_of, has_frame, top_site}
use Rattle.live_state.specs.Tabs.{PlainTab, made_tab, queue_of}
use Rattle.live_state.proofs.UnderLemmas.{key-under-top}
use Rattle.script_actions.specs.Action as script
use Rattle.script_actions.specs.Action.{DocumentAction, Frame, Nav, Drop, Click, Fetch, SetCookie, Set, Get, Del, Clear, Len, Key, Has, Request, Persisted, Estimate, Persist}
use Rattle.reply_lines.specs.Reply.{Plain, Truth}
use Rattle.agent_model.specs.CookieCells.{Domain}
use Rattle.agent_model.specs.Partition.{Holdings, with_tab}
use Rattle.agent_model.specs.Effects.{Done, SharedCells, Effect, answers, ok}
use Rattle.agent_model.specs.Documents.{Keyed, by_document, by_key, in_secure, with_document, with_key}
use Rattle.agent_model.specs.AreaActions.{clear_area, get_item, get_length, get_name, remove_item, set_item}
use Rattle.agent_model.specs.Buckets.{get_mode, get_usage, persist}
use Rattle.agent_model.specs.CookieUse.{consulted_by}
use Rattle.agent_model.specs.CookieUses.{fetch_use, frame_use, nav_use, script_use}
use Rattle.agent_model.specs.Cookies.{read_cookies, request, set_cookie}
use Rattle.agent_model.specs.Consults.{by_script, names_in, unless_refused, where_there}
use Rattle.agent_model.specs.Frames.{frames_added, frames_clicked, frames_navigated, frames_removed, on_frames, refused_by}
use Rattle.agent_model.specs.Queues.{take_events, take_queue, with_taken}
use Rattle.agent_model.specs.StorageAccess.{access_facts, answer_of, embedded_site, outcome_of}
use Rattle.agent_model.specs.SiteStep.{act_in}
use Rattle.agent_model.proofs.SecureLemmas.{secure_by}
use Rattle.durable_model.proofs.FollowsLemmas.{DoneFollows, IsOnce, rows_of, stays}
use Rattle.durable_model.proofs.AreaLemmas.{clear_follows, remove_item_follows, set_item_follows}
use Rattle.durable_model.proofs.BucketLemmas.{persist_follows}
use Rattle.durable_model.proofs.GrantLemmas.{request_follows}
use Rattle.durable_model.proofs.UseLemmas.{request_leaves, set_leaves}

module _ (rules : List Rule) (now : ℕ) (site : PlainSite) (at : Label) (tab : PlainTab) (cells : SharedCells) (held : Holdings) (once : IsOnce cells held.cookies) where
  -- what was done follows
  abbrev Fits : List Domain → Done → Type 0
  Fits names done = DoneFollows site names cells (rows_of held) done

  -- ---- frames

  -- the holdings with other frames in the tab
  abbrev framed : Option ℕ → List PlainFrame → Holdings
  framed replaced frames = with_tab at.tab (made_tab at.tab frames replaced (Some tab)) held

  frames_follow : (names : List Domain) (replaced : Option ℕ) (next : List PlainFrame → Effect) (after : Result (List PlainFrame) TreeFault)
      → ((frames : List PlainFrame) → Fits names (next frames cells (framed replaced frames)))
      → Fits (unless_refused names after) (on_frames at.tab tab replaced next after cells held)
  frames_follow names replaced next (Ok frames) each = each frames
  frames_follow names replaced next (Err why) each = stays site [] cells held (refused_by why) once

  -- an action on frames that sends nothing
  frames_alone : (after : Result (List PlainFrame) TreeFault) → Fits [] (on_frames at.tab tab None (λ frames. answers ok) after cells held)
  frames_alone (Ok frames) = stays site [] cells (framed None frames) ok once
  frames_alone (Err why) = stays site [] cells held (refused_by why) once

  events_follow : Fits [] (take_events at tab cells held)
  events_follow = by (has_frame at.frame tab.frames)
    where
      by : (b : Bool) → Fits [] (cond b (take_queue at tab (queue_of at.frame tab.queues)) (answers (Plain (codes "no-frame"))) cells held)
      by true = stays site [] cells (with_tab at.tab (with_taken at.frame tab) held) (take_queue at tab (queue_of at.frame tab.queues) cells held).body once
      by false = stays site [] cells held (Plain (codes "no-frame")) once

  -- ---- documents

  document_follows : (names : List Domain) (action : PlainDocument → Effect) → ((document : PlainDocument) → Fits names (action document cells held)) → Fits names (with_document at tab action cells held)
  document_follows names action each = by (document_of at.frame tab.frames)
    where
      by : (found : Option PlainDocument) → Fits names (by_document found action cells held)
      by None = stays site names cells held (Plain (codes "no-frame")) once
      by (Some document) = each document

  -- a request of a document
  fetch_follows : (names : List Domain) (action : PlainDocument → Effect) → ((document : PlainDocument) → Fits names (action document cells held))
      → Fits (where_there names (document_of at.frame tab.frames)) (with_document at tab action cells held)
  fetch_follows names action each = by (document_of at.frame tab.frames)
    where
      by : (found : Option PlainDocument) → Fits (where_there names found) (by_document found action cells held)
      by None = stays site [] cells held (Plain (codes "no-frame")) once
      by (Some document) = each document

  module _ (grown : IsTree tab.frames) (top : top_site tab.frames ≡ Some site) where
    -- the key of each document is under the site
    key_under : (document : PlainDocument) (key : PlainKey) → document_of at.frame tab.frames ≡ Some document → key_of_document at.frame tab.frames document ≡ Some key → key.top ≡ site
    key_under document key there own =
        let under = key-under-top at.frame tab.frames key grown (ap (option_and_then (key_of_document at.frame tab.frames)) there ∙ own) in
        let both : ◌≡◌ {A = Option PlainSite} (Some key.top) (Some site) = sym under ∙ top in
        cc

    -- an action of a document by its key, which consults domains by its key
    keyed_follows : (names : Option Keyed → List Domain) (action : Keyed → Effect)
        → ((own : Keyed) → own.key.top ≡ site → Fits (names (Some own)) (action own cells held))
        → Fits (names (option_and_then (λ document. option_map (λ key. record { at = at; document = document; key = key }) (key_of_document at.frame tab.frames document)) (document_of at.frame tab.frames)))
        (with_key at tab action cells held)
    keyed_follows names action each = by (document_of at.frame tab.frames) refl
      where
        by_own : (document : PlainDocument) (key : Option PlainKey) → document_of at.frame tab.frames ≡ Some document → key_of_document at.frame tab.frames document ≡ key
            → Fits (names (option_map (λ k. record { at = at; document = document; key = k }) key)) (by_key at document key action cells held)
        by_own document None there own = stays site (names None) cells held (Plain (codes "security")) once
        by_own document (Some key) there own = each (record { at = at; document = document; key = key }) (key_under document key there own)

        by : (found : Option PlainDocument) → document_of at.frame tab.frames ≡ found
            → Fits (names (option_and_then (λ document. option_map (λ key. record { at = at; document = document; key = key }) (key_of_document at.frame tab.frames document)) found))
            (by_document found (λ document. by_key at document (key_of_document at.frame tab.frames document) action) cells held)
        by None there = stays site (names None) cells held (Plain (codes "no-frame")) once
        by (Some document) there = by_own document (key_of_document at.frame tab.frames document) there refl

    -- the same of one that consults none
    key_follows : (action : Keyed → Effect) → ((own : Keyed) → own.key.top ≡ site → Fits [] (action own cells held)) → Fits [] (with_key at tab action cells held)
    key_follows action each = keyed_follows (λ own. []) action each

    -- an answer by the key
    told_follows : (answer : Keyed → Effect) → ((own : Keyed) → answer own cells held ≡ answers (answer own cells held).body cells held) → Fits [] (with_key at tab answer cells held)
    told_follows answer same = key_follows answer (λ own under. subst (Fits []) (sym (same own)) (stays site [] cells held (answer own cells held).body once))

    -- ---- every action

    pub act_follows : (action : DocumentAction) → Fits (names_in rules site at action tab) (act_in rules now site at action tab cells held)
    act_follows (Frame parent url sandbox deny head) =
        let how = frame_use rules site parent tab.frames url in
        frames_follow (consulted_by rules how) None (λ frames. request rules now how head) (frames_added rules at parent url sandbox deny tab.frames)
        (λ frames. request_leaves rules now how cells (framed None frames) once head)
    act_follows (Nav url by_self method head) =
        let how = nav_use rules site at.frame tab.frames url by_self method in
        frames_follow (consulted_by rules how) (Some at.frame) (λ frames. request rules now how head) (frames_navigated rules at url by_self tab.frames)
        (λ frames. request_leaves rules now how cells (framed (Some at.frame) frames) once head)
    act_follows (Fetch url method head) =
        let how = fetch_use rules site at.frame tab.frames url method in
        fetch_follows (consulted_by rules how) (λ document. request rules now how head) (λ document. request_leaves rules now how cells held once head)
    act_follows script.Cookie = keyed_follows (by_script rules site) (read_cookies rules now site) (λ own under. stays site (consulted_by rules (script_use site own)) cells held (read_cookies rules now site own cells held).body once)
    act_follows (SetCookie text) = keyed_follows (by_script rules site) (set_cookie rules now site text) (λ own under. set_leaves rules now (script_use site own) cells held once text)
    act_follows Has = document_follows [] _ (λ document. stays site [] cells held (Truth (has_access (access_facts rules now at.frame tab.frames document))) once)
    act_follows (Request answer) =
        document_follows [] _
        (λ document.
        let asker = embedded_site rules document in
        request_follows site [] cells held once (outcome_of site asker (access_facts rules now at.frame tab.frames document) (answer_of answer) now held.grants) at tab asker)
    act_follows Drop = frames_alone (frames_removed at tab.frames)
    act_follows Click = frames_alone (frames_clicked now at tab.frames)
    act_follows (Set area key value) = key_follows (set_item area key value) (λ own under. set_item_follows site [] cells held once own under area key value)
    act_follows (Get area key) = told_follows (get_item area key) (λ own. refl)
    act_follows (Del area key) = key_follows (remove_item area key) (λ own under. remove_item_follows site [] cells held once own under area key)
    act_follows (Clear area) = key_follows (clear_area area) (λ own under. clear_follows site [] cells held once own under area)
    act_follows (Len area) = told_follows (get_length area) (λ own. refl)
    act_follows (Key area n) = told_follows (get_name area n) (λ own. refl)
    act_follows script.Events = events_follow
    act_follows Persisted = told_follows get_mode (λ own. refl)
    act_follows Estimate = told_follows get_usage (λ own. refl)
    act_follows (Persist answer) =
        key_follows (in_secure tab (persist answer))
        (λ own under. secure_by (λ does. Fits [] (does cells held)) tab (persist answer) own (stays site [] cells held (Plain (codes "insecure")) once) (persist_follows site [] cells held once answer own under))
