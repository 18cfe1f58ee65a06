-- Session areas belong to open tabs, after each action in an open tab.
use Rattle.std.proofs.Common.{◌≡◌, ◌==◌, ℕ, Bool, true, false, cond, List, [], Option, Some, None, Result, Ok, Err, refl, sym, ap, ◌∙◌}
use Rattle.std.proofs.lemmas.Bool.Decides.{Decides-eqb}
use Rattle.std.specs.Prelude.{codes}
use Rattle.agent_base.specs.declared.refusals.Label.{Label}
use Rattle.std.specs.FinMap.{get}
use Rattle.suffix_list.specs.Suffix.{Rule}
use Rattle.origin_site.specs.Site.{PlainSite}
use Rattle.frame_tree.specs.declared.tab.TreeFault.{TreeFault}
use Rattle.frame_tree.specs.Document.{PlainDocument}
use Rattle.frame_tree.specs.Tree.{PlainFrame, document_of, has_frame}
use Rattle.local_area.specs.Area.{area_get, area_put}
use Rattle.local_area.specs.Put.{put_answer}
use Rattle.live_state.specs.Tabs.{PlainTab, made_tab, queue_of}
use Rattle.access_grants.specs.declared.outcome.Outcome.{Outcome}
use Rattle.access_grants.specs.Request.{has_access}
use Rattle.live_state.specs.FramesInPlace.{requested}
use Rattle.reply_lines.specs.Reply.{Plain, Truth}
use Rattle.script_actions.specs.declared.words.Prompt.{Prompt}
use Rattle.script_actions.specs.Action as script
use Rattle.script_actions.specs.Action.{DocumentAction, HeadField, Frame, Nav, Drop, Click, Fetch, Set, Get, Del, Clear, Len, Key, Cookie, SetCookie, Has, Request, Persisted, Estimate, Persist}
use Rattle.agent_model.specs.Partition.{Holdings, SessionAreas, tab_named, with_tab}
use Rattle.agent_model.specs.CookieUse.{CookieUse}
use Rattle.agent_model.specs.CookieUses.{fetch_use, frame_use, nav_use}
use Rattle.agent_model.specs.Cookies.{read_cookies, request, set_cookie}
use Rattle.agent_model.specs.Documents.{by_document, in_secure, with_document}
use Rattle.agent_model.specs.Effects.{Effect, SharedCells, answers, ok}
use Rattle.agent_model.specs.Frames.{on_frames, frames_added, frames_navigated, frames_removed, frames_clicked}
use Rattle.agent_model.specs.AreaActions.{pairs_of, change_event, set_item, remove_item, clear_area, get_item, get_name, get_length}
use Rattle.agent_model.specs.Buckets.{get_mode, get_usage, persist}
use Rattle.agent_model.specs.Queues.{take_queue, take_events}
use Rattle.agent_model.specs.StorageAccess.{access_facts, answer_of, decision_word, done_by, embedded_site, keeps_grant, outcome_of, request_access, tell_access}
use Rattle.agent_model.specs.Lines.{Places}
use Rattle.agent_model.specs.SiteStep.{act_in}
use Rattle.one_store.specs.WholeWorld.{IsPlaced}
use Rattle.one_store.proofs.PlacedLemmas.{not_open, nowhere}
use Rattle.agent_memory.specs.AgentState.{AreOwned}
use Rattle.agent_memory.proofs.OwnedLemmas.{OpenHave, open_have, owned_by}
use Rattle.agent_memory.proofs.LeavesLemmas.{Leaves, keyed_by, write_leaves, set_leaves, remove_leaves, with_key_leaves, persist_leaves}

module _ (cells : SharedCells) (held : Holdings) (tab : ℕ) where
  -- ---- frames and queues

  frames_leave : (number : ℕ) (open_tab : PlainTab) (replaced : Option ℕ) (next : List PlainFrame → Effect)
      (after : Result (List PlainFrame) TreeFault)
      → ((frames : List PlainFrame) (h : Holdings) → (next frames cells h).held.sessions ≡ h.sessions)
      → Leaves cells held tab (on_frames number open_tab replaced next after cells held)
  frames_leave number open_tab replaced next (Ok frames) same =
      λ own. ap (λ (s : SessionAreas). get s (tab, own))
      (same frames (with_tab number (made_tab number frames replaced (Some open_tab)) held))
  frames_leave number open_tab replaced next (Err why) same = λ own. refl

  events_leave : (label : Label) (open_tab : PlainTab) → Leaves cells held tab (take_events label open_tab cells held)
  events_leave label open_tab = at (has_frame label.frame open_tab.frames)
    where
      at : (b : Bool) → Leaves cells held tab
          (cond b (take_queue label open_tab (queue_of label.frame open_tab.queues))
          (answers (Plain (codes "no-frame"))) cells held)
      at true = λ own. refl
      at false = λ own. refl

  -- ---- storage access

  has_leaves : (label : Label) (open_tab : PlainTab) (rules : List Rule) (now : ℕ)
      → Leaves cells held tab (tell_access rules now label open_tab cells held)
  has_leaves label open_tab rules now = at (document_of label.frame open_tab.frames)
    where
      at : (document : Option PlainDocument)
          → Leaves cells held tab (by_document document
          (λ document. answers (Truth (has_access (access_facts rules now label.frame open_tab.frames document)))) cells held)
      at None = λ own. refl
      at (Some document) = λ own. refl

  done_leaves : (label : Label) (open_tab : PlainTab) (top site : PlainSite) (outcome : Option Outcome)
      → Leaves cells held tab (done_by outcome label open_tab top site cells held)
  done_leaves label open_tab top site None = λ own. refl
  done_leaves label open_tab top site (Some outcome) =
      frames_leave label.tab open_tab None (λ frames. keeps_grant outcome.kept top site (Plain (decision_word outcome.decision)))
      (Ok (requested outcome.sets_flag outcome.consumes label.frame open_tab.frames)) (λ frames h. refl)

  request_leaves : (label : Label) (open_tab : PlainTab) (rules : List Rule) (now : ℕ) (top : PlainSite) (answer : Prompt)
      → Leaves cells held tab (request_access rules now top label answer open_tab cells held)
  request_leaves label open_tab rules now top answer = at (document_of label.frame open_tab.frames)
    where
      asks : PlainDocument → Effect
      asks document cells held =
          let site = embedded_site rules document in
          let facts = access_facts rules now label.frame open_tab.frames document in
          done_by (outcome_of top site facts (answer_of answer) now held.grants) label open_tab top site cells held

      at : (document : Option PlainDocument) → Leaves cells held tab (by_document document asks cells held)
      at None = λ own. refl
      at (Some document) =
          let site = embedded_site rules document in
          done_leaves label open_tab top site (outcome_of top site
          (access_facts rules now label.frame open_tab.frames document) (answer_of answer) now held.grants)

  -- ---- requests

  fetch_leaves : (label : Label) (open_tab : PlainTab) (rules : List Rule) (now : ℕ) (how : CookieUse) (head : List HeadField)
      → Leaves cells held tab (with_document label open_tab (λ document. request rules now how head) cells held)
  fetch_leaves label open_tab rules now how head = at (document_of label.frame open_tab.frames)
    where
      at : (document : Option PlainDocument) → Leaves cells held tab
          (by_document document (λ document. request rules now how head) cells held)
      at None = λ own. refl
      at (Some document) = λ own. refl

  -- ---- every action

  module _ (rules : List Rule) (now : ℕ) (site : PlainSite) (at : Label) (open_tab : PlainTab)
      (apart : (tab == at.tab) ≡ false) where
    act_leaves : (action : DocumentAction) → Leaves cells held tab (act_in rules now site at action open_tab cells held)
    act_leaves (Frame parent url sandbox deny head) =
        frames_leave at.tab open_tab None (λ frames. request rules now
        (frame_use rules site parent open_tab.frames url) head)
        (frames_added rules at parent url sandbox deny open_tab.frames) (λ frames h. refl)
    act_leaves (Nav url by_self method head) =
        frames_leave at.tab open_tab (Some at.frame)
        (λ frames. request rules now (nav_use rules site at.frame open_tab.frames url by_self method)
        head) (frames_navigated rules at url by_self open_tab.frames) (λ frames h. refl)
    act_leaves Drop = frames_leave at.tab open_tab None (λ frames. answers ok)
        (frames_removed at open_tab.frames) (λ frames h. refl)
    act_leaves Click = frames_leave at.tab open_tab None (λ frames. answers ok)
        (frames_clicked now at open_tab.frames) (λ frames h. refl)
    act_leaves (Fetch url method head) = fetch_leaves at open_tab rules now
        (fetch_use rules site at.frame open_tab.frames url method) head
    act_leaves (Set area key value) =
        with_key_leaves cells held tab at apart open_tab (set_item area key value)
        (λ document own. let pairs = pairs_of area (keyed_by at document own) held in
        set_leaves cells held tab at apart document own area (put_answer key value pairs) key value (area_put key value pairs))
    act_leaves (Get area key) = with_key_leaves cells held tab at apart open_tab (get_item area key) (λ document own k. refl)
    act_leaves (Del area key) =
        with_key_leaves cells held tab at apart open_tab (remove_item area key)
        (λ document own. remove_leaves cells held tab at apart document own area
        (area_get key (pairs_of area (keyed_by at document own) held)) key)
    act_leaves (Clear area) =
        with_key_leaves cells held tab at apart open_tab (clear_area area)
        (λ document own. write_leaves cells held tab at apart document own area []
        (change_event area (keyed_by at document own) None None None))
    act_leaves (Len area) = with_key_leaves cells held tab at apart open_tab (get_length area) (λ document own k. refl)
    act_leaves (Key area n) = with_key_leaves cells held tab at apart open_tab (get_name area n) (λ document own k. refl)
    act_leaves script.Events = events_leave at open_tab
    act_leaves Cookie = with_key_leaves cells held tab at apart open_tab (read_cookies rules now site) (λ document own k. refl)
    act_leaves (SetCookie text) = with_key_leaves cells held tab at apart open_tab
        (set_cookie rules now site text) (λ document own k. refl)
    act_leaves Has = has_leaves at open_tab rules now
    act_leaves (Request answer) = request_leaves at open_tab rules now site answer
    act_leaves Persisted = with_key_leaves cells held tab at apart open_tab get_mode (λ document own k. refl)
    act_leaves Estimate = with_key_leaves cells held tab at apart open_tab get_usage (λ document own k. refl)
    act_leaves (Persist answer) =
        with_key_leaves cells held tab at apart open_tab (in_secure open_tab (persist answer))
        (λ document own. persist_leaves cells held tab open_tab answer (keyed_by at document own))

-- an action in an open tab makes no session area of a tab that is not open
pub owned_acted : (rules : List Rule) (now : ℕ) (site : PlainSite) (places : Places) (cells : SharedCells)
    (held : Holdings) → IsPlaced places held → AreOwned held
    → (at : Label) (action : DocumentAction) (tab : PlainTab) → tab_named at.tab held ≡ Some tab
    → IsPlaced places (act_in rules now site at action tab cells held).held
    → AreOwned (act_in rules now site at action tab cells held).held
owned_acted rules now site places cells held placed_all owned at action tab found placed_after = owned_by after have
  where
    after : Holdings
    after = (act_in rules now site at action tab cells held).held

    closed : (q : ℕ) → tab_named q after ≡ None → tab_named q held ≡ None
    closed q none = not_open places held placed_all q (nowhere places after placed_after q none)

    other : (q : ℕ) → tab_named q held ≡ None → (b : Bool) → (q == at.tab) ≡ b → b ≡ false
    other q none true equal =
        let at_both : ◌≡◌ {A = Option PlainTab} None (Some tab) =
        sym none ∙ ap (λ n. tab_named n held) ((Decides-eqb q at.tab).0 equal) ∙ found in
        cc
    other q none false apart = refl

    have : OpenHave after
    have q none key =
        act_leaves cells held q rules now site at tab (other q (closed q none) (q == at.tab) refl) action key
        ∙ open_have held owned q (closed q none) key
