-- What actions of documents do in a tab whose documents were read.
use Rattle.std.proofs.Common.{◌≡◌, ◌≤◌, ℕ, Bool, true, false, cond, List, Option, Some, None, refl, sym, subst}
use Rattle.std.specs.Prelude.{IfSome, codes}
use Rattle.agent_base.specs.declared.refusals.Label.{Label}
use Rattle.suffix_list.specs.Suffix.{Rule}
use Rattle.origin_site.specs.Site.{PlainSite}
use Rattle.storage_key.specs.Key.{PlainKey}
use Rattle.access_grants.specs.Request.{has_access}
use Rattle.frame_tree.specs.Document.{PlainDocument}
use Rattle.frame_tree.specs.Keys.{key_of_document}
use Rattle.frame_tree.specs.Tree.{IsTree, document_of, has_frame, top_site}
use Rattle.live_state.specs.Tabs.{PlainTab, queue_of}
use Rattle.script_actions.specs.Action as script
use Rattle.script_actions.specs.Action.{DocumentAction, Frame, Nav, Drop, Click, Fetch, SetCookie, Set, Get, Del, Clear, Len, Key, Has, Request, Persisted, Estimate, Persist}
use Rattle.script_actions.specs.ActionFacts.{facts_of}
use Rattle.reply_lines.specs.Reply.{Plain, Truth}
use Rattle.agent_model.specs.Partition.{Holdings}
use Rattle.agent_model.specs.Effects.{Effect, SharedCells, answers, ok}
use Rattle.agent_model.specs.Documents.{Keyed, by_document, by_key, in_secure, with_document, with_key}
use Rattle.agent_model.specs.AreaActions.{clear_area, get_item, get_length, get_name, remove_item, set_item}
use Rattle.agent_model.specs.Buckets.{get_mode, get_usage, persist}
use Rattle.agent_model.specs.CookieUses.{fetch_use, frame_use, nav_use, script_use}
use Rattle.agent_model.specs.Cookies.{read_cookies, request, set_cookie}
use Rattle.agent_model.specs.Frames.{frames_added, frames_clicked, frames_navigated, frames_removed}
use Rattle.agent_model.specs.Queues.{take_events, take_queue, with_taken}
use Rattle.agent_base.specs.Seconds.{last_moment}
use Rattle.agent_model.specs.SiteStep.{act_in}
use Rattle.agent_model.specs.StorageAccess.{access_facts, answer_of}
use Rattle.spelled_model.specs.Addresses.{IsReadAddress}
use Rattle.spelled_model.specs.Frames.{AreReadFrames, IsReadDocument}
use Rattle.spelled_model.specs.Rows.{IsNamedKey}
use Rattle.agent_model.proofs.SecureLemmas.{secure_by}
use Rattle.spelled_model.proofs.AreaLemmas.{clear_read, persist_read, remove_item_read, set_item_read}
use Rattle.spelled_model.proofs.DoneLemmas.{AreReadShared, IsReadDone, IsReadHeld, answered, frames_done, request_read, set_read, tab_changed}
use Rattle.spelled_model.proofs.FrameLemmas.{frames_added_read, frames_clicked_read, frames_navigated_read, frames_removed_read}
use Rattle.spelled_model.proofs.GrantLemmas.{access_read}
use Rattle.spelled_model.proofs.KeyLemmas.{document_read, key_named, top_named}

module _ (rules : List Rule) (now : ℕ) (short : now ≤ last_moment) (site : PlainSite) (at : Label) (tab : PlainTab) (cells : SharedCells) (held : Holdings)
    (shared : AreReadShared cells) (read : IsReadHeld rules held) (all : AreReadFrames rules tab.frames) (grown : IsTree tab.frames) (top : top_site tab.frames ≡ Some site) where
  -- an action of a document
  document_done : (action : PlainDocument → Effect) → ((document : PlainDocument) → document_of at.frame tab.frames ≡ Some document → IsReadDone rules (action document cells held))
      → IsReadDone rules (with_document at tab action cells held)
  document_done action each = by (document_of at.frame tab.frames) refl
    where
      by : (found : Option PlainDocument) → document_of at.frame tab.frames ≡ found → IsReadDone rules (by_document found action cells held)
      by None is = answered rules cells held (Plain (codes "no-frame")) shared read
      by (Some document) is = each document is

  -- an action of a document by its key
  key_done : (action : Keyed → Effect) → ((own : Keyed) → IsReadDocument rules own.document → IsNamedKey rules own.key → IsReadDone rules (action own cells held)) → IsReadDone rules (with_key at tab action cells held)
  key_done action each = document_done _ (λ document there. by_own document there (key_of_document at.frame tab.frames document) refl)
    where
      by_own : (document : PlainDocument) → document_of at.frame tab.frames ≡ Some document → (key : Option PlainKey) → key_of_document at.frame tab.frames document ≡ key
          → IsReadDone rules (by_key at document key action cells held)
      by_own document there None own = answered rules cells held (Plain (codes "security")) shared read
      by_own document there (Some key) own =
          each (record { at = at; document = document; key = key }) (document_read rules at.frame tab.frames all document there)
          (key_named rules tab.frames all grown site top at.frame document key there own)

  -- an answer by the key
  told_done : (answer : Keyed → Effect) → ((own : Keyed) → answer own cells held ≡ answers (answer own cells held).body cells held) → IsReadDone rules (with_key at tab answer cells held)
  told_done answer same = key_done answer (λ own is named. subst (IsReadDone rules) (sym (same own)) (answered rules cells held (answer own cells held).body shared read))

  events_done : IsReadDone rules (take_events at tab cells held)
  events_done = by (has_frame at.frame tab.frames)
    where
      by : (b : Bool) → IsReadDone rules (cond b (take_queue at tab (queue_of at.frame tab.queues)) (answers (Plain (codes "no-frame"))) cells held)
      by true =
          answered rules cells _ (take_queue at tab (queue_of at.frame tab.queues) cells held).body shared
          (tab_changed rules cells held shared read at.tab (Some (with_taken at.frame tab)) all)
      by false = answered rules cells held (Plain (codes "no-frame")) shared read

  -- ---- every action

  pub act_read : (action : DocumentAction) → IfSome (facts_of action).address IsReadAddress → IsReadDone rules (act_in rules now site at action tab cells held)
  act_read (Frame parent url sandbox deny head) is =
      frames_done rules cells held shared read at.tab tab None (λ frames. request rules now (frame_use rules site parent tab.frames url) head) (frames_added rules at parent url sandbox deny tab.frames) (frames_added_read rules tab.frames all at parent url is sandbox deny)
      (λ frames left frames_read left_read.
      request_read rules now short (frame_use rules site parent tab.frames url) (record { url = is; top = top_named rules tab.frames all site top }) cells left shared left_read head)
  act_read (Nav url by_self method head) is =
      frames_done rules cells held shared read at.tab tab (Some at.frame) (λ frames. request rules now (nav_use rules site at.frame tab.frames url by_self method) head) (frames_navigated rules at url by_self tab.frames) (frames_navigated_read rules tab.frames all at url is by_self)
      (λ frames left frames_read left_read.
      request_read rules now short (nav_use rules site at.frame tab.frames url by_self method) (record { url = is; top = top_named rules tab.frames all site top }) cells left shared left_read head)
  act_read (Fetch url method head) is =
      document_done _
      (λ document there.
      request_read rules now short (fetch_use rules site at.frame tab.frames url method) (record { url = is; top = top_named rules tab.frames all site top }) cells held shared read head)
  act_read script.Cookie is = told_done (read_cookies rules now site) (λ own. refl)
  act_read (SetCookie text) is =
      key_done (set_cookie rules now site text)
      (λ own document named.
      set_read rules now short (script_use site own) (record { url = document.address; top = top_named rules tab.frames all site top }) cells held shared read text)
  act_read Has is = document_done _ (λ document there. answered rules cells held (Truth (has_access (access_facts rules now at.frame tab.frames document))) shared read)
  act_read (Request answer) is = document_done _ (λ document there. access_read rules now site at tab cells held shared read all grown top document there (answer_of answer))
  act_read Drop is = frames_done rules cells held shared read at.tab tab None (λ frames. answers ok) (frames_removed at tab.frames) (frames_removed_read rules tab.frames all at) (λ frames left frames_read left_read. answered rules cells left ok shared left_read)
  act_read Click is = frames_done rules cells held shared read at.tab tab None (λ frames. answers ok) (frames_clicked now at tab.frames) (frames_clicked_read rules tab.frames all now at) (λ frames left frames_read left_read. answered rules cells left ok shared left_read)
  act_read (Set area key value) is = key_done (set_item area key value) (λ own document named. set_item_read rules cells held shared read own named area key value)
  act_read (Get area key) is = told_done (get_item area key) (λ own. refl)
  act_read (Del area key) is = key_done (remove_item area key) (λ own document named. remove_item_read rules cells held shared read own named area key)
  act_read (Clear area) is = key_done (clear_area area) (λ own document named. clear_read rules cells held shared read own named area)
  act_read (Len area) is = told_done (get_length area) (λ own. refl)
  act_read (Key area n) is = told_done (get_name area n) (λ own. refl)
  act_read script.Events is = events_done
  act_read Persisted is = told_done get_mode (λ own. refl)
  act_read Estimate is = told_done get_usage (λ own. refl)
  act_read (Persist answer) is =
      key_done (in_secure tab (persist answer))
      (λ own document named.
      secure_by (λ does. IsReadDone rules (does cells held)) tab (persist answer) own (answered rules cells held (Plain (codes "insecure")) shared read) (persist_read rules cells held shared read own named answer))
